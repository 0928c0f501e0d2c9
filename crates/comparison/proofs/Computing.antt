-- Every definition that a computed row unfolds, under one name.
use Rattle.image_model.proofs.Computing.{computing as computing_images}
use Rattle.comparison.specs.Differences.{state_in, same_quota, same_record, number_part, differing, quota_part, record_part, extend, runs}
use Rattle.comparison.specs.Differences.{byte_part, differences}
use Rattle.comparison.specs.Positions.{from_byte, from_record, from_quota, from_edition, from_kind, differences_from, behind, first_of, next_of}
use Rattle.comparison.specs.Positions.{with_answer, asked}
use Rattle.comparison.specs.Compare.{paired, line_29, line_27, pair_lines, first_why, why_both, why_second}
use Rattle.comparison.specs.Compare.{why_not}
use Rattle.comparison.specs.Compare.{unless_refused, compared, nth_of, compare_of, stepped, advanced}
use Rattle.comparison.specs.Compare.{advance_of, walked}

unfoldable pub computing : Unit {0}
unfolding computing_images
    state_in same_quota same_record number_part differing quota_part record_part extend runs byte_part differences
    from_byte from_record from_quota from_edition from_kind differences_from behind first_of next_of with_answer asked
    paired line_29 line_27 pair_lines first_why why_both why_second why_not
    unless_refused compared nth_of compare_of stepped advanced advance_of walked
computing = tt
