-- Every definition that a computed run unfolds, under one name; and all of them but `consistent`, which costs most.
use Rattle.accounts.specs.Accounts.{opened, remaining, change_quota, less_paid, paid_back, charge, refund, used, unused, is_for, drop_records, permits}
use Rattle.accounts.specs.Accounts.{clear_permissions}
use Rattle.layout.specs.Bytes.{bytes, number}
use Rattle.layout.specs.Blocks.{header_bytes, read_header, starts_block, render_from, render, read_block, in_front, parse_from, parse}
use Rattle.rounding.specs.Rounding.{unit, unit_2, table, object_length, alignment}
use Rattle.lists.specs.Lists.{all, any, keep, total, first, change_first, is_none, or_else}
use Rattle.model.specs.Objects.{objects_from, objects, blocks_of, objects_of, whole, names, lookup, lookup_whole, found}
use Rattle.model.specs.Consistent.{allowed, long_enough, starts_free, free_apart, well_cut, serials_differ, serials_given, record_valid, records_differ}
use Rattle.model.specs.Consistent.{is_of, held, has_record, charged_for, charges, balanced_from, accounted_blocks, accounted_parsed, accounted}
use Rattle.model.specs.Consistent.{in_units, in_kind, in_range, consistent}
use Rattle.model.specs.Space.{outside_occupied, suitable, first_candidate, lowest_base, left_over, cut_block, carve_from, carve, vacate, changed}
use Rattle.model.specs.Space.{join_front, join_free, reclaim, settle, swept, body_of, copy_into}
use Rattle.model.specs.Holds.{count_of, take_record, raise_count, less_one, lower_count}
use Rattle.model.specs.Refusals.{first_refusal, line_1, line_2, line_3, line_4, line_5, line_6, line_7, line_8, line_9, line_10, line_12}
use Rattle.model.specs.Refusals.{only_if, row_lines}
use Rattle.model.specs.Refusals.{claims_first, open_lines, base_for}
use Rattle.model.specs.Refusals.{line_11}
use Rattle.model.specs.Calls.{unless, fresh, open_heap, allocated, claimed, given_back, released, freed, copied, new_object, allocate, allocate_array}
use Rattle.model.specs.Calls.{claim, release, free_all, reallocate, lend, remaining_of, can_release, check, listing_from, list_block, clear, sweep}
use Rattle.model.specs.Step.{step}

unfoldable pub computing_but_consistent : Unit {0}
unfolding opened remaining change_quota less_paid paid_back charge refund used unused is_for permits clear_permissions
    bytes number header_bytes read_header starts_block render_from render read_block in_front parse_from parse
    unit unit_2 table object_length alignment
    all any keep total first change_first is_none or_else
    objects_from objects blocks_of objects_of whole names lookup lookup_whole found
    allowed long_enough starts_free free_apart well_cut serials_differ serials_given record_valid records_differ is_of held has_record charged_for
    charges balanced_from accounted_blocks accounted_parsed accounted in_units in_kind in_range
    outside_occupied suitable first_candidate lowest_base left_over cut_block carve_from carve vacate changed join_front join_free
    reclaim settle swept body_of copy_into
    count_of take_record raise_count less_one lower_count drop_records
    first_refusal line_1 line_2 line_3 line_4 line_5 line_6 line_7 line_8 line_9 line_10 line_12 only_if claims_first
    open_lines row_lines base_for line_11
    unless fresh open_heap allocated claimed given_back released freed copied new_object
    allocate allocate_array claim release free_all sweep reallocate lend remaining_of can_release check listing_from list_block clear
    step
computing_but_consistent = tt

unfoldable pub computing : Unit {0}
unfolding computing_but_consistent consistent
computing = tt
