-- In a form that is not full an entry has nothing to test. In another, the invariant: what is found of the entries from `i` on is found of all (`Items`).
use mathlib.Core.Path.{◌≡◌}
use lib.ListN.{drop}
use Rattle.framing.specs.Frames.{stream_of}
use Rattle.image_model.specs.Items.{every}
use Rattle.image_model.specs.Stream.{entries_at, entry_width}
use Rattle.image_model.specs.Reading.{entry_right}
use Rattle.image.proofs.Items.{every_from}
use Rattle.image.proofs.entries.entries_right.Given as goal

abbrev pub invariant-loop-i : goal.invariant-loop-i
invariant-loop-i l =
    let f = l.fn.form in
    let t = drop entries_at (stream_of l.image) in
    every_from (entry_right f) (entry_width f) l.i f.quotas t ≡ every (entry_right f) (entry_width f) f.quotas t
