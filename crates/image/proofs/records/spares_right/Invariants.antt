-- The invariant: what is found of the records from `i` on is found of all (`Items`).
use mathlib.Core.Path.{◌≡◌}
use lib.ListN.{drop}
use Rattle.framing.specs.Frames.{stream_of}
use Rattle.image_model.specs.Items.{every}
use Rattle.image_model.specs.Stream.{record_width}
use Rattle.image_model.specs.Reading.{record_right}
use Rattle.image.proofs.Items.{every_from}
use Rattle.image.proofs.records.spares_right.Given as goal

abbrev pub invariant-loop-i : goal.invariant-loop-i
invariant-loop-i l =
    every_from record_right record_width l.i l.count (drop l.at (stream_of l.image)) ≡ every record_right record_width l.count
    (drop l.at (stream_of l.image))
