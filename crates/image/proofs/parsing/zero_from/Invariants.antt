-- The invariant: what is found from `at` on is found of all (`Zeros`).
use mathlib.Core.Path.{◌≡◌}
use lib.ListN.{drop}
use Rattle.framing.specs.Frames.{stream_of}
use Rattle.image_model.specs.Items.{all_zero}
use Rattle.image.proofs.parsing.zero_from.Given as goal

abbrev pub invariant-loop-at : goal.invariant-loop-at
invariant-loop-at l = all_zero (drop l.at (stream_of l.image)) ≡ all_zero (drop l.from (stream_of l.image))
