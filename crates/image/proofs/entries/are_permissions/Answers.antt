-- As one number the four bytes are at most 7 exactly if the first is, and the others are zero (`number_small`).
use mathlib.Core.Path.{ap, ◌∙◌}
use Prim.Native.Nat.{ℕ}
use lib.ListN.{take, drop}
use lib.Dec.{leb}
use Rattle.framing.specs.Frames.{stream_of}
use Rattle.image_model.specs.Stream.{form_2, tail_right}
use Rattle.image.proofs.Zeros.{number_small}
use Rattle.image.proofs.entries.are_permissions.Goals as goal

pub returns : goal.returns
unfolding form_2 tail_right
returns c =
    let a = c.args in
    ap (λ (n : ℕ). leb n 7) c.read_quad.ensures ∙ number_small (take 4 (drop a.at (stream_of a.image.now)))
