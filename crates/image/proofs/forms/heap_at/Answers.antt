-- The heap begins behind the entries and the records.
use native.Mathlib.Omega.{arith}
use mathlib.Core.Path.{ap}
use Prim.Native.Nat.{ℕ, ◌+◌, ◌*◌}
use Rattle.image_model.specs.Stream.{tail_width, head_length}
use Rattle.image.proofs.forms.heap_at.Goals as goal

pub returns : goal.returns
unfolding tail_width head_length
returns c =
    let w = c in
    let e = c.entry_at.ensures in
    (ap (λ (n : ℕ). n + w.args.form.records * 8) e.0, omega (arith, e.1, w.requires.quotas, w.requires.records))
