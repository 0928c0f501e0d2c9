-- The bytes that are copied are the lowest of the number (`lowest_bytes`), and they lie where they are overwritten (`number_put`).
use native.Mathlib.Omega.{arith}
use mathlib.Core.Path.{◌≡◌, ◌∙◌}
use Prim.Native.Nat.{◌+◌, ◌-◌}
use Rattle.layout.specs.Bytes.{bytes}
use Rattle.layout.proofs.Numbers.{lowest_bytes}
use Rattle.layout.proofs.Parts.{number_put}
use Rattle.layout.proofs.write_inside.Goals as goal

pub returns : goal.returns
returns g c =
    let a = c.args in
    let n = g.row.N in
    let k : a.at + n - a.at ≡ n = omega arith in
    let e : c.copy_from_slice.new.self ≡ bytes n a.value =
    c.copy_from_slice.ensures.after ∙ rw c.to_le_bytes.ensures (lowest_bytes n a.value c.requires.small) in
    rw k (number_put n a.at a.value a.bytes.now c.copy_from_slice.new.self c.requires.inside e)
