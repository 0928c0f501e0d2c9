-- The four bytes are the N at the place and zeros behind them (`number_zeros`), and their number is the library's (`number_four`).
use native.Mathlib.Omega.{arith}
use mathlib.Core.Path.{◌≡◌, ap, sym, ◌∙◌}
use mathlib.Core.List.{[], ◌∷◌, ◌++◌}
use Prim.Native.Nat.{◌+◌, ◌-◌}
use lib.ListN.{length, take, drop, length-append, length-drop}
use Rattle.layout.specs.Bytes.{number}
use Rattle.layout.proofs.Numbers.{number_zeros, number_four, number_at, part_length}
use Rattle.layout.proofs.Fields.{read_fits}
use Rattle.layout.proofs.read_inside.Goals as goal

pub returns : goal.returns
returns g c =
    let a = c.args in
    let n = g.row.N in
    let s = a.bytes.now in
    let k : a.at + n - a.at ≡ n = omega arith in
    let e : c.copy_from_slice.new.self ≡ take n (drop a.at s) = rw k at c.copy_from_slice.ensures.after in
    let h = part_length n a.at s c.requires.inside in
    let quad = c.copy_from_slice.new.self ++ drop n (0 ∷ 0 ∷ 0 ∷ 0 ∷ []) in
    let l : length quad ≡ 4 = rw (length-append, length-drop) (rw (e, h) (omega arith)) in
    let r = c.from_le_bytes.ensures ∙ number_four quad l ∙ number_zeros c.copy_from_slice.new.self n ∙ ap number e in
    (r ∙ sym (read_fits n a.at s c.requires.inside), rw r (number_at n a.at s (λ i. omega (arith, c.type_inv.bytes i)) c.requires.inside))
