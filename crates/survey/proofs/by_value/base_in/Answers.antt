-- `survey::base_in` meets its contract: std's multiple is the lowest, since it is less than one unit from the start.
use Rattle.std.proofs.Common.{◌≡◌, ℕ, suc, ◌+◌, ◌-◌, ◌*◌, ◌/◌, ◌%◌, ◌<◌, ◌≤◌, arith}
use native.Mathlib.Nat.{div-lt_iff_lt-mul, div-add-mod', mul-le-mul_right, suc-mul, mod-lt}
use Rattle.lookup.specs.Walk.{multiple_from}
use Rattle.lookup.proofs.Multiple.{multiple_is, multiple_behind, multiple_lowest}
use Rattle.survey.proofs.by_value.base_in.Goals as goal

lowest : (a : ℕ) (positive : 0 < a) (x r : ℕ) → r % a ≡ 0 → x ≤ r → r < x + a → r ≡ multiple_from a x
lowest a positive x r m h l =
    let b = multiple_from a x in
    let behind = multiple_behind a positive x in
    let first = multiple_lowest a positive x r m h in
    let whole_b : b / a * a ≡ b = omega (arith, div-add-mod' b a, multiple_is a positive x) in
    let whole_r : r / a * a ≡ r = omega (arith, div-add-mod' r a) in
    let below : r / a < suc (b / a) = (div-lt_iff_lt-mul positive).1 (rw suc-mul (omega arith)) in
    let le : r / a * a ≤ b / a * a = mul-le-mul_right a (omega arith) in
    omega arith

pub next_multiple_of-requires-clause-nonzero : goal.next_multiple_of-requires-clause-nonzero
next_multiple_of-requires-clause-nonzero c = c.args.unit.some

pub next_multiple_of-requires-clause-fits : goal.next_multiple_of-requires-clause-fits
next_multiple_of-requires-clause-fits c =
    let a = c.args.unit.bytes in
    omega (arith, c.args.unit.small, mod-lt (a - (c.args.at + 8) % a) c.args.unit.some)

pub returns : goal.returns
returns c =
    let n = c.next_multiple_of in
    lowest c.args.unit.bytes c.args.unit.some (c.args.at + 8) n.result n.ensures.multiple n.ensures.lower_bound n.ensures.upper_bound
