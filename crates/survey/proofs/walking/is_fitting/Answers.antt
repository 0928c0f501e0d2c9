-- `survey::walking::is_fitting` meets its contract: the difference wraps for a block that is too short, and is great
-- then; a short object has unit 8; else a length is a multiple of its unit exactly if it is one of the unit by its
-- leading zeros, and then the tests are the definition's.
use Rattle.std.proofs.Common.{◌≡◌, ℕ, ◌-◌, ◌%◌, sym, refl, ap, ◌∙◌, arith}
use Rattle.rounding.specs.Rounding.{table}
use Rattle.rounding.proofs.Editions.{table_short}
use Rattle.rounding.proofs.ByZeros.{zeros_unit, fits_by_zeros, zeros_positive}
use Rattle.audit.proofs.Fitting.{fits_eights, length_unfit, base_fits}
use Rattle.survey.proofs.walking.is_fitting.Goals as goal

pub returns-then-wrapping_sub_usize-lt-SHORT : goal.returns-then-wrapping_sub_usize-lt-SHORT
returns-then-wrapping_sub_usize-lt-SHORT c =
    let a = c.args in
    let p = c.requires in
    let w = c.wrapping_sub_usize.ensures in
    let u : 8 ≡ table a.edition (a.size - 8) = sym (table_short a.edition (a.size - 8) (omega (arith, w, p.0))) in
    sym (fits_eights (table a.edition) a.size a.end 8 p.2 u (omega (arith, w)) refl p.0 p.1)

pub nonzero_rem-length : goal.nonzero_rem-length
nonzero_rem-length c =
    let a = c.args in
    omega (arith, c.object_unit-unit.ensures, zeros_positive a.edition (a.size - 8))

pub returns-then-length-unit-ne0 : goal.returns-then-length-unit-ne0
returns-then-length-unit-ne0 c =
    let u = c in
    let s = u in
    let n = s.args.size - 8 in
    let own : n % table s.args.edition n ≡ 0 → u.object_unit-unit.result ≡ table s.args.edition n =
    λ z. u.object_unit-unit.ensures ∙ zeros_unit s.args.edition n (omega (arith, s.requires.3)) z
    in
    sym (length_unfit (table s.args.edition) s.args.size s.args.end (λ z. omega (arith, ap (λ (k : ℕ). n % k) (own z), z, c.if-length-unit-ne0.true)))

pub returns : goal.returns
returns c =
    let u = c in
    let s = u in
    let n = s.args.size - 8 in
    let m : n % u.object_unit-unit.result ≡ 0 = omega (arith, c.if-length-unit-ne0.false) in
    let own =
    u.object_unit-unit.ensures ∙ fits_by_zeros s.args.edition n (omega (arith, s.requires.3)) (sym (ap (λ (k : ℕ). n % k) u.object_unit-unit.ensures) ∙ m)
    in
    sym (base_fits (table s.args.edition) s.args.size s.args.end u.object_unit-unit.result s.requires.2 own (omega arith) m)
