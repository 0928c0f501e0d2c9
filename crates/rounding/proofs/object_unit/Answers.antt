-- `rounding::object_unit` meets its contract: 1, shifted by the power that goes with the length's leading zeros.
use native.Mathlib.Omega.{arith}
use Rattle.rounding.proofs.Zeros.{zeros_fit}
use Rattle.rounding.proofs.ByZeros.{shifted}
use Rattle.rounding.proofs.object_unit.Goals as goal

-- this stands first, so that a wrong count is refused here
pub returns : goal.returns
returns c =
    let b = c in
    let a = b.args in
    shifted a.edition a.length b.leading_zeros-zeros.result c.power-power.result b.leading_zeros-zeros.ensures c.power-power.ensures

pub power-power-requires : goal.power-power-requires
power-power-requires c =
    omega (arith, zeros_fit 32 c.args.length c.ranges.length.fits, c.leading_zeros-zeros.ensures)
