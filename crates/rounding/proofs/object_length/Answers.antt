-- `rounding::object_length` meets its contract: the code is the definition, and no step wraps, since the unit is at least 1 and
-- rounding down again gives no more than what was rounded.
use Prim.Native.Nat.{ℕ, ◌+◌, ◌*◌, ◌-◌, ◌/◌}
use mathlib.Core.Path.{ap}
use native.Mathlib.Omega.{arith}
use Rattle.rounding.specs.Rounding.{object_length}
use Rattle.rounding.proofs.Editions.{table_is}
use Rattle.rounding.proofs.object_length.Goals as goal

-- this stands first, so that a wrong unit is refused here
pub returns : goal.returns
unfolding object_length
returns c = ap (λ (u : ℕ). (c.args.length + (u - 1)) / u * u) c.unit-unit.ensures

pub overflow_sub-result : goal.overflow_sub-result
overflow_sub-result c = omega (arith, (table_is c.args.edition).positive c.args.length)

pub nonzero_div-result : goal.nonzero_div-result
nonzero_div-result c = omega (arith, (table_is c.args.edition).positive c.args.length)
