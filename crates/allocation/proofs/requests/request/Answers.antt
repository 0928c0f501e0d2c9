-- `allocation::request` meets its contract: a length that is not allowed asks for no room.
use native.Mathlib.Omega.{arith}
use mathlib.Core.Path.{◌≡◌, refl}
use Rattle.rounding.specs.Rounding.{table, object_length}
use Rattle.rounding.proofs.Editions.{within_heap}
use Rattle.allocation.proofs.Grants.{unit_is}
use Rattle.allocation.proofs.requests.request.Goals as goal
use Rattle.allocation.proofs.requests.request.Goals.{After-object_length-size}

-- the length is rounded by the edition; this stands first, so that a wrong length is refused here
sized : (c : After-object_length-size) →
    let start = c in
    let a = start.args in
    c.object_length-size.result ≡ object_length (table a.edition) a.length
sized c = c.object_length-size.ensures

pub overflow_cast-size : goal.overflow_cast-size
overflow_cast-size c =
    let else2 = c in
    let start = else2 in
    let a = start.args in
    omega (arith, sized c, within_heap a.edition a.length (omega (arith, else2.if-length-gt-LONGEST.false)))

pub returns : goal.returns
returns c =
    let at-object-length = c in
    let start = at-object-length in
    let a = start.args in
    let z = at-object-length.object_length-size in
    record {
      handle = refl;
      quota = refl;
      rounded = λ x l. record {
        some = x;
        short = l;
        size = sized (goal.at.returns c).After-object_length-size;
        unit = unit_is a.edition a.length z.result c.object_unit-unit.result l (sized (goal.at.returns c).After-object_length-size) c.object_unit-unit.ensures;
      };
    }
