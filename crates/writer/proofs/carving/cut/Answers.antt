-- `writer::carving::cut` meets its contract: its calls are the definition's writes, in their order, and every number is at most the heap's length.
use Prim.Native.Nat.{◌+◌, ◌-◌, ◌/◌}
use native.Mathlib.Omega.{arith}
use Rattle.writer.proofs.Writes.{units_most, carve_steps}
use Rattle.writer.proofs.carving.cut.Goals as goal

pub put_next-requires : goal.put_next-requires
put_next-requires c =
    let a = c.args in
    let p = c.requires in
    let u =
    units_most ((a.length + 8) / 8) (a.block.at + a.block.size - (a.base + a.length)) c.units_after-2.ensures
    (omega (arith, p.inside, p.high))
    (omega (arith, p.inside)) in
    (omega (arith, p.inside), omega (arith, u))

pub returns : goal.returns
returns c =
    let a = c.args in
    carve_steps a.block.at (a.block.at + a.block.size) a.base a.length a.block.back a.serial a.heap.now
    c.write_rest.ensures c.units_after.ensures
    c.put_object.ensures c.write_rest-2.ensures c.units_after-2.ensures c.put_next.ensures
