-- `writer::freeing::make_unquarantined` meets its contract: the rooms are read before anything is written, and then its two steps are the definition's.
-- What is behind the block ends in the heap.
use mathlib.Core.Path.{ap, ◌∙◌}
use Prim.Native.Nat.{◌+◌}
use Rattle.writer.specs.declared.freeing.Room.{Room}
use Rattle.writer.specs.Freeing.{free_end}
use Rattle.writer.proofs.Rooms.{room_ends, unquarantined_is}
use native.Mathlib.Omega.{arith}
use Rattle.writer.proofs.freeing.make_unquarantined.Goals as goal

pub join_neighbours-requires : goal.join_neighbours-requires
join_neighbours-requires c =
    let a = c.args in
    let p = c.requires in
    let r = ap (λ (x : Room). x.free) c.room_at-behind.ensures in (
      omega (arith, p.front, ap (λ (x : Room). x.free) c.room_at-front.ensures),
      omega (arith, p.end, p.allowed, r, room_ends (a.block.at + a.block.size) a.heap.now p.end),
    )

pub returns : goal.returns
unfolding free_end
returns c =
    let a = c.args in
    record {
      frees = unquarantined_is a.block a.heap.now c.requires.header c.room_at-front.result c.room_at-behind.result
          c.room_at-front.ensures c.room_at-behind.ensures _ _ c.write_header.ensures c.join_neighbours.ensures.joins;
      ends = c.join_neighbours.ensures.ends ∙ ap (λ (x : Room). a.block.at + a.block.size + x.free) c.room_at-behind.ensures;
    }
