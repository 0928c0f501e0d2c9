-- `statistics::tallying::walk` meets its contract. The loop's invariant: the tally of the blocks so far, joined with that of the blocks to come, is the whole
-- (`Tallied`). Each turn meets a block that ends in the heap, so the rest of the heap gets shorter.
use Prim.Native.Nat.{◌-◌, ◌≤◌}
use lib.ListN.{length}
use Rattle.layout.specs.Blocks.{greatest_heap}
use Rattle.statistics.proofs.Joins.{Tallied}
use Rattle.statistics.proofs.tallying.walk.Given as goal

abbrev pub invariant-loop-header : goal.invariant-loop-header
invariant-loop-header l = Tallied l.heap l.at l.tally × (length l.heap ≤ greatest_heap)

abbrev pub decreases-loop-header : goal.decreases-loop-header
decreases-loop-header l = length l.heap - l.at
