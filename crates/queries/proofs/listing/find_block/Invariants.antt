-- `queries::find_block` meets its contract. The loop's invariant: the search came to `place` (finder's `Searching`). Each turn meets a block that ends
-- in the heap, so the rest of the heap gets shorter.
use Prim.Native.Nat.{◌-◌}
use lib.ListN.{length}
use Rattle.lookup.proofs.Walk.{Searching}
use Rattle.queries.specs.Listing.{stands_at}
use Rattle.queries.proofs.listing.find_block.Given as goal

abbrev pub invariant-loop-header : goal.invariant-loop-header
invariant-loop-header l = Searching (stands_at l.at) l.heap l.place

abbrev pub decreases-loop-header : goal.decreases-loop-header
decreases-loop-header l = length l.heap - l.place
