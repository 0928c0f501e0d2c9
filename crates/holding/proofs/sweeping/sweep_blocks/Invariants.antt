-- `holding::sweep_blocks` meets its contract. The loop's invariant: whatever blocks the heap is cut into, the walk came to its place among them (`Sweeping`).
-- Each turn passes a block (`sweeping_on`), so what is left of the heap's greatest length falls.
use Prim.Native.Nat.{◌-◌}
use mathlib.Core.Path.{◌≡◌}
use mathlib.Core.List.{List}
use lib.ListN.{length}
use Rattle.layout.specs.Blocks.{Block}
use Rattle.holding.specs.Sweeping.{Sweeping}
use Rattle.holding.proofs.sweeping.sweep_blocks.Given as goal

abbrev pub invariant-loop-header : goal.invariant-loop-header
invariant-loop-header l = (length l.heap ≡ length l.initial.heap) × ((bs : List Block) → Sweeping bs 0 0 l.initial.heap → Sweeping bs l.sum l.at l.heap)

abbrev pub decreases-loop-header : goal.decreases-loop-header
decreases-loop-header l = 32768 - l.at
