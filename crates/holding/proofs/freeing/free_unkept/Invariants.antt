-- `holding::free_unkept` meets its contract. The loop's invariant: whatever records and blocks the flags were told for, the walk came to its place among
-- them (`Emptying`). Each turn passes a block (`emptying_on`), so what is left of the heap's greatest length falls.
use Prim.Native.Nat.{◌-◌}
use mathlib.Core.Path.{◌≡◌}
use mathlib.Core.List.{List}
use lib.ListN.{length}
use Rattle.accounts.specs.declared.Hold.{Hold}
use Rattle.layout.specs.Blocks.{Block}
use Rattle.holding.specs.Emptying.{Emptying}
use Rattle.holding.proofs.freeing.free_unkept.Given as goal

abbrev pub invariant-loop-i : goal.invariant-loop-i
invariant-loop-i l =
    (length l.heap ≡ length l.initial.heap) × ((hs : List Hold) (bs : List Block) → Emptying l.kind hs bs l.kept 0 0 l.initial.heap → Emptying l.kind hs bs
    l.kept l.i l.at l.heap)

abbrev pub decreases-loop-i : goal.decreases-loop-i
decreases-loop-i l = 32768 - l.at
