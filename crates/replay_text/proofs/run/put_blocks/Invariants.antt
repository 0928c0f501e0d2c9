-- The invariant: the blocks that are left begin at the place, and the lines of the others are written. Each turn writes the line of the next block. The
-- measure is how much of the heap is left.
use Prim.Native.Nat.{◌-◌}
use mathlib.Core.List.{List}
use lib.ListN.{length}
use Rattle.layout.specs.Blocks.{Block}
use Rattle.model.specs.Objects.{blocks_of}
use Rattle.model.specs.Calls.{listing_from}
use Rattle.replay_model.specs.Replay.{block_lines, heap_lines}
use Rattle.replay_text.proofs.Running.{Running}
use Rattle.replay_text.proofs.Listings.{Passing}
use Rattle.replay_text.proofs.run.put_blocks.Given as goal

abbrev pub invariant-loop-block : goal.invariant-loop-block
invariant-loop-block l = (bs : List Block) × Passing (blocks_of l.heap) l.place bs
    × Running (heap_lines l.heap) l.initial.output l.output (block_lines (listing_from l.place bs))

abbrev pub decreases-loop-block : goal.decreases-loop-block
decreases-loop-block l = length l.heap - l.place
