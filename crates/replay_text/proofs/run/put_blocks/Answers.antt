use native.Mathlib.Omega.{arith}
use mathlib.Core.Path.{sym, subst, ◌∙◌}
use mathlib.Core.List.{List, ◌++◌}
use Prim.Native.Nat.{ℕ, ◌+◌}
use Rattle.layout.specs.Blocks.{Block}
use Rattle.model.specs.Objects.{blocks_of}
use Rattle.model.specs.Calls.{listing_from}
use Rattle.replay_model.specs.Replay.{block_line, block_lines, heap_lines}
use Rattle.replay_text.proofs.Puts.{room_first}
use Rattle.replay_text.proofs.Running.{Running, run_start, run_room, run_more, run_done}
use Rattle.replay_model.proofs.Reaching.{reached_length}
use Rattle.replay_text.proofs.Listings.{Next, passing_start, passing_none, passing_some, next_place, next_size, next_lines, next_passing}
use Rattle.replay_text.proofs.run.put_blocks.Goals as goal
use Rattle.replay_text.proofs.run.put_blocks.Goals.{In-Some}

-- the block that was given is the first of those that are left
next-block : (k : In-Some) → Next k.loop-block.invariant.0 k.loop-block.place k.in-Some.block
next-block k =
    let l = k.loop-block in
    passing_some (blocks_of k.args.heap.now) l.place l.invariant.0 k.in-Some.block l.invariant.1 (sym k.block_at.ensures.block ∙ k.in-Some.is)

-- the lines of the blocks behind it, and that with its own line they are what is left
rest_lines : In-Some → List ℕ
rest_lines k = block_lines (listing_from (k.in-Some.block.offset + k.in-Some.block.size) (next-block k).behind)

running : (k : In-Some) → Running (heap_lines k.args.heap.now) k.args.output.now k.loop-block.output (block_line k.in-Some.block ++ rest_lines k)
unfolding rest_lines
running k =
    let l = k.loop-block in
    subst (Running (heap_lines k.args.heap.now) k.args.output.now l.output) (next_lines l.invariant.0 l.place k.in-Some.block (next-block k)) l.invariant.2

pub loop-block-init : goal.loop-block-init
unfolding heap_lines
loop-block-init c =
    let a = c.args in
    (blocks_of a.heap.now, passing_start (blocks_of a.heap.now), run_start (heap_lines a.heap.now) a.output.now)

pub returns : goal.returns
unfolding block_lines listing_from
returns c =
    let a = c.args in
    let l = c.loop-block in
    let none_left = passing_none (blocks_of a.heap.now) l.place l.invariant.0 l.invariant.1 (sym c.block_at.ensures.block ∙ c.in_default.is) in
    run_done (heap_lines a.heap.now) a.output.now l.output
    (subst (λ (bs : List Block). Running (heap_lines a.heap.now) a.output.now l.output (block_lines (listing_from l.place bs))) none_left l.invariant.2)

pub put_block-requires : goal.put_block-requires
put_block-requires c =
    let k = (goal.at.put_block-requires c).In-Some in
    let b = c.in-Some.block in (
      omega (arith, c.in-Some.ensures.inside, reached_length c.args.heap.now c.args.accounts c.requires.0),
      room_first (block_line b) (rest_lines k) c.loop-block.output
          (run_room (heap_lines c.args.heap.now) c.args.output.now c.loop-block.output (block_line b ++ rest_lines k) c.requires.1 (running k)),
    )

pub overflow_add-place : goal.overflow_add-place
overflow_add-place c =
    omega (arith, c.in-Some.ensures.inside, reached_length c.args.heap.now c.args.accounts c.requires.0)

pub loop-block-smaller : goal.loop-block-smaller
loop-block-smaller c =
    let l = c.loop-block in
    let n = next-block (goal.at.loop-block-smaller c).In-Some in
    omega (arith, c.in-Some.ensures.inside, next_place l.invariant.0 l.place c.in-Some.block n, next_size l.invariant.0 l.place c.in-Some.block n)

pub loop-block-preserved : goal.loop-block-preserved
unfolding rest_lines
loop-block-preserved c =
    let l = c.loop-block in
    let k = (goal.at.loop-block-preserved c).In-Some in
    let b = c.in-Some.block in
    let n = next-block k in (
      n.behind,
      next_passing l.invariant.0 l.place b n (blocks_of c.args.heap.now) l.invariant.1,
      run_more (heap_lines c.args.heap.now) c.args.output.now l.output c.put_block.new.output (block_line b) (rest_lines k) c.requires.1 (running k)
          c.put_block.ensures,
    )
