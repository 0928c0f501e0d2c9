use Rattle.std.specs.Prelude.{Some}
use Prim.Native.Nat.{◌+◌, ◌*◌, ◌≤◌, ◌<◌}
use native.Mathlib.Omega.{arith}
use borrow.Author.Rules.{rules}
use mathlib.Core.Path.{◌≡◌, sym, ◌∙◌}
use mathlib.Core.List.{List}
use lib.ListN.{length}
use Rattle.layout.specs.Blocks.{Block, start_at}
use Rattle.layout.proofs.Starts.{start_found}
use Rattle.lookup.specs.Walk.{headed}
use Rattle.holding.specs.Sweeping.{quarantined_size, swept_bytes, swept_end, Sweeping}
use Rattle.holding.proofs.Unquarantined.{quarantined_few, sweeping_short, sweeping_ended, sweeping_on}
use Rattle.holding.proofs.sweeping.sweep_blocks.Goals as goal
use Rattle.holding.proofs.sweeping.sweep_blocks.Goals.{In-Some}

found : (c : In-Some) → start_at c.loop-header.at c.loop-header.heap ≡ Some c.in-Some.header
found c = sym c.start_at.ensures ∙ c.in-Some.is

fits : (c : In-Some) → (1 ≤ c.in-Some.header.size)
    × (c.loop-header.at + 8 * c.in-Some.header.size ≤ length c.loop-header.heap) × (length c.loop-header.heap ≤ 32768) × (c.loop-header.sum ≤ 32768)
fits c =
    let l = c in
    let p = l.requires in
    let e = l.loop-header.invariant.1 p.0 p.1 in
    let w = start_found l.loop-header.at l.loop-header.heap c.in-Some.header (found c) in
    (w.some_size, w.inside, sweeping_short p.0 l.loop-header.sum l.loop-header.at l.loop-header.heap e, omega (arith, e.small))

-- the walk passes its block
passing : (c : In-Some) (bs : List Block) → Sweeping bs 0 0 c.args.heap.now
    → (c.loop-header.at < swept_end (headed c.loop-header.at c.in-Some.header) c.loop-header.heap)
    × Sweeping bs (c.loop-header.sum + quarantined_size c.in-Some.header.serial (8 * c.in-Some.header.size))
    (swept_end (headed c.loop-header.at c.in-Some.header) c.loop-header.heap)
    (swept_bytes (headed c.loop-header.at c.in-Some.header) c.loop-header.heap)
passing c bs e = let l = c in sweeping_on bs l.loop-header.sum l.loop-header.at l.loop-header.heap (l.loop-header.invariant.1 bs e) c.in-Some.header (found c)

pub returns : goal.returns
returns c bs e =
    let l = c in
    sweeping_ended bs l.loop-header.sum l.loop-header.at l.loop-header.heap (l.loop-header.invariant.1 bs e) (sym c.start_at.ensures ∙ c.in_default.is)

pub overflow_mul-block : goal.overflow_mul-block
overflow_mul-block c = let f = fits (goal.at.overflow_mul-block c).In-Some in omega arith

pub sweep_block-at-requires : goal.sweep_block-at-requires
sweep_block-at-requires c = let f = fits (goal.at.sweep_block-at-requires c).In-Some in record { header = omega arith; end = omega arith }

pub overflow_mul-header : goal.overflow_mul-header
overflow_mul-header c = let f = fits (goal.at.overflow_mul-header c).In-Some in omega arith

pub overflow_add-sum : goal.overflow_add-sum
overflow_add-sum c =
    let h = c in
    let f = fits (goal.at.overflow_add-sum c).In-Some in
    omega (arith, c.quarantined_size-sum.ensures, quarantined_few h.in-Some.header.serial (8 * h.in-Some.header.size))

pub loop-header-smaller : goal.loop-header-smaller
loop-header-smaller c =
    let h = c in
    let p = h.requires in
    let f = fits (goal.at.loop-header-smaller c).In-Some in
    let r = c.sweep_block-at in
    let on : h.loop-header.at < r.result = rw r.ensures.ends (passing (goal.at.loop-header-smaller c).In-Some p.0 p.1).0 in
    omega arith

pub loop-header-preserved : goal.loop-header-preserved
loop-header-preserved c =
    let h = c in
    let r = c.sweep_block-at in
    (search rules, λ bs e. rw (c.quarantined_size-sum.ensures, r.ensures.leaves, r.ensures.ends) (passing (goal.at.loop-header-preserved c).In-Some bs e).1)
