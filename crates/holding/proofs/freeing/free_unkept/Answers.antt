use Rattle.std.specs.Prelude.{Some}
use Prim.Native.Nat.{ℕ, ◌+◌, ◌*◌, ◌≤◌, ◌<◌}
use native.Mathlib.Omega.{arith}
use borrow.Author.Rules.{rules}
use mathlib.Core.Path.{◌≡◌, sym, subst, ◌∙◌}
use mathlib.Core.List.{List}
use mathlib.Core.Bool.{Bool, true, false, not, or-true}
use lib.ListN.{length, get_or}
use Rattle.lookup.specs.declared.Met.{Met}
use Rattle.accounts.specs.declared.Hold.{Hold}
use Rattle.layout.specs.Blocks.{Block, start_at}
use Rattle.layout.proofs.Starts.{start_found}
use Rattle.lookup.specs.Walk.{headed, live_met}
use Rattle.holding.specs.Emptying.{counted, passed, passed_end, Emptying}
use Rattle.holding.proofs.Flagged.{counted_few}
use Rattle.holding.proofs.Emptied.{Passing, emptying_short, emptying_full, emptying_ended, emptying_on}
use Rattle.holding.proofs.freeing.free_unkept.Goals as goal
use Rattle.holding.proofs.freeing.free_unkept.Goals.{In-Some, After-counted-i, then-stays, else-stays}

found : (c : In-Some) → start_at c.loop-i.at c.loop-i.heap ≡ Some c.in-Some.header
found c = sym c.start_at.ensures ∙ c.in-Some.is

fits : (c : In-Some) → (1 ≤ c.in-Some.header.size) × (c.loop-i.at + 8 * c.in-Some.header.size ≤ length c.loop-i.heap)
fits c = let w = start_found c.loop-i.at c.loop-i.heap c.in-Some.header (found c) in (w.some_size, w.inside)

-- the walk passes its block
passing : (c : In-Some) (hs : List Hold) (bs : List Block)
    → let l = c in let a = l.args in
    Emptying a.kind hs bs a.kept.now 0 0 a.heap.now
    → Passing a.kind hs bs a.kept.now l.loop-i.i c.loop-i.at c.loop-i.heap (counted c.in-Some.header.serial)
    (headed c.loop-i.at c.in-Some.header)
passing c hs bs e =
    let l = c in
    let a = l.args in
    emptying_on a.kind hs bs a.kept.now l.loop-i.i l.loop-i.at l.loop-i.heap (l.loop-i.invariant.1 hs bs e)
    c.in-Some.header (found c)

pub returns-in_default : goal.returns-in_default
returns-in_default c hs bs e =
    let l = c in
    let a = l.args in
    emptying_ended a.kind hs bs a.kept.now l.loop-i.i l.loop-i.at l.loop-i.heap (l.loop-i.invariant.1 hs bs e)
    (sym c.start_at.ensures ∙ c.in_default.is)

pub overflow_mul-block : goal.overflow_mul-block
overflow_mul-block c = let f = fits (goal.at.overflow_mul-block c).In-Some in omega arith

pub pass_block-at-requires : goal.pass_block-at-requires
pass_block-at-requires c = let f = fits (goal.at.pass_block-at-requires c).In-Some in record { header = omega arith; end = omega arith }

pub overflow_add-i : goal.overflow_add-i
overflow_add-i c = omega (arith, c.counted-i.ensures, counted_few c.in-Some.header.serial)

pub overflow_add-at : goal.overflow_add-at
overflow_add-at c = let f = fits (goal.at.overflow_add-at c).In-Some in omega arith

-- a kept block is left as it is
kept_stays : (kind : ℕ) (m : Met) (s : List ℕ) → (s ≡ passed kind true m s) × (m.at + m.size ≡ passed_end kind true m s)
unfolding passed passed_end
kept_stays kind m s = let t = or-true (not (live_met m)) in (rw t, rw t)

-- the flag that is read is the block's
by_flag : (kind : ℕ) (m : Met) (s : List ℕ) {x y : Bool} {s' : List ℕ} {end : ℕ} → x ≡ y
    → (s' ≡ passed kind y m s) × (end ≡ passed_end kind y m s) → (s' ≡ passed kind x m s) × (end ≡ passed_end kind x m s)
by_flag kind m s {s' = s'} {end = end} e f = subst (λ (z : Bool). (s' ≡ passed kind z m s) × (end ≡ passed_end kind z m s)) (sym e) f

-- what a turn makes of the heap, and where it goes on
turned : (c : After-counted-i) → let kept = get_or c.args.kept.now c.loop-i.i false in let m = headed c.loop-i.at c.in-Some.header in
    (c.if-stays.heap ≡ passed c.args.kind kept m c.loop-i.heap) × (c.if-stays.at ≡ passed_end c.args.kind kept m c.loop-i.heap)
turned c =
    let kind = c.args.kind in
    let m = headed c.loop-i.at c.in-Some.header in
    let s = c.loop-i.heap in
    let f = kept_stays kind m s in
    elim c.if-stays.branch [
      | then-stays w ↦ by_flag kind m s w.if-stays.true (w.heap-is ∙ f.0, w.at-is ∙ f.1)
      | else-stays w ↦
          let r = w.pass_block-at.ensures in
          by_flag kind m s w.if-stays.false (w.heap-is ∙ r.leaves, w.at-is ∙ r.ends)
    ]

pub loop-i-smaller : goal.loop-i-smaller
loop-i-smaller c =
    let p = c.requires in
    let w =
    emptying_short c.args.kind p.0 p.1 c.args.kept.now c.loop-i.i c.loop-i.at c.loop-i.heap
    (c.loop-i.invariant.1 p.0 p.1 p.2) in
    let f = fits (goal.at.loop-i-smaller c).In-Some in
    let on : c.loop-i.at < c.if-stays.at = rw (turned c).1 ((passing (goal.at.loop-i-smaller c).In-Some p.0 p.1 p.2).0 _) in
    omega arith

pub loop-i-preserved : goal.loop-i-preserved
loop-i-preserved c =
    let t = turned c in
    (search rules, λ hs bs e. rw (c.counted-i.ensures, t.0, t.1) (passing (goal.at.loop-i-preserved c).In-Some hs bs e).1)

pub returns : goal.returns
returns c hs bs e =
    let l = c in
    let a = l.args in
    emptying_full a.kind hs bs a.kept.now l.loop-i.i l.loop-i.at l.loop-i.heap (l.loop-i.invariant.1 hs bs e)
    (omega arith)
