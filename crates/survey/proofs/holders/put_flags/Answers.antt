use Rattle.std.specs.Prelude.{Some}
use Rattle.std.proofs.Common.{◌≡◌, ◌+◌, ◌*◌, ◌≤◌, Bool, length, set, sym, ◌∙◌, subst, arith, rules}
use Rattle.layout.specs.Blocks.{start_at}
use Rattle.layout.proofs.Starts.{start_found}
use Rattle.words.specs.Words.{holds_of}
use Rattle.survey.proofs.Flags.{Flagging, flagging_start, flagging_full, flagging_ended, flagging_live, flagging_other}
use Rattle.survey.proofs.holders.put_flags.Goals as goal
use Rattle.survey.proofs.holders.put_flags.Goals.{In-Some}

found : (c : In-Some) → start_at c.loop-i.at c.args.heap.now ≡ Some c.in-Some.header
found c = sym c.start_at.ensures ∙ c.in-Some.is

fits : (c : In-Some) → (1 ≤ c.in-Some.header.size) × (c.loop-i.at + 8 * c.in-Some.header.size ≤ length c.args.heap.now)
fits c = let w = start_found c.loop-i.at c.args.heap.now c.in-Some.header (found c) in (w.some_size, w.inside)

pub loop-i-init : goal.loop-i-init
loop-i-init c =
    let a = c.args in
    flagging_start (holds_of a.words.now) a.heap.now a.kept.now c.told-kept

pub returns-in_default : goal.returns-in_default
returns-in_default c =
    let l = c in
    flagging_ended l.loop-i.invariant (sym c.start_at.ensures ∙ c.in_default.is)

pub overflow_mul-at : goal.overflow_mul-at
overflow_mul-at c = let f = fits (goal.at.overflow_mul-at c).In-Some in omega arith

pub overflow_add-at : goal.overflow_add-at
overflow_add-at c = let f = fits (goal.at.overflow_add-at c).In-Some in omega arith

pub loop-i-smaller-then-is_live : goal.loop-i-smaller-then-is_live
loop-i-smaller-then-is_live c = let f = fits (goal.at.loop-i-smaller-then-is_live c).In-Some in omega arith

pub loop-i-preserved-then-is_live : goal.loop-i-preserved-then-is_live
loop-i-preserved-then-is_live c =
    let h = c in
    let l = h.loop-i in
    let a = h.args in
    let t = c in
    let next = l.at + 8 * h.in-Some.header.size in
    subst (λ (x : Bool). Flagging (holds_of a.words.now) a.heap.now a.kept.now (l.i + 1) next (set l.kept l.i x))
    (sym c.is_held.ensures)
    (flagging_live l.invariant h.in-Some.header (found (goal.at.loop-i-preserved-then-is_live c).In-Some) h.loop-i-test.true
    (sym t.is_live.ensures ∙ t.if-is_live.true))

pub loop-i-smaller : goal.loop-i-smaller
loop-i-smaller c = let f = fits (goal.at.loop-i-smaller c).In-Some in omega arith

pub loop-i-preserved : goal.loop-i-preserved
loop-i-preserved c =
    let h = c in
    let l = h.loop-i in
    let e = c in
    flagging_other l.invariant h.in-Some.header (found (goal.at.loop-i-preserved c).In-Some) (sym e.is_live.ensures ∙ e.if-is_live.false)

pub returns : goal.returns
returns c = flagging_full c.loop-i.invariant (search rules)
