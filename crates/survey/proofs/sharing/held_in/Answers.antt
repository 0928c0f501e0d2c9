use mir.Val.{bool_byte}
use Rattle.std.proofs.Common.{◌≡◌, ◌+◌, Bool, true, false, refl, sym, ap, ◌∙◌, arith}
use Rattle.accounts.specs.declared.Hold.{Hold}
use Rattle.accounts.specs.Accounts.{zero_hold}
use Rattle.words.specs.Words.{holds_of}
use Rattle.words.proofs.Words.{holds_long, holds_at}
use Rattle.survey.specs.Shares.{one_if, is_own, is_shared}
use Rattle.survey.proofs.Counting.{Counted, counted_next, counted_all}
use Rattle.survey.proofs.sharing.held_in.Goals as goal
use Rattle.survey.proofs.sharing.held_in.Goals.{After-from-objects, After-from-shared}

-- a test's answer as a number
counts : (t : Bool) → bool_byte t ≡ one_if t
counts true = refl
counts false = refl

next-own : (c : After-from-objects)
    → let l = c in let a = l.args in
    Counted (is_own a.quota) (holds_of a.words.now) zero_hold (l.loop-i.i + 1) (l.loop-i.objects + c.from-objects.result)
next-own c =
    let l = c in
    let a = l.args in
    let w = a.words.now in
    let t = c.loop-i-test.true in
    counted_next (is_own a.quota) (holds_of w) zero_hold l.loop-i.invariant.0 (omega (arith, holds_long w, t)) c.from-objects.result
    (c.from-objects.ensures ∙ counts c.own_at.result
    ∙ ap one_if c.own_at.ensures
    ∙ ap (λ (h : Hold). one_if (is_own a.quota h)) (sym (holds_at w l.loop-i.i t)))

next-shared : (c : After-from-shared)
    → let l = c in let a = l.args in
    Counted (is_shared (holds_of a.words.now) a.quota) (holds_of a.words.now) zero_hold (l.loop-i.i + 1) (l.loop-i.shared + c.from-shared.result)
next-shared c =
    let l = c in
    let a = l.args in
    let w = a.words.now in
    let t = c.loop-i-test.true in
    counted_next (is_shared (holds_of w) a.quota) (holds_of w) zero_hold l.loop-i.invariant.1 (omega (arith, holds_long w, t)) c.from-shared.result
    (c.from-shared.ensures ∙ counts c.shared_at.result
    ∙ ap one_if c.shared_at.ensures
    ∙ ap (λ (h : Hold). one_if (is_shared (holds_of w) a.quota h)) (sym (holds_at w l.loop-i.i t)))

pub loop-i-preserved : goal.loop-i-preserved
loop-i-preserved c = (next-own (goal.at.loop-i-preserved c).After-from-objects, next-shared c)

pub returns : goal.returns
returns c =
    let l = c in
    let a = l.args in
    let w = a.words.now in
    let long = holds_long w in
    let e = counted_all (is_own a.quota) (holds_of w) zero_hold l.loop-i.invariant.0 (omega (arith, long, c.loop-i-test.false)) in
    let f = counted_all (is_shared (holds_of w) a.quota) (holds_of w) zero_hold l.loop-i.invariant.1 (omega (arith, long, c.loop-i-test.false)) in
    λ i. record { objects = e i; shared = f i }
