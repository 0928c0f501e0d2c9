use Rattle.std.proofs.Common.{◌≡◌, ℕ, ◌+◌, ◌<◌, false, sym, ap, ◌∙◌, subst, arith}
use borrow.Author.Tests.{not-true, not-false}
use Rattle.accounts.specs.Accounts.{HOLDS, zero_hold}
use Rattle.lists.specs.Lists.{all}
use Rattle.audit.specs.Keys.{well_formed}
use Rattle.audit.proofs.Tables.{all_fails}
use Rattle.audit.proofs.Records.{well_blank, well_possible}
use Rattle.words.specs.Words.{serial_in, hold_in, holds_of}
use Rattle.words.proofs.Words.{holds_long, holds_at}
use Rattle.survey.proofs.Passes.{Passed, passed_start, passed_blank, passed_used, passed_all}
use Rattle.survey.proofs.indexing.HoldIndex.enter_all.Goals as goal
use Rattle.survey.proofs.indexing.HoldIndex.enter_all.Goals.{After-is_blank, After-is_possible, After-serial_in-serial, Else-serial-eq0, In-loop-i}

pub loop-i-init : goal.loop-i-init
loop-i-init c = passed_start c.requires.0 c.requires.1 c.requires.2

-- what its tests say of it, without a serial and with one
blank-tests : (c : After-is_blank)
    → well_formed (hold_in c.args.words.now c.loop-i.i) ≡ c.is_blank.result
blank-tests c =
    let k = c in
    let z = sym k.serial_in-serial.ensures ∙ c.if-serial-eq0.true in
    well_blank (hold_in k.args.words.now k.loop-i.i) z ∙ sym c.is_blank.ensures

some-serial : (c : Else-serial-eq0) → serial_in c.args.words.now c.loop-i.i ≡ 0 → ⊥
some-serial c e = c.if-serial-eq0.false (c.serial_in-serial.ensures ∙ e)

some-serial_2 : (c : After-is_possible) → serial_in c.args.words.now c.loop-i.i ≡ 0 → ⊥
some-serial_2 c e = c.if-serial-eq0.false (c.serial_in-serial.ensures ∙ e)

possible-tests : (c : After-is_possible)
    → well_formed (hold_in c.args.words.now c.loop-i.i) ≡ c.is_possible.result
possible-tests c =
    let k = c in
    well_possible (hold_in k.args.words.now k.loop-i.i) (some-serial_2 c) ∙ sym c.is_possible.ensures

inside_2 : (c : After-serial_in-serial) → c.loop-i.i < HOLDS
inside_2 c = omega (arith, c.loop-i-test.true, c.loop-i.invariant.top_inside)

ill : (c : After-serial_in-serial) → well_formed (hold_in c.args.words.now c.loop-i.i) ≡ false
    → all well_formed (holds_of c.args.words.now) ≡ false
ill c e =
    all_fails well_formed zero_hold (holds_of c.args.words.now) c.loop-i.i (omega (arith, inside_2 c, holds_long c.args.words.now))
    (ap well_formed (holds_at c.args.words.now c.loop-i.i (inside_2 c)) ∙ e)

pub returns-then-not-is_blank : goal.returns-then-not-is_blank
returns-then-not-is_blank c =
    let p = goal.at.returns-then-not-is_blank c in
    ill p.After-serial_in-serial (blank-tests p.After-is_blank ∙ not-true _ c.if-not-is_blank.true-raw)

pub loop-i-preserved-then-serial-eq0 : goal.loop-i-preserved-then-serial-eq0
loop-i-preserved-then-serial-eq0 c =
    let k = c in
    let b = c in
    let t = k in
    let l = t.loop-i in
    let z = sym k.serial_in-serial.ensures ∙ b.if-serial-eq0.true in
    subst (λ (x : ℕ). Passed k.args.words.now l.self.heads l.self.links t.args.top (l.i + 1) x (l.blank + 1)) (sym c.min-low.ensures)
    (passed_blank l.invariant t.loop-i-test.true (blank-tests (goal.at.loop-i-preserved-then-serial-eq0 c).After-is_blank ∙ not-false _
    c.if-not-is_blank.false-raw) z)

pub returns-then-not-is_possible : goal.returns-then-not-is_possible
returns-then-not-is_possible c =
    let p = goal.at.returns-then-not-is_possible c in
    ill p.After-serial_in-serial (possible-tests p.After-is_possible ∙ not-true _ c.if-not-is_possible.true-raw)

pub loop-i-preserved : goal.loop-i-preserved
loop-i-preserved c =
    let e = c in
    let p = c in
    let t = e in
    passed_used t.loop-i.invariant t.loop-i-test.true (possible-tests (goal.at.loop-i-preserved c).After-is_possible ∙ not-false _
    p.if-not-is_possible.false-raw) (some-serial (goal.at.loop-i-preserved c).Else-serial-eq0) c.enter.ensures

pub returns : goal.returns
returns c =
    let b = c in
    let l = b.loop-i in
    let top = b.args.top in
    let z : l.i ≡ top = omega (arith, c.loop-i-test.false, l.invariant.within) in
    passed_all (subst (λ (x : ℕ). Passed b.args.words.now l.self.heads l.self.links top x l.low l.blank) z l.invariant)
