use Rattle.std.proofs.Common.{◌≡◌, ℕ, ◌-◌, ◌/◌, ◌<◌, Bool, true, false, ◌&&◌, eqb, ltb, get_or, set, sym, refl, ap, ◌∙◌, subst, arith, le-ltb, lt-ltb, eq-eqb}
use Rattle.std.proofs.Common.{ne_eqb}
use borrow.Author.Tests.{not-true, not-false}
use Rattle.accounts.specs.Accounts.{QUOTAS}
use Rattle.lists.proofs.Bools.{and_no, and_both}
use Rattle.audit.specs.Clauses.{Charged}
use Rattle.words.specs.Words.{serial_in}
use Rattle.survey.specs.Index.{CLOSED, slot, bits_of, inner}
use Rattle.survey.proofs.Closing.{quota_small}
use Rattle.survey.proofs.Trees.{Going, goes, inner_less, going_start, going_end}
use Rattle.survey.proofs.Trees.{going_skip, going_paid, going_short, going_more, unflagged, one_left}
use Rattle.survey.proofs.settling.Unsettled.settle_path.Goals as goal
use Rattle.survey.proofs.settling.Unsettled.settle_path.Goals.{After-next_in-at-else-number_in-ge-CLOSED, After-pay}
use Rattle.survey.proofs.settling.Unsettled.settle_path.Goals.{After-quota_in-quota, Else-number_in-ge-CLOSED}
use Rattle.survey.proofs.settling.Unsettled.settle_path.Goals.{In-loop-at, Then-number_in-ge-CLOSED, Then-word-serial}

pub loop-at-init : goal.loop-at-init
unfolding bits_of
loop-at-init c =
    let k = c in
    let s = k in
    let a = s.args in
    let h : k.head_in.result ≡ get_or a.self.now.index.heads (slot a.serial) 0 = k.head_in.ensures.0
    ∙ ap (λ (x : ℕ). get_or a.self.now.index.heads x 0) k.slot_of.ensures.0 in (
      going_start s.requires.2 s.requires.0 s.requires.1 refl (λ f. omega (arith, c.wrapping_sub_usize-at.ensures, h, f, k.head_in.ensures.1))
          (λ f. omega (arith, c.wrapping_sub_usize-at.ensures, h, f)),
      refl,
    )

going : (t : In-loop-at)
    → let a = t.args in let l = t.loop-at in
    Going a.words.now a.self.now.index.heads a.self.now.index.links a.self.now.owed a.serial a.charge l.self.index.links l.self.owed
    l.self.index.left l.seen l.found l.at
    l.bits
going t = t.loop-at.invariant.0.on t.loop-at-test.true

abbrev Tests : In-loop-at → Bool → Type 0
Tests t r = r ≡ (eqb (serial_in t.args.words.now t.loop-at.at) t.args.serial && ltb
    (get_or t.loop-at.self.index.links t.loop-at.at 0) CLOSED)

abbrev Tests_2 : Then-word-serial → Bool → Type 0
Tests_2 t r = r ≡ (eqb (serial_in t.args.words.now t.loop-at.at) t.args.serial && ltb
    (get_or t.loop-at.self.index.links t.loop-at.at 0) CLOSED)

other : (c : Then-word-serial) → Tests_2 c false
other c =
    let k = c in
    let l = k.loop-at in
    sym (ap (λ (x : Bool). x && ltb (get_or l.self.index.links l.at 0) CLOSED)
    (ne_eqb (serial_in k.args.words.now l.at) k.args.serial (λ e. c.if-word-serial.true (k.serial_in-word.ensures ∙ e))))

abbrev Tests_3 : Then-number_in-ge-CLOSED → Bool → Type 0
Tests_3 t r = r ≡ (eqb (serial_in t.args.words.now t.loop-at.at) t.args.serial && ltb
    (get_or t.loop-at.self.index.links t.loop-at.at 0) CLOSED)

closed : (c : Then-number_in-ge-CLOSED) → Tests_3 c false
closed c =
    let k = c in
    let l = k.loop-at in
    sym (and_no (eqb (serial_in k.args.words.now l.at) k.args.serial) (ltb (get_or l.self.index.links l.at 0) CLOSED)
    (le-ltb (get_or l.self.index.links l.at 0) CLOSED (omega (arith, c.if-number_in-ge-CLOSED.true, c.number_in.ensures.0))))

abbrev Tests_4 : Else-number_in-ge-CLOSED → Bool → Type 0
Tests_4 t r = r ≡ (eqb (serial_in t.args.words.now t.loop-at.at) t.args.serial && ltb
    (get_or t.loop-at.self.index.links t.loop-at.at 0) CLOSED)

opens : (c : Else-number_in-ge-CLOSED) → Tests_4 c true
opens c =
    let k = c in
    let l = k.loop-at in
    sym (and_both (eqb (serial_in k.args.words.now l.at) k.args.serial) (ltb (get_or l.self.index.links l.at 0) CLOSED)
    (eq-eqb (serial_in k.args.words.now l.at) k.args.serial
    (sym k.serial_in-word.ensures ∙ c.if-word-serial.false))
    (lt-ltb (get_or l.self.index.links l.at 0) CLOSED (omega (arith, c.if-number_in-ge-CLOSED.false, c.number_in.ensures.0))))

pub loop-at-smaller-then-word-serial : goal.loop-at-smaller-then-word-serial
loop-at-smaller-then-word-serial c =
    let t = c in
    let l = t.loop-at in
    let u = (going (goal.at.loop-at-smaller-then-word-serial c).In-loop-at).ready.up l.bits l.at t.loop-at-test.true in
    inner_less l.at c.next_in-at.result t.loop-at-test.true (omega (arith, u.0, c.next_in-at.ensures))

pub loop-at-preserved-then-word-serial : goal.loop-at-preserved-then-word-serial
loop-at-preserved-then-word-serial c =
    let h = c in
    let t = h in (
      goes (going_skip (going (goal.at.loop-at-preserved-then-word-serial c).In-loop-at) t.requires.0 t.loop-at-test.true
          (other (goal.at.loop-at-preserved-then-word-serial c).Then-word-serial) refl c.next_in-at.ensures),
      t.loop-at.invariant.1,
    )

pub loop-at-smaller-then-number_in-ge-CLOSED : goal.loop-at-smaller-then-number_in-ge-CLOSED
loop-at-smaller-then-number_in-ge-CLOSED c =
    let t = c in
    let l = t.loop-at in
    let u = (going (goal.at.loop-at-smaller-then-number_in-ge-CLOSED c).In-loop-at).ready.up l.bits l.at t.loop-at-test.true in
    inner_less l.at c.next_in-at-then-number_in-ge-CLOSED.result t.loop-at-test.true (omega (arith, u.0, c.next_in-at-then-number_in-ge-CLOSED.ensures))

pub loop-at-preserved-then-number_in-ge-CLOSED : goal.loop-at-preserved-then-number_in-ge-CLOSED
loop-at-preserved-then-number_in-ge-CLOSED c =
    let h = c in
    let t = h in (
      goes (going_skip (going (goal.at.loop-at-preserved-then-number_in-ge-CLOSED c).In-loop-at) t.requires.0 t.loop-at-test.true
          (closed (goal.at.loop-at-preserved-then-number_in-ge-CLOSED c).Then-number_in-ge-CLOSED) refl c.next_in-at-then-number_in-ge-CLOSED.ensures),
      t.loop-at.invariant.1,
    )

going_2 : (t : After-quota_in-quota)
    → let a = t.args in let l = t.loop-at in
    Going a.words.now a.self.now.index.heads a.self.now.index.links a.self.now.owed a.serial a.charge l.self.index.links l.self.owed
    l.self.index.left l.seen l.found l.at
    l.bits
going_2 t = t.loop-at.invariant.0.on t.loop-at-test.true

few : (c : After-quota_in-quota) → c.quota_in-quota.result < QUOTAS
few c =
    let t = c in
    let l = t.loop-at in
    omega (
      arith,
      c.quota_in-quota.ensures,
      quota_small t.args.words.now t.args.self.now.index.heads l.self.index.links (going_2 c).ready.well l.at
          t.loop-at-test.true,
    )

pub bounds-seen-quota : goal.bounds-seen-quota
bounds-seen-quota c = omega (arith, few c)

pub returns-then-seen-quota-ne0 : goal.returns-then-seen-quota-ne0
returns-then-seen-quota-ne0 c =
    let q = c in
    let h = q in
    let t = h in
    let l = t.loop-at in
    rw l.invariant.1 (going_paid (going (goal.at.returns-then-seen-quota-ne0 c).In-loop-at) t.requires.0 t.loop-at-test.true
    (opens (goal.at.returns-then-seen-quota-ne0 c).Else-number_in-ge-CLOSED) refl l.self.index.links l.self.owed l.self.index.left
    q.quota_in-quota.ensures c.if-seen-quota-ne0.true)

pub pay-requires : goal.pay-requires
pay-requires c =
    let q = c in
    few (goal.at.pay-requires c).After-quota_in-quota

charged : (c : After-pay) (t : Bool) → c.pay.result ≡ t
    → Charged c.args.charge c.quota_in-quota.result c.loop-at.self.owed t c.pay.new.owed
charged c t e = subst (λ (x : Bool). Charged c.args.charge c.quota_in-quota.result c.loop-at.self.owed x c.pay.new.owed) e
    c.pay.ensures

pub returns-then-not-pay : goal.returns-then-not-pay
returns-then-not-pay c =
    let p = c in
    let q = p in
    let h = q in
    let t = p in
    let l = t.loop-at in
    rw l.invariant.1 (going_short (going (goal.at.returns-then-not-pay c).In-loop-at) t.requires.0 t.loop-at-test.true
    (opens (goal.at.returns-then-not-pay c).Else-number_in-ge-CLOSED) refl l.self.index.links p.pay.new.owed l.self.index.left q.quota_in-quota.ensures
    (charged (goal.at.returns-then-not-pay c).After-pay false (not-true _ c.if-not-pay.true-raw)))

pub bounds-seen-quota-else-number_in-ge-CLOSED : goal.bounds-seen-quota-else-number_in-ge-CLOSED
bounds-seen-quota-else-number_in-ge-CLOSED c = omega (arith, few (goal.at.bounds-seen-quota-else-number_in-ge-CLOSED c).After-quota_in-quota)

pub close-requires : goal.close-requires
close-requires c =
    let p = c in
    let h = p in
    let t = p in
    let l = t.loop-at in (
      t.loop-at-test.true,
      (going (goal.at.close-requires c).In-loop-at).ready.links_long,
      unflagged (going (goal.at.close-requires c).In-loop-at) t.requires.0
          t.loop-at-test.true (opens (goal.at.close-requires c).Else-number_in-ge-CLOSED) refl,
      one_left (going (goal.at.close-requires c).In-loop-at) t.requires.0 t.loop-at-test.true
          (opens (goal.at.close-requires c).Else-number_in-ge-CLOSED) refl,
    )

charged_2 : (c : After-next_in-at-else-number_in-ge-CLOSED) (t : Bool) → c.pay.result ≡ t
    → Charged c.args.charge c.quota_in-quota.result c.loop-at.self.owed t c.pay.new.owed
charged_2 c t e = subst (λ (x : Bool). Charged c.args.charge c.quota_in-quota.result c.loop-at.self.owed x c.pay.new.owed) e
    c.pay.ensures

going_3 : (t : After-next_in-at-else-number_in-ge-CLOSED)
    → let a = t.args in let l = t.loop-at in
    Going a.words.now a.self.now.index.heads a.self.now.index.links a.self.now.owed a.serial a.charge l.self.index.links l.self.owed
    l.self.index.left l.seen l.found l.at
    l.bits
going_3 t = t.loop-at.invariant.0.on t.loop-at-test.true

abbrev Tests_5 : After-next_in-at-else-number_in-ge-CLOSED → Bool → Type 0
Tests_5 t r = r ≡ (eqb (serial_in t.args.words.now t.loop-at.at) t.args.serial && ltb
    (get_or t.loop-at.self.index.links t.loop-at.at 0) CLOSED)

opens_2 : (c : After-next_in-at-else-number_in-ge-CLOSED) → Tests_5 c true
opens_2 c =
    let k = c in
    let l = k.loop-at in
    sym (and_both (eqb (serial_in k.args.words.now l.at) k.args.serial) (ltb (get_or l.self.index.links l.at 0) CLOSED)
    (eq-eqb (serial_in k.args.words.now l.at) k.args.serial
    (sym k.serial_in-word.ensures ∙ c.if-word-serial.false))
    (lt-ltb (get_or l.self.index.links l.at 0) CLOSED (omega (arith, c.if-number_in-ge-CLOSED.false, c.number_in.ensures.0))))

again : (c : After-next_in-at-else-number_in-ge-CLOSED)
    → let p = c in let a = p.args in let l = p.loop-at in
    Going a.words.now a.self.now.index.heads a.self.now.index.links a.self.now.owed a.serial a.charge c.close.new.self.links p.pay.new.owed
    (l.self.index.left - 1)
    (set l.seen p.quota_in-quota.result 1) true (inner c.next_in-at-else-number_in-ge-CLOSED.result) (l.bits / 2)
again c =
    let p = c in
    let h = p in
    let t = p in
    let l = t.loop-at in
    let o = charged_2 c true (not-false _ c.if-not-pay.false-raw) in
    going_more (going_3 c) t.requires.0 t.loop-at-test.true (opens_2 c) refl p.quota_in-quota.ensures p.if-seen-quota-ne0.false o.0 o.1
    c.close.ensures.0 c.next_in-at-else-number_in-ge-CLOSED.ensures

pub loop-at-smaller : goal.loop-at-smaller
loop-at-smaller c =
    let t = c in
    let l = t.loop-at in
    let g = again c in
    let u = g.ready.up l.bits l.at t.loop-at-test.true in
    inner_less l.at c.next_in-at-else-number_in-ge-CLOSED.result t.loop-at-test.true (omega (arith, u.0, c.next_in-at-else-number_in-ge-CLOSED.ensures))

pub loop-at-preserved : goal.loop-at-preserved
loop-at-preserved c = (rw c.close.ensures.2 (goes (again c)), c.close.ensures.1 ∙ c.loop-at.invariant.1)

pub returns : goal.returns
returns c = rw c.loop-at.invariant.1 (going_end (c.loop-at.invariant.0.end (omega (arith, c.loop-at-test.false))) c.requires.0 (omega arith))
