-- `survey::settling::Unsettled::settle` meets its contract: by what is in the serial's slot, its path is gone along, or
-- the one record is looked at.
use Rattle.std.proofs.Common.{◌≡◌, ◌<◌, Bool, true, false, sym, ◌∙◌, subst, arith}
use borrow.Author.Tests.{not-true, not-false}
use Rattle.accounts.specs.Accounts.{QUOTAS, HOLDS}
use Rattle.audit.specs.Clauses.{Charged}
use Rattle.words.specs.Words.{serial_in}
use Rattle.survey.specs.Index.{slot}
use Rattle.survey.proofs.Closing.{quota_small}
use Rattle.survey.proofs.Trees.{alone_other, alone_left, alone_short, alone_paid}
use Rattle.survey.proofs.settling.Unsettled.settle.Goals as goal
use Rattle.survey.proofs.settling.Unsettled.settle.Goals.{After-head_in-head, After-pay, After-quota_in-quota, Else-head-ge-HOLDS}

abbrev slots : (c : After-head_in-head) → c.slot_of-slot.result ≡ slot c.args.serial
slots c = c.slot_of-slot.ensures.0

-- the slot has one record
alone : (c : Else-head-ge-HOLDS) → c.head_in-head.result < HOLDS
alone c = omega (arith, c.if-head-ge-HOLDS.false)

pub returns-then-serial_in-serial : goal.returns-then-serial_in-serial
returns-then-serial_in-serial c =
    let k = c in
    let e = k in
    let h = e in
    let s = h in
    let a = s.args in
    alone_other s.requires.1 s.requires.0 (slots (goal.at.returns-then-serial_in-serial c).After-head_in-head) h.slot_of-slot.ensures.1 h.head_in-head.ensures.0
    (alone (goal.at.returns-then-serial_in-serial c).Else-head-ge-HOLDS) a.charge a.self.now.index.heads
    a.self.now.index.links a.self.now.owed a.self.now.index.left
    (λ q. c.if-serial_in-serial.true (k.serial_in.ensures ∙ q))

alone_2 : (c : After-quota_in-quota) → c.head_in-head.result < HOLDS
alone_2 c = omega (arith, c.if-head-ge-HOLDS.false)

few : (c : After-quota_in-quota) → c.quota_in-quota.result < QUOTAS
few c =
    let a = c.args in
    omega (
      arith,
      c.quota_in-quota.ensures,
      quota_small a.words.now a.self.now.index.heads a.self.now.index.links c.requires.1.well c.head_in-head.result
          (alone_2 c),
    )

same : (c : After-quota_in-quota) → serial_in c.args.words.now c.head_in-head.result ≡ c.args.serial
same c = sym c.serial_in.ensures ∙ c.if-serial_in-serial.false

pub pay-requires : goal.pay-requires
pay-requires c = few (goal.at.pay-requires c).After-quota_in-quota

charged : (c : After-pay) (t : Bool) → c.pay.result ≡ t
    → Charged c.args.charge c.quota_in-quota.result c.args.self.now.owed t c.pay.new.owed
charged c t e =
    subst (λ (x : Bool). Charged c.args.charge c.quota_in-quota.result c.args.self.now.owed x
    c.pay.new.owed) e c.pay.ensures

pub returns-then-not-pay : goal.returns-then-not-pay
returns-then-not-pay c =
    let p = c in
    let q = p in
    let h = q in
    let s = h in
    let a = s.args in
    alone_short s.requires.1 s.requires.0 (slots (goal.at.returns-then-not-pay c).After-head_in-head) h.slot_of-slot.ensures.1 h.head_in-head.ensures.0
    (alone (goal.at.returns-then-not-pay c).Else-head-ge-HOLDS) (same (goal.at.returns-then-not-pay c).After-quota_in-quota) a.charge
    a.self.now.index.heads a.self.now.index.links p.pay.new.owed a.self.now.index.left
    q.quota_in-quota.ensures (charged (goal.at.returns-then-not-pay c).After-pay false (not-true _ c.if-not-pay.true-raw))

pub overflow_sub-self : goal.overflow_sub-self
overflow_sub-self c =
    let q = c in
    let h = q in
    let s = h in
    alone_left s.requires.1 s.requires.0 (slots (goal.at.overflow_sub-self c).After-head_in-head) h.slot_of-slot.ensures.1 h.head_in-head.ensures.0
    (alone (goal.at.overflow_sub-self c).Else-head-ge-HOLDS) (same (goal.at.overflow_sub-self c).After-quota_in-quota)

pub returns : goal.returns
returns c =
    let p = c in
    let q = p in
    let h = q in
    let s = h in
    let o = charged (goal.at.returns c).After-pay true (not-false _ c.if-not-pay.false-raw) in
    alone_paid s.requires.1 s.requires.0 (slots (goal.at.returns c).After-head_in-head) h.slot_of-slot.ensures.1 h.head_in-head.ensures.0
    (alone (goal.at.returns c).Else-head-ge-HOLDS) (same (goal.at.returns c).After-quota_in-quota) s.args.charge
    q.quota_in-quota.ensures (few (goal.at.returns c).After-quota_in-quota) o.0 o.1
