-- `survey::indexing::HoldIndex::enter` meets its contract: by what is in the slot, the record is alone there, or hung
-- below the one that is.
use Rattle.std.proofs.Common.{◌≡◌, ℕ, ◌-◌, ◌<◌, ◌≤◌, List, ap, ◌∙◌, subst, ⊎_elim, arith}
use Rattle.accounts.specs.Accounts.{HOLDS}
use Rattle.words.specs.Words.{serial_in}
use Rattle.survey.specs.Index.{SLOTS, END, FORKED, slot, bits_of}
use Rattle.survey.specs.Clauses.{Hung}
use Rattle.survey.proofs.Building.{built_fork, built_hung}
use Rattle.survey.proofs.indexing.HoldIndex.enter.Goals as goal
use Rattle.survey.proofs.indexing.HoldIndex.enter.Goals.{After-head_in-head, Else-head-lt-HOLDS}

at_slot : (c : After-head_in-head) → c.slot_of-slot.result ≡ slot (serial_in c.args.words.now c.args.i)
at_slot c = c.slot_of-slot.ensures.0 ∙ ap slot c.serial_in-serial.ensures

small : (c : After-head_in-head) → c.slot_of-slot.result < SLOTS
small c = c.slot_of-slot.ensures.1

forked : (c : After-head_in-head) → HOLDS ≤ c.head_in-head.result → (c.head_in-head.result ≡ END → ⊥)
    → (FORKED ≤ c.head_in-head.result) × (c.head_in-head.result - FORKED < c.args.i)
forked c l n =
    let e = c.head_in-head.ensures.0 in
    let i = c.requires.0 in
    ⊎_elim (λ q. absurd (n (e ∙ q))) (⊎_elim (λ q. absurd (omega arith)) (λ w. (omega (arith, w.0), omega (arith, w.1))))
    (c.requires.2.headed c.slot_of-slot.result (small c))

above : (c : Else-head-lt-HOLDS) → HOLDS ≤ c.head_in-head.result
above c = omega (arith, c.if-head-lt-HOLDS.false)

-- the path is that of the record's serial
hung : (c : After-head_in-head) {root : ℕ} {links' : List ℕ}
    → Hung (bits_of c.serial_in-serial.result) root c.args.i c.args.self.now.links links'
    → Hung (bits_of (serial_in c.args.words.now c.args.i)) root c.args.i c.args.self.now.links links'
hung c {root} {links'} h =
    subst (λ (y : ℕ). Hung (bits_of y) root c.args.i c.args.self.now.links links') c.serial_in-serial.ensures h

pub returns-then-head-lt-HOLDS : goal.returns-then-head-lt-HOLDS
returns-then-head-lt-HOLDS c =
    let h = c in
    rw c.hang.ensures.1 (built_fork h.requires.2 h.requires.0 (at_slot (goal.at.returns-then-head-lt-HOLDS c).After-head_in-head)
    (small (goal.at.returns-then-head-lt-HOLDS c).After-head_in-head) (hung (goal.at.returns-then-head-lt-HOLDS c).After-head_in-head c.hang.ensures.0)
    h.head_in-head.ensures.0 c.if-head-lt-HOLDS.true)

pub returns-else-head-lt-HOLDS : goal.returns-else-head-lt-HOLDS
returns-else-head-lt-HOLDS c =
    let h = c in
    let e = h.head_in-head.ensures.0 in
    rw c.hang-else-head-lt-HOLDS.ensures.1 (built_hung h.requires.2 h.requires.0 (at_slot (goal.at.returns-else-head-lt-HOLDS c).After-head_in-head)
    (small (goal.at.returns-else-head-lt-HOLDS c).After-head_in-head) (hung (goal.at.returns-else-head-lt-HOLDS c).After-head_in-head
    c.hang-else-head-lt-HOLDS.ensures.0) (ap (λ (x : ℕ). x - FORKED) e)
    (omega (
      arith,
      e,
      (forked (goal.at.returns-else-head-lt-HOLDS c).After-head_in-head (above (goal.at.returns-else-head-lt-HOLDS c).Else-head-lt-HOLDS)
          c.if-head-eq-END.false).0,
    )))
