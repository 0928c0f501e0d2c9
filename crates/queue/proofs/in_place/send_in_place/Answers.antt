-- `queue::send_in_place` meets its contract: first the lines of the queue, next the release and the claim, both with the words as they came in; after that the
-- release takes the words that the claim leaves.
use Rattle.std.specs.Prelude.{Result}
use Rattle.model.specs.declared.Refusal.{Refusal}
use Prim.Native.Nat.{ℕ, ◌≤◌}
use native.Mathlib.Omega.{arith}
use mathlib.Core.Path.{◌≡◌, ap, sym, ◌∙◌}
use mathlib.Core.List.{List}
use Rattle.std.proofs.lemmas.Result.{err_from_is_err_and}
use Rattle.rounding.specs.Rounding.{table}
use Rattle.accounts.specs.declared.Accounts.{Accounts}
use Rattle.words.specs.Words.{edition_of, accounts_of}
use Rattle.model.specs.Answers.{amount_values, verdict_values, refusal_number}
use Rattle.model.specs.Calls.{Outcome, claim, release, can_release}
use Rattle.model.proofs.Answers.{refusal_number_is}
use Rattle.queue.specs.declared.Queue.{Queue}
use Rattle.queue.specs.Queue.{PLACES}
use Rattle.queue.specs.Places.{queue_of}
use Rattle.queue.specs.Results.{send_number}
use Rattle.queue.proofs.Sending.{kept, send_damaged, send_full, send_unclaimed, send_stopped, send_unreleased, send_made, claim_edition}
use Rattle.queue.proofs.in_place.send_in_place.Goals as goal
use Rattle.queue.proofs.in_place.send_in_place.Goals.{Else-count-eq-PLACES}

-- what a question says of the call that it asks for
answer-is : {s : List ℕ} {k : Accounts} {v x : Result (Unit {0}) Refusal} {t : Outcome}
    → record { heap = s; accounts = k; values = verdict_values v } ≡ t → v ≡ x
    → t.values.refusal ≡ (verdict_values x).refusal
answer-is e f = sym (ap (λ (o : Outcome). o.values.refusal) e) ∙ ap (λ (y : Result (Unit {0}) Refusal). (verdict_values y).refusal) f

whole : (e : Else-count-eq-PLACES) → (queue_of e.args.queue.now).count ≤ PLACES
whole e = omega (arith, e.if-count-gt-PLACES.false, e.word_at-count.ensures)

not_full : (e : Else-count-eq-PLACES) → (queue_of e.args.queue.now).count ≡ PLACES → ⊥
not_full e z = e.if-count-eq-PLACES.false (e.word_at-count.ensures ∙ z)

pub returns-then-count-gt-PLACES-clause-holds : goal.returns-then-count-gt-PLACES-clause-holds
unfolding send_number
returns-then-count-gt-PLACES-clause-holds c =
    let a = c.args in
    let w = a.words.now in
    send_damaged (table (edition_of w)) a.heap.now (accounts_of w) (queue_of a.queue.now) a.handle
    (omega (arith, c.if-count-gt-PLACES.true, c.word_at-count.ensures))

pub returns-then-count-eq-PLACES-clause-holds : goal.returns-then-count-eq-PLACES-clause-holds
unfolding send_number
returns-then-count-eq-PLACES-clause-holds c =
    let f = c in
    let a = f.args in
    let w = a.words.now in
    send_full (table (edition_of w)) a.heap.now (accounts_of w) (queue_of a.queue.now) a.handle
    (omega (arith, c.if-count-gt-PLACES.false, f.word_at-count.ensures)) (sym f.word_at-count.ensures ∙ c.if-count-eq-PLACES.true)

pub returns-in-Err-can_claim-clause-holds : goal.returns-in-Err-can_claim-clause-holds
unfolding send_number verdict_values
returns-in-Err-can_claim-clause-holds c =
    let a = c.args in
    let s = a.heap.now in
    let k = accounts_of a.words.now in
    let unit = table (edition_of a.words.now) in
    let x = c.in-Err-can_claim.first in
    let no = ap (λ (q : ℕ). (claim unit s k q a.handle).values.refusal) (sym c.word_at-receiver.ensures) ∙ answer-is c.can_claim.ensures
    c.in-Err-can_claim.is in
    send_unclaimed unit s k (queue_of a.queue.now) a.handle (whole (goal.at.returns-in-Err-can_claim-clause-holds c).Else-count-eq-PLACES)
    (not_full (goal.at.returns-in-Err-can_claim-clause-holds c).Else-count-eq-PLACES) (refusal_number x) no (refusal_number_is x).1

pub returns-in-Err-clause-holds : goal.returns-in-Err-clause-holds
unfolding send_number verdict_values
returns-in-Err-clause-holds c =
    let p = c in
    let b = p in
    let v = b in
    let r = v in
    let e = r in
    let a = e.args in
    let s = a.heap.now in
    let w = a.words.now in
    let k = accounts_of w in
    let unit = table (edition_of w) in
    let x = b in
    let claims =
    ap (λ (q : ℕ). (claim unit s k q a.handle).values.refusal) (sym r.word_at-receiver.ensures) ∙ answer-is p.can_claim.ensures c.in_default-can_claim.is in
    let no =
    ap (λ (q : ℕ). (can_release unit s k q a.handle).values.refusal) (sym r.word_at-sender.ensures)
    ∙ answer-is v.can_release.ensures x.in-Err.is in
    send_unreleased unit s k (queue_of a.queue.now) a.handle (whole (goal.at.returns-in-Err-clause-holds c).Else-count-eq-PLACES)
    (not_full (goal.at.returns-in-Err-clause-holds c).Else-count-eq-PLACES) claims (refusal_number x.in-Err.refusal) no
    (refusal_number_is x.in-Err.refusal).1

pub returns-in_err-claim-clause-holds : goal.returns-in_err-claim-clause-holds
unfolding send_number amount_values
returns-in_err-claim-clause-holds c =
    let a = c.args in
    let s = a.heap.now in
    let k = accounts_of a.words.now in
    let k₁ = accounts_of c.claim.new.words in
    let u = queue_of a.queue.now in
    let unit = table (edition_of a.words.now) in
    let x = c.in_err-claim.field-0.0 in
    let n : (amount_values c.claim.result).refusal ≡ refusal_number x = ap (λ (y : Result ℕ Refusal). (amount_values y).refusal) c.in_err-claim.was in
    let made = c.claim.ensures.holds ∙ ap (λ (q : ℕ). claim unit s k q a.handle) c.word_at-receiver.ensures in
    let p = err_from_is_err_and c.from_residual.result c.from_residual.ensures.1 in
    rw (p.1, p.2)
    (ap (kept s k₁ u) (sym n)
    ∙ send_stopped unit s k u a.handle (whole (goal.at.returns-in_err-claim-clause-holds c).Else-count-eq-PLACES)
    (not_full (goal.at.returns-in_err-claim-clause-holds c).Else-count-eq-PLACES) k₁ (amount_values c.claim.result) made
    (omega (arith, n, (refusal_number_is x).1)))

pub returns-clause-holds : goal.returns-clause-holds
unfolding send_number verdict_values amount_values
returns-clause-holds c =
    let f = c in
    let told₂ = f in
    let d = told₂ in
    let told = d in
    let v = told in
    let r = v in
    let e = r in
    let a = e.args in
    let s = a.heap.now in
    let w = a.words.now in
    let k = accounts_of w in
    let k₁ = accounts_of d.claim.new.words in
    let k₂ = accounts_of f.release.new.words in
    let s' = f.release.new.heap in
    let unit = table (edition_of w) in
    let made = d.claim.ensures.holds ∙ ap (λ (q : ℕ). claim unit s k q a.handle) r.word_at-receiver.ensures in
    let claims =
    sym (ap (λ (t : Outcome). t.values.refusal) made) ∙ ap (λ (y : Result ℕ Refusal). (amount_values y).refusal) told₂.in_ok-claim.was in
    let releases =
    ap (λ (q : ℕ). (can_release unit s k q a.handle).values.refusal) (sym r.word_at-sender.ensures)
    ∙ answer-is v.can_release.ensures told.in_default.is in
    let same = ap (λ (t : Outcome). t.accounts.edition) d.claim.ensures.holds ∙ claim_edition s k r.word_at-receiver.result a.handle in
    let freed =
    f.release.ensures.holds ∙ ap (λ (n : ℕ). release (table n) s k₁ r.word_at-sender.result a.handle) same
    ∙ ap (λ (q : ℕ). release unit s k₁ q a.handle) r.word_at-sender.ensures in
    ap (λ (u : Queue). record { heap = s'; accounts = k₂; queue = u; refusal = 0 }) c.put_handle.ensures
    ∙ send_made unit s k (queue_of a.queue.now) a.handle (whole (goal.at.returns-clause-holds c).Else-count-eq-PLACES)
    (not_full (goal.at.returns-clause-holds c).Else-count-eq-PLACES) claims s' k₁ k₂
    (amount_values d.claim.result) (amount_values f.release.result) made releases freed
