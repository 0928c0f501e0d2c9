-- `queries::can_claim` meets its contract: it decides as claim does, by the same lines, and the refusal that a claim would give is its answer.
use Prim.Native.Nat.{ℕ, ◌-◌, ◌/◌, ◌%◌}
use native.Mathlib.Omega.{arith}
use mathlib.Core.Path.{◌≡◌, refl, ap, sym, ◌∙◌}
use mathlib.Core.Bool.{true}
use Rattle.std.proofs.lemmas.Result.{err_from_is_err_and}
use Rattle.accounts.specs.Accounts.{CLAIM, permits}
use Rattle.accounts.specs.declared.Hold.{Hold}
use Rattle.model.specs.Answers.{verdict_values}
use Rattle.model.specs.declared.Refusal.TheVariants.{QuotaNumber, NoSuchObject, NotPermitted}
use Rattle.results.proofs.Lines.{permitted}
use Rattle.results.proofs.Lookups.{Located}
use Rattle.words.specs.Words.{accounts_of}
use Rattle.holding.specs.Claims.{not_claimed, claim_again, claim_first}
use Rattle.holding.proofs.ClaimAnswers.{claim_checked, claim_numbered, claim_located, unused_is, claim_barred, claim_missed, claimed_again, claimed_anew}
use Rattle.queries.proofs.Claimable.{claim_tells, claim_refuses}
use Rattle.queries.proofs.claiming.can_claim.Goals as goal
use Rattle.queries.proofs.claiming.can_claim.Goals.{Else-permissions-eq0, In-Some}

may : (c : Else-permissions-eq0) → permits CLAIM c.args.quota (accounts_of c.args.words.now) ≡ true
may c =
    let a = c.args in
    permitted CLAIM a.quota (accounts_of a.words.now) (λ z. c.if-permissions-eq0.false (ap (λ (x : ℕ). x / CLAIM % 2) c.permissions.ensures ∙ z))

lies : (c : In-Some) → Located c.args.heap.now c.args.handle c.in-Some.block
lies c = claim_located c.asked.ensures c.survey.ensures c.in_ok-known.known c.in_ok-known.was c.in-Some.block c.in-Some.is

pub returns-in_err-known : goal.returns-in_err-known
returns-in_err-known c =
    let k = accounts_of c.args.words.now in
    let p = err_from_is_err_and c.from_residual.result c.from_residual.ensures.1 in
    rw (p.1, p.2) (claim_refuses _ (claim_checked c.asked.ensures c.survey.ensures _ c.in_err-known.was (not_claimed _ k) refl))

pub returns-then-quota-ge-QUOTAS : goal.returns-then-quota-ge-QUOTAS
returns-then-quota-ge-QUOTAS c =
    let k = accounts_of c.args.words.now in
    claim_refuses QuotaNumber (claim_numbered c.asked.ensures c.survey.ensures c.in_ok-known.known c.in_ok-known.was c.if-quota-ge-QUOTAS.true
    (not_claimed QuotaNumber k) refl)

pub returns-then-permissions-eq0 : goal.returns-then-permissions-eq0
returns-then-permissions-eq0 c =
    let no = ap (λ (x : ℕ). x / CLAIM % 2) (sym c.permissions.ensures) ∙ c.if-permissions-eq0.true in
    let k = accounts_of c.args.words.now in
    claim_refuses NotPermitted (claim_barred c.asked.ensures c.survey.ensures c.in_ok-known.known c.in_ok-known.was c.if-quota-ge-QUOTAS.false no
    (not_claimed NotPermitted k) refl)

pub returns-in_default : goal.returns-in_default
returns-in_default c =
    let k = accounts_of c.args.words.now in
    claim_refuses NoSuchObject (claim_missed c.asked.ensures c.survey.ensures c.in_ok-known.known c.in_ok-known.was c.if-quota-ge-QUOTAS.false
    (may (goal.at.returns-in_default c).Else-permissions-eq0) c.in_default.is (not_claimed NoSuchObject k) refl)

pub overflow_sub-length : goal.overflow_sub-length
overflow_sub-length c = let l = lies (goal.at.overflow_sub-length c).In-Some in omega (arith, l.header)

pub overflow_cast-length : goal.overflow_cast-length
overflow_cast-length c =
    let l = lies (goal.at.overflow_cast-length c).In-Some in record { fits = omega (arith, l.header, l.end) }

pub returns-in-Some-holder : goal.returns-in-Some-holder
returns-in-Some-holder c =
    let r = claim_again c.in-Some-holder.at (c.in-Some.block.size - 8) (accounts_of c.args.words.now) in
    claim_tells r
    (claimed_again c.asked.ensures c.survey.ensures c.in_ok-known.known c.in_ok-known.was c.if-quota-ge-QUOTAS.false
    (may (goal.at.returns-in-Some-holder c).Else-permissions-eq0) c.in-Some.block c.in-Some.is c.in-Some-holder.at c.in-Some-holder.is r refl)
    (verdict_values c.can_count.result) (c.can_count.ensures (c.in-Some.block.size - 8))

pub can_pay-requires : goal.can_pay-requires
can_pay-requires c =
    let l = lies (goal.at.can_pay-requires c).In-Some in
    (omega (arith, l.header, l.end), unused_is c.asked.ensures c.survey.ensures c.in_ok-known.known c.in_ok-known.was)

pub returns : goal.returns
returns c =
    let a = c.args in
    let hold : Hold = record { serial = a.handle.serial; quota = a.quota % 256; count = 1 } in
    let r = claim_first a.quota hold (c.in-Some.block.size - 8) (accounts_of a.words.now) in
    claim_tells r
    (claimed_anew c.asked.ensures c.survey.ensures c.in_ok-known.known c.in_ok-known.was c.if-quota-ge-QUOTAS.false
    (may (goal.at.returns c).Else-permissions-eq0) c.in-Some.block c.in-Some.is c.in_default-holder.is r refl)
    (verdict_values c.can_pay.result) (c.can_pay.ensures hold)
