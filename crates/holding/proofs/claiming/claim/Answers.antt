-- `holding::claim` meets its contract: the survey, the quota, its permission and the object decide in the order of claim's lines, and then the place of the
-- quota's record picks the way of the claim. The block lies in the heap, so its length is short and the charge fits.
use Prim.Native.Nat.{ℕ, ◌/◌, ◌%◌}
use native.Mathlib.Omega.{arith}
use mathlib.Core.Path.{◌≡◌, refl, ap, sym, ◌∙◌}
use mathlib.Core.Bool.{true}
use Rattle.std.proofs.lemmas.Result.{err_from_is_err_and}
use Rattle.accounts.specs.Accounts.{CLAIM, permits}
use Rattle.results.proofs.Lines.{permitted}
use Rattle.results.proofs.Lookups.{Located}
use Rattle.words.specs.Words.{accounts_of}
use Rattle.holding.proofs.ClaimAnswers.{claim_checked, claim_numbered, claim_located, unused_is, claim_barred, claim_missed, claimed_again, claimed_anew}
use Rattle.holding.proofs.claiming.claim.Goals as goal
use Rattle.holding.proofs.claiming.claim.Goals.{Else-permissions-eq0, In-Some}

may : (c : Else-permissions-eq0) → permits CLAIM c.args.quota (accounts_of c.args.words.now) ≡ true
may c =
    let a = c.args in
    permitted CLAIM a.quota (accounts_of a.words.now) (λ z. c.if-permissions-eq0.false (ap (λ (x : ℕ). x / CLAIM % 2) c.permissions.ensures ∙ z))

lies : (c : In-Some) → Located c.args.heap.now c.args.handle c.in-Some.block
lies c = claim_located c.asked.ensures c.survey.ensures c.in_ok-known.known c.in_ok-known.was c.in-Some.block c.in-Some.is

pub returns-in_err-known-clause-holds : goal.returns-in_err-known-clause-holds
returns-in_err-known-clause-holds c =
    let p = err_from_is_err_and c.from_residual.result c.from_residual.ensures.1 in
    rw (p.1, p.2) (claim_checked c.asked.ensures c.survey.ensures _ c.in_err-known.was _ refl)

pub returns-then-quota-ge-QUOTAS-clause-holds : goal.returns-then-quota-ge-QUOTAS-clause-holds
returns-then-quota-ge-QUOTAS-clause-holds c =
    claim_numbered c.asked.ensures c.survey.ensures c.in_ok-known.known c.in_ok-known.was
    c.if-quota-ge-QUOTAS.true _ refl

pub returns-then-permissions-eq0-clause-holds : goal.returns-then-permissions-eq0-clause-holds
returns-then-permissions-eq0-clause-holds c =
    let no = ap (λ (x : ℕ). x / CLAIM % 2) (sym c.permissions.ensures) ∙ c.if-permissions-eq0.true in
    claim_barred c.asked.ensures c.survey.ensures c.in_ok-known.known c.in_ok-known.was
    c.if-quota-ge-QUOTAS.false no _ refl

pub returns-in_default-clause-holds : goal.returns-in_default-clause-holds
returns-in_default-clause-holds c =
    claim_missed c.asked.ensures c.survey.ensures c.in_ok-known.known c.in_ok-known.was
    c.if-quota-ge-QUOTAS.false (may (goal.at.returns-in_default-clause-holds c).Else-permissions-eq0) c.in_default.is _ refl

pub overflow_sub-length : goal.overflow_sub-length
overflow_sub-length c = let l = lies (goal.at.overflow_sub-length c).In-Some in omega (arith, l.header)

pub overflow_cast-length : goal.overflow_cast-length
overflow_cast-length c =
    let l = lies (goal.at.overflow_cast-length c).In-Some in record { fits = omega (arith, l.header, l.end) }

pub returns-in-Some-holder-clause-holds : goal.returns-in-Some-holder-clause-holds
returns-in-Some-holder-clause-holds c =
    claimed_again c.asked.ensures c.survey.ensures c.in_ok-known.known c.in_ok-known.was
    c.if-quota-ge-QUOTAS.false (may (goal.at.returns-in-Some-holder-clause-holds c).Else-permissions-eq0) c.in-Some.block c.in-Some.is
    c.in-Some-holder.at c.in-Some-holder.is _ c.claim_again.ensures.holds

pub claim_first-requires : goal.claim_first-requires
claim_first-requires c =
    let l = lies (goal.at.claim_first-requires c).In-Some in (
      omega (arith, l.header, l.end),
      unused_is c.asked.ensures c.survey.ensures c.in_ok-known.known c.in_ok-known.was,
    )

pub returns-clause-holds : goal.returns-clause-holds
returns-clause-holds c =
    claimed_anew c.asked.ensures c.survey.ensures c.in_ok-known.known c.in_ok-known.was
    c.if-quota-ge-QUOTAS.false (may (goal.at.returns-clause-holds c).Else-permissions-eq0) c.in-Some.block c.in-Some.is
    c.in_default-holder.is _ c.claim_first.ensures.holds
