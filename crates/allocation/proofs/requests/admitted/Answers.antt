-- `allocation::admitted` meets its contract: the check, the quota's number, its permission and the length are the first lines of a request.
use Rattle.std.specs.Prelude.{Result, Err}
use Prim.Native.Nat.{ℕ, ◌/◌, ◌%◌}
use native.Mathlib.Omega.{arith}
use mathlib.Core.Path.{◌≡◌, ap, sym, ◌∙◌}
use mathlib.Core.Bool.{true}
use mathlib.Core.List.{List, ◌∷◌}
use Rattle.std.proofs.lemmas.Result.{err_from_is_err_and}
use Rattle.accounts.specs.declared.Accounts.{Accounts}
use Rattle.accounts.specs.Accounts.{ALLOCATE, permits}
use Rattle.model.specs.Answers.{refusal_number, verdict_values}
use Rattle.model.specs.Calls.{check}
use Rattle.model.specs.Refusals.{Line, first_refusal, line_1, line_2, line_3, line_4, line_12}
use Rattle.model.specs.declared.Refusal.{Refusal}
use Rattle.model.specs.declared.Refusal.TheVariants.{QuotaNumber, NotPermitted, ObjectLength}
use Rattle.results.proofs.Lines.{check_refuses, check_accepts, line_3_refuses, line_3_passes, line_12_refuses, line_12_passes, permitted}
use Rattle.words.specs.Words.{accounts_of}
use Rattle.survey.specs.declared.Known.{Known}
use Rattle.survey.specs.Survey.{verdict_in}
use Rattle.allocation.specs.Asked.{Admitted}
use Rattle.allocation.proofs.Ready.{line_4_zero, line_4_long}
use Rattle.allocation.proofs.requests.admitted.Goals as goal
use Rattle.allocation.proofs.requests.admitted.Goals.{Else-permissions-eq0}

-- a refusal by the first line that holds
refused : (k : Accounts) (v : Result Known Refusal) (q n : ℕ) (r : Refusal)
    → ((unit : ℕ → ℕ) (s : List ℕ) → verdict_values (verdict_in v) ≡ (check unit s k).values → (rest : List Line)
    → first_refusal (line_1 s ∷ line_2 unit s k ∷ line_3 q ∷ line_12 ALLOCATE k q ∷ line_4 n ∷ rest) ≡ refusal_number r)
    → Admitted k v q n (Err r)
unfolding verdict_values
refused k v q n r f = record {
  refuses = λ x e unit s told rest.
      (let same : r ≡ x = cc in f unit s told rest ∙ ap refusal_number same);
  accepts = λ x e. let z : ◌≡◌ {A = ℕ} 0 1 = cc in absurd (omega arith);
}

may : (c : Else-permissions-eq0) → permits ALLOCATE c.args.quota (accounts_of c.args.words.now) ≡ true
may c =
    permitted ALLOCATE c.args.quota (accounts_of c.args.words.now)
    (λ z. c.if-permissions-eq0.false (ap (λ (x : ℕ). x / ALLOCATE % 2) c.permissions.ensures ∙ z))

pub returns-in_err-known : goal.returns-in_err-known
returns-in_err-known c =
    let a = c.args in
    let k = accounts_of a.words.now in
    let p = err_from_is_err_and c.from_residual.result c.from_residual.ensures.1 in
    rw (p.1, p.2) (refused k a.surveyed a.quota a.length _ (λ unit s told rest.
    check_refuses unit s k (verdict_in a.surveyed) told (line_3 a.quota ∷ line_12 ALLOCATE k a.quota ∷ line_4 a.length ∷ rest) _
    (ap verdict_in c.in_err-known.was)))

pub returns-then-quota-ge-QUOTAS : goal.returns-then-quota-ge-QUOTAS
returns-then-quota-ge-QUOTAS c =
    let a = c.args in
    let k = accounts_of a.words.now in
    refused k a.surveyed a.quota a.length QuotaNumber (λ unit s told rest.
    let to_12 = line_12 ALLOCATE k a.quota ∷ line_4 a.length ∷ rest in
    check_accepts unit s k (verdict_in a.surveyed) told (line_3 a.quota ∷ to_12) (ap verdict_in c.in_ok-known.was)
    ∙ line_3_refuses a.quota to_12 c.if-quota-ge-QUOTAS.true)

pub returns-then-permissions-eq0 : goal.returns-then-permissions-eq0
returns-then-permissions-eq0 c =
    let a = c.args in
    let k = accounts_of a.words.now in
    let denied = ap (λ (z : ℕ). z / ALLOCATE % 2) (sym c.permissions.ensures) ∙ c.if-permissions-eq0.true in
    refused k a.surveyed a.quota a.length NotPermitted (λ unit s told rest.
    let to_4 = line_4 a.length ∷ rest in
    check_accepts unit s k (verdict_in a.surveyed) told (line_3 a.quota ∷ line_12 ALLOCATE k a.quota ∷ to_4) (ap verdict_in c.in_ok-known.was)
    ∙ line_3_passes a.quota (line_12 ALLOCATE k a.quota ∷ to_4) c.if-quota-ge-QUOTAS.false
    ∙ line_12_refuses ALLOCATE a.quota k to_4 denied)

-- the length's line, where the others do not hold
long : (c : Else-permissions-eq0) → ((rest : List Line) → first_refusal (line_4 c.args.length ∷ rest) ≡ 4)
    → let a = c.args in Admitted (accounts_of a.words.now) a.surveyed a.quota a.length (Err ObjectLength)
long c e =
    let a = c.args in
    let k = accounts_of a.words.now in
    refused k a.surveyed a.quota a.length ObjectLength (λ unit s told rest.
    let to_4 = line_4 a.length ∷ rest in
    check_accepts unit s k (verdict_in a.surveyed) told (line_3 a.quota ∷ line_12 ALLOCATE k a.quota ∷ to_4) (ap verdict_in c.in_ok-known.was)
    ∙ line_3_passes a.quota (line_12 ALLOCATE k a.quota ∷ to_4) c.if-quota-ge-QUOTAS.false
    ∙ line_12_passes ALLOCATE a.quota k to_4 (may c) ∙ e rest)

pub returns-then-length-eq0 : goal.returns-then-length-eq0
returns-then-length-eq0 c =
    long (goal.at.returns-then-length-eq0 c).Else-permissions-eq0 (λ rest. line_4_zero c.args.length rest c.if-length-eq0.true)

pub returns-then-length-gt-LONGEST : goal.returns-then-length-gt-LONGEST
returns-then-length-gt-LONGEST c =
    long (goal.at.returns-then-length-gt-LONGEST c).Else-permissions-eq0 (λ rest. line_4_long c.args.length rest c.if-length-gt-LONGEST.true)

pub returns : goal.returns
returns c =
    record {
      refuses = λ x e unit s told rest. let z : ◌≡◌ {A = ℕ} 0 1 = cc in absurd (omega arith);
      accepts = λ x e. (
        c.in_ok-known.was ∙ e,
        c.if-quota-ge-QUOTAS.false,
        may (goal.at.returns c).Else-permissions-eq0,
        omega (arith, c.if-length-eq0.false),
        c.if-length-gt-LONGEST.false,
      );
    }
