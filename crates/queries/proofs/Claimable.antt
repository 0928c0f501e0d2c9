-- Can claim by a claim: where a result is the claim's, its refusal is the answer.
use Rattle.std.specs.Prelude.{Err}
use Prim.Native.Nat.{ℕ}
use mathlib.Core.Path.{◌≡◌, refl, ap, ◌∙◌}
use mathlib.Core.List.{List}
use Rattle.accounts.specs.declared.Accounts.{Accounts}
use Rattle.model.specs.Answers.{Values, refused, verdict_values, amount_values}
use Rattle.model.specs.Calls.{Outcome, unchanged}
use Rattle.model.specs.declared.Refusal.{Refusal}
use Rattle.results.specs.Results.{AmountResult}
use Rattle.results.specs.Results.{outcome, amount_outcome}
use Rattle.holding.specs.Claims.{not_claimed}
use Rattle.queries.specs.Claimable.{refusal_in}

module _ {s : List ℕ} {k : Accounts} {t : Outcome} where
  pub claim_tells : (a : AmountResult) → amount_outcome s a ≡ t → (v : Values) → v ≡ refusal_in a
      → outcome s k v ≡ unchanged s k (refused t.values.refusal)
  claim_tells a e v f = ap (outcome s k) f ∙ ap (λ (o : Outcome). unchanged s k (refused o.values.refusal)) e

  pub claim_refuses : (x : Refusal) → amount_outcome s (not_claimed x k) ≡ t
      → outcome s k (verdict_values (Err x)) ≡ unchanged s k (refused t.values.refusal)
  unfolding verdict_values amount_values
  claim_refuses x e = claim_tells (not_claimed x k) e (verdict_values (Err x)) refl
