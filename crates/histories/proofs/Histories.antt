-- Every list of calls that the functions make is a history, so demand 3 holds of it, at every split of its events: by
-- value, and in place, where words hold the accounts.
use Rattle.std.specs.Prelude.{Result, Ok}
use Rattle.model.specs.declared.Refusal.{Refusal}
use Prim.Native.Nat.{ℕ}
use mathlib.Core.Path.{◌≡◌, refl, sym, subst}
use mathlib.Core.List.{List, [], ◌∷◌, ◌++◌}
use Rattle.accounts.specs.declared.Accounts.{Accounts}
use Rattle.accounts.specs.declared.settings.Settings.{Settings}
use Rattle.rounding.specs.Rounding.{table}
use Rattle.words.specs.Words.{edition_of, accounts_of}
use Rattle.model.specs.Answers.{answer_values, verdict_values}
use Rattle.model.specs.Step.{own_step, performed}
use Rattle.model.specs.Calls.{open_heap}
use Rattle.model.specs.declared.Answer.{Answer}
use Rattle.model.specs.declared.Call.{Call}
use Rattle.model.proofs.Answers.{performed_step}
use Rattle.ledger.specs.Ledger.{Event, Called, empty}
use Rattle.ledger.specs.History.{Opening, History}
use Rattle.ledger.specs.Demand3.{Holds}
use Rattle.ledger.proofs.Theorem.{demand_3}
use Rattle.results.specs.Results.{opened_outcome, opened_result}
use Rattle.histories.specs.Performs.{Granted, Performs, Opens, Calls, Writes}
use Rattle.histories.proofs.CallRows

-- what the contracts of `in_place::open` and `in_place::perform` promise, word for word, are the first event and the
-- next one
module _ (settings : Settings) (grants : List ℕ) where
  pub opens_in_place : (before s words : List ℕ) (r : Result (Unit {0}) Refusal) → r ≡ Ok tt
      → opened_outcome s (opened_result words r) ≡ open_heap settings before grants
      → Performs accounts_of settings grants [] s words
  opens_in_place before s words r a e =
      Opens before s words
      (subst (λ (v : Result (Unit {0}) Refusal). opened_outcome s (opened_result words v) ≡ open_heap settings before grants) a e)

  pub calls_in_place : {es : List Event} {s words : List ℕ} → Performs accounts_of settings grants es s words
      → (call : Call) (r : Answer) (s' words' : List ℕ)
      → record { heap = s'; accounts = accounts_of words'; answer = r }
      ≡ performed (table (edition_of words)) call s (accounts_of words)
      → Performs accounts_of settings grants (Called call (answer_values r) ∷ es) s' words'
  calls_in_place p call r s' words' e = Calls p call r s' words' e

module _ (settings : Settings) (grants : List ℕ) (granted : Granted grants) where
  -- THE LAW, wherever the accounts are
  pub performs_history : {S : Type 0} (accounts : S → Accounts) {es : List Event} {s : List ℕ} {w : S}
      → Performs accounts settings grants es s w → History table own_step (empty settings grants) es s (accounts w)
  unfolding verdict_values
  performs_history accounts (Opens before s w e) =
      Opening settings grants refl
      (record { before = before; quotas = granted.quotas; narrow = granted.narrow; opens = sym e })
  performs_history accounts (Calls {s = s} {w = w} p c a s' w' e) = (
    s,
    accounts w,
    performs_history accounts p,
    sym (performed_step (table (accounts w).edition) c s (accounts w) _ e),
  )
  performs_history accounts (Writes {s = s} p s' w) = (s, performs_history accounts p, w)

  -- so demand 3: of calls by value
  pub by_value_holds : (front back : List Event) (s : List ℕ) (k : Accounts)
      → Performs (λ (x : Accounts). x) settings grants (back ++ front) s k
      → Holds (table k.edition) own_step (empty settings grants) front back s k
  by_value_holds front back s k p =
      demand_3.always (empty settings grants) front back s k (performs_history (λ (x : Accounts). x) p)

  -- and of calls in place
  pub in_place_holds : (front back : List Event) (s words : List ℕ)
      → Performs accounts_of settings grants (back ++ front) s words
      → Holds (table (edition_of words)) own_step (empty settings grants) front back s (accounts_of words)
  in_place_holds front back s words p =
      demand_3.always (empty settings grants) front back s (accounts_of words) (performs_history accounts_of p)
