-- Lists of calls that the functions make (rule 10.1): an accepted opening, then calls, each on the heap and the
-- accounts that the one before left, and bytes written inside live objects in between. Of each call nothing is known
-- but its contract.
use Rattle.std.specs.Prelude.{ℕ, ◌<◌, ◌^◌, ◌≡◌, List, [], ◌∷◌, length, get_or, Ok}
use Rattle.accounts.specs.declared.Accounts.{Accounts}
use Rattle.accounts.specs.declared.settings.Settings.{Settings}
use Rattle.accounts.specs.Accounts.{QUOTAS}
use Rattle.rounding.specs.Rounding.{table}
use Rattle.model.specs.Answers.{answer_values}
use Rattle.model.specs.Calls.{open_heap}
use Rattle.model.specs.Step.{performed}
use Rattle.model.specs.declared.Answer.{Answer}
use Rattle.model.specs.declared.Call.{Call}
use Rattle.ledger.specs.Ledger.{Event, Called, Wrote}
use Rattle.ledger.specs.History.{Written}
use Rattle.results.specs.Results.{opened_outcome}

-- grants as an opening takes them: one for each quota, of 32 bits
pub record Granted (grants : List ℕ) : Type 0 where
  pub quotas : length grants ≡ QUOTAS
  pub narrow : (q : ℕ) → get_or grants q 0 < 2 ^ 32

-- the events, the newest first, that lead to a heap and to whatever holds its accounts: the accounts themselves, or the
-- words in which they lie (`accounts_of`). `Opens` and `Calls` ask for what the contracts of `open` and `perform`
-- promise
module _ {S : Type 0} (accounts : S → Accounts) (settings : Settings) (grants : List ℕ) where
  pub data Performs : List Event → List ℕ → S → Type 0 where
    Opens : (before s : List ℕ) (w : S)
        → opened_outcome s (record { accounts = accounts w; verdict = Ok tt }) ≡ open_heap settings before grants
        → Performs [] s w
    Calls : {es : List Event} {s : List ℕ} {w : S} → Performs es s w → (c : Call) (a : Answer) (s' : List ℕ) (w' : S)
        → record { heap = s'; accounts = accounts w'; answer = a }
        ≡ performed (table (accounts w).edition) c s (accounts w)
        → Performs (Called c (answer_values a) ∷ es) s' w'
    Writes : {es : List Event} {s : List ℕ} {w : S} → Performs es s w → (s' : List ℕ) → Written s s'
        → Performs (Wrote ∷ es) s' w
