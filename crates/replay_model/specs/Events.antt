-- The events of a replay, in the ledger's sense: the calls of its lines with what each answers, the newest first.
use Rattle.std.specs.Prelude.{ℕ, ◌<◌, ◌^◌, ◌≡◌, length, get_or, List, [], ◌∷◌, ◌++◌, Option, Some, None}
use Rattle.accounts.specs.declared.Accounts.{Accounts}
use Rattle.rounding.specs.Rounding.{table}
use Rattle.model.specs.Step.{own_step}
use Rattle.model.specs.declared.Call.{Call}
use Rattle.accounts.specs.Accounts.{QUOTAS, plain}
use Rattle.ledger.specs.Ledger.{Event, Called, Wrote, Saved, Restored, empty}
use Rattle.ledger.specs.History.{History}
use Rattle.ledger.specs.Demand3.{Holds}
use Rattle.replay_model.specs.Commands.{line_call}
use Rattle.replay_model.specs.Replay.{ok_line, bad_line, answer_line, ending, replay}

-- what lines lead to: the heap, the accounts and the events, and what is printed behind the answers
pub record Ran : Type 0 where
  pub heap : List ℕ
  pub accounts : Accounts
  pub events : List Event
  pub last : List ℕ

-- the call of a line, if it has one
unfoldable pub ran_call : Option Call → Ran → (Call → Ran) → Ran
ran_call None stopped go = stopped
ran_call (Some c) stopped go = go c

-- the lines behind the opening, on a heap and its accounts, with the events so far
unfoldable pub ran_lines : List (List ℕ) → List ℕ → Accounts → List Event → Ran
ran_lines [] s k es = record { heap = s; accounts = k; events = es; last = bad_line }
ran_lines (l ∷ []) s k es = record { heap = s; accounts = k; events = es; last = ending l s }
ran_lines (l ∷ (m ∷ ls)) s k es =
    ran_call (line_call l) (record { heap = s; accounts = k; events = es; last = bad_line })
    (λ c. ran_lines (m ∷ ls) (own_step c s k).heap (own_step c s k).accounts (Called c (own_step c s k).values ∷ es))

-- the answers to events, the oldest first
unfoldable pub answer_lines : List Event → List ℕ
answer_lines [] = []
answer_lines (Called c v ∷ es) = answer_lines es ++ answer_line c v
answer_lines (Wrote ∷ es) = answer_lines es
answer_lines (Saved s k ∷ es) = answer_lines es
answer_lines (Restored s k ∷ es) = answer_lines es

-- the input s, opened plain with these grants, leads to this: what it prints, that its events are a history, and what demand 3 says of it at every split of
-- the events into a front and a back
pub record Historical (s grants : List ℕ) (r : Ran) : Type 0 where
  pub printed : replay s ≡ ok_line [] ++ (answer_lines r.events ++ r.last)
  pub history : History table own_step (empty plain grants) r.events r.heap r.accounts
  pub holds : (front back : List Event) → r.events ≡ back ++ front
      → Holds (table r.accounts.edition) own_step (empty plain grants) front back r.heap r.accounts

-- a plain heap and its accounts that a history leads to, from an accepted opening
pub record Reached (s : List ℕ) (k : Accounts) : Type 0 where
  pub grants : List ℕ
  pub events : List Event
  pub history : History table own_step (empty plain grants) events s k

-- grants as an opening takes them: one for each quota, of 32 bits
pub record Granted (grants : List ℕ) : Type 0 where
  pub quotas : length grants ≡ QUOTAS
  pub narrow : (q : ℕ) → get_or grants q 0 < 2 ^ 32
