-- Clean-up (rules, section 19): a list of releases, one after the other with no writing in between, and what every order of it has in common.
use Rattle.std.specs.Prelude.{ℕ, ◌<◌, ◌^◌, ◌≡◌, Bool, true, length, get_or, eqb}
use mathlib.Core.List.{List, [], ◌∷◌, Permᴰ}
use Rattle.accounts.specs.declared.Accounts.{Accounts}
use Rattle.accounts.specs.Accounts.{QUOTAS, zero_quota}
use Rattle.layout.specs.Bytes.{Octets}
use Rattle.rounding.specs.Rounding.{table}
use Rattle.lists.specs.Lists.{all}
use Rattle.model.specs.Answers.{Values}
use Rattle.model.specs.Calls.{Outcome, release}
use Rattle.model.specs.declared.Handle.{Handle}

-- whatever performs a release on a heap and its accounts, for a quota and with a handle
abbrev pub Run : Type 0
Run = List ℕ → Accounts → ℕ → Handle → Outcome

-- rules 19.1 and 23.4: a release goes by the table of the edition in the accounts that it is made on. By any family of
-- tables, one for each edition; and by the family of rule 23.3, as the function does
abbrev pub release_by : (ℕ → ℕ → ℕ) → Run
release_by tables s k q h = release (tables k.edition) s k q h

abbrev pub own_release : Run
own_release = release_by table

-- one release of a list: who releases, and what
pub record Drop : Type 0 where
  pub quota : ℕ
  pub handle : Handle

-- its answer: to whom, and the values
pub record Answered : Type 0 where
  pub quota : ℕ
  pub values : Values

-- what a list of releases leaves, and the answers in order
pub record Cleaned : Type 0 where
  pub heap : List ℕ
  pub accounts : Accounts
  pub answers : List Answered

-- rule 19.1: each release is made on what the one before it left
unfoldable pub cleaned : Run → List Drop → List ℕ → Accounts → Cleaned
cleaned run [] s k = record { heap = s; accounts = k; answers = [] }
cleaned run (d ∷ ds) s k =
    let t = run s k d.quota d.handle in
    let rest = cleaned run ds t.heap t.accounts in
    record { heap = rest.heap; accounts = rest.accounts; answers = record { quota = d.quota; values = t.values } ∷ rest.answers }

-- rule 19.2: every release of the list was accepted
unfoldable pub accepted_throughout : List Answered → Bool
accepted_throughout answers = all (λ a. eqb a.values.refusal 0) answers

-- heap and accounts are what their types can hold: bytes, so many quotas, 32-bit grants
pub record Fits (s : List ℕ) (k : Accounts) : Type 0 where
  pub octets : Octets s
  pub quotas : length k.quotas ≡ QUOTAS
  pub narrow : (q : ℕ) → (get_or k.quotas q zero_quota).grant < 2 ^ 32

-- rules 19.3 to 19.5: the second list does as the first. It is accepted throughout, leaves the same heap bytes and accounts, and gives each quota the same
-- answers
pub record SameCleanup (run : Run) (ds es : List Drop) (s : List ℕ) (k : Accounts) : Type 0 where
  pub accepted : accepted_throughout (cleaned run es s k).answers ≡ true
  pub heap : (cleaned run es s k).heap ≡ (cleaned run ds s k).heap
  pub accounts : (cleaned run es s k).accounts ≡ (cleaned run ds s k).accounts
  pub answers : Permᴰ (cleaned run ds s k).answers (cleaned run es s k).answers

-- a list of releases that is accepted throughout in one order does the same in every order
pub record AnyOrder (run : Run) : Type 0 where
  pub always : (ds es : List Drop) → Permᴰ ds es → (s : List ℕ) (k : Accounts) → Fits s k → accepted_throughout (cleaned run ds s k).answers ≡ true
      → SameCleanup run ds es s k
