-- How the definitions are held to tables: a case has a state, calls, their answers and what they leave, heap bytes and the whole accounts.
-- The tables are `Cases`, `Lines` and `Inconsistent`; that the definitions give them is proved by computing, in the proofs of these names.
use Rattle.std.specs.Prelude.{ℕ, ◌-◌, List, [], ◌∷◌, ◌++◌, length, take, drop, replicate}
use Rattle.accounts.specs.declared.Quota.{Quota}
use Rattle.accounts.specs.declared.Hold.{Hold}
use Rattle.accounts.specs.declared.Accounts.{Accounts}
use Rattle.accounts.specs.Accounts.{QUOTAS, zero_hold}
use Rattle.model.specs.Answers.{Values, accepted}
use Rattle.model.specs.Calls.{Outcome, unchanged}
use Rattle.model.specs.Step.{step}
use Rattle.model.specs.declared.Call.{Call}

-- the state before, the calls, their answers, the bytes that then stand from a place on, and the accounts
pub data Case : Type 0 where
  case : Outcome → List Call → List Values → ℕ → List ℕ → Accounts → Case

module _ (units : ℕ → ℕ) where
  unfoldable pub run : Outcome → List Call → Outcome
  run t [] = t
  run t (c ∷ cs) = run (step units c t.heap t.accounts) cs

  unfoldable pub values_of : Outcome → List Call → List Values
  values_of t [] = []
  values_of t (c ∷ cs) =
      let u = step units c t.heap t.accounts in
      u.values ∷ values_of u cs

  -- what a case gives
  unfoldable pub got : Case → List Values × List ℕ × Accounts
  got (case t cs vs at bytes k) =
      let u = run t cs in
      (values_of t cs, take (length bytes) (drop at u.heap), u.accounts)

-- what it has to give
unfoldable pub wanted : Case → List Values × List ℕ × Accounts
wanted (case t cs vs at bytes k) = (vs, bytes, k)

-- a header as its eight bytes, where each number is below 256; and zeros
abbrev pub head : ℕ → ℕ → ℕ → List ℕ
head size back serial = size ∷ 0 ∷ back ∷ 0 ∷ serial ∷ 0 ∷ 0 ∷ 0 ∷ []

abbrev pub zeros : ℕ → List ℕ
zeros n = replicate n 0

-- these bytes, one part after the other
unfoldable pub parts : List (List ℕ) → List ℕ
parts [] = []
parts (p ∷ ps) = p ++ parts ps

-- a quota with this number as its permissions, and one with all three
abbrev pub quota_with : ℕ → ℕ → ℕ → Quota
quota_with p g r = record { grant = g; remainder = r; permissions = p }

abbrev pub quota : ℕ → ℕ → Quota
quota g r = quota_with 7 g r

abbrev pub hold : ℕ → ℕ → ℕ → Hold
hold s q n = record { serial = s; quota = q; count = n }

-- how many records the accounts of a case have: few, since a check looks at all of them for each object and quota, and no line but 9 counts them
abbrev pub places : ℕ
places = 8

-- accounts with so many records whose tables begin with these quotas and these records; behind them are quotas with no grant and every permission, and
-- unused records
abbrev pub accounts_to : ℕ → List Quota → ℕ → List Hold → Accounts
accounts_to n qs last hs =
    record {
      quotas = qs ++ replicate (QUOTAS - length qs) (quota 0 0);
      last_serial = last;
      holds = hs ++ replicate (n - length hs) zero_hold;
      kind = 0;
      edition = 0;
    }

unfoldable pub accounts_of : List Quota → ℕ → List Hold → Accounts
accounts_of qs last hs = accounts_to places qs last hs

-- a state of these bytes and accounts, and one in which other bytes were written from a place on
abbrev pub state : List ℕ → Accounts → Outcome
state s k = unchanged s k accepted

unfoldable pub written : ℕ → List ℕ → Outcome → Outcome
written at bytes t = state (take at t.heap ++ (bytes ++ drop (length bytes) (drop at t.heap))) t.accounts
