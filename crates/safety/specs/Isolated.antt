-- What a quota can learn of the others (rules 24.10 and 24.11): two states that look alike to a quota answer its calls alike.
use Rattle.std.specs.Prelude.{ℕ, ◌≡◌, List, true, Some}
use Rattle.accounts.specs.declared.Accounts.{Accounts}
use Rattle.accounts.specs.Accounts.{quota_at, used}
use Rattle.lists.specs.Lists.{all}
use Rattle.model.specs.Consistent.{consistent as is_consistent}
use Rattle.model.specs.Holds.{count_of}
use Rattle.model.specs.declared.Call.{Call}
use Rattle.ledger.specs.History.{Run}
use Rattle.safety.specs.Arguments.{quota_of}

-- a call is made for this quota, or for none in particular
abbrev pub MadeFor : ℕ → Call → Type 0
MadeFor q c = (p : ℕ) → quota_of c ≡ Some p → p ≡ q

-- accounts that the quota cannot tell apart: its grant, remainder and permissions, its holds, the edition, the last serial, and whether a record is left
pub record Alike (q : ℕ) (k k' : Accounts) : Type 0 where
  pub quota : quota_at q k ≡ quota_at q k'
  pub holds : (serial : ℕ) → count_of serial q k.holds ≡ count_of serial q k'.holds
  pub edition : k.edition ≡ k'.edition
  pub last : k.last_serial ≡ k'.last_serial
  pub record_left : all used k.holds ≡ all used k'.holds

-- over the same heap they give the same answers. Any two consistent states; no history is asked for
pub record Isolated (tables : ℕ → ℕ → ℕ) (run : Run) : Type 0 where
  pub always : (q : ℕ) (s : List ℕ) (k k' : Accounts) → is_consistent (tables k.edition) s k ≡ true → is_consistent (tables k'.edition) s k' ≡ true
      → Alike q k k' → (c : Call) → MadeFor q c → (run c s k).values ≡ (run c s k').values
