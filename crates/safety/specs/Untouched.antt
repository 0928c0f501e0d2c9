-- What a quota has is its own (rules 24.12 and 24.13): no call made for another changes its numbers, its holds, or a byte of an object that it holds.
use Rattle.std.specs.Prelude.{ℕ, ◌<◌, ◌≡◌, Some}
use mathlib.Core.List.{List, Memᴰ}
use Rattle.accounts.specs.declared.Accounts.{Accounts}
use Rattle.accounts.specs.Accounts.{quota_at}
use Rattle.model.specs.Objects.{objects_of}
use Rattle.model.specs.Holds.{count_of}
use Rattle.model.specs.Calls.{Outcome}
use Rattle.model.specs.declared.Handle.{Handle}
use Rattle.model.specs.declared.Call.{Call}
use Rattle.ledger.specs.Ledger.{Ledger, Event}
use Rattle.ledger.specs.History.{Run, History}
use Rattle.ledger.specs.Contents.{contents}
use Rattle.safety.specs.Arguments.{quota_of}

-- a call is made for another quota, or for none in particular
abbrev pub MadeForAnother : ℕ → Call → Type 0
MadeForAnother q c = quota_of c ≡ Some q → ⊥

-- what an outcome leaves of a quota: its grant, remainder and permissions, its holds, and the objects that it holds, each in its place with its bytes
pub record Keeps (q : ℕ) (s : List ℕ) (k : Accounts) (t : Outcome) : Type 0 where
  pub quota : quota_at q t.accounts ≡ quota_at q k
  pub holds : (serial : ℕ) → count_of serial q t.accounts.holds ≡ count_of serial q k.holds
  pub objects : (o : Handle) → Memᴰ o (objects_of s) → 0 < count_of o.serial q k.holds
      → Memᴰ o (objects_of t.heap) × (contents o t.heap ≡ contents o s)

pub record Untouched (tables : ℕ → ℕ → ℕ) (run : Run) : Type 0 where
  pub always : (begun : Ledger) (es : List Event) (s : List ℕ) (k : Accounts) → History tables run begun es s k
      → (q : ℕ) (c : Call) → MadeForAnother q c → Keeps q s k (run c s k)
