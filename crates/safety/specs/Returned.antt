-- Nothing leaks (rules 24.7 to 24.9): when nobody holds anything and nothing is quarantined, heap and accounts are as an opening leaves them.
use Rattle.std.specs.Prelude.{ℕ, ◌≡◌, List, [], map, true, replicate}
use Rattle.accounts.specs.declared.Accounts.{Accounts}
use Rattle.accounts.specs.declared.settings.Settings.{Settings}
use Rattle.accounts.specs.Accounts.{QUOTAS, ALL_PERMISSIONS, kind_number, edition_number, grants, permissions}
use Rattle.accounts.specs.Accounts.{with_permissions, with_quotas, with_last_serial}
use Rattle.model.specs.Calls.{open_heap}
use Rattle.ledger.specs.Ledger.{Ledger, Event, empty, ledger_of}
use Rattle.ledger.specs.History.{Run, History}
use Rattle.safety.specs.Images.{AtLastImage}
use Rattle.safety.specs.Left.{blank}

-- the accounts with every permission set
unfoldable pub all_permitted : Accounts → Accounts
all_permitted k = with_quotas (map (with_permissions ALL_PERMISSIONS) k.quotas) k

-- the ledger has no object and no quarantined block
abbrev pub NobodyHolds : Ledger → Type 0
NobodyHolds l = (l.entries ≡ []) × (l.quarantined ≡ [])

-- opening the heap anew changes no byte of it, and of the accounts the last serial and permissions that were cleared; without the latter, the last serial
-- alone
pub record AsOpened (g : Settings) (given : List ℕ) (s : List ℕ) (k : Accounts) : Type 0 where
  pub heap : (open_heap g s given).heap ≡ s
  pub accounts : with_last_serial k.last_serial (open_heap g s given).accounts ≡ all_permitted k
  pub uncleared : permissions k ≡ replicate QUOTAS ALL_PERMISSIONS → with_last_serial k.last_serial (open_heap g s given).accounts ≡ k

pub record AllReturned (tables : ℕ → ℕ → ℕ) (run : Run) : Type 0 where
  -- from an opening on, without an image: with its settings and its grants
  pub opened : (g : Settings) (given : List ℕ) (es : List Event) (s : List ℕ) (k : Accounts) (h : History tables run (empty g given) es s k)
      → AtLastImage tables run (empty g given) (λ s k. ⊥) es s k h → NobodyHolds (ledger_of (empty g given) es) → AsOpened g given s k
  -- from an image on that is blank: with the settings and the grants of the accounts
  pub restored : (begun : Ledger) (es : List Event) (s : List ℕ) (k : Accounts) (h : History tables run begun es s k)
      → AtLastImage tables run begun (λ s k. blank s ≡ true) es s k h → NobodyHolds (ledger_of begun es)
      → (g : Settings) → kind_number g.kind ≡ k.kind → edition_number g.edition ≡ k.edition → AsOpened g (grants k) s k
