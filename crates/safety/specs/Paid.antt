-- What is live is paid for (rule 24.14): the charges of all live objects are at most what the quotas have paid and not been given back.
use Rattle.std.specs.Prelude.{ℕ, ◌-◌, ◌≤◌, List}
use Rattle.accounts.specs.declared.Quota.{Quota}
use Rattle.accounts.specs.declared.Accounts.{Accounts}
use Rattle.lists.specs.Lists.{total}
use Rattle.model.specs.Objects.{objects_of}
use Rattle.model.specs.Consistent.{charge_of}
use Rattle.model.specs.declared.Handle.{Handle}
use Rattle.ledger.specs.Ledger.{Ledger, Event}
use Rattle.ledger.specs.History.{Run, History}

-- length + 8 of every live object
unfoldable pub live_charges : List ℕ → ℕ
live_charges s = total (λ (o : Handle). charge_of o.length) (objects_of s)

-- every quota's grant less its remainder
unfoldable pub paid_in : Accounts → ℕ
paid_in k = total (λ (x : Quota). x.grant - x.remainder) k.quotas

pub record PaidFor (tables : ℕ → ℕ → ℕ) (run : Run) : Type 0 where
  pub always : (begun : Ledger) (es : List Event) (s : List ℕ) (k : Accounts) → History tables run begun es s k → live_charges s ≤ paid_in k
