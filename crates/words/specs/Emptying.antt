-- A record becomes unused if it is one of a quota.
use Rattle.std.specs.Prelude.{ℕ, cond}
use Rattle.accounts.specs.declared.Accounts.{Accounts}
use Rattle.accounts.specs.Accounts.{record_of, hold_at, drop_hold}

unfoldable pub drop_at : ℕ → ℕ → Accounts → Accounts
drop_at at q k = cond (record_of q (hold_at at k)) (drop_hold at k) k
