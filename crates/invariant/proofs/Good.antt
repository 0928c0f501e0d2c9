-- A good state: blocks and accounts of which a consistent heap is written; and records that are in order.
use Prim.Native.Nat.{ℕ, ◌<◌, ◌^◌}
use mathlib.Core.Path.{◌≡◌}
use mathlib.Core.List.{List}
use mathlib.Core.Bool.{Bool, true, not, ◌&&◌, ◌||◌}
use lib.ListN.{length, get_or}
use lib.Dec.{leb, ltb}
use Rattle.accounts.specs.declared.Hold.{Hold}
use Rattle.accounts.specs.Accounts.{QUOTAS, zero_quota, used}
use Rattle.layout.specs.Blocks.{size, QUARANTINED, AllWritable, AllOctets}
use Rattle.lists.specs.Lists.{all, total}
use Rattle.model.specs.Consistent.{allowed, records_differ}
use Rattle.model.specs.Calls.{State}
use Rattle.model.proofs.Consistent.{Tests}

-- records that are in order by themselves: a used one has a quota that exists and a count, and no two have the same serial and quota
unfoldable pub proper : Hold → Bool
proper h = not (used h) || (ltb h.quota QUOTAS && leb 1 h.count)

pub record Ordered (hs : List Hold) : Type 0 where
  pub each : all proper hs ≡ true
  pub differ : records_differ hs ≡ true

-- blocks and accounts of which a consistent heap is written
pub record Good (t : State) : Type 0 where
  pub writable : AllWritable t.blocks
  pub octets : AllOctets t.blocks
  pub extent : allowed (total size t.blocks) ≡ true
  pub tests : Tests t.blocks t.accounts
  pub quotas : length t.accounts.quotas ≡ QUOTAS
  pub narrow : (q : ℕ) → (get_or t.accounts.quotas q zero_quota).grant < 2 ^ 32
  pub serial : t.accounts.last_serial < QUARANTINED
