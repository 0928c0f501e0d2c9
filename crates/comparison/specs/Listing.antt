-- What is said of the list of differences: how two of them stand to each other, and what a longest run is.
use Rattle.std.specs.Prelude.{ℕ, suc, ◌+◌, ◌≤◌, ◌<◌, ◌≡◌, List, ◌⊎◌, ◌≢◌, length, get_or}
use Rattle.comparison.specs.Differences.{State}
use Rattle.comparison.specs.declared.Difference.{Difference}
use Rattle.comparison.specs.declared.Difference.TheVariants.{LastSerial, Kind, Edition, Quota, Record, Bytes}

-- where a difference stands: in which part, from where, and up to where
abbrev pub part_of : Difference → ℕ
part_of LastSerial = 0
part_of Kind = 1
part_of Edition = 2
part_of (Quota q) = 3
part_of (Record p) = 4
part_of (Bytes at n) = 5

abbrev pub start_of : Difference → ℕ
start_of LastSerial = 0
start_of Kind = 0
start_of Edition = 0
start_of (Quota q) = q
start_of (Record p) = p
start_of (Bytes at n) = at

abbrev pub stop_of : Difference → ℕ
stop_of LastSerial = 0
stop_of Kind = 0
stop_of Edition = 0
stop_of (Quota q) = q
stop_of (Record p) = p
stop_of (Bytes at n) = at + n

-- one comes before the other: it is of an earlier part, or of the same part and ends before the other starts. A run of bytes ends with the byte behind
-- it, so between two runs there is at least one byte
abbrev pub Before : Difference → Difference → Type 0
Before d e = (part_of d < part_of e) ⊎ ((part_of d ≡ part_of e) × (stop_of d < start_of e))

-- the n bytes from at on are a longest run in which two heaps of one length differ: all of them differ, and the bytes on both sides of them, where
-- there are any, do not
pub record Longest (s t : List ℕ) (at n : ℕ) : Type 0 where
  pub some : 0 < n
  pub fits : at + n ≤ length s
  pub inside : (k : ℕ) → at ≤ k → k < at + n → get_or s k 0 ≢ get_or t k 0
  pub left : (k : ℕ) → suc k ≡ at → get_or s k 0 ≡ get_or t k 0
  pub right : at + n < length s → get_or s (at + n) 0 ≡ get_or t (at + n) 0

-- two states of one size: as many heap bytes, quotas and records
pub record OneSize (a b : State) : Type 0 where
  pub heap : length a.heap ≡ length b.heap
  pub quotas : length a.accounts.quotas ≡ length b.accounts.quotas
  pub holds : length a.accounts.holds ≡ length b.accounts.holds
