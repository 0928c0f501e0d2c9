-- What a call has shown before it changes anything.
use Rattle.std.specs.Prelude.{ℕ, ◌≤◌, ◌<◌, ◌≡◌, List, true, length, Some}
use Rattle.accounts.specs.declared.Accounts.{Accounts}
use Rattle.accounts.specs.Accounts.{QUOTAS, ALLOCATE, permits, find_hold}
use Rattle.lookup.specs.declared.Met.{Met}
use Rattle.lookup.specs.Walk.{find_object}
use Rattle.model.specs.Consistent.{allowed, accounted as is_accounted, consistent as is_consistent}
use Rattle.model.specs.Refusals.{greatest_length}
use Rattle.model.specs.declared.Handle.{Handle}

-- lines 1 to 3 do not hold, with a table of units; what is consistent is accounted for
pub record Checked (unit : ℕ → ℕ) (s : List ℕ) (k : Accounts) (q : ℕ) : Type 0 where
  pub extent : allowed (length s) ≡ true
  pub accounted : is_accounted s k ≡ true
  pub consistent : is_consistent unit s k ≡ true
  pub exists : q < QUOTAS

-- nor do lines 12 and 4
pub record Ready (unit : ℕ → ℕ) (s : List ℕ) (k : Accounts) (q n : ℕ) : Type 0 where
  pub checked : Checked unit s k q
  pub permitted : permits ALLOCATE q k ≡ true
  pub some : 0 < n
  pub short : n ≤ greatest_length

-- nor do lines 5 and 6 of a release: the lookup found the block m, and the quota's record for its object stands at place i
pub record Holding (unit : ℕ → ℕ) (s : List ℕ) (k : Accounts) (q : ℕ) (m : Met) (i : ℕ) : Type 0 where
  pub checked : Checked unit s k q
  pub handle : Handle
  pub named : find_object handle s ≡ Some m
  pub place : find_hold m.serial q k ≡ Some i
