-- The wrong heaps of rules 19.9 and 22.15: what each does instead of `release` or `free_all`. That clean-up in any order does not hold of them is
-- `proofs/Wrong.antt`.
use Rattle.std.specs.Prelude.{◌-◌, ◌%◌, List, reverse, cond, length, set, leb}
use Rattle.accounts.specs.declared.Hold.{Hold}
use Rattle.accounts.specs.Accounts.{zero_hold, with_holds, with_edition, drop_records, remaining, used, unused, is_for}
use Rattle.rounding.specs.Rounding.{table}
use Rattle.lists.specs.Lists.{all, first, change_first, or_else}
use Rattle.model.specs.Answers.{refused, amount_of}
use Rattle.model.specs.Objects.{objects_of}
use Rattle.model.specs.Calls.{unchanged, sweep}
use Rattle.cleanup.specs.Releases.{Run, own_release}
use Rattle.cleanup.specs.FreeAll.{Freeing, own_free_all}

-- only the newest object may be released
unfoldable pub newest_first : Run
newest_first s k q h =
    cond (all (λ o. leb o.serial h.serial) (objects_of s)) (own_release s k q h) (unchanged s k (refused 5))

-- the heap's last byte tells which object was released last
unfoldable pub remembers_the_last : Run
remembers_the_last s k q h =
    let t = own_release s k q h in
    record { heap = set t.heap (length t.heap - 1) (h.serial % 256); accounts = t.accounts; values = t.values }

-- the last used record moves to the lowest unused place
unfoldable pub close_gap : List Hold → List Hold
close_gap hs =
    let l = or_else zero_hold (first used (reverse hs)) in
    change_first unused (λ h. l) (change_first (is_for l.serial l.quota) (λ h. zero_hold) hs)

unfoldable pub closes_gaps : Run
closes_gaps s k q h =
    let t = own_release s k q h in
    record { heap = t.heap; accounts = with_holds (close_gap t.accounts.holds) t.accounts; values = t.values }

-- a release answers what remains now
unfoldable pub tells_the_remainder : Run
tells_the_remainder s k q h =
    let t = own_release s k q h in
    record { heap = t.heap; accounts = t.accounts; values = amount_of (remaining q t.accounts) }

-- a release sweeps what waited before it
unfoldable pub sweeps_first : Run
sweeps_first s k q h =
    let t = sweep (table k.edition) s k in
    own_release t.heap t.accounts q h

-- a release leaves edition 2 in the accounts, so the next one goes by another table
unfoldable pub changes_the_edition : Run
changes_the_edition s k q h =
    let t = own_release s k q h in
    record { heap = t.heap; accounts = with_edition 1 t.accounts; values = t.values }

-- free-all leaves the objects of the quota alone in the heap
unfoldable pub keeps_the_heap : Freeing
keeps_the_heap s k q =
    let t = own_free_all s k q in
    record { heap = s; accounts = t.accounts; values = t.values }

-- free-all drops the records and pays nothing back
unfoldable pub pays_nothing : Freeing
pays_nothing s k q =
    let t = own_free_all s k q in
    record { heap = t.heap; accounts = with_holds (drop_records q k.holds) k; values = t.values }

-- free-all answers what remains now
unfoldable pub answers_the_remainder : Freeing
answers_the_remainder s k q =
    let t = own_free_all s k q in
    record { heap = t.heap; accounts = t.accounts; values = amount_of (remaining q t.accounts) }
