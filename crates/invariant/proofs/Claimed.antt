-- Claiming keeps a state good: a quota's count for an object that is there is raised by one, from none if the quota pays.
-- A first claim makes the object cost the quota its charge, which is what the quota is charged; a further one costs nothing.
use Prim.Native.Nat.{ℕ, ◌+◌, ◌≤◌, ◌<◌}
use native.Mathlib.Omega.{arith}
use mathlib.Core.Path.{◌≡◌, refl}
use mathlib.Core.List.{List, Memᴰ}
use mathlib.Core.Bool.{Bool, true, false, cond, ◌&&◌}
use mathlib.Core.Logic.{inr}
use lib.Dec.{eqb}
use borrow.Author.Tests.{not-true, not-false}
use Rattle.accounts.specs.declared.Hold.{Hold}
use Rattle.accounts.specs.declared.Accounts.{Accounts}
use Rattle.accounts.specs.Accounts.{QUOTAS, quota_at, used, remaining, charge, with_holds}
use Rattle.accounts.proofs.Laws.{Kept, kept, charge_kept}
use Rattle.lists.specs.Lists.{all}
use Rattle.model.specs.Objects.{objects}
use Rattle.model.specs.Consistent.{charge_of, has_record}
use Rattle.model.specs.Holds.{count_of, take_record, raise_count}
use Rattle.model.specs.Refusals.{claims_first}
use Rattle.model.specs.Calls.{State, claimed}
use Rattle.model.specs.declared.Handle.{Handle}
use Rattle.invariant.proofs.Good.{Ordered, Good}
use Rattle.invariant.proofs.Counts.{record_counted, unrecorded, take_ordered, take_count, raise_ordered, raise_counted}
use Rattle.invariant.proofs.Recorded.{due, good_laid, good_recorded, good_limits, good_state}
use Rattle.invariant.proofs.Payments.{same_grant, same_limits, charged, cost_some, owed_moved}
use Rattle.invariant.proofs.Moves.{Raised, raised_first, raised_elsewhere, raised_here, raised_stays, raised_recorded}

module _ (q : ℕ) (o : Handle) (t : State) (g : Good t) (there : Memᴰ o (objects t.blocks)) where
  -- a count is raised, the object costs the quota d more, and that is paid
  raised_good : (hs : List Hold) (r : Accounts) (d : ℕ) → Raised o.serial q t.accounts.holds hs → Ordered hs → Kept q t.accounts r
      → due hs q o ≡ due t.accounts.holds q o + d → ((j : ℕ) → (quota_at j r).remainder + cond (eqb q j) d 0 ≡ (quota_at j t.accounts).remainder)
      → Good (record { blocks = t.blocks; accounts = with_holds hs r })
  raised_good hs r d c ordered e more paid =
      let k = t.accounts in
      let os = objects t.blocks in
      let b = good_recorded t g in
      good_state (record { blocks = t.blocks; accounts = with_holds hs r }) (good_laid t g)
      (raised_recorded q o os os k (with_holds hs r) b c ordered there (λ p m. m) (λ p m. inr m) (λ p m. rw e.same_last (b.given p m))
      (λ j l.
      omega (
        arith,
        same_grant q k r e j,
        paid j,
        b.balance j l,
        owed_moved k.holds hs q o os d (good_laid t g).differ there
            (raised_elsewhere o.serial q k.holds hs c) more j,
      )))
      (same_limits q k r e hs (good_limits t g))

  module _ (exists : q < QUOTAS) (pays : claims_first t.accounts q o ≡ true → charge_of o.length ≤ remaining q t.accounts)
      (room : claims_first t.accounts q o ≡ true → all used t.accounts.holds ≡ false) where
    -- the records are in order
    ordered : Ordered t.accounts.holds
    ordered = (good_recorded t g).ordered

    -- a first claim: the quota has no record, and so no count
    module _ (first : claims_first t.accounts q o ≡ true) where
      unclaimed : has_record t.accounts.holds q o.serial ≡ false
      unfolding claims_first
      unclaimed = not-true (has_record t.accounts.holds q o.serial) first

      -- its count is 0
      none : count_of o.serial q t.accounts.holds ≡ 0
      none = unrecorded t.accounts.holds o.serial q unclaimed

      -- and becomes 1
      first_raised : Raised o.serial q t.accounts.holds (take_record o.serial q t.accounts.holds)
      first_raised = raised_first o.serial q _ _ none (take_count t.accounts.holds ordered o.serial q (room first) unclaimed exists)

      -- the quota pays the charge
      first_good : Good (record {
        blocks = t.blocks;
        accounts = with_holds (take_record o.serial q t.accounts.holds)
            (charge q (charge_of o.length) t.accounts);
      })
      first_good =
          let k = t.accounts in
          let n = charge_of o.length in
          raised_good (take_record o.serial q k.holds) (charge q n k) n first_raised
          (take_ordered k.holds ordered o.serial q (room first) unclaimed exists)
          (charge_kept q n k) (rw (raised_here o.serial q k.holds _ first_raised, none) (omega arith))
          (charged q n k (good_limits t g) exists (pays first))

    -- a further one: the quota has a record
    module _ (again : claims_first t.accounts q o ≡ false) where
      claimed_already : has_record t.accounts.holds q o.serial ≡ true
      unfolding claims_first
      claimed_already = not-false (has_record t.accounts.holds q o.serial) again

      -- its count is raised
      again_raised : Raised o.serial q t.accounts.holds (raise_count o.serial q t.accounts.holds)
      again_raised = raise_counted t.accounts.holds ordered o.serial q claimed_already

      -- and it pays nothing
      again_good : Good (record { blocks = t.blocks; accounts = with_holds (raise_count o.serial q t.accounts.holds) t.accounts })
      again_good =
          let k = t.accounts in
          let some = (record_counted k.holds ordered o.serial q).0 claimed_already in
          raised_good (raise_count o.serial q k.holds) k 0 again_raised (raise_ordered k.holds ordered o.serial q claimed_already)
          (kept q k) (omega (arith, cost_some _ o some, cost_some _ o (raised_stays o.serial q k.holds _ again_raised o.serial q some)))
          (λ j. nothing (eqb q j) (quota_at j k).remainder)
        where
          nothing : (x : Bool) (n : ℕ) → n + cond x 0 0 ≡ n
          nothing true n = omega arith
          nothing false n = omega arith

    -- in both cases the state is good
    pub claimed_good : Good (record { blocks = t.blocks; accounts = claimed q o t.accounts })
    unfolding claimed
    claimed_good = go (claims_first t.accounts q o) refl
      where
        go : (x : Bool) → claims_first t.accounts q o ≡ x → Good (record { blocks = t.blocks; accounts = claimed q o t.accounts })
        go true e = rw e (first_good e)
        go false e = rw e (again_good e)

    -- and the quota's count for the object is one more
    pub claimed_counts : (u j : ℕ) → count_of u j (claimed q o t.accounts).holds
        ≡ cond (eqb o.serial u && eqb q j) (count_of u j t.accounts.holds + 1) (count_of u j t.accounts.holds)
    unfolding claimed
    claimed_counts u j = go (claims_first t.accounts q o) refl
      where
        go : (x : Bool) → claims_first t.accounts q o ≡ x → count_of u j (claimed q o t.accounts).holds
            ≡ cond (eqb o.serial u && eqb q j) (count_of u j t.accounts.holds + 1) (count_of u j t.accounts.holds)
        go true e = rw e (first_raised e u j)
        go false e = rw e (again_raised e u j)
