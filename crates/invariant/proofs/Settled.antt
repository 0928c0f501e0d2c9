-- Releasing and freeing keep a state good: counts fall, the objects that no record holds leave, and what they cost is given back.
-- What is given back is what the quota paid for them. With the remainder it is at most the grant, so it fits 32 bits and is paid in full.
use Prim.Native.Nat.{ℕ, ◌+◌, ◌-◌, ◌<◌, ◌^◌}
use native.Mathlib.Omega.{arith}
use mathlib.Core.Path.{◌≡◌, refl, ap, sym}
use mathlib.Core.List.{List, [], ◌∷◌, Memᴰ}
use mathlib.Core.Bool.{Bool, true, false, cond, ◌&&◌}
use lib.Dec.{eqb}
use borrow.Author.Tests.{eqb-true, eqb-false, eq-eqb}
use Rattle.accounts.specs.declared.Hold.{Hold}
use Rattle.accounts.specs.Accounts.{QUOTAS, remaining, refund, with_holds, drop_records}
use Rattle.accounts.proofs.Laws.{refund_kept}
use Rattle.lists.specs.Lists.{total, keep}
use Rattle.model.specs.Objects.{objects}
use Rattle.model.specs.Consistent.{charge_of, charges, has_record}
use Rattle.model.specs.Space.{settle, swept}
use Rattle.model.specs.Holds.{count_of, lower_count}
use Rattle.model.specs.Calls.{State, given_back, released, freed}
use Rattle.model.specs.declared.Handle.{Handle}
use Rattle.model.proofs.Settle.{object_held, settle_objects}
use Rattle.model.proofs.Sweep.{swept_objects}
use Rattle.invariant.proofs.Good.{Ordered, Good}
use Rattle.invariant.proofs.Counts.{record_counted, counted_quota, lower_ordered, lower_counted, drop_ordered, drop_count}
use Rattle.invariant.proofs.Charges.{cost, charges_counted, total_members}
use Rattle.invariant.proofs.Laid.{settle_laid, swept_laid}
use Rattle.invariant.proofs.Recorded.{due, owed, Recorded, good_laid, good_recorded, good_limits, good_state}
use Rattle.invariant.proofs.Payments.{same_grant, same_limits, refunded, cost_some, themselves, owed_moved}
use Rattle.invariant.proofs.Moves.{Fewer, kept_recorded}

-- counts fall, and a quota is paid back what it no longer owes
module _ (q n : ℕ) (t : State) (g : Good t) (exists : q < QUOTAS) (hs : List Hold) (r : Ordered hs)
    (less : (j : ℕ) → owed t.accounts.holds j (objects t.blocks) ≡ owed hs j (objects t.blocks) + cond (eqb q j) n 0) where
  -- what is paid back fits 32 bits
  fits : remaining q t.accounts + n < 2 ^ 32
  unfolding remaining
  fits = omega (arith, (good_recorded t g).balance q exists, (good_limits t g).narrow q, rw (eq-eqb q q refl) at (less q))

  -- and is paid in full
  settled_paid : remaining q (with_holds hs (refund q n t.accounts)) ≡ remaining q t.accounts + n
  unfolding remaining
  settled_paid = rw (eq-eqb q q refl) at (refunded q n t.accounts (good_limits t g) exists fits q)

  -- the objects that are held and the accounts fit together
  settled_recorded : Fewer hs t.accounts.holds → Recorded (objects (settle t.accounts.kind hs t.blocks))
      (with_holds hs (refund q n t.accounts))
  settled_recorded fewer =
      let k = t.accounts in
      let b = good_recorded t g in
      rw (settle_objects t.accounts.kind hs t.blocks)
      (kept_recorded (objects t.blocks) k (with_holds hs (refund q n k)) b r fewer (refund_kept q n k).same_last
      (λ j l. omega (
        arith,
        same_grant q k (refund q n k) (refund_kept q n k) j,
        refunded q n k (good_limits t g) exists fits j,
        b.balance j l,
        less
            j,
      )))

  -- and the state is good
  settled_good : Fewer hs t.accounts.holds → Good
      (record { blocks = settle t.accounts.kind hs t.blocks; accounts = with_holds hs (refund q n t.accounts) })
  settled_good fewer =
      let k = t.accounts in
      good_state (record { blocks = settle t.accounts.kind hs t.blocks; accounts = with_holds hs (refund q n k) })
      (settle_laid t.accounts.kind hs t.blocks (good_laid t g)) (settled_recorded fewer)
      (same_limits q k (refund q n k) (refund_kept q n k) hs (good_limits t g))

-- one count less costs the charge less if it was the last
cost_less : (n : ℕ) (o : Handle) → 0 < n → cost n o ≡ cost (n - 1) o + cond (eqb n 1) (charge_of o.length) 0
cost_less n o p = go (eqb n 1) refl
  where
    go : (x : Bool) → eqb n 1 ≡ x → cost n o ≡ cost (n - 1) o + cond x (charge_of o.length) 0
    go true e = rw (eqb-true n 1 e) (omega arith)
    go false e = let f = eqb-false n 1 e in omega (arith, cost_some n o p, cost_some (n - 1) o (omega (arith, f)))

-- an object that is there is released by a quota that has a record for it
module _ (q : ℕ) (o : Handle) (t : State) (g : Good t) (there : Memᴰ o (objects t.blocks))
    (held : has_record t.accounts.holds q o.serial ≡ true) where
  -- the quota's count for it is one less
  counts : (u j : ℕ) → count_of u j (lower_count o.serial q t.accounts.holds)
      ≡ cond (eqb o.serial u && eqb q j) (count_of u j t.accounts.holds - 1) (count_of u j t.accounts.holds)
  counts = lower_counted t.accounts.holds (good_recorded t g).ordered o.serial q held

  -- it was above 0
  some : 0 < count_of o.serial q t.accounts.holds
  some = (record_counted t.accounts.holds (good_recorded t g).ordered o.serial q).0 held

  -- a count above 0 was so before
  released_fewer : Fewer (lower_count o.serial q t.accounts.holds) t.accounts.holds
  released_fewer u j p = go (eqb o.serial u && eqb q j) (rw (counts u j) at p)
    where
      go : (x : Bool) → 0 < cond x (count_of u j t.accounts.holds - 1) (count_of u j t.accounts.holds) → 0 < count_of u j t.accounts.holds
      go true l = omega arith
      go false l = l

  -- the quota owes what is given back less
  released_less : (j : ℕ)
      → owed t.accounts.holds j (objects t.blocks) ≡ owed (lower_count o.serial q t.accounts.holds) j (objects t.blocks) + cond
      (eqb q j) (given_back q o t.accounts) 0
  unfolding given_back
  released_less j =
      let hs = t.accounts.holds in
      let here : count_of o.serial q (lower_count o.serial q hs) ≡ count_of o.serial q hs - 1 =
      rw (themselves o.serial q) at (counts o.serial q) in
      owed_moved (lower_count o.serial q hs) hs q o (objects t.blocks) (given_back q o t.accounts) (good_laid t g).differ there
      (λ u j e. sym (rw e at (counts u j)))
      (rw here (cost_less (count_of o.serial q hs) o some)) j

  -- and is paid that
  pub released_paid : remaining q (released q o t).accounts ≡ remaining q t.accounts + given_back q o t.accounts
  unfolding released
  released_paid =
      let hs = t.accounts.holds in
      let r = (good_recorded t g).ordered in
      settled_paid q (given_back q o t.accounts) t g (counted_quota hs r o.serial q some) (lower_count o.serial q hs)
      (lower_ordered hs r o.serial q held) released_less

  -- so the state is good
  pub released_good : Good (released q o t)
  unfolding released
  released_good =
      let hs = t.accounts.holds in
      let r = (good_recorded t g).ordered in
      settled_good q (given_back q o t.accounts) t g (counted_quota hs r o.serial q some) (lower_count o.serial q hs)
      (lower_ordered hs r o.serial q held) released_less
      released_fewer

  -- and its objects are those that are still held
  pub released_objects : objects (released q o t).blocks ≡ keep (object_held (lower_count o.serial q t.accounts.holds)) (objects t.blocks)
  unfolding released
  released_objects = settle_objects t.accounts.kind (lower_count o.serial q t.accounts.holds) t.blocks

-- objects that cost nothing cost nothing together
total_none : (f : Handle → ℕ) (os : List Handle) → ((o : Handle) → f o ≡ 0) → total f os ≡ 0
unfolding total
total_none f [] z = refl
total_none f (o ∷ os) z = omega (arith, z o, total_none f os z)

-- every record of a quota dropped, and what it paid given back
module _ (q : ℕ) (t : State) (g : Good t) (exists : q < QUOTAS) where
  -- the quota's counts are 0, and every other count the same
  dropped : (u j : ℕ) → count_of u j (drop_records q t.accounts.holds) ≡ cond (eqb q j) 0 (count_of u j t.accounts.holds)
  dropped = drop_count t.accounts.holds (good_recorded t g).ordered q

  -- a count above 0 was so before
  freed_fewer : Fewer (drop_records q t.accounts.holds) t.accounts.holds
  freed_fewer u j p = go (eqb q j) (rw (dropped u j) at p)
    where
      go : (x : Bool) → 0 < cond x 0 (count_of u j t.accounts.holds) → 0 < count_of u j t.accounts.holds
      go true l = absurd (omega arith)
      go false l = l

  -- the quota owes nothing any more
  freed_less : (j : ℕ)
      → owed t.accounts.holds j (objects t.blocks) ≡ owed (drop_records q t.accounts.holds) j (objects t.blocks) + cond (eqb q j)
      (charges t.accounts.holds q (objects t.blocks)) 0
  freed_less j = rw (charges_counted t.accounts.holds (good_recorded t g).ordered q (objects t.blocks)) (go (eqb q j) refl)
    where
      go : (x : Bool) → eqb q j ≡ x
          → owed t.accounts.holds j (objects t.blocks) ≡ owed (drop_records q t.accounts.holds) j (objects t.blocks) + cond x
          (owed t.accounts.holds q (objects t.blocks)) 0
      go true e =
          rw (← eqb-true q j e)
          (omega (
            arith,
            total_none (due (drop_records q t.accounts.holds) q) (objects t.blocks)
                (λ o. rw (dropped o.serial q, eq-eqb q q refl)),
          ))
      go false e =
          omega (
            arith,
            total_members (due (drop_records q t.accounts.holds) j) (due t.accounts.holds j) (objects t.blocks)
                (λ o m. ap (λ (n : ℕ). cost n o) (rw e at (dropped o.serial j))),
          )

  -- and is paid all of it
  pub freed_paid : remaining q (freed q (charges t.accounts.holds q (objects t.blocks)) t).accounts
      ≡ remaining q t.accounts + charges t.accounts.holds q (objects t.blocks)
  unfolding freed
  freed_paid =
      let hs = t.accounts.holds in
      settled_paid q (charges hs q (objects t.blocks)) t g exists (drop_records q hs) (drop_ordered hs (good_recorded t g).ordered q) freed_less

  -- so the state is good
  pub freed_good : Good (freed q (charges t.accounts.holds q (objects t.blocks)) t)
  unfolding freed
  freed_good =
      let hs = t.accounts.holds in
      settled_good q (charges hs q (objects t.blocks)) t g exists (drop_records q hs) (drop_ordered hs (good_recorded t g).ordered q) freed_less
      freed_fewer

  -- and its objects are those that are still held
  pub freed_objects : objects (freed q (charges t.accounts.holds q (objects t.blocks)) t).blocks
      ≡ keep (object_held (drop_records q t.accounts.holds)) (objects t.blocks)
  unfolding freed
  freed_objects = settle_objects t.accounts.kind (drop_records q t.accounts.holds) t.blocks

-- a sweep keeps a state good: its objects are the same
pub swept_good : (t : State) → Good t → Good (record { blocks = swept t.blocks; accounts = t.accounts })
swept_good t g =
    good_state (record { blocks = swept t.blocks; accounts = t.accounts }) (swept_laid t.blocks (good_laid t g))
    (rw (swept_objects t.blocks) (good_recorded t g)) (good_limits t g)
