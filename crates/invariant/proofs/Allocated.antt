-- Allocating keeps a state good: a new object is carved out, its quota pays for it, and a record holds it once.
-- The new serial is above every live one, so no record has it: no count for it was above 0. The new object alone pays more, and that is what
-- the quota was charged.
use Prim.Native.Nat.{ℕ, zero, suc, ◌+◌, ◌%◌, ◌≤◌, ◌<◌}
use native.Mathlib.Omega.{arith}
use mathlib.Core.Path.{◌≡◌, refl, ap, sym}
use mathlib.Core.List.{List, Memᴰ}
use mathlib.Core.Bool.{Bool, true, false, cond, ◌&&◌}
use mathlib.Core.Logic.{◌⊎◌, inl, inr}
use lib.Dec.{eqb}
use borrow.Author.Tests.{eq-eqb, ne_eqb}
use Rattle.accounts.specs.declared.Hold.{Hold}
use Rattle.accounts.specs.Accounts.{QUOTAS, quota_at, used, remaining, charge}
use Rattle.accounts.proofs.Laws.{charge_kept}
use Rattle.layout.specs.Blocks.{size, QUARANTINED}
use Rattle.lists.specs.Lists.{all, total}
use Rattle.model.specs.Objects.{objects}
use Rattle.model.specs.Consistent.{charge_of, has_record}
use Rattle.model.specs.Space.{suitable}
use Rattle.model.specs.Holds.{count_of, take_record}
use Rattle.model.specs.Calls.{State, allocated}
use Rattle.model.specs.declared.Handle.{Handle}
use Rattle.lists.proofs.Bools.{fails}
use Rattle.model.proofs.Carve.{Added}
use Rattle.invariant.proofs.Good.{Ordered, Good}
use Rattle.invariant.proofs.Counts.{record_counted, take_ordered, take_count}
use Rattle.invariant.proofs.Charges.{cost, total_members, total_added}
use Rattle.invariant.proofs.Members.{added_cases, added_old, added_new}
use Rattle.invariant.proofs.Laid.{Laid, carve_added, carve_laid}
use Rattle.invariant.proofs.Recorded.{due, owed, Recorded, Limits, good_laid, good_recorded, good_limits, good_state}
use Rattle.invariant.proofs.Payments.{same_grant, same_limits, charged}
use Rattle.invariant.proofs.Moves.{raised_first, raised_recorded}

-- a new object that may be made: what allocate's lines have shown
pub record Room (q : ℕ) (o : Handle) (t : State) : Type 0 where
  pub exists : q < QUOTAS
  pub paid : charge_of o.length ≤ remaining q t.accounts
  pub unused : all used t.accounts.holds ≡ false
  pub next : o.serial ≡ t.accounts.last_serial + 1
  pub narrow : o.serial < QUARANTINED
  pub long : 8 ≤ o.length
  pub even : o.length % 8 ≡ 0
  pub aligned : o.base % 8 ≡ 0
  pub fits : suitable (total size t.blocks) t.blocks o.length o.base ≡ true

-- what each quota pays where one object is added that only one quota has a count for
owed_added : (hs hs' : List Hold) (q : ℕ) (o : Handle) (os os' : List Handle) → Added o os os'
    → ((p : Handle) → Memᴰ p os → p.serial ≡ o.serial → ⊥)
    → ((j : ℕ) → count_of o.serial j hs ≡ 0) → ((u j : ℕ) → count_of u j hs' ≡ cond (eqb o.serial u && eqb q j) 1 (count_of u j hs))
    → (j : ℕ) → owed hs' j os' ≡ owed hs j os + cond (eqb q j) (charge_of o.length) 0
owed_added hs hs' q o os os' a fresh none c j =
    let others = total_members (due hs' j) (due hs j) os (λ p m. ap (λ (n : ℕ). cost n p)
    (rw (ne_eqb o.serial p.serial (λ e. fresh p m (sym e))) at (c p.serial j))) in
    let own : count_of o.serial j hs' ≡ cond (eqb q j) 1 0 = rw (eq-eqb o.serial o.serial refl, none j) at (c o.serial j) in
    let pays : due hs' j o ≡ cond (eqb q j) (charge_of o.length) 0 = rw own (go (eqb q j)) in
    omega (arith, total_added (due hs' j) o os os' a)
  where
    go : (t : Bool) → cost (cond t 1 0) o ≡ cond t (charge_of o.length) 0
    go true = refl
    go false = refl

module _ (q : ℕ) (o : Handle) (t : State) (g : Good t) (r : Room q o t) where
  -- the new serial is not 0
  new : 0 < o.serial
  new = omega (arith, r.next)

  -- no object has the new serial
  unseen : (p : Handle) → Memᴰ p (objects t.blocks) → p.serial ≡ o.serial → ⊥
  unseen p m e = omega (arith, r.next, (good_recorded t g).given p m)

  -- the new object is added
  pub allocated_objects : Added o (objects t.blocks) (objects (allocated q o t).blocks)
  unfolding allocated
  allocated_objects = carve_added o t.blocks (good_laid t g) r.fits r.aligned r.even new r.narrow

  -- no quota had a count for it
  pub allocated_fresh : (j : ℕ) → count_of o.serial j t.accounts.holds ≡ 0
  allocated_fresh j = go (count_of o.serial j t.accounts.holds) refl
    where
      go : (n : ℕ) → count_of o.serial j t.accounts.holds ≡ n → count_of o.serial j t.accounts.holds ≡ 0
      go zero e = e
      go (suc n) e = let p = (good_recorded t g).live o.serial j (omega arith) in absurd (unseen p.0 p.1 p.2)

  -- so the quota has no record for it
  first : has_record t.accounts.holds q o.serial ≡ false
  first = fails _ (λ e. omega (arith, allocated_fresh q, (record_counted t.accounts.holds (good_recorded t g).ordered o.serial q).0 e))

  -- the quota's count for it is 1, and every other count the same
  pub allocated_counts : (u j : ℕ) → count_of u j (allocated q o t).accounts.holds
      ≡ cond (eqb o.serial u && eqb q j) 1 (count_of u j t.accounts.holds)
  unfolding allocated
  allocated_counts u j = take_count t.accounts.holds (good_recorded t g).ordered o.serial q r.unused first r.exists u j

  -- a heap can be written of the blocks
  allocated_laid : Laid (allocated q o t).blocks
  unfolding allocated
  allocated_laid = carve_laid o t.blocks (good_laid t g) r.fits r.aligned r.even new r.narrow r.long unseen

  -- the limits are kept
  allocated_limits : Limits (allocated q o t).accounts
  unfolding allocated
  allocated_limits =
      let k = t.accounts in
      let paid = charge q (charge_of o.length) k in
      let m = same_limits q k paid (charge_kept q (charge_of o.length) k) (take_record o.serial q k.holds) (good_limits t g) in
      record { quotas = m.quotas; narrow = m.narrow; serial = r.narrow }

  -- the records are in order
  allocated_ordered : Ordered (allocated q o t).accounts.holds
  unfolding allocated
  allocated_ordered = take_ordered t.accounts.holds (good_recorded t g).ordered o.serial q r.unused first r.exists

  -- the new serial is the last one given
  allocated_given : (p : Handle) → Memᴰ p (objects (allocated q o t).blocks) → p.serial ≤ (allocated q o t).accounts.last_serial
  unfolding allocated
  allocated_given p m = go (added_cases o (objects t.blocks) (objects (allocated q o t).blocks) allocated_objects p m)
    where
      go : (p ≡ o) ⊎ Memᴰ p (objects t.blocks) → p.serial ≤ o.serial
      go (inl e) = rw e (omega arith)
      go (inr i) = omega (arith, (good_recorded t g).given p i, r.next)

  -- each quota's remainder and charges make up its grant
  allocated_balance : (j : ℕ) → j < QUOTAS
      → (quota_at j (allocated q o t).accounts).grant ≡ (quota_at j (allocated q o t).accounts).remainder + owed (allocated q o t).accounts.holds j
      (objects (allocated q o t).blocks)
  unfolding allocated
  allocated_balance j l =
      let k = t.accounts in
      let n = charge_of o.length in
      omega (
        arith,
        same_grant q k (charge q n k) (charge_kept q n k) j,
        charged q n k (good_limits t g) r.exists r.paid j,
        (good_recorded t g).balance j l,
        owed_added k.holds (allocated q o t).accounts.holds q o (objects t.blocks) (objects (allocated q o t).blocks) allocated_objects
            unseen allocated_fresh allocated_counts j,
      )

  -- so objects and accounts fit together
  allocated_recorded : Recorded (objects (allocated q o t).blocks) (allocated q o t).accounts
  allocated_recorded =
      let k = t.accounts in
      let k' = (allocated q o t).accounts in
      let os = objects t.blocks in
      let os' = objects (allocated q o t).blocks in
      raised_recorded q o os os' k k' (good_recorded t g) (raised_first o.serial q k.holds k'.holds (allocated_fresh q) allocated_counts)
      allocated_ordered (added_new o os os' allocated_objects) (added_old o os os' allocated_objects) (added_cases o os os' allocated_objects)
      allocated_given allocated_balance

  -- and the state is good
  pub allocated_good : Good (allocated q o t)
  allocated_good = good_state (allocated q o t) allocated_laid allocated_recorded allocated_limits
