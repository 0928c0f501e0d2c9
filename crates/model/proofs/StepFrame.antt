-- What no rule names stays, of every call: `step_frame`, of the accounts in `step_keeps` and of the last serial in `step_serial`.
-- A refused call changes nothing; an accepted one changes what `proofs/Frame.antt` shows of its definition.
use mathlib.Core.Path.{◌≡◌, refl, sym}
use Prim.Native.Nat.{ℕ, zero, suc, ◌+◌, ◌*◌}
use native.Mathlib.Nat.{add-zero}
use mathlib.Core.List.{List}
use mathlib.Core.Bool.{Bool, true, false, cond}
use lib.ListN.{length}
use lib.Dec.{eqb}
use Rattle.accounts.specs.declared.Accounts.{Accounts}
use Rattle.accounts.specs.Accounts.{charge, with_holds}
use Rattle.accounts.proofs.Laws.{charge_kept, refund_kept, clear_kept}
use Rattle.model.specs.Objects.{objects_of, lookup, lookup_whole, found}
use Rattle.model.specs.Consistent.{charge_of, charges}
use Rattle.model.specs.Holds.{take_record, raise_count}
use Rattle.model.specs.Refusals.{first_refusal, claims_first, quota_lines, free_all_lines, release_lines, claim_lines, allocate_lines}
use Rattle.model.specs.Refusals.{reallocate_lines}
use Rattle.model.specs.Refusals.{lend_lines, check_lines}
use Rattle.model.specs.Calls.{Outcome, unless, state_of, allocated, claimed, given_back, released, freed, copied, new_object, allocate}
use Rattle.model.specs.Calls.{allocate_array}
use Rattle.model.specs.Calls.{claim, release, free_all, reallocate, lend, remaining_of, can_release, list_block, clear, sweep}
use Rattle.model.specs.Step.{step}
use Rattle.model.specs.declared.Handle.{Handle}
use Rattle.model.specs.declared.Call.{Call}
use Rattle.model.specs.declared.Call.TheVariants.{Allocate, AllocateArray, Claim, Release, FreeAll, Reallocate, Lend, Remaining, CanRelease}
use Rattle.model.specs.declared.Call.TheVariants.{ListBlock}
use Rattle.model.specs.declared.Call.TheVariants.{ClearPermissions, Sweep}
use Rattle.model.proofs.Frame.{Kept, kept_quotas, kept_same, beside_unused, beside_claim, beside_both, other_record, other_quota}
use Rattle.model.proofs.Frame.{allocated_keeps}
use Rattle.model.proofs.Frame.{claimed_keeps, released_keeps, reallocated_keeps, freed_keeps, clear_keeps}

-- the quotas that a call may change
abbrev pub pays : Call → ℕ → Bool
pays (Allocate q n) j = eqb q j
pays (AllocateArray q count size) j = eqb q j
pays (Claim q h) j = eqb q j
pays (Release q h) j = eqb q j
pays (FreeAll q) j = eqb q j
pays Sweep j = false
pays (Reallocate q h n) j = eqb q j
pays (Lend h) j = false
pays (Remaining q) j = false
pays (CanRelease q h) j = false
pays (ListBlock at) j = false
pays (ClearPermissions q n) j = eqb q j

-- the places of the records that it leaves as they are
abbrev pub bystander : Call → List ℕ → Accounts → ℕ → Bool
bystander (Allocate q n) s k i = beside_unused k.holds i
bystander (AllocateArray q count size) s k i = beside_unused k.holds i
bystander (Claim q h) s k i = beside_claim q (found (lookup h s)) k i
bystander (Release q h) s k i = other_record (found (lookup h s)).serial q k.holds i
bystander (FreeAll q) s k i = other_quota q k.holds i
bystander Sweep s k i = true
bystander (Reallocate q h n) s k i = beside_both q (found (lookup_whole h s)) k i
bystander (Lend h) s k i = true
bystander (Remaining q) s k i = true
bystander (CanRelease q h) s k i = true
bystander (ListBlock at) s k i = true
bystander (ClearPermissions q n) s k i = true

unless_keeps : (w p : ℕ → Bool) (n : ℕ) (s : List ℕ) (k : Accounts) (done : Outcome) → Kept w p k done.accounts
    → Kept w p k (unless n s k done).accounts
unfolding unless
unless_keeps w p zero s k done a = a
unless_keeps w p (suc n) s k done a = kept_same w p k

module _ (unit : ℕ → ℕ) where
  -- each call keeps every grant, every other quota, every record at another place, how many quotas and records there are, and kind and edition
  pub step_keeps : (c : Call) (s : List ℕ) (k : Accounts) → Kept (pays c) (bystander c s k) k (step unit c s k).accounts
  unfolding step allocate allocate_array claim release free_all sweep reallocate lend remaining_of can_release list_block clear
  step_keeps (Allocate q n) s k =
      unless_keeps (eqb q) (beside_unused k.holds) (first_refusal (allocate_lines unit s k q n)) s k _
      (allocated_keeps q (new_object unit s k n) (state_of s k))
  step_keeps (AllocateArray q count size) s k =
      unless_keeps (eqb q) (beside_unused k.holds) (first_refusal (allocate_lines unit s k q (count * size))) s k _
      (allocated_keeps q (new_object unit s k (count * size)) (state_of s k))
  step_keeps (Claim q h) s k =
      unless_keeps (eqb q) (beside_claim q (found (lookup h s)) k) (first_refusal (claim_lines unit s k q h)) s k _
      (claimed_keeps q (found (lookup h s)) k)
  step_keeps (Release q h) s k =
      unless_keeps (eqb q) (other_record (found (lookup h s)).serial q k.holds) (first_refusal (release_lines unit s k q h)) s k _
      (released_keeps q (found (lookup h s)) (state_of s k))
  step_keeps (FreeAll q) s k =
      unless_keeps (eqb q) (other_quota q k.holds) (first_refusal (free_all_lines unit s k q)) s k _
      (freed_keeps q (charges k.holds q (objects_of s)) (state_of s k))
  step_keeps Sweep s k = unless_keeps (λ j. false) (λ x. true) (first_refusal (check_lines unit s k)) s k _ (kept_same _ _ k)
  step_keeps (Reallocate q h n) s k =
      unless_keeps (eqb q) (beside_both q (found (lookup_whole h s)) k) (first_refusal (reallocate_lines unit s k q h n)) s k _
      (reallocated_keeps q (found (lookup_whole h s)) (new_object unit s k n) (state_of s k))
  step_keeps (Lend h) s k = unless_keeps (λ j. false) (λ x. true) (first_refusal (lend_lines unit s k h)) s k _ (kept_same _ _ k)
  step_keeps (Remaining q) s k = unless_keeps (λ j. false) (λ x. true) (first_refusal (quota_lines unit s k q)) s k _ (kept_same _ _ k)
  step_keeps (CanRelease q h) s k = unless_keeps (λ j. false) (λ x. true) (first_refusal (release_lines unit s k q h)) s k _ (kept_same _ _ k)
  step_keeps (ListBlock at) s k = unless_keeps (λ j. false) (λ x. true) (first_refusal (check_lines unit s k)) s k _ (kept_same _ _ k)
  step_keeps (ClearPermissions q n) s k = unless_keeps (eqb q) (λ x. true) (first_refusal (quota_lines unit s k q)) s k _
      (clear_keeps q (λ x. true) k n)

-- payments leave the last serial
claimed_serial : (q : ℕ) (o : Handle) (k : Accounts) → (claimed q o k).last_serial ≡ k.last_serial
unfolding claimed
claimed_serial q o k = go (claims_first k q o)
  where
    go : (t : Bool)
        → (cond t (with_holds (take_record o.serial q k.holds) (charge q (charge_of o.length) k))
        (with_holds (raise_count o.serial q k.holds) k)).last_serial
        ≡ k.last_serial
    go true = (charge_kept q (charge_of o.length) k).same_last
    go false = refl

-- the serials that a call gives: one where it asks for a new object and is accepted
abbrev pub one_if_accepted : ℕ → ℕ
one_if_accepted zero = 1
one_if_accepted (suc n) = 0

abbrev pub serials_given_by : Call → ℕ → ℕ
serials_given_by (Allocate q n) r = one_if_accepted r
serials_given_by (AllocateArray q count size) r = one_if_accepted r
serials_given_by (Claim q h) r = 0
serials_given_by (Release q h) r = 0
serials_given_by (FreeAll q) r = 0
serials_given_by Sweep r = 0
serials_given_by (Reallocate q h n) r = one_if_accepted r
serials_given_by (Lend h) r = 0
serials_given_by (Remaining q) r = 0
serials_given_by (CanRelease q h) r = 0
serials_given_by (ListBlock at) r = 0
serials_given_by (ClearPermissions q n) r = 0

-- a refused call gives none; what it would have answered does not matter
unless_same : (n : ℕ) (s : List ℕ) (k : Accounts) (done : Outcome) → done.accounts.last_serial ≡ k.last_serial
    → (unless n s k done).accounts.last_serial ≡ k.last_serial + 0
unfolding unless
unless_same zero s k done e = rw add-zero e
unless_same (suc n) s k done e = sym (add-zero k.last_serial)

unless_next : (n : ℕ) (s : List ℕ) (k : Accounts) (done : Outcome) → done.values.refusal ≡ 0 → done.accounts.last_serial ≡ k.last_serial + 1
    → (unless n s k done).accounts.last_serial ≡ k.last_serial + one_if_accepted (unless n s k done).values.refusal
unfolding unless
unless_next zero s k done z e = rw z e
unless_next (suc n) s k done z e = sym (add-zero k.last_serial)

module _ (unit : ℕ → ℕ) where
  pub step_serial : (c : Call) (s : List ℕ) (k : Accounts)
      → (step unit c s k).accounts.last_serial ≡ k.last_serial + serials_given_by c (step unit c s k).values.refusal
  unfolding step allocate allocate_array claim release free_all sweep reallocate lend remaining_of can_release list_block clear
      allocated released freed copied new_object
  step_serial (Allocate q n) s k = unless_next (first_refusal (allocate_lines unit s k q n)) s k _ refl refl
  step_serial (AllocateArray q count size) s k = unless_next (first_refusal (allocate_lines unit s k q (count * size))) s k _ refl refl
  step_serial (Claim q h) s k = unless_same (first_refusal (claim_lines unit s k q h)) s k _ (claimed_serial q (found (lookup h s)) k)
  step_serial (Release q h) s k = unless_same (first_refusal (release_lines unit s k q h)) s k _
      (refund_kept q (given_back q (found (lookup h s)) k) k).same_last
  step_serial (FreeAll q) s k = unless_same (first_refusal (free_all_lines unit s k q)) s k _
      (refund_kept q (charges k.holds q (objects_of s)) k).same_last
  step_serial Sweep s k = unless_same (first_refusal (check_lines unit s k)) s k _ refl
  step_serial (Reallocate q h n) s k =
      unless_next (first_refusal (reallocate_lines unit s k q h n)) s k _ refl
      (refund_kept q _ (allocated q (new_object unit s k n) (state_of s k)).accounts).same_last
  step_serial (Lend h) s k = unless_same (first_refusal (lend_lines unit s k h)) s k _ refl
  step_serial (Remaining q) s k = unless_same (first_refusal (quota_lines unit s k q)) s k _ refl
  step_serial (CanRelease q h) s k = unless_same (first_refusal (release_lines unit s k q h)) s k _ refl
  step_serial (ListBlock at) s k = unless_same (first_refusal (check_lines unit s k)) s k _ refl
  step_serial (ClearPermissions q n) s k = unless_same (first_refusal (quota_lines unit s k q)) s k _ (clear_kept q n k).same_last

-- what a call leaves of the accounts beside what its rule names: every grant, every quota but its own, every record but those that it is about, how
-- many quotas and records there are, kind and edition, and the last serial but for the one that it gives
pub record Framed (c : Call) (s : List ℕ) (k : Accounts) (t : Outcome) : Type 0 where
  pub kept : Kept (pays c) (bystander c s k) k t.accounts
  pub quotas : length t.accounts.quotas ≡ length k.quotas
  pub serial : t.accounts.last_serial ≡ k.last_serial + serials_given_by c t.values.refusal

pub step_frame : (unit : ℕ → ℕ) (c : Call) (s : List ℕ) (k : Accounts) → Framed c s k (step unit c s k)
step_frame unit c s k = let a = step_keeps unit c s k in record { kept = a; quotas = kept_quotas a; serial = step_serial unit c s k }
