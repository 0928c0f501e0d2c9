-- Rule 10.5: an object stays while its serial is held. A change of holds keeps each entry's object, and the only object that a call adds has the
-- serial after the last one, which is above every live one. So an entry that has the object's serial after a call had it before, and serials
-- differ: it is the object's own.
use Prim.Native.Nat.{ℕ, zero, suc, ◌+◌, ◌-◌, ◌*◌}
use native.Mathlib.Omega.{arith}
use mathlib.Core.Path.{◌≡◌, refl, ap, sym, ◌∙◌, subst}
use mathlib.Core.List.{List, map, Memᴰ}
use mathlib.Core.Bool.{Bool, true, false, cond}
use mathlib.Core.Logic.{◌⊎◌, inl, inr, ⊎_elim}
use lib.Dec.{eqb}
use borrow.Author.Tests.{eq-eqb, ne_eqb}
use Rattle.accounts.specs.declared.Accounts.{Accounts}
use Rattle.lists.specs.Lists.{keep}
use Rattle.model.specs.Objects.{objects_of}
use Rattle.model.specs.Refusals.{first_refusal, quota_lines, free_all_lines, lend_lines, release_lines, claim_lines, check_lines, allocate_lines}
use Rattle.model.specs.Refusals.{reallocate_lines}
use Rattle.model.specs.Calls.{Outcome, unless, new_object, allocate, allocate_array, claim, release, free_all, reallocate, lend, remaining_of}
use Rattle.model.specs.Calls.{can_release}
use Rattle.model.specs.Calls.{list_block, clear, sweep}
use Rattle.model.specs.Step.{step}
use Rattle.model.specs.declared.Handle.{Handle}
use Rattle.model.specs.declared.Call.{Call}
use Rattle.model.specs.declared.Call.TheVariants.{Allocate, AllocateArray, Claim, Release, FreeAll, Reallocate, Lend, Remaining, CanRelease}
use Rattle.model.specs.declared.Call.TheVariants.{ListBlock}
use Rattle.model.specs.declared.Call.TheVariants.{ClearPermissions, Sweep}
use Rattle.model.proofs.Consistent.{accounted_facts}
use Rattle.model.proofs.Lookup.{same_serial}
use Rattle.invariant.proofs.Members.{keep_exactly}
use Rattle.ledger.specs.Ledger.{Entry, Ledger, with_entries, change_holds, at_serial, is_held, leave, add_object, add_hold, take_hold, take_all}
use Rattle.ledger.specs.Ledger.{record_accepted, record_call}
use Rattle.ledger.specs.Demand3.{objects_in, HeldIn}
use Rattle.ledger.proofs.Agreement.{Agrees}

-- every object of a ledger is one of another
abbrev pub From : Ledger → Ledger → Type 0
From m l = (o : Handle) → Memᴰ o (objects_in m) → Memᴰ o (objects_in l)

-- a change of holds keeps every object
changed : (l : Ledger) (f : Entry → Entry) → ((e : Entry) → (f e).object ≡ e.object) → From (with_entries (map f l.entries) l) l
changed l f same o m =
    let r = mathlib.Core.List.Memᴰ.of_map (λ (e : Entry). e.object) (map f l.entries) m in
    let t = mathlib.Core.List.Memᴰ.of_map f l.entries r.1 in
    subst (λ (x : Handle). Memᴰ x (objects_in l)) (sym (same t.0) ∙ ap (λ (e : Entry). e.object) t.2 ∙ r.2)
    (mathlib.Core.List.Memᴰ.map (λ (e : Entry). e.object) t.1)

-- entries that leave take theirs away
left : (l : Ledger) → From (leave l) l
unfolding leave
left l o m =
    let r = mathlib.Core.List.Memᴰ.of_map (λ (e : Entry). e.object) (keep is_held l.entries) m in
    subst (λ (x : Handle). Memᴰ x (objects_in l)) r.2 (mathlib.Core.List.Memᴰ.map (λ (e : Entry). e.object)
    ((keep_exactly is_held l.entries r.0).0 r.1).0)

at_serial_same : (serial : ℕ) (g : Entry → Entry) → ((e : Entry) → (g e).object ≡ e.object) → (e : Entry)
    → (cond (eqb e.object.serial serial) (g e) e).object ≡ e.object
at_serial_same serial g same e = go (eqb e.object.serial serial)
  where
    go : (t : Bool) → (cond t (g e) e).object ≡ e.object
    go true = same e
    go false = refl

-- no hold that is added or taken adds an object
module _ (q : ℕ) (l : Ledger) where
  pub raised_from : (serial : ℕ) → From (add_hold q serial l) l
  unfolding add_hold at_serial change_holds
  raised_from serial = changed l _ (at_serial_same serial (change_holds q (λ n. n + 1)) (λ e. refl))

  pub lowered_from : (serial : ℕ) → From (take_hold q serial l) l
  unfolding take_hold at_serial change_holds
  lowered_from serial o m = changed l _ (at_serial_same serial (change_holds q (λ n. n - 1)) (λ e. refl)) o (left _ o m)

  pub dropped_from : From (take_all q l) l
  unfolding take_all change_holds
  dropped_from o m = changed l (change_holds q (λ n. 0)) (λ e. refl) o (left _ o m)

  -- an object that is added is the one that was answered
  pub added_from : (new o : Handle) → Memᴰ o (objects_in (add_object q new l)) → (o ≡ new) ⊎ Memᴰ o (objects_in l)
  unfolding add_object
  added_from new o m = mathlib.Core.List.Memᴰ.cases_cons m

-- every object of a ledger is one of another, or has the serial after the last one
abbrev pub Grown : Accounts → Ledger → Ledger → Type 0
Grown k m l = (o : Handle) → Memᴰ o (objects_in m) → (o.serial ≡ k.last_serial + 1) ⊎ Memᴰ o (objects_in l)

-- a refused call is not recorded
accepted_grown : (c : Call) (l : Ledger) (s : List ℕ) (k : Accounts) (n : ℕ) (done : Outcome) → done.values.refusal ≡ 0
    → Grown k (record_accepted c done.values l) l → Grown k (record_call c (unless n s k done).values l) l
unfolding unless record_call
accepted_grown c l s k zero done z f = rw (eq-eqb done.values.refusal 0 z) f
accepted_grown c l s k (suc n) done z f = rw (ne_eqb (suc n) 0 (λ e. omega arith)) (λ o m. inr m)

module _ (unit : ℕ → ℕ) (l : Ledger) (s : List ℕ) (k : Accounts) where
  new_grown : (q n : ℕ) → Grown k (add_object q (new_object unit s k n) l) l
  unfolding new_object
  new_grown q n o m = ⊎_elim (λ e. inl (ap (λ (x : Handle). x.serial) e)) (λ i. inr i) (added_from q l (new_object unit s k n) o m)

  -- each call adds at most an object with the next serial
  pub step_grown : (c : Call) → Grown k (record_call c (step unit c s k).values l) l
  unfolding step record_accepted allocate allocate_array claim release free_all sweep reallocate lend remaining_of can_release list_block clear
  step_grown (Allocate q n) = accepted_grown (Allocate q n) l s k (first_refusal (allocate_lines unit s k q n)) _ refl (new_grown q n)
  step_grown (AllocateArray q count size) =
      accepted_grown (AllocateArray q count size) l s k (first_refusal (allocate_lines unit s k q (count * size))) _ refl (new_grown q (count * size))
  step_grown (Claim q h) = accepted_grown (Claim q h) l s k (first_refusal (claim_lines unit s k q h)) _ refl
      (λ o m. inr (raised_from q l h.serial o m))
  step_grown (Release q h) = accepted_grown (Release q h) l s k (first_refusal (release_lines unit s k q h)) _ refl
      (λ o m. inr (lowered_from q l h.serial o m))
  step_grown (FreeAll q) = accepted_grown (FreeAll q) l s k (first_refusal (free_all_lines unit s k q)) _ refl (λ o m. inr (dropped_from q l o m))
  step_grown Sweep = accepted_grown Sweep l s k (first_refusal (check_lines unit s k)) _ refl (λ o m. inr m)
  step_grown (Reallocate q h n) =
      accepted_grown (Reallocate q h n) l s k (first_refusal (reallocate_lines unit s k q h n)) _ refl
      (λ o m. new_grown q n o (lowered_from q (add_object q (new_object unit s k n) l) h.serial o m))
  step_grown (Lend h) = accepted_grown (Lend h) l s k (first_refusal (lend_lines unit s k h)) _ refl (λ o m. inr m)
  step_grown (Remaining q) = accepted_grown (Remaining q) l s k (first_refusal (quota_lines unit s k q)) _ refl (λ o m. inr m)
  step_grown (CanRelease q h) = accepted_grown (CanRelease q h) l s k (first_refusal (release_lines unit s k q h)) _ refl (λ o m. inr m)
  step_grown (ListBlock at) = accepted_grown (ListBlock at) l s k (first_refusal (check_lines unit s k)) _ refl (λ o m. inr m)
  step_grown (ClearPermissions q n) = accepted_grown (ClearPermissions q n) l s k (first_refusal (quota_lines unit s k q)) _ refl (λ o m. inr m)

  -- an object whose serial is held after a call was there before it, and is the same
  pub step_lasts : (c : Call) → Agrees l s k → (o : Handle) → Memᴰ o (objects_in l)
      → HeldIn o.serial (record_call c (step unit c s k).values l)
      → Memᴰ o (objects_in (record_call c (step unit c s k).values l))
  unfolding objects_of
  step_lasts c a o m h =
      let p = h.0.object in
      let there : Memᴰ p (objects_in (record_call c (step unit c s k).values l)) = mathlib.Core.List.Memᴰ.map (λ (e : Entry). e.object) h.2 in
      subst (λ (x : Handle). Memᴰ x (objects_in (record_call c (step unit c s k).values l)))
      (⊎_elim (λ n. past p n h.3) (λ i. same_serial (objects_in l) a.matches.once p o i m h.3) (step_grown c p there)) there
    where
      -- the next serial is above that of every object
      past : (p : Handle) → p.serial ≡ k.last_serial + 1 → p.serial ≡ o.serial → p ≡ o
      past p n e = let b = (accounted_facts s k a.passes).given o ((a.matches.objects o).1 m) in absurd (omega arith)
