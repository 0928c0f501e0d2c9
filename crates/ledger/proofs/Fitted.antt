-- Every object of the ledger, and so every live object, fits its unit (rule 5.10): a new object does, since a rounded length rounds to itself, and so do those
-- of a state that was read; no other event makes an object.
use Prim.Native.Nat.{ℕ, zero, suc, ◌*◌}
use native.Mathlib.Omega.{arith}
use mathlib.Core.Path.{◌≡◌, refl}
use mathlib.Core.List.Memᴰ
use mathlib.Core.List.{List, Memᴰ}
use mathlib.Core.Bool.{true}
use mathlib.Core.Logic.{⊎_elim}
use borrow.Author.Tests.{eq-eqb, ne_eqb}
use Rattle.accounts.specs.declared.Accounts.{Accounts}
use Rattle.accounts.specs.Accounts.{permissions, permissible}
use Rattle.rounding.specs.Rounding.{Units}
use Rattle.model.specs.Objects.{objects_of}
use Rattle.model.specs.Consistent.{accounted, in_units, consistent}
use Rattle.model.specs.Refusals.{first_refusal, quota_lines, free_all_lines, lend_lines, release_lines, claim_lines, check_lines, allocate_lines}
use Rattle.model.specs.Refusals.{reallocate_lines}
use Rattle.model.specs.Calls.{Outcome, unless, allocate, allocate_array, claim, release, free_all, reallocate, lend, remaining_of, can_release}
use Rattle.model.specs.Calls.{list_block}
use Rattle.model.specs.Calls.{clear, sweep}
use Rattle.model.specs.Step.{step}
use Rattle.model.specs.declared.Handle.{Handle}
use Rattle.model.specs.declared.Call.{Call}
use Rattle.model.specs.declared.Call.TheVariants.{Allocate, AllocateArray, Claim, Release, FreeAll, Reallocate, Lend, Remaining, CanRelease}
use Rattle.model.specs.declared.Call.TheVariants.{ListBlock}
use Rattle.model.specs.declared.Call.TheVariants.{ClearPermissions, Sweep}
use Rattle.lists.proofs.Bools.{and_both}
use Rattle.model.proofs.Consistent.{consistent_fits}
use Rattle.lists.specs.Lists.{all}
use Rattle.lists.proofs.Lists.{member_all}
use Rattle.invariant.proofs.Requested.{new_in_units}
use Rattle.model.proofs.Refusals.{accepted_exactly, by_lines}
use Rattle.invariant.proofs.Passed.{allocate_passed, reallocate_passed}
use Rattle.ledger.specs.Ledger.{Ledger, empty, read_ledger, add_object, add_hold, take_hold, take_all, record_accepted, record_call}
use Rattle.ledger.specs.Demand3.{objects_in}
use Rattle.ledger.specs.History.{Restorable, Begins, Opening, Restoring}
use Rattle.ledger.proofs.Agreement.{Agrees}
use Rattle.ledger.proofs.Lasting.{raised_from, lowered_from, dropped_from, added_from}
use Rattle.ledger.proofs.Opening.{restored_agrees}

-- every object of a ledger is in its units
abbrev pub Fitted : (ℕ → ℕ) → Ledger → Type 0
Fitted unit l = (o : Handle) → Memᴰ o (objects_in l) → in_units unit o ≡ true

-- the live objects are, and a state whose permissions are such is consistent
pub consistent_of : (unit : ℕ → ℕ) (l : Ledger) (s : List ℕ) (k : Accounts) → Agrees l s k → Fitted unit l → all permissible (permissions k) ≡ true
    → consistent unit s k ≡ true
unfolding consistent
consistent_of unit l s k a f p =
    let fits = member_all (in_units unit) (objects_of s) (λ o m. f o ((a.matches.objects o).0 m)) in
    and_both (accounted s k) _ a.passes
    (and_both (all (in_units unit) (objects_of s)) _ fits (and_both (all permissible (permissions k)) _ p
    (and_both _ _ a.kinded.0 a.kinded.1)))

-- a beginning has none, or those of a state that was read
pub restored_fits : (unit : ℕ → ℕ) (s : List ℕ) (k : Accounts) → Restorable unit s k → Fitted unit (read_ledger s k)
restored_fits unit s k r o m = consistent_fits unit s k r.consistent o (((restored_agrees unit s k r).matches.objects o).1 m)

pub beginning_fits : (tables : ℕ → ℕ → ℕ) (begun : Ledger) (s : List ℕ) (k : Accounts) → Begins tables begun s k → Fitted (tables k.edition) begun
unfolding empty
beginning_fits tables begun s k (Opening settings grants e o) = rw e (λ x m. absurd (Memᴰ.not-nil m))
beginning_fits tables begun s k (Restoring e r) = rw e (restored_fits (tables k.edition) s k r)

-- no change of holds adds an object, and an object that is added is the answered one
module _ (unit : ℕ → ℕ) (l : Ledger) (h : Fitted unit l) where
  raised : (q serial : ℕ) → Fitted unit (add_hold q serial l)
  raised q serial o m = h o (raised_from q l serial o m)

  lowered : (q serial : ℕ) → Fitted unit (take_hold q serial l)
  lowered q serial o m = h o (lowered_from q l serial o m)

  dropped : (q : ℕ) → Fitted unit (take_all q l)
  dropped q o m = h o (dropped_from q l o m)

  added : (q : ℕ) (o : Handle) → in_units unit o ≡ true → Fitted unit (add_object q o l)
  added q o e x m = ⊎_elim (λ (p : x ≡ o). rw p e) (λ p. h x p) (added_from q l o x m)

-- a refused call is not recorded
accepted_fits : (unit : ℕ → ℕ) (c : Call) (l : Ledger) (s : List ℕ) (k : Accounts) (n : ℕ) (done : Outcome) → Fitted unit l → done.values.refusal
    ≡ 0
    → (n ≡ 0 → Fitted unit (record_accepted c done.values l)) → Fitted unit (record_call c (unless n s k done).values l)
unfolding unless record_call
accepted_fits unit c l s k zero done a z f = rw (eq-eqb done.values.refusal 0 z) (f refl)
accepted_fits unit c l s k (suc n) done a z f = rw (ne_eqb (suc n) 0 (λ e. omega arith)) a

module _ (unit : ℕ → ℕ) (units : Units unit) where
  pub step_fits : (c : Call) (l : Ledger) (s : List ℕ) (k : Accounts) → Fitted unit l → Fitted unit (record_call c (step unit c s k).values l)
  unfolding step record_accepted allocate allocate_array claim release free_all sweep reallocate lend remaining_of can_release list_block clear
  step_fits (Allocate q n) l s k f =
      accepted_fits unit (Allocate q n) l s k (first_refusal (allocate_lines unit s k q n)) _ f refl
      (λ e. added unit l f q _ (new_in_units unit units s k q n (allocate_passed unit s k q n
      ((accepted_exactly (allocate_lines unit s k q n) (by_lines unit (Allocate q n) s k).numbered).0 e))))
  step_fits (AllocateArray q count size) l s k f =
      accepted_fits unit (AllocateArray q count size) l s k (first_refusal (allocate_lines unit s k q (count * size))) _ f refl
      (λ e. added unit l f q _ (new_in_units unit units s k q (count * size)
      (allocate_passed unit s k q (count * size) ((accepted_exactly (allocate_lines unit s k q (count * size))
      (by_lines unit (AllocateArray q count size) s k).numbered).0 e))))
  step_fits (Claim q h) l s k f = accepted_fits unit (Claim q h) l s k (first_refusal (claim_lines unit s k q h)) _ f refl
      (λ e. raised unit l f q h.serial)
  step_fits (Release q h) l s k f = accepted_fits unit (Release q h) l s k (first_refusal (release_lines unit s k q h)) _ f refl
      (λ e. lowered unit l f q h.serial)
  step_fits (FreeAll q) l s k f = accepted_fits unit (FreeAll q) l s k (first_refusal (free_all_lines unit s k q)) _ f refl (λ e. dropped unit l f q)
  step_fits Sweep l s k f = accepted_fits unit Sweep l s k (first_refusal (check_lines unit s k)) _ f refl (λ e. f)
  step_fits (Reallocate q h n) l s k f =
      accepted_fits unit (Reallocate q h n) l s k (first_refusal (reallocate_lines unit s k q h n)) _ f refl
      (λ e. lowered unit _ (added unit l f q _ (new_in_units unit units s k q n
      (reallocate_passed unit s k q h n ((accepted_exactly (reallocate_lines unit s k q h n) (by_lines unit (Reallocate q h n) s k).numbered).0
      e)).new)) q h.serial)
  step_fits (Lend h) l s k f = accepted_fits unit (Lend h) l s k (first_refusal (lend_lines unit s k h)) _ f refl (λ e. f)
  step_fits (Remaining q) l s k f = accepted_fits unit (Remaining q) l s k (first_refusal (quota_lines unit s k q)) _ f refl (λ e. f)
  step_fits (CanRelease q h) l s k f = accepted_fits unit (CanRelease q h) l s k (first_refusal (release_lines unit s k q h)) _ f refl (λ e. f)
  step_fits (ListBlock at) l s k f = accepted_fits unit (ListBlock at) l s k (first_refusal (check_lines unit s k)) _ f refl (λ e. f)
  step_fits (ClearPermissions q n) l s k f = accepted_fits unit (ClearPermissions q n) l s k (first_refusal (quota_lines unit s k q)) _ f refl
      (λ e. f)
