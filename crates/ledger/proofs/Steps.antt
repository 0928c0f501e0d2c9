-- Each call keeps agreement: heap and accounts after it agree with the ledger that has recorded it.
-- A refused call changes nothing and is not recorded. An accepted one has passed its lines, which give what its change needs; the change keeps a good
-- state, and the ledger's change matches that of objects and records.
use Rattle.std.specs.Prelude.{Some}
use Prim.Native.Nat.{ℕ, zero, suc, ◌*◌, ◌<◌}
use native.Mathlib.Omega.{arith}
use mathlib.Core.Path.{◌≡◌, refl, ap, sym, ◌∙◌, subst, subst₂}
use mathlib.Core.List.{List, Memᴰ}
use mathlib.Core.Bool.{true}
use borrow.Author.Tests.{eq-eqb, ne_eqb}
use Rattle.accounts.specs.declared.Accounts.{Accounts}
use Rattle.accounts.specs.Accounts.{QUOTAS, clear_permissions}
use Rattle.accounts.proofs.Laws.{clear_kept}
use Rattle.rounding.specs.Rounding.{Units}
use Rattle.layout.specs.Blocks.{render}
use Rattle.lists.specs.Lists.{or_else}
use Rattle.model.specs.Objects.{blocks_of, objects, objects_of, lookup, lookup_whole, found}
use Rattle.model.specs.Consistent.{charges, has_record}
use Rattle.model.specs.Refusals.{first_refusal, quota_lines, free_all_lines, lend_lines, release_lines, claim_lines, check_lines, allocate_lines}
use Rattle.model.specs.Refusals.{reallocate_lines}
use Rattle.model.specs.Calls.{Outcome, State, unless, state_of, allocated, claimed, released, freed, copied, new_object, allocate, allocate_array}
use Rattle.model.specs.Calls.{claim}
use Rattle.model.specs.Calls.{release, free_all, sweep, reallocate, lend, remaining_of, can_release, list_block, clear}
use Rattle.model.specs.Step.{step}
use Rattle.model.specs.declared.Handle.{Handle}
use Rattle.model.specs.declared.Call.{Call}
use Rattle.model.specs.declared.Call.TheVariants.{Allocate, AllocateArray, Claim, Release, FreeAll, Sweep, Reallocate, Lend, Remaining, CanRelease}
use Rattle.model.specs.declared.Call.TheVariants.{ListBlock, ClearPermissions}
use Rattle.model.proofs.Refusals.{accepted_exactly, by_lines}
use Rattle.model.proofs.Lookup.{lookup_named, found_serial, lookup_whole_exactly}
use Rattle.model.proofs.Consistent.{range_serial, range_like}
use Rattle.model.proofs.Permissions.{clear_accounted}
use Rattle.invariant.proofs.Good.{Good}
use Rattle.invariant.proofs.Heaps.{good_heap, heap_good, heap_again}
use Rattle.invariant.proofs.Kinded.{written_kinds}
use Rattle.invariant.proofs.Payments.{same_grant}
use Rattle.invariant.proofs.Transitions.{Room}
use Rattle.invariant.proofs.Requested.{requested_room, requested_fresh, still_releasable}
use Rattle.invariant.proofs.Passed.{Allocatable, allocate_passed, Claimable, claim_passed, Releasable, release_passed, free_all_passed, Reallocatable}
use Rattle.invariant.proofs.Passed.{reallocate_passed}
use Rattle.ledger.specs.Ledger.{Ledger, add_object, add_hold, take_hold, take_all, record_accepted, record_call, quarantined_of}
use Rattle.ledger.proofs.Agreement.{Tracks, Agrees}
use Rattle.ledger.proofs.Tracking.{track_allocated, track_claimed, track_released, track_freed, track_copied, track_swept}

-- a refused call is not recorded and changes nothing
accepted_step : (c : Call) (l : Ledger) (s : List ℕ) (k : Accounts) (n : ℕ) (done : Outcome) → Agrees l s k → done.values.refusal ≡ 0
    → (n ≡ 0 → Agrees (record_accepted c done.values l) done.heap done.accounts)
    → Agrees (record_call c (unless n s k done).values l) (unless n s k done).heap (unless n s k done).accounts
unfolding unless record_call
accepted_step c l s k zero done a z f = rw (eq-eqb done.values.refusal 0 z) (f refl)
accepted_step c l s k (suc n) done a z f = rw (ne_eqb (suc n) 0 (λ e. omega arith)) a

-- a state that a ledger tracks is written as a heap that agrees with it
pub agrees_from : (l : Ledger) (t : State) → Tracks l t → Agrees l (render t.blocks) t.accounts
unfolding quarantined_of
agrees_from l t a =
    let w = good_heap t a.good in
    record {
      extent = w.allowed;
      octets = w.octets;
      passes = w.passes;
      quotas = a.good.quotas;
      narrow = a.good.narrow;
      kinded = written_kinds t a.good a.kinded;
      kind = a.kind;
      grants = a.grants;
      matches = rw w.objects a.matches;
      waits = rw w.blocks a.waits;
    }

module _ (l : Ledger) (s : List ℕ) (k : Accounts) (a : Agrees l s k) where
  -- the state that a call starts from
  pub good : Good (state_of s k)
  good = heap_good s k a.extent a.octets a.passes a.quotas a.narrow (range_serial k a.kinded.1)

  tracked : Tracks l (state_of s k)
  unfolding objects_of quarantined_of
  tracked = record { good = good; kinded = a.kinded; kind = a.kind; grants = a.grants; matches = a.matches; waits = a.waits }

  pub again : render (blocks_of s) ≡ s
  again = heap_again s k a.octets a.passes

module _ (unit : ℕ → ℕ) (units : Units unit) (l : Ledger) (s : List ℕ) (k : Accounts) (a : Agrees l s k) where
  -- the new object of a request that has passed its lines
  module _ (q n : ℕ) (p : Allocatable unit s k q n) where
    -- it may be made
    pub room : Room q (new_object unit s k n) (state_of s k)
    room = requested_room unit units s k (good l s k a) (again l s k a) q n p

    -- no object has its serial yet
    pub fresh_serial : (x : Handle) → Memᴰ x (objects (blocks_of s)) → x.serial ≡ (new_object unit s k n).serial → ⊥
    fresh_serial = requested_fresh unit units s k (good l s k a) (again l s k a) q n p

    allocates : Agrees (add_object q (new_object unit s k n) l) (render (allocated q (new_object unit s k n) (state_of s k)).blocks)
        (allocated q (new_object unit s k n) (state_of s k)).accounts
    allocates = agrees_from _ _ (track_allocated l (state_of s k) (tracked l s k a) q (new_object unit s k n) room fresh_serial)

-- the object that a handle names is there, and has its serial
module _ (l : Ledger) (s : List ℕ) (k : Accounts) (a : Agrees l s k) (q : ℕ) (h : Handle) where
  pub there : (o : Handle) → lookup h s ≡ Some o → Memᴰ (found (lookup h s)) (objects (blocks_of s))
  unfolding found or_else objects_of
  there o e = rw e (lookup_named h s o e).1

  pub same_serial_as : (o : Handle) → lookup h s ≡ Some o → (found (lookup h s)).serial ≡ h.serial
  unfolding found or_else
  same_serial_as o e = rw e (found_serial h s o e)

  claims : Claimable s k q h → Agrees (add_hold q h.serial l) s (claimed q (found (lookup h s)) k)
  claims p =
      let o = found (lookup h s) in
      let m = there p.object p.names in
      let r = agrees_from _ _ (track_claimed l (state_of s k) (tracked l s k a) q o m p.exists p.pays p.unused) in
      subst₂ (λ (y : ℕ) (z : List ℕ). Agrees (add_hold q y l) z (claimed q o k)) (same_serial_as p.object p.names) (again l s k a) r

  releases : Releasable s k q h
      → Agrees (take_hold q h.serial l) (render (released q (found (lookup h s)) (state_of s k)).blocks)
      (released q (found (lookup h s)) (state_of s k)).accounts
  releases p =
      let o = found (lookup h s) in
      subst (λ (y : ℕ). Agrees (take_hold q y l) (render (released q o (state_of s k)).blocks) (released q o (state_of s k)).accounts)
      (same_serial_as p.object p.names)
      (agrees_from _ _ (track_released l (state_of s k) (tracked l s k a) q o (there p.object p.names) p.recorded p.exists))

frees : (l : Ledger) (s : List ℕ) (k : Accounts) (a : Agrees l s k) (q : ℕ) → q < QUOTAS
    → Agrees (take_all q l) (render (freed q (charges k.holds q (objects_of s)) (state_of s k)).blocks)
    (freed q (charges k.holds q (objects_of s)) (state_of s k)).accounts
unfolding objects_of
frees l s k a q x = agrees_from _ _ (track_freed l (state_of s k) (tracked l s k a) q x)

-- a new object made, the old one's bytes copied to it, and the old one released
track_moved : (l : Ledger) (t : State) → Tracks l t → (q : ℕ) (old new : Handle) → Room q new t
    → ((p : Handle) → Memᴰ p (objects t.blocks) → p.serial ≡ new.serial → ⊥) → Memᴰ old (objects t.blocks)
    → has_record t.accounts.holds q old.serial ≡ true
    → Tracks (take_hold q old.serial (add_object q new l)) (released q old (copied old new (allocated q new t)))
unfolding copied
track_moved l t a q old new r fresh there held =
    let t₁ = allocated q new t in
    let x = still_releasable t a.good q old new r (fresh old there) there held in
    track_released (add_object q new l) (copied old new t₁) (track_copied (add_object q new l) t₁ (track_allocated l t a q new r fresh) old new) q old
    x.0 x.1 r.exists

module _ (unit : ℕ → ℕ) (units : Units unit) (l : Ledger) (s : List ℕ) (k : Accounts) (a : Agrees l s k) (q : ℕ) (h : Handle) (n : ℕ) where
  pub old_there : (o : Handle) → lookup_whole h s ≡ Some o → Memᴰ (found (lookup_whole h s)) (objects (blocks_of s))
  unfolding found or_else objects_of
  old_there o e = let p = (lookup_whole_exactly h s o).0 e in rw (e, ← p.0) p.1

  old_serial : (o : Handle) → lookup_whole h s ≡ Some o → (found (lookup_whole h s)).serial ≡ h.serial
  unfolding found or_else
  old_serial o e = rw e (ap (λ (x : Handle). x.serial) (sym ((lookup_whole_exactly h s o).0 e).0))

  reallocates : Reallocatable unit s k q h n
      → Agrees (take_hold q h.serial (add_object q (new_object unit s k n) l))
      (render (released q (found (lookup_whole h s)) (copied (found (lookup_whole h s)) (new_object unit s k n)
      (allocated q (new_object unit s k n) (state_of s k)))).blocks)
      (released q (found (lookup_whole h s)) (copied (found (lookup_whole h s)) (new_object unit s k n)
      (allocated q (new_object unit s k n) (state_of s k)))).accounts
  reallocates p =
      let old = found (lookup_whole h s) in
      let new = new_object unit s k n in
      subst
      (λ (y : ℕ).
      Agrees (take_hold q y (add_object q new l)) (render (released q old (copied old new (allocated q new (state_of s k)))).blocks)
      (released q old (copied old new (allocated q new (state_of s k)))).accounts)
      (old_serial p.object p.names)
      (agrees_from _ _
      (track_moved l (state_of s k) (tracked l s k a) q old new (room unit units l s k a q n p.new) (fresh_serial unit units l s k a q n p.new)
      (old_there p.object p.names) p.recorded))

-- cleared permissions are not in the ledger, and nothing else changes
clear_agrees : (l : Ledger) (s : List ℕ) (k : Accounts) → Agrees l s k → (q n : ℕ) → Agrees l s (clear_permissions q n k)
clear_agrees l s k a q n =
    let c = clear_kept q n k in
    record {
      extent = a.extent;
      octets = a.octets;
      passes = clear_accounted q n k s ∙ a.passes;
      quotas = c.same_count ∙ a.quotas;
      narrow = λ j. rw (same_grant q k (clear_permissions q n k) c j) (a.narrow j);
      kinded = (
        rw c.same_kind a.kinded.0,
        range_like k a.kinded.1 (clear_permissions q n k) c.same_kind c.same_edition c.same_last,
      );
      kind = c.same_kind ∙ a.kind;
      grants = c.same_grants ∙ a.grants;
      matches = rw c.same_holds a.matches;
      waits = a.waits;
    }

-- every call keeps agreement
module _ (unit : ℕ → ℕ) (units : Units unit) where
  pub step_agrees : (c : Call) (l : Ledger) (s : List ℕ) (k : Accounts) → Agrees l s k
      → Agrees (record_call c (step unit c s k).values l) (step unit c s k).heap (step unit c s k).accounts
  unfolding step record_accepted allocate allocate_array claim release free_all sweep reallocate lend remaining_of can_release list_block clear
  step_agrees (Allocate q n) l s k a =
      accepted_step (Allocate q n) l s k (first_refusal (allocate_lines unit s k q n)) _ a refl
      (λ e. allocates unit units l s k a q n (allocate_passed unit s k q n
      ((accepted_exactly (allocate_lines unit s k q n) (by_lines unit (Allocate q n) s k).numbered).0 e)))
  step_agrees (AllocateArray q count size) l s k a =
      accepted_step (AllocateArray q count size) l s k (first_refusal (allocate_lines unit s k q (count * size))) _ a refl
      (λ e. allocates unit units l s k a q (count * size) (allocate_passed unit s k q (count * size)
      ((accepted_exactly (allocate_lines unit s k q (count * size)) (by_lines unit (AllocateArray q count size) s k).numbered).0 e)))
  step_agrees (Claim q h) l s k a =
      accepted_step (Claim q h) l s k (first_refusal (claim_lines unit s k q h)) _ a refl
      (λ e. claims l s k a q h (claim_passed unit s k q h ((accepted_exactly (claim_lines unit s k q h) (by_lines unit (Claim q h) s k).numbered).0
      e)))
  step_agrees (Release q h) l s k a =
      accepted_step (Release q h) l s k (first_refusal (release_lines unit s k q h)) _ a refl
      (λ e. releases l s k a q h (release_passed unit s k q h ((accepted_exactly (release_lines unit s k q h)
      (by_lines unit (Release q h) s k).numbered).0 e)))
  step_agrees (FreeAll q) l s k a =
      accepted_step (FreeAll q) l s k (first_refusal (free_all_lines unit s k q)) _ a refl
      (λ e. frees l s k a q (free_all_passed unit s k q ((accepted_exactly (free_all_lines unit s k q) (by_lines unit (FreeAll q) s k).numbered).0
      e)))
  step_agrees Sweep l s k a =
      accepted_step Sweep l s k (first_refusal (check_lines unit s k)) _ a refl
      (λ e. agrees_from _ _ (track_swept l (state_of s k) (tracked l s k a)))
  step_agrees (Reallocate q h n) l s k a =
      accepted_step (Reallocate q h n) l s k (first_refusal (reallocate_lines unit s k q h n)) _ a refl
      (λ e. reallocates unit units l s k a q h n (reallocate_passed unit s k q h n
      ((accepted_exactly (reallocate_lines unit s k q h n) (by_lines unit (Reallocate q h n) s k).numbered).0 e)))
  step_agrees (Lend h) l s k a = accepted_step (Lend h) l s k (first_refusal (lend_lines unit s k h)) _ a refl (λ e. a)
  step_agrees (Remaining q) l s k a = accepted_step (Remaining q) l s k (first_refusal (quota_lines unit s k q)) _ a refl (λ e. a)
  step_agrees (CanRelease q h) l s k a = accepted_step (CanRelease q h) l s k (first_refusal (release_lines unit s k q h)) _ a refl (λ e. a)
  step_agrees (ListBlock at) l s k a = accepted_step (ListBlock at) l s k (first_refusal (check_lines unit s k)) _ a refl (λ e. a)
  step_agrees (ClearPermissions q n) l s k a = accepted_step (ClearPermissions q n) l s k (first_refusal (quota_lines unit s k q)) _ a refl
      (λ e. clear_agrees l s k a q n)
