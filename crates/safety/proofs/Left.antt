-- Nothing is left of what was released. An opening makes all bytes zero; each call keeps what blocks that are not live hold to a test that 0 passes
-- (`proofs/Clean.antt`), and a write changes live blocks alone. So the heap is blank along every history, from an opening or from a blank image on.
use Prim.Native.Nat.{ℕ, ◌-◌, ◌*◌, ◌<◌}
use native.Mathlib.Omega.{arith}
use mathlib.Core.Path.{◌≡◌, refl, subst}
use mathlib.Core.List.{List, [], ◌∷◌}
use mathlib.Core.Bool.{Bool, true, false}
use Rattle.accounts.specs.declared.Accounts.{Accounts}
use Rattle.accounts.specs.Accounts.{QUOTAS}
use Rattle.accounts.specs.declared.settings.Settings.{Settings}
use Rattle.rounding.specs.Rounding.{Units, table}
use Rattle.rounding.proofs.Editions.{table_is}
use Rattle.layout.specs.Blocks.{Block, live, QUARANTINED, render}
use Rattle.lists.specs.Lists.{all}
use Rattle.model.specs.Objects.{blocks_of, objects, objects_of, lookup, lookup_whole, found}
use Rattle.model.specs.Consistent.{long_enough, well_cut, charges}
use Rattle.model.specs.Refusals.{first_refusal, quota_lines, free_all_lines, lend_lines, release_lines, claim_lines, check_lines, allocate_lines}
use Rattle.model.specs.Refusals.{reallocate_lines}
use Rattle.model.specs.Calls.{Outcome, State, fresh, unless, state_of, allocated, released, freed, copied, new_object, allocate, allocate_array, claim}
use Rattle.model.specs.Calls.{release, free_all, sweep, reallocate, lend, remaining_of, can_release, list_block, clear}
use Rattle.model.specs.Step.{step, own_step}
use Rattle.model.specs.declared.Handle.{Handle}
use Rattle.model.specs.declared.Call.{Call}
use Rattle.model.specs.declared.Call.TheVariants.{Allocate, AllocateArray, Claim, Release, FreeAll, Reallocate, Lend, Remaining, CanRelease, ListBlock}
use Rattle.model.specs.declared.Call.TheVariants.{ClearPermissions, Sweep}
use Rattle.lists.proofs.Bools.{and_right, and_both}
use Rattle.lists.proofs.Lists.{all_member, member_all}
use Rattle.model.proofs.Refusals.{unless_where}
use Rattle.invariant.proofs.Good.{Good}
use Rattle.invariant.proofs.Heaps.{good_heap, heap_again}
use Rattle.invariant.proofs.Transitions.{Room, released_good, freed_good, swept_good}
use Rattle.invariant.proofs.Passed.{Allocatable, allocate_passed, Releasable, release_passed, free_all_passed, Reallocatable, reallocate_passed}
use Rattle.ledger.specs.Ledger.{Ledger, Event, Called, Wrote, Saved, Restored, ledger_of}
use Rattle.ledger.specs.History.{Opened, Begins, Opening, Restoring, Written, History, by_own}
use Rattle.ledger.proofs.Agreement.{Agrees}
use Rattle.ledger.proofs.Steps.{good, room, there}
use Rattle.ledger.proofs.Bytes.{made, new_good, moved_good}
use Rattle.ledger.proofs.Writing.{written_others}
use Rattle.ledger.proofs.Opening.{opening_blocks}
use Rattle.ledger.proofs.Theorem.{history_agrees}
use Rattle.safety.specs.Images.{AtLastImage}
use Rattle.safety.specs.Left.{clean_block, clean, is_zero, blank, NothingLeft}
use Rattle.safety.proofs.Accepted.{none_holds}
use Rattle.safety.proofs.Clean.{Clean, all_zeros, clean_passes, passes_clean, live_clean, settle_clean, swept_clean, copy_clean, carve_clean}
use Rattle.safety.proofs.Outside.{byte_zero}

-- a test of bytes that 0 passes
module _ (p : ℕ → Bool) (z : p 0 ≡ true) where
  -- the states that calls leave
  allocated_clean : (q : ℕ) (o : Handle) (t : State) → Good t → Room q o t → Clean p t.blocks → Clean p (allocated q o t).blocks
  unfolding allocated well_cut
  allocated_clean q o t g r b =
      carve_clean p z o.base o.length o.serial t.blocks (omega (arith, r.next)) r.narrow
      (and_right (all long_enough t.blocks) _ g.tests.cut) r.fits b

  released_clean : (q : ℕ) (o : Handle) (t : State) → Clean p t.blocks → Clean p (released q o t).blocks
  unfolding released
  released_clean q o t b = settle_clean p z t.accounts.kind _ t.blocks b

  freed_clean : (q back : ℕ) (t : State) → Clean p t.blocks → Clean p (freed q back t).blocks
  unfolding freed
  freed_clean q back t b = settle_clean p z t.accounts.kind _ t.blocks b

  copied_clean : (old new : Handle) (t : State) → 0 < new.serial → new.serial < QUARANTINED → Clean p t.blocks → Clean p (copied old new t).blocks
  unfolding copied
  copied_clean old new t g n b = copy_clean p z new.serial _ g n t.blocks b

  -- the heap of a good state has its blocks
  heap_clean : (t : State) → Good t → Clean p t.blocks → Clean p (blocks_of (render t.blocks))
  heap_clean t g b = rw (good_heap t g).blocks b

  -- the heap of an outcome is clean
  abbrev CleanAfter : Outcome → Type 0
  CleanAfter t = Clean p (blocks_of t.heap)

  module _ (unit : ℕ → ℕ) (units : Units unit) (l : Ledger) (s : List ℕ) (k : Accounts) (a : Agrees l s k) (b : Clean p (blocks_of s)) where
    allocate_clean : (q n : ℕ) → Allocatable unit s k q n → Clean p (blocks_of (render (allocated q (new_object unit s k n) (state_of s k)).blocks))
    allocate_clean q n x =
        heap_clean (allocated q (new_object unit s k n) (state_of s k)) (new_good unit units l s k a q n x)
        (allocated_clean q (new_object unit s k n) (state_of s k) (good l s k a) (room unit units l s k a q n x) b)

    release_clean : (q : ℕ) (h : Handle) → Releasable s k q h → Clean p (blocks_of (render (released q (found (lookup h s)) (state_of s k)).blocks))
    release_clean q h x =
        heap_clean (released q (found (lookup h s)) (state_of s k))
        (released_good q (found (lookup h s)) (state_of s k) (good l s k a) (there l s k a q h x.object x.names) x.recorded)
        (released_clean q (found (lookup h s)) (state_of s k) b)

    free_clean : (q : ℕ) → q < QUOTAS → Clean p (blocks_of (render (freed q (charges k.holds q (objects_of s)) (state_of s k)).blocks))
    unfolding objects_of
    free_clean q x =
        heap_clean (freed q (charges k.holds q (objects (blocks_of s))) (state_of s k)) (freed_good q (state_of s k) (good l s k a) x)
        (freed_clean q _ (state_of s k) b)

    reallocate_clean : (q : ℕ) (h : Handle) (n : ℕ) (x : Reallocatable unit s k q h n)
        → Clean p (blocks_of (render (released q (found (lookup_whole h s)) (made unit units l s k a q h n x)).blocks))
    reallocate_clean q h n x =
        let new = new_object unit s k n in
        let old = found (lookup_whole h s) in
        let r = room unit units l s k a q n x.new in
        heap_clean _ (moved_good unit units l s k a q h n x)
        (released_clean q old _
        (copied_clean old new (allocated q new (state_of s k)) (omega (arith, r.next)) r.narrow
        (allocated_clean q new (state_of s k) (good l s k a) r b)))

    -- a call that is refused, or leaves the heap alone
    accepted_clean : (n : ℕ) (done : Outcome) → (n ≡ 0 → CleanAfter done) → CleanAfter (unless n s k done)
    accepted_clean n done f = unless_where CleanAfter n s k done f (λ m. b)

    step_clean : (c : Call) → CleanAfter (step unit c s k)
    unfolding step allocate allocate_array claim release free_all sweep reallocate lend remaining_of can_release list_block clear
    step_clean (Allocate q n) =
        accepted_clean (first_refusal (allocate_lines unit s k q n)) _
        (λ e. allocate_clean q n (allocate_passed unit s k q n (none_holds unit (Allocate q n) s k e)))
    step_clean (AllocateArray q count size) =
        accepted_clean (first_refusal (allocate_lines unit s k q (count * size))) _
        (λ e. allocate_clean q (count * size) (allocate_passed unit s k q (count * size) (none_holds unit (AllocateArray q count size) s k e)))
    step_clean (Claim q h) = accepted_clean (first_refusal (claim_lines unit s k q h)) _ (λ e. b)
    step_clean (Release q h) =
        accepted_clean (first_refusal (release_lines unit s k q h)) _
        (λ e. release_clean q h (release_passed unit s k q h (none_holds unit (Release q h) s k e)))
    step_clean (FreeAll q) =
        accepted_clean (first_refusal (free_all_lines unit s k q)) _ (λ e. free_clean q (free_all_passed unit s k q (none_holds unit (FreeAll q) s k e)))
    step_clean Sweep =
        accepted_clean (first_refusal (check_lines unit s k)) _
        (λ e. heap_clean _ (swept_good (state_of s k) (good l s k a)) (swept_clean p z (blocks_of s) b))
    step_clean (Reallocate q h n) =
        accepted_clean (first_refusal (reallocate_lines unit s k q h n)) _
        (λ e. reallocate_clean q h n (reallocate_passed unit s k q h n (none_holds unit (Reallocate q h n) s k e)))
    step_clean (Lend h) = accepted_clean (first_refusal (lend_lines unit s k h)) _ (λ e. b)
    step_clean (Remaining q) = accepted_clean (first_refusal (quota_lines unit s k q)) _ (λ e. b)
    step_clean (CanRelease q h) = accepted_clean (first_refusal (release_lines unit s k q h)) _ (λ e. b)
    step_clean (ListBlock at) = accepted_clean (first_refusal (check_lines unit s k)) _ (λ e. b)
    step_clean (ClearPermissions q n) = accepted_clean (first_refusal (quota_lines unit s k q)) _ (λ e. b)

-- a write changes no block that is not live
clean_member : (p : ℕ → Bool) (b : Block) → (live b ≡ false → all p b.body ≡ true) → clean_block p b ≡ true
clean_member p b f = go (live b) refl
  where
    go : (t : Bool) → live b ≡ t → clean_block p b ≡ true
    go true e = live_clean p b e
    go false e = passes_clean p b (f e)

written_clean : (p : ℕ → Bool) (l : Ledger) (s s' : List ℕ) (k : Accounts) → Agrees l s k → Written s s' → Clean p (blocks_of s) → Clean p (blocks_of s')
written_clean p l s s' k a w b =
    member_all (clean_block p) (blocks_of s')
    (λ c m.
    clean_member p c (λ f. clean_passes p c f (all_member (clean_block p) (blocks_of s) b c (written_others s s' k a.octets a.passes w c f m))))

-- an opening leaves one block of zeros
opened_blank : (g : Settings) (grants s : List ℕ) (k : Accounts) → Opened g grants s k → blank s ≡ true
unfolding fresh all clean blank
opened_blank g grants s k o =
    let f = opening_blocks g grants s k o in
    rw f.1 (and_both _ _ (passes_clean is_zero _ (all_zeros is_zero refl (f.0 - 8))) refl)

module _ (tables : ℕ → ℕ → ℕ) (units : (e : ℕ) → Units (tables e)) (begun : Ledger) where
  call_clean : (es : List Event) (s : List ℕ) (k : Accounts) → History tables (by_own tables) begun es s k → (p : ℕ → Bool) → p 0 ≡ true
      → clean p s ≡ true → (c : Call) → clean p (by_own tables c s k).heap ≡ true
  unfolding clean
  call_clean es s k h p z b c =
      step_clean p z (tables k.edition) (units k.edition) (ledger_of begun es) s k (history_agrees tables units begun es s k h) b c

  write_clean : (es : List Event) (s : List ℕ) (k : Accounts) → History tables (by_own tables) begun es s k → (p : ℕ → Bool)
      → clean p s ≡ true → (s' : List ℕ) → Written s s' → clean p s' ≡ true
  unfolding clean
  write_clean es s k h p b s' w = written_clean p (ledger_of begun es) s s' k (history_agrees tables units begun es s k h) w b

  begun_blank : (s : List ℕ) (k : Accounts) (h : Begins tables begun s k)
      → AtLastImage tables (by_own tables) begun (λ s k. blank s ≡ true) [] s k h → blank s ≡ true
  begun_blank s k (Opening g grants e o) i = opened_blank g grants s k o
  begun_blank s k (Restoring e r) i = i

  history_blank : (es : List Event) (s : List ℕ) (k : Accounts) (h : History tables (by_own tables) begun es s k)
      → AtLastImage tables (by_own tables) begun (λ s k. blank s ≡ true) es s k h → blank s ≡ true
  unfolding blank
  history_blank [] s k h i = begun_blank s k h i
  history_blank (Called c v ∷ es) s k h i =
      subst (λ (t : Outcome). clean is_zero t.heap ≡ true) h.3
      (call_clean es h.0 h.1 h.2 is_zero refl (history_blank es h.0 h.1 h.2 i) c)
  history_blank (Wrote ∷ es) s k h i = write_clean es h.0 k h.1 is_zero (history_blank es h.0 k h.1 i) s h.2
  history_blank (Saved s₀ k₀ ∷ es) s k h i = history_blank es s k h.0 i
  history_blank (Restored s₁ k₁ ∷ es) s k h i = i

-- THE THEOREM
pub nothing_left_of : (tables : ℕ → ℕ → ℕ) → ((e : ℕ) → Units (tables e)) → NothingLeft tables (by_own tables)
unfolding clean blank
nothing_left_of tables units =
    record {
      always = history_blank tables units;
      called = call_clean tables units;
      wrote = write_clean tables units;
      bytes = λ begun es s k h b.
          (let a = history_agrees tables units begun es s k h in byte_zero s (heap_again s k a.octets a.passes) b);
    }

-- and so of both editions' tables
pub nothing_left : NothingLeft table own_step
nothing_left = nothing_left_of table table_is
