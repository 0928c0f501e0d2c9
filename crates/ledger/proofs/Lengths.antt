-- No event of a history changes the heap's length: a call leaves blocks whose sizes have the same sum, a write leaves as many bytes, and an image is read
-- only into a heap of its own length.
use Prim.Native.Nat.{ℕ, zero, suc, ◌*◌}
use mathlib.Core.Path.{◌≡◌, refl, ap, sym, ◌∙◌, subst}
use mathlib.Core.List.{List, [], ◌∷◌, ◌++◌}
use mathlib.Core.Bool.{true}
use lib.ListN.{length}
use Rattle.accounts.specs.declared.Accounts.{Accounts}
use Rattle.rounding.specs.Rounding.{Units}
use Rattle.layout.specs.Blocks.{Block, size, render}
use Rattle.lists.specs.Lists.{all, total}
use Rattle.model.specs.Objects.{blocks_of, lookup_whole, found}
use Rattle.model.specs.Consistent.{long_enough, free_apart, well_cut}
use Rattle.model.specs.Space.{body_of}
use Rattle.model.specs.Refusals.{first_refusal, quota_lines, free_all_lines, lend_lines, release_lines, claim_lines, check_lines, allocate_lines}
use Rattle.model.specs.Refusals.{reallocate_lines}
use Rattle.model.specs.Calls.{Outcome, State, unless, state_of, allocated, released, freed, copied, new_object, allocate, allocate_array, claim, release}
use Rattle.model.specs.Calls.{free_all, sweep, reallocate, lend, remaining_of, can_release, list_block, clear}
use Rattle.model.specs.Step.{step}
use Rattle.model.specs.declared.Handle.{Handle}
use Rattle.model.specs.declared.Call.{Call}
use Rattle.model.specs.declared.Call.TheVariants.{Allocate, AllocateArray, Claim, Release, FreeAll, Reallocate, Lend, Remaining, CanRelease, ListBlock}
use Rattle.model.specs.declared.Call.TheVariants.{ClearPermissions, Sweep}
use Rattle.lists.proofs.Bools.{and_right}
use Rattle.model.proofs.Refusals.{accepted_exactly, by_lines}
use Rattle.model.proofs.Carve.{carved, carved_total}
use Rattle.model.proofs.Settle.{settle_total}
use Rattle.model.proofs.Sweep.{swept_total}
use Rattle.invariant.proofs.Good.{Good}
use Rattle.invariant.proofs.Laid.{copy_total}
use Rattle.invariant.proofs.Recorded.{good_laid}
use Rattle.invariant.proofs.Heaps.{render_total}
use Rattle.invariant.proofs.Transitions.{Room}
use Rattle.invariant.proofs.Passed.{Allocatable, allocate_passed, reallocate_passed}
use Rattle.ledger.specs.Ledger.{Ledger, Event, Called, Wrote, Saved, Restored, ledger_of}
use Rattle.ledger.specs.History.{by_own, History}
use Rattle.ledger.proofs.Agreement.{Agrees}
use Rattle.ledger.proofs.Steps.{good, again, room}
use Rattle.ledger.proofs.Theorem.{history_agrees}

-- each change of the blocks keeps the sum of their sizes
allocated_total : (q : ℕ) (o : Handle) (t : State) → Good t → Room q o t → total size (allocated q o t).blocks ≡ total size t.blocks
unfolding allocated well_cut
allocated_total q o t g r =
    let l = good_laid t g in
    let apart : free_apart t.blocks ≡ true = and_right (all long_enough t.blocks) _ l.cut in
    carved_total (carved o.base o.length o.serial t.blocks apart r.fits) refl l.whole r.aligned r.even

released_total : (q : ℕ) (o : Handle) (t : State) → total size (released q o t).blocks ≡ total size t.blocks
unfolding released
released_total q o t = settle_total t.accounts.kind _ t.blocks

freed_total : (q back : ℕ) (t : State) → total size (freed q back t).blocks ≡ total size t.blocks
unfolding freed
freed_total q back t = settle_total t.accounts.kind _ t.blocks

copied_total : (old new : Handle) (t : State) → total size (copied old new t).blocks ≡ total size t.blocks
unfolding copied
copied_total old new t = copy_total new.serial (body_of old.serial t.blocks) t.blocks

-- a refused call leaves the heap
accepted_length : (s : List ℕ) (k : Accounts) (n : ℕ) (done : Outcome) → (n ≡ 0 → length done.heap ≡ length s) → length (unless n s k done).heap ≡ length s
unfolding unless
accepted_length s k zero done f = f refl
accepted_length s k (suc n) done f = refl

module _ (unit : ℕ → ℕ) (units : Units unit) (l : Ledger) (s : List ℕ) (k : Accounts) (a : Agrees l s k) where
  -- blocks with the same sum of sizes are as long as the heap
  as_long : (bs : List Block) → total size bs ≡ total size (blocks_of s) → length (render bs) ≡ length s
  as_long bs e = render_total bs ∙ e ∙ sym (render_total (blocks_of s)) ∙ ap length (again l s k a)

  made_total : (q n : ℕ) → Allocatable unit s k q n → total size (allocated q (new_object unit s k n) (state_of s k)).blocks ≡ total size (blocks_of s)
  made_total q n p = allocated_total q (new_object unit s k n) (state_of s k) (good l s k a) (room unit units l s k a q n p)

  pub step_length : (c : Call) → length (step unit c s k).heap ≡ length s
  unfolding step allocate allocate_array claim release free_all sweep reallocate lend remaining_of can_release list_block clear
  step_length (Allocate q n) =
      accepted_length s k (first_refusal (allocate_lines unit s k q n)) _
      (λ e.
      (let p = (accepted_exactly (allocate_lines unit s k q n) (by_lines unit (Allocate q n) s k).numbered).0 e in
      as_long _ (made_total q n (allocate_passed unit s k q n p))))
  step_length (AllocateArray q count size) =
      accepted_length s k (first_refusal (allocate_lines unit s k q (count * size))) _
      (λ e.
      (let p = (accepted_exactly (allocate_lines unit s k q (count * size)) (by_lines unit (AllocateArray q count size) s k).numbered).0 e in
      as_long _ (made_total q (count * size) (allocate_passed unit s k q (count * size) p))))
  step_length (Claim q h) = accepted_length s k (first_refusal (claim_lines unit s k q h)) _ (λ e. refl)
  step_length (Release q h) = accepted_length s k (first_refusal (release_lines unit s k q h)) _ (λ e. as_long _ (released_total q _ (state_of s k)))
  step_length (FreeAll q) = accepted_length s k (first_refusal (free_all_lines unit s k q)) _ (λ e. as_long _ (freed_total q _ (state_of s k)))
  step_length Sweep = accepted_length s k (first_refusal (check_lines unit s k)) _ (λ e. as_long _ (swept_total (blocks_of s)))
  step_length (Reallocate q h n) =
      accepted_length s k (first_refusal (reallocate_lines unit s k q h n)) _
      (λ e.
      (let p = reallocate_passed unit s k q h n ((accepted_exactly (reallocate_lines unit s k q h n) (by_lines unit (Reallocate q h n) s k).numbered).0 e) in
      let old = found (lookup_whole h s) in
      let new = new_object unit s k n in
      let t = allocated q new (state_of s k) in
      as_long _ (released_total q old (copied old new t) ∙ copied_total old new t ∙ made_total q n p.new)))
  step_length (Lend h) = accepted_length s k (first_refusal (lend_lines unit s k h)) _ (λ e. refl)
  step_length (Remaining q) = accepted_length s k (first_refusal (quota_lines unit s k q)) _ (λ e. refl)
  step_length (CanRelease q h) = accepted_length s k (first_refusal (release_lines unit s k q h)) _ (λ e. refl)
  step_length (ListBlock at) = accepted_length s k (first_refusal (check_lines unit s k)) _ (λ e. refl)
  step_length (ClearPermissions q n) = accepted_length s k (first_refusal (quota_lines unit s k q)) _ (λ e. refl)

-- so the heap is as long as when an image of it was written
module _ (tables : ℕ → ℕ → ℕ) (units : (e : ℕ) → Units (tables e)) (begun : Ledger) (early : List Event) (s₁ : List ℕ) (k₁ : Accounts) where
  pub saved_as_long : (mid : List Event) (s : List ℕ) (k : Accounts) → History tables (by_own tables) begun (mid ++ (Saved s₁ k₁ ∷ early)) s k
      → length s ≡ length s₁
  saved_as_long [] s k h = ap length h.1
  saved_as_long (Called c v ∷ mid) s k h =
      let es = mid ++ (Saved s₁ k₁ ∷ early) in
      subst (λ (t : Outcome). length t.heap ≡ length s₁) h.3
      (step_length (tables h.1.edition) (units h.1.edition) (ledger_of begun es) h.0 h.1
      (history_agrees tables units begun es h.0 h.1 h.2) c
      ∙ saved_as_long mid h.0 h.1 h.2)
  saved_as_long (Wrote ∷ mid) s k h = h.2.same_length ∙ saved_as_long mid h.0 k h.1
  saved_as_long (Saved s₂ k₂ ∷ mid) s k h = saved_as_long mid s k h.0
  saved_as_long (Restored s₂ k₂ ∷ mid) s k h = h.3 ∙ saved_as_long mid h.0 h.1 h.2
