-- Beyond the request: no call changes a byte of an object that stays, a new object is all zero, and a reallocated one has the copied bytes and then zeros.
-- A call makes no live block but the new object's, and every other live block that is left was there before with the same bytes.
use Prim.Native.Nat.{ℕ, zero, suc, ◌+◌, ◌*◌, ◌<◌}
use native.Mathlib.Omega.{arith}
use mathlib.Core.Path.{◌≡◌, refl, ap, ◌∙◌}
use mathlib.Core.List.{List, Memᴰ}
use mathlib.Core.Bool.{true}
use mathlib.Core.Logic.{◌⊎◌, ⊎_elim}
use lib.ListN.{replicate}
use Rattle.accounts.specs.declared.Accounts.{Accounts}
use Rattle.accounts.specs.Accounts.{QUOTAS}
use Rattle.rounding.specs.Rounding.{Units}
use Rattle.layout.specs.Blocks.{Block, live, render}
use Rattle.lists.specs.Lists.{all}
use Rattle.model.specs.Objects.{objects, blocks_of, objects_of, lookup, lookup_whole, found}
use Rattle.model.specs.Consistent.{long_enough, free_apart, well_cut, charges, has_record}
use Rattle.model.specs.Space.{body_of, swept}
use Rattle.model.specs.Calls.{Outcome, State, unless, state_of, allocated, released, freed, copied, new_object, allocate, allocate_array, claim}
use Rattle.model.specs.Calls.{release}
use Rattle.model.specs.Calls.{free_all, reallocate, lend, remaining_of, can_release, list_block, clear, sweep}
use Rattle.model.specs.Refusals.{first_refusal, quota_lines, free_all_lines, lend_lines, release_lines, claim_lines, check_lines, allocate_lines}
use Rattle.model.specs.Refusals.{reallocate_lines}
use Rattle.model.specs.Step.{step}
use Rattle.model.specs.declared.Call.{Call}
use Rattle.model.specs.declared.Call.TheVariants.{Allocate, AllocateArray, Claim, Release, FreeAll, Reallocate, Lend, Remaining, CanRelease}
use Rattle.model.specs.declared.Call.TheVariants.{ListBlock}
use Rattle.model.specs.declared.Call.TheVariants.{ClearPermissions, Sweep}
use Rattle.model.proofs.Refusals.{accepted_exactly, by_lines}
use Rattle.model.specs.declared.Handle.{Handle}
use Rattle.lists.proofs.Bools.{and_right}
use Rattle.model.proofs.Carve.{carved}
use Rattle.ledger.specs.Ledger.{Ledger}
use Rattle.ledger.specs.Contents.{contents}
use Rattle.invariant.proofs.Good.{Good}
use Rattle.ledger.proofs.Agreement.{Agrees}
use Rattle.invariant.proofs.Heaps.{good_heap}
use Rattle.ledger.proofs.Contents.{contents_stay}
use Rattle.ledger.proofs.Staying.{carved_live, settled_live, copied_live, swept_live}
use Rattle.invariant.proofs.Transitions.{Room, allocated_good, released_good, freed_good, copied_good, swept_good}
use Rattle.invariant.proofs.Passed.{Allocatable, allocate_passed, Releasable, release_passed, free_all_passed, Reallocatable, reallocate_passed}
use Rattle.invariant.proofs.Requested.{still_releasable}
use Rattle.ledger.proofs.Steps.{good, again, room, fresh_serial, there, old_there}

-- every live block of u but one with a new serial is one of t
abbrev pub Leaves : ℕ → State → State → Type 0
Leaves new t u = (b : Block) → live b ≡ true → Memᴰ b u.blocks → (b.serial ≡ new → ⊥) → Memᴰ b t.blocks

apart_of_cut : (bs : List Block) → well_cut bs ≡ true → free_apart bs ≡ true
unfolding well_cut
apart_of_cut bs e = and_right (all long_enough bs) (free_apart bs) e

-- the new object's block is the one live block that a new object brings
pub allocated_live : (q : ℕ) (o : Handle) (t : State) → Good t → Room q o t → (b : Block) → live b ≡ true → Memᴰ b (allocated q o t).blocks
    → (b ≡ record { serial = o.serial; body = replicate o.length 0 }) ⊎ Memᴰ b t.blocks
unfolding allocated
allocated_live q o t g r b l m = carved_live (carved o.base o.length o.serial t.blocks (apart_of_cut t.blocks g.tests.cut)
    r.fits) b l m

pub allocated_leaves : (q : ℕ) (o : Handle) (t : State) → Good t → Room q o t → Leaves o.serial t (allocated q o t)
allocated_leaves q o t g r b l m ne = ⊎_elim (λ e. absurd (ne (ap (λ (x : Block). x.serial) e))) (λ x. x) (allocated_live q o t g r b l m)

pub released_leaves : (new q : ℕ) (o : Handle) (t : State) → Leaves new t (released q o t)
unfolding released
released_leaves new q o t b l m ne = settled_live t.accounts.kind _ t.blocks b l m

pub freed_leaves : (new q back : ℕ) (t : State) → Leaves new t (freed q back t)
unfolding freed
freed_leaves new q back t b l m ne = settled_live t.accounts.kind _ t.blocks b l m

pub copied_leaves : (old new : Handle) (t : State) → Leaves new.serial t (copied old new t)
unfolding copied
copied_leaves old new t b l m ne =
    ⊎_elim (λ x. x.0) (λ y. absurd (ne (ap (λ (z : Block). z.serial) y.3)))
    (copied_live new.serial (body_of old.serial t.blocks) t.blocks b l m)

pub leaves_then : (new : ℕ) (t u v : State) → Leaves new t u → Leaves new u v → Leaves new t v
leaves_then new t u v f g b l m ne = f b l (g b l m ne) ne

-- what a call leaves of the bytes, where its blocks are these
module _ (l : Ledger) (s : List ℕ) (k : Accounts) (a : Agrees l s k) (new : ℕ) (t : State) (g : Good t) (f : Leaves new (state_of s k) t) where
  pub left_bytes : (o : Handle) → Memᴰ o (objects_of s) → (o.serial ≡ new → ⊥) → Memᴰ o (objects_of (render t.blocks))
      → contents o (render t.blocks) ≡ contents o s
  unfolding objects_of
  left_bytes o m ne n =
      contents_stay (blocks_of s) t.blocks new (good l s k a).tests.differ f o m (rw (good_heap t g).blocks at n) ne
      ∙ ap (contents o) (again l s k a)

-- bytes of objects that stay, of a call that may be refused
abbrev Stays : List ℕ → List ℕ → Type 0
Stays s s' = (o : Handle) → Memᴰ o (objects_of s) → Memᴰ o (objects_of s') → contents o s' ≡ contents o s

accepted_bytes : (s : List ℕ) (k : Accounts) (n : ℕ) (done : Outcome) → (n ≡ 0 → Stays s done.heap) → Stays s (unless n s k done).heap
unfolding unless
accepted_bytes s k zero done f = f refl
accepted_bytes s k (suc n) done f = λ o m x. refl

module _ (unit : ℕ → ℕ) (units : Units unit) (l : Ledger) (s : List ℕ) (k : Accounts) (a : Agrees l s k) where
  module _ (q n : ℕ) (p : Allocatable unit s k q n) where
    pub new_good : Good (allocated q (new_object unit s k n) (state_of s k))
    new_good = allocated_good q (new_object unit s k n) (state_of s k) (good l s k a) (room unit units l s k a q n p)

    not_new : (o : Handle) → Memᴰ o (objects_of s) → o.serial ≡ (new_object unit s k n).serial → ⊥
    unfolding objects_of
    not_new = fresh_serial unit units l s k a q n p

    pub allocate_bytes : Stays s (render (allocated q (new_object unit s k n) (state_of s k)).blocks)
    allocate_bytes o m =
        left_bytes l s k a (new_object unit s k n).serial (allocated q (new_object unit s k n) (state_of s k)) new_good
        (allocated_leaves q (new_object unit s k n) (state_of s k) (good l s k a) (room unit units l s k a q n p)) o m (not_new o m)

  release_bytes : (q : ℕ) (h : Handle) → Releasable s k q h → Stays s (render (released q (found (lookup h s)) (state_of s k)).blocks)
  release_bytes q h p o m =
      left_bytes l s k a (o.serial + 1) (released q (found (lookup h s)) (state_of s k))
      (released_good q (found (lookup h s)) (state_of s k) (good l s k a) (there l s k a q h p.object p.names) p.recorded)
      (released_leaves (o.serial + 1) q (found (lookup h s)) (state_of s k)) o m (λ e. omega arith)

  free_bytes : (q : ℕ) → q < QUOTAS → Stays s (render (freed q (charges k.holds q (objects_of s)) (state_of s k)).blocks)
  unfolding objects_of
  free_bytes q x o m =
      left_bytes l s k a (o.serial + 1) (freed q (charges k.holds q (objects (blocks_of s))) (state_of s k))
      (freed_good q (state_of s k) (good l s k a) x)
      (freed_leaves (o.serial + 1) q (charges k.holds q (objects (blocks_of s))) (state_of s k)) o m (λ e. omega arith)

  module _ (q : ℕ) (h : Handle) (n : ℕ) (p : Reallocatable unit s k q h n) where
    abbrev pub old : Handle
    old = found (lookup_whole h s)

    abbrev pub new : Handle
    new = new_object unit s k n

    abbrev pub made : State
    made = copied old new (allocated q new (state_of s k))

    pub made_good : Good made
    made_good = copied_good old new (allocated q new (state_of s k)) (new_good q n p.new)

    pub old_here : Memᴰ old (objects (blocks_of s))
    old_here = old_there unit units l s k a q h n p.object p.names

    pub old_recorded : has_record k.holds q old.serial ≡ true
    old_recorded = p.recorded

    pub moved_good : Good (released q old made)
    moved_good =
        let x =
        still_releasable (state_of s k) (good l s k a) q old new (room unit units l s k a q n p.new)
        (fresh_serial unit units l s k a q n p.new old old_here) old_here
        old_recorded in
        released_good q old made made_good x.0 x.1

    reallocate_bytes : Stays s (render (released q old made).blocks)
    reallocate_bytes o m =
        left_bytes l s k a new.serial (released q old made) moved_good
        (leaves_then new.serial (state_of s k) made (released q old made)
        (leaves_then new.serial (state_of s k) (allocated q new (state_of s k)) made
        (allocated_leaves q new (state_of s k) (good l s k a) (room unit units l s k a q n p.new))
        (copied_leaves old new (allocated q new (state_of s k))))
        (released_leaves new.serial q old made))
        o m (not_new q n p.new o m)

-- no call changes a byte of an object that stays
module _ (unit : ℕ → ℕ) (units : Units unit) where
  pub step_bytes : (c : Call) (l : Ledger) (s : List ℕ) (k : Accounts) → Agrees l s k → (o : Handle) → Memᴰ o (objects_of s)
      → Memᴰ o (objects_of (step unit c s k).heap) → contents o (step unit c s k).heap ≡ contents o s
  unfolding step allocate allocate_array claim release free_all sweep reallocate lend remaining_of can_release list_block clear
  step_bytes (Allocate q n) l s k a =
      accepted_bytes s k (first_refusal (allocate_lines unit s k q n)) _
      (λ e. allocate_bytes unit units l s k a q n (allocate_passed unit s k q n
      ((accepted_exactly (allocate_lines unit s k q n) (by_lines unit (Allocate q n) s k).numbered).0 e)))
  step_bytes (AllocateArray q count size) l s k a =
      accepted_bytes s k (first_refusal (allocate_lines unit s k q (count * size))) _
      (λ e. allocate_bytes unit units l s k a q (count * size) (allocate_passed unit s k q (count * size)
      ((accepted_exactly (allocate_lines unit s k q (count * size)) (by_lines unit (AllocateArray q count size) s k).numbered).0 e)))
  step_bytes (Claim q h) l s k a = accepted_bytes s k (first_refusal (claim_lines unit s k q h)) _ (λ e o m x. refl)
  step_bytes (Release q h) l s k a =
      accepted_bytes s k (first_refusal (release_lines unit s k q h)) _
      (λ e. release_bytes unit units l s k a q h (release_passed unit s k q h
      ((accepted_exactly (release_lines unit s k q h) (by_lines unit (Release q h) s k).numbered).0 e)))
  step_bytes (FreeAll q) l s k a =
      accepted_bytes s k (first_refusal (free_all_lines unit s k q)) _
      (λ e. free_bytes unit units l s k a q (free_all_passed unit s k q
      ((accepted_exactly (free_all_lines unit s k q) (by_lines unit (FreeAll q) s k).numbered).0 e)))
  step_bytes Sweep l s k a =
      accepted_bytes s k (first_refusal (check_lines unit s k)) _
      (λ e o m.
      left_bytes l s k a (o.serial + 1) (record { blocks = swept (blocks_of s); accounts = k }) (swept_good (state_of s k) (good l s k a))
      (λ b v x ne. swept_live (blocks_of s) b v x) o m (λ z. omega arith))
  step_bytes (Reallocate q h n) l s k a =
      accepted_bytes s k (first_refusal (reallocate_lines unit s k q h n)) _
      (λ e. reallocate_bytes unit units l s k a q h n (reallocate_passed unit s k q h n
      ((accepted_exactly (reallocate_lines unit s k q h n) (by_lines unit (Reallocate q h n) s k).numbered).0 e)))
  step_bytes (Lend h) l s k a = accepted_bytes s k (first_refusal (lend_lines unit s k h)) _ (λ e o m x. refl)
  step_bytes (Remaining q) l s k a = accepted_bytes s k (first_refusal (quota_lines unit s k q)) _ (λ e o m x. refl)
  step_bytes (CanRelease q h) l s k a = accepted_bytes s k (first_refusal (release_lines unit s k q h)) _ (λ e o m x. refl)
  step_bytes (ListBlock at) l s k a = accepted_bytes s k (first_refusal (check_lines unit s k)) _ (λ e o m x. refl)
  step_bytes (ClearPermissions q n) l s k a = accepted_bytes s k (first_refusal (quota_lines unit s k q)) _ (λ e o m x. refl)
