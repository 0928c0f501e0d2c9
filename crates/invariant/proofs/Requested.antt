-- A request for a new object that has passed its lines, in a good state: the object has room and a serial that no other has. Once it is made and has
-- reallocate's bytes, the old object is still there, and the quota still has its record for it.
-- The base that was found is a multiple of the alignment and so of 8, and it suits. Making an object keeps every other object and every other count.
use Prim.Native.Nat.{ℕ, ◌%◌}
use native.Mathlib.Nat.{mod-mod_of_dvd, dvd_of_mod-eq-zero}
use native.Mathlib.Omega.{arith}
use mathlib.Core.Path.{◌≡◌, refl, ap, sym, ◌∙◌}
use mathlib.Core.List.{List, Memᴰ}
use mathlib.Core.Bool.{true, false}
use lib.ListN.{length}
use lib.Dec.{eqb}
use borrow.Author.Tests.{eq-eqb, ne_eqb}
use Rattle.accounts.specs.declared.Accounts.{Accounts}
use Rattle.rounding.specs.Rounding.{Units, object_length, alignment}
use Rattle.rounding.proofs.Rounding as R
use Rattle.layout.specs.Blocks.{size, render}
use Rattle.lists.specs.Lists.{total, or_else}
use Rattle.model.specs.Objects.{blocks_of, objects}
use Rattle.model.specs.Consistent.{has_record, in_units}
use Rattle.lists.proofs.Bools.{and_both}
use Rattle.model.specs.Refusals.{base_for}
use Rattle.model.specs.Calls.{State, state_of, allocated, copied, new_object}
use Rattle.model.specs.declared.Handle.{Handle}
use Rattle.model.proofs.Consistent.{given_exactly}
use Rattle.model.proofs.Base.{Lowest, lowest_some}
use Rattle.invariant.proofs.Good.{Good}
use Rattle.invariant.proofs.Members.{added_old}
use Rattle.invariant.proofs.Counts.{record_counted}
use Rattle.invariant.proofs.Heaps.{render_total, good_ordered}
use Rattle.invariant.proofs.Transitions.{Room, allocated_good, allocated_objects, allocated_counts, copied_objects}
use Rattle.invariant.proofs.Passed.{Allocatable}

-- a multiple of a multiple of 8
pub eights : (b a : ℕ) → a % 8 ≡ 0 → b % a ≡ 0 → b % 8 ≡ 0
eights b a e f = sym (mod-mod_of_dvd 8 b (dvd_of_mod-eq-zero 8 e)) ∙ ap (λ (x : ℕ). x % 8) f

module _ (unit : ℕ → ℕ) (units : Units unit) (s : List ℕ) (k : Accounts) (g : Good (state_of s k)) (again : render (blocks_of s) ≡ s) (q n : ℕ)
    (p : Allocatable unit s k q n) where
  base_lowest : Lowest (length s) (blocks_of s) (alignment unit n) (object_length unit n) p.base
  unfolding base_for
  base_lowest = lowest_some (length s) (blocks_of s) (alignment unit n) (object_length unit n) (R.alignment_positive unit units n) p.base
      p.based

  -- the new object may be made
  pub requested_room : Room q (new_object unit s k n) (state_of s k)
  unfolding new_object or_else
  requested_room =
      let w = base_lowest in
      let size_is : total size (blocks_of s) ≡ length s = sym (render_total (blocks_of s)) ∙ ap length again in
      record {
        exists = p.exists;
        paid = p.paid;
        unused = p.unused;
        next = refl;
        narrow = p.left g.serial;
        long = R.at_least_8 unit units n p.asked;
        even = (R.rounded unit units n).eights;
        aligned = rw p.based (eights p.base (alignment unit n) (R.alignment_eights unit units n) w.multiple);
        fits = rw (p.based, size_is) w.fits;
      }

  -- no object has its serial yet
  pub requested_fresh : (x : Handle) → Memᴰ x (objects (blocks_of s)) → x.serial ≡ (new_object unit s k n).serial → ⊥
  unfolding new_object
  requested_fresh x m e = let f = (given_exactly k.last_serial (objects (blocks_of s))).0 g.tests.given x m in omega arith

-- a new object's base and length are multiples of its unit, since a rounded length rounds to itself
pub new_in_units : (unit : ℕ → ℕ) (units : Units unit) (s : List ℕ) (k : Accounts) (q n : ℕ) → Allocatable unit s k q n
    → in_units unit (new_object unit s k n) ≡ true
unfolding in_units new_object or_else alignment base_for
new_in_units unit units s k q n p =
    let w = lowest_some (length s) (blocks_of s) (alignment unit n) (object_length unit n) (R.alignment_positive unit units n) p.base p.based in
    rw p.based (and_both _ _ (eq-eqb _ 0 (R.rounded unit units n).aligned) (eq-eqb _ 0 w.multiple))

-- a record for an object stays when another object is made
still_held : (q : ℕ) (old new : Handle) (t : State) (g : Good t) (r : Room q new t) → (old.serial ≡ new.serial → ⊥)
    → has_record t.accounts.holds q old.serial ≡ true
    → has_record (allocated q new t).accounts.holds q old.serial ≡ true
still_held q old new t g r ne held =
    let c = (record_counted t.accounts.holds (good_ordered t g) old.serial q).0 held in
    let e = allocated_counts q new t g r old.serial q in
    let z : eqb new.serial old.serial ≡ false = ne_eqb new.serial old.serial (λ p. ne (sym p)) in
    (record_counted (allocated q new t).accounts.holds (good_ordered (allocated q new t) (allocated_good q new t g r)) old.serial q).1
    (rw e (rw z c))

-- the old object is there and held once the new one is made and has its bytes
pub still_releasable : (t : State) (g : Good t) (q : ℕ) (old new : Handle) (r : Room q new t) → (old.serial ≡ new.serial → ⊥)
    → Memᴰ old (objects t.blocks)
    → has_record t.accounts.holds q old.serial ≡ true
    → Memᴰ old (objects (copied old new (allocated q new t)).blocks)
    × (has_record (copied old new (allocated q new t)).accounts.holds q old.serial ≡ true)
unfolding copied
still_releasable t g q old new r ne there held =
    let t₁ = allocated q new t in
    let d = allocated_objects q new t g r in (
      rw (copied_objects old new t₁ (allocated_good q new t g r)) (added_old new (objects t.blocks) (objects t₁.blocks) d old there),
      still_held q old new t g r ne held,
    )
