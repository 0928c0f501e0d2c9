-- Handles and the objects that they name (rules 4.3, 4.6 and 4.7): a handle names an object exactly if it has its serial and a range of at least one byte
-- inside it. Where serials differ, an object is known by its serial alone: two objects with one serial cannot stand at two places, so they are the same, and
-- the lookup finds the one that is named. A handle that names an object names it still when its range is made narrower.
use Rattle.std.specs.Prelude.{Some, None}
use mathlib.Core.Path.{◌≡◌, refl, ap, sym, ◌∙◌}
use Prim.Native.Nat.{ℕ, ◌+◌, ◌≤◌}
use native.Mathlib.Omega.{arith}
use mathlib.Core.List.Memᴰ
use mathlib.Core.List.{List, [], ◌∷◌, Memᴰ}
use mathlib.Core.Bool.{Bool, true, false, cond, true≢false}
use mathlib.Core.Logic.{◌↔◌, ⊎_elim}
use lib.Dec.{leb, eqb}
use borrow.Author.Tests.{eqb-true, eq-eqb, leb-true, le-leb}
use Rattle.accounts.specs.declared.Hold.{Hold}
use Rattle.accounts.specs.declared.Accounts.{Accounts}
use Rattle.layout.specs.Blocks.{Block, size, live}
use Rattle.accounts.specs.Accounts.{used}
use Rattle.lists.specs.Lists.{first}
use Rattle.model.specs.Objects.{object, objects_from, objects, blocks_of, objects_of, whole, names, lookup, lookup_whole}
use Rattle.model.specs.Consistent.{accounted, has_serial, serials_differ, records_differ}
use Rattle.model.specs.declared.Handle.{Handle}
use Rattle.model.proofs.Blocks.{live_occupied}
use Rattle.model.proofs.Rows
use Rattle.lists.proofs.Bools.{and_left, and_right, and_both}
use Rattle.lists.proofs.Lists.{first_some, first_none, first_found, member_any, search_some, search_none, unrelated_same}
use Rattle.model.proofs.Consistent.{is_for_exactly, serials_unrelated, records_unrelated, same_hold, tests_exactly, accounted_cut}
use Rattle.model.proofs.Consistent.{accounted_facts}

-- where serials differ, two objects with the same serial are the same
pub same_serial : (os : List Handle) → serials_differ os ≡ true → (o p : Handle) → Memᴰ o os → Memᴰ p os → o.serial ≡ p.serial → o ≡ p
same_serial os d o p m n e =
    unrelated_same (λ o. has_serial o.serial) os (rw serials_unrelated at d) o p m n (eq-eqb _ _ (sym e)) (eq-eqb _ _ e)

-- where records differ, two used records with the same serial and quota are the same
pub same_record : (hs : List Hold) → records_differ hs ≡ true → (h g : Hold) → Memᴰ h hs → Memᴰ g hs → used h ≡ true → used g ≡ true
    → h.serial ≡ g.serial → h.quota ≡ g.quota → h ≡ g
same_record hs d h g m n u v p q =
    unrelated_same same_hold hs (rw records_unrelated at d) h g m n (and_both _ _ u ((is_for_exactly _ _ g).1 (v, sym p, sym q)))
    (and_both _ _ v ((is_for_exactly _ _ h).1 (u, p, q)))

-- a handle is the whole of an object exactly if it is that object
pub whole_exactly : (h o : Handle) → (whole h o ≡ true) ↔ (h ≡ o)
unfolding whole
whole_exactly h o = (
  there,
  λ e. rw e (and_both _ _ (eq-eqb o.base o.base refl)
      (and_both _ _ (eq-eqb o.length o.length refl) (eq-eqb o.serial o.serial refl))),
)
  where
    there : whole h o ≡ true → h ≡ o
    there e =
        let b = eqb-true h.base o.base (and_left _ _ e) in
        let r = and_right (eqb h.base o.base) _ e in
        let l = eqb-true h.length o.length (and_left _ _ r) in
        let t = eqb-true h.serial o.serial (and_right (eqb h.length o.length) _ r) in
        λ i. record { base = b i; length = l i; serial = t i }

-- a handle names an object exactly if it has its serial, and its range has a byte and lies inside it
pub record Narrowed (h o : Handle) : Type 0 where
  pub serial : h.serial ≡ o.serial
  pub some_byte : 1 ≤ h.length
  pub low : o.base ≤ h.base
  pub high : h.base + h.length ≤ o.base + o.length

pub names_exactly : (h o : Handle) → (names h o ≡ true) ↔ Narrowed h o
unfolding names
names_exactly h o = (
  there,
  λ n. and_both _ _ (eq-eqb h.serial o.serial n.serial)
      (and_both _ _ (le-leb 1 h.length n.some_byte)
      (and_both _ _ (le-leb o.base h.base n.low) (le-leb (h.base + h.length) (o.base + o.length) n.high))),
)
  where
    there : names h o ≡ true → Narrowed h o
    there e =
        let r = and_right (eqb h.serial o.serial) _ e in
        let u = and_right (leb 1 h.length) _ r in
        record {
          serial = eqb-true h.serial o.serial (and_left _ _ e);
          some_byte = leb-true 1 h.length (and_left _ _ r);
          low = leb-true o.base h.base (and_left _ _ u);
          high = leb-true (h.base + h.length) (o.base + o.length) (and_right (leb o.base h.base) _ u);
        }

-- the whole of an object that has a byte names it
pub whole_names : (o : Handle) → 1 ≤ o.length → names o o ≡ true
whole_names o l = (names_exactly o o).1 (record { serial = refl; some_byte = l; low = omega arith; high = omega arith })

-- what the lookup finds is an object that the handle names
pub lookup_named : (h : Handle) (s : List ℕ) (o : Handle) → lookup h s ≡ Some o → (names h o ≡ true) × (Memᴰ o (objects_of s))
unfolding lookup
lookup_named h s o e = let r = first_some (names h) (objects_of s) o e in (r.1, r.0)

-- and where serials differ, it finds every such object, since two objects that one handle names have one serial
pub lookup_exactly : (h : Handle) (s : List ℕ) (o : Handle) → serials_differ (objects_of s) ≡ true
    → (lookup h s ≡ Some o) ↔ ((names h o ≡ true) × (Memᴰ o (objects_of s)))
unfolding lookup
lookup_exactly h s o d = (lookup_named h s o, finds)
  where
    finds : (names h o ≡ true) × (Memᴰ o (objects_of s)) → first (names h) (objects_of s) ≡ Some o
    finds r =
        let f = first_found (names h) (objects_of s) (member_any (names h) (objects_of s) o r.1 r.0) in
        let g = first_some (names h) (objects_of s) f.0 f.1 in
        f.1
        ∙ ap Some (same_serial (objects_of s) d f.0 o g.0 r.1
        (sym ((names_exactly h f.0).0 g.1).serial ∙ ((names_exactly h o).0 r.0).serial))

pub lookup_none : (h : Handle) (s : List ℕ) → lookup h s ≡ None → (o : Handle) → Memᴰ o (objects_of s) → names h o ≡ true → ⊥
unfolding lookup
lookup_none h s e o m n = true≢false (sym (member_any (names h) (objects_of s) o m n) ∙ (first_none (names h) (objects_of s)).0 e)

-- the object has the handle's serial
pub found_serial : (h : Handle) (s : List ℕ) (o : Handle) → lookup h s ≡ Some o → o.serial ≡ h.serial
found_serial h s o e = sym ((names_exactly h o).0 (lookup_named h s o e).0).serial

-- reallocate's lookup finds a handle exactly if it is one of the objects
pub lookup_whole_exactly : (h : Handle) (s : List ℕ) (o : Handle) → (lookup_whole h s ≡ Some o) ↔ ((h ≡ o) × (Memᴰ h (objects_of s)))
unfolding lookup_whole
lookup_whole_exactly h s = search_some (whole h) h (whole_exactly h) (objects_of s)

pub lookup_whole_none : (h : Handle) (s : List ℕ) → (lookup_whole h s ≡ None) ↔ (Memᴰ h (objects_of s) → ⊥)
unfolding lookup_whole
lookup_whole_none h s = search_none (whole h) h (whole_exactly h) (objects_of s)

-- in a consistent heap serials differ, and every object has a byte, since a live block has at least 16
pub accounted_differ : (s : List ℕ) (k : Accounts) → accounted s k ≡ true → serials_differ (objects_of s) ≡ true
unfolding objects_of
accounted_differ s k e = ((tests_exactly (blocks_of s) k).0 (accounted_cut s k e).1).differ

long_objects : (at : ℕ) (bs : List Block)
    → ((b : Block) → Memᴰ b bs → live b ≡ true → 16 ≤ size b) → (o : Handle) → Memᴰ o (objects_from at bs) → 1 ≤ o.length
unfolding objects_from
long_objects at [] f o m = absurd (Memᴰ.not-nil m)
long_objects at (b ∷ bs) f o m = go (live b) refl (long_objects (at + size b) bs (λ x n. f x (Memᴰ.tail n)) o) m
  where
    go : (t : Bool) → live b ≡ t → (Memᴰ o (objects_from (at + size b) bs) → 1 ≤ o.length)
        → Memᴰ o (cond t (object at b ∷ objects_from (at + size b) bs) (objects_from (at + size b) bs)) → 1 ≤ o.length
    go true t ih n = ⊎_elim (λ (e : o ≡ object at b). rw e (omega (arith, f b (Memᴰ.head refl) t))) (λ p. ih p) (Memᴰ.cases_cons n)
    go false t ih n = ih n

pub accounted_byte : (s : List ℕ) (k : Accounts) → accounted s k ≡ true → (o : Handle) → Memᴰ o (objects_of s) → 1 ≤ o.length
unfolding objects_of objects
accounted_byte s k e = long_objects 0 (blocks_of s) (λ b m l. (accounted_facts s k e).long b m (live_occupied b l))
