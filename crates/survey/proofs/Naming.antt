-- The object that a handle names is that of the block before the edge, or of none.
use Rattle.std.specs.Prelude.{Some, None}
use Rattle.std.proofs.Common.{◌≡◌, ℕ, ◌+◌, ◌-◌, ◌*◌, ◌<◌, ◌≤◌, Bool, false, cond, eqb, ltb, leb, List, length, sym, ap, ◌∙◌, inl, inr, arith, ltb-false}
use Rattle.std.proofs.Common.{ltb-true, eq-eqb, ne_eqb, le-leb, leb-false, leb-true}
use borrow.Author.Tests.{lt-leb}
use Rattle.layout.specs.Blocks.{QUARANTINED, greatest_heap}
use Rattle.model.specs.Objects.{names}
use Rattle.model.specs.declared.Handle.{Handle}
use Rattle.lists.proofs.Bools.{and_right, and_no, fails, by_test}
use Rattle.model.proofs.Lookup.{names_exactly}
use Rattle.lookup.specs.declared.Met.{Met}
use Rattle.lookup.specs.Walk.{headed, met_at, live_met, object_met, holds_named, named_met, looked_up, find_object}
use Rattle.lookup.proofs.Walk.{met_known, search_start, search_none}
use Rattle.lookup.proofs.Reached.{object_low, object_high, object_here}
use Rattle.survey.specs.Survey.{block_at, block_of}
use Rattle.survey.specs.Route.{Last, edge_of, Halved}
use Rattle.survey.proofs.Blocks.{met_block_at}
use Rattle.survey.proofs.Routes.{searching}

-- a block that ends before the base
behind : (h : Handle) (m : Met) → m.at + m.size ≤ h.base → holds_named h m ≡ false
unfolding holds_named
behind h m l =
    fails (holds_named h m)
    (λ e. let n = (names_exactly h (object_met m)).0 (and_right (live_met m) (names h (object_met m)) e) in omega (arith, n.some_byte, n.low, n.high))

module _ (h : Handle) (s : List ℕ) where
  object_end : length s ≤ h.base → find_object h s ≡ None
  unfolding find_object
  object_end l =
      ap looked_up (search_none (holds_named h) s 0 (search_start (holds_named h) s)
      (λ x m g e. (let k = met_known x s m e in behind h m (omega (arith, k.place, k.inside)))))

  -- no object has the base
  edge_none : edge_of h.base (length s) ≡ 8 → find_object h s ≡ None
  unfolding edge_of
  edge_none e =
      by_test (ltb h.base 8)
      (λ t. object_low h s (ltb-true h.base 8 t))
      (λ t.
      by_test (ltb (length s) h.base)
      (λ u. object_high h s (ltb-true (length s) h.base u))
      (λ u.
      let z : length s - h.base + 8 ≡ 8 = rw (t, u) at e in
      object_end (omega arith)))

  -- one may have it
  edge_some : 8 < edge_of h.base (length s) → (edge_of h.base (length s) ≡ length s - h.base + 8) × (8 ≤ h.base) × (h.base ≤ length s)
  unfolding edge_of
  edge_some l =
      by_test (ltb h.base 8)
      (λ t. let z : 8 < 8 = rw t at l in absurd (omega arith))
      (λ t.
      by_test (ltb (length s) h.base)
      (λ u. let z : 8 < 8 = rw (t, u) at l in absurd (omega arith))
      (λ u. (rw (t, u), ltb-false h.base 8 t, ltb-false (length s) h.base u)))

  module _ (edge at back before : ℕ) (is : edge ≡ edge_of h.base (length s)) {found : Bool}
      (named : found ≡ holds_named h (record { at = at - 8 * back; size = 8 * back; back = 0; serial = before })) where
    abbrev Answer : Type 0
    Answer = block_of found (at - 8 * back) s ≡ find_object h s

    none : found ≡ false → find_object h s ≡ None → Answer
    unfolding block_of
    none e m = rw e (sym m)

    -- the block before the edge
    one : 8 < edge → length s < at + edge → Last s edge at back before → Answer
    unfolding block_of block_at holds_named
    one l far w =
        let b = edge_some (omega (arith, is)) in
        let m = headed w.start w.header in
        let k = met_known w.start s m w.there in
        let x : at - 8 * back ≡ w.start = omega (arith, w.place) in
        let came = searching (w.reached (holds_named h) (λ n q. behind h n (omega (arith, is, b.0, b.1, b.2, w.far)))) in
        let here : find_object h s ≡ named_met h (met_at w.start s) =
        object_here h s w.start came (omega (arith, is, b.0, b.1, b.2, far, w.place, w.size, k.units)) in
        let all : find_object h s ≡ cond (holds_named h m) (Some m) None = here ∙ ap (named_met h) w.there in
        let same : found ≡ holds_named h m = named ∙ (λ i. holds_named h
        (record { at = x i; size = 8 * sym w.size i; back = 0; serial = sym w.serial i })) in
        let it : block_at (at - 8 * back) s ≡ m = ap (λ (y : ℕ). block_at y s) x ∙ met_block_at w.start s m w.there in
        (λ i. cond (same i) (Some (it i)) None) ∙ sym all

    pub named_half : 64 ≤ length s → Halved edge s at back before → Answer
    named_half l (inl (e, z, b)) = none (named ∙ behind h _ (omega (arith, z, b))) (edge_none (sym is ∙ e))
    named_half l (inr (a, f, inl z)) = let b = edge_some (omega (arith, is)) in absurd (omega (arith, is, b.0, b.1, b.2))
    named_half l (inr (a, f, inr w)) = one a f w

-- where the first part ends, the block before is whole
half_fits : (edge at back before : ℕ) (s : List ℕ) → Halved edge s at back before → 64 ≤ length s → (8 < edge → edge ≤ length s) → 8 * back ≤ at
half_fits edge at back before s (inl (e, z, b)) l f = omega (arith, b)
half_fits edge at back before s (inr (a, w, inl z)) l f = absurd (omega (arith, f a))
half_fits edge at back before s (inr (a, w, inr x)) l f = omega (arith, x.place)

half_inside : (edge at back before : ℕ) (s : List ℕ) → Halved edge s at back before → 64 ≤ length s → (8 < edge → edge ≤ length s) → at ≤ length s
half_inside edge at back before s (inl (e, z, b)) l f = omega arith
half_inside edge at back before s (inr (a, w, inl z)) l f = omega arith
half_inside edge at back before s (inr (a, w, inr x)) l f =
    let k = met_known x.start s (headed x.start x.header) x.there in omega (arith, x.place, x.size, k.inside)

edge_inside : (base : ℕ) (s : List ℕ) {edge : ℕ} → edge ≡ edge_of base (length s) → 8 < edge → edge ≤ length s
edge_inside base s is l = let b = edge_some (record { base = base; length = 0; serial = 0 }) s (omega (arith, is)) in omega (arith, is, b.0, b.1, b.2)

-- so the block before the place where the first part ended lies in the heap
pub half_bounds : (base edge at back before : ℕ) (s : List ℕ) → edge ≡ edge_of base (length s) → Halved edge s at back before
    → (64 ≤ length s) × (length s ≤ greatest_heap) → (8 * back ≤ at) × (at ≤ greatest_heap)
half_bounds base edge at back before s e h n =
    let i = edge_inside base s e in
    (half_fits edge at back before s h n.0 i, omega (arith, n.1, half_inside edge at back before s h n.0 i))

-- whether a block holds the object that a handle names: its tests, one after the other
module _ (h : Handle) (m : Met) where
  pub named_free : m.serial ≡ 0 → holds_named h m ≡ false
  unfolding holds_named
  named_free e = rw (eq-eqb m.serial 0 e)

  pub named_other : (h.serial ≡ m.serial → ⊥) → holds_named h m ≡ false
  unfolding holds_named names
  named_other e = and_no (live_met m) _ (rw (ne_eqb h.serial m.serial e))

  pub named_waiting : m.serial ≡ QUARANTINED → holds_named h m ≡ false
  unfolding holds_named
  named_waiting e = rw e

  pub named_empty : h.length ≡ 0 → holds_named h m ≡ false
  unfolding holds_named names
  named_empty e = and_no (live_met m) _ (and_no (eqb h.serial m.serial) _ (rw (lt-leb 1 h.length (omega (arith, e)))))

  pub named_by_end : (m.serial ≡ 0 → ⊥) → (m.serial ≡ QUARANTINED → ⊥) → h.serial ≡ m.serial → (h.length ≡ 0 → ⊥) → m.at + 8 ≤ h.base
      → leb (h.base + h.length) (m.at + m.size) ≡ holds_named h m
  unfolding holds_named names
  named_by_end e y s l b =
      rw (
        ne_eqb m.serial 0 e,
        ne_eqb m.serial QUARANTINED y,
        eq-eqb h.serial m.serial s,
        le-leb 1 h.length (omega (arith, l)),
        le-leb (m.at + 8) h.base b,
      )
      (by_test (leb 8 m.size)
      (λ t.
      let z = leb-true 8 m.size t in
      let d : m.at + m.size ≡ m.at + 8 + (m.size - 8) = omega arith in
      ap (leb (h.base + h.length)) d)
      (λ t.
      let z = leb-false 8 m.size t in
      lt-leb (h.base + h.length) (m.at + m.size) (omega (arith, l)) ∙ sym (lt-leb (h.base + h.length) (m.at + 8 + (m.size - 8)) (omega (arith, l)))))
