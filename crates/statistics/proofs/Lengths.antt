-- The greatest length in a unit, by the room for it: it is the definition's, which tries every length; and a request in that unit has a base exactly if it is
-- no longer.
use Prim.Native.Nat.{ℕ, zero, suc, ◌+◌, ◌*◌, ◌-◌, ◌/◌, ◌%◌, ◌≤◌, ◌<◌}
use native.Mathlib.Omega.{arith}
use mathlib.Core.Path.{◌≡◌, ap, sym, subst, ◌∙◌}
use mathlib.Core.List.{List}
use mathlib.Core.Bool.{Bool, true, false, not, ◌&&◌}
use mathlib.Core.Logic.{◌⊎◌, inl, inr}
use borrow.Author.Tests.{leb-true, leb-false, lt-leb, eq-eqb, ne_eqb, lt-ltb, le-ltb}
use lib.Dec.{leb, ltb, eqb}
use lib.ListN.{length}
use Rattle.rounding.specs.Rounding.{object_length, alignment, Units}
use Rattle.rounding.proofs.Rounding.{rounded}
use Rattle.lists.specs.Lists.{is_none}
use Rattle.model.specs.Refusals.{base_for}
use Rattle.lists.proofs.Bools.{and_no, by_test, by_eq}
use Rattle.statistics.specs.Statistics.{greatest, has_base, largest}
use Rattle.statistics.specs.Tallies.{units_in, reach}
use Rattle.statistics.proofs.Units.{Told, Makes, Rows, whole, under, counts, times, apart, some_unit, rounds}

-- a number that passes, or 0, above which none passes
pub greatest_is : (p : ℕ → Bool) (n x : ℕ) → x ≤ n → (x ≡ 0) ⊎ (p x ≡ true) → ((m : ℕ) → x < m → m ≤ n → p m ≡ false) → greatest p n ≡ x
unfolding greatest
greatest_is p zero x l t f = omega arith
greatest_is p (suc n) x l t f =
    by_eq x (suc n)
    (λ e. rw (subst (λ (y : ℕ). p y ≡ true) e (passes t e)) (sym e))
    (λ e. rw (f (suc n) (omega (arith, e)) (omega arith)) (greatest_is p n x (omega (arith, e)) t (λ m h k. f m h (omega arith))))
  where
    passes : (x ≡ 0) ⊎ (p x ≡ true) → x ≡ suc n → p x ≡ true
    passes (inl z) e = absurd (omega arith)
    passes (inr y) e = y

module _ (u : ℕ → ℕ) (units : Units u) (most : ℕ) (r : Rows u most) (s : List ℕ) {a : ℕ} (told : Told a)
    (room : ℕ) (few : room < 32768) (inside : room ≤ length s)
    (based : (n : ℕ) → 0 < n → alignment u n ≡ a → is_none (base_for u s n) ≡ ltb room (object_length u n)) where
  -- so many units, and whether they make a length
  abbrev k : ℕ
  k = units_in room a most

  k_most : k ≤ most
  k_most = by_test (leb (room / a) most) (λ e. let l = leb-true (room / a) most e in rw e l) (λ e. rw e (omega arith))

  k_room : k ≤ room / a
  k_room = by_test (leb (room / a) most) (λ e. rw e (omega arith)) (λ e. let l = leb-false (room / a) most e in rw e (omega arith))

  k_greatest : (j : ℕ) → j ≤ most → j ≤ room / a → j ≤ k
  k_greatest j l h = by_test (leb (room / a) most) (λ e. rw e h) (λ e. rw e l)

  abbrev short : Bool
  short = not (eqb a 8) && leb (2 * k) most

  reach_short : short ≡ true → reach room a most ≡ 0
  unfolding reach
  reach_short e = rw e

  reach_long : short ≡ false → reach room a most ≡ k * a
  unfolding reach
  reach_long e = rw e

  makes : short ≡ false → Makes most a k
  makes e = (k_most, by_eq a 8 (λ q. inl q) (λ q. inr (leb-false (2 * k) most (rw (ne_eqb a 8 q) at e))))

  not_short : (j : ℕ) → j ≤ k → (a ≡ 8) ⊎ (most < 2 * j) → short ≡ false
  not_short j l (inl q) = rw (eq-eqb a 8 q)
  not_short j l (inr h) = and_no (not (eqb a 8)) (leb (2 * k) most) (lt-leb (2 * k) most (omega arith))

  -- what is asked of a request
  yes : (n : ℕ) → 0 < n → alignment u n ≡ a → object_length u n ≤ room → has_base u s a n ≡ true
  unfolding has_base
  yes n h e l = rw (eq-eqb (alignment u n) a e, based n h e, le-ltb room (object_length u n) l)

  no : (n : ℕ) → 0 < n → (alignment u n ≡ a → room < object_length u n) → has_base u s a n ≡ false
  unfolding has_base
  no n h f =
      by_eq (alignment u n) a (λ e. rw (eq-eqb (alignment u n) a e, based n h e, lt-ltb room (object_length u n) (f e))) (λ e. rw (ne_eqb (alignment u n) a e))

  -- the object of a request in this unit, in units
  object_units : (n : ℕ) → alignment u n ≡ a → object_length u n ≡ object_length u n / a * a
  object_units n e = whole told (object_length u n) (subst (λ (x : ℕ). object_length u n % x ≡ 0) e (rounded u units n).aligned)

  object_makes : (n : ℕ) → alignment u n ≡ a → object_length u n ≤ room → Makes most a (object_length u n / a)
  unfolding alignment
  object_makes n e l =
      subst (λ (x : ℕ). Makes most x (object_length u n / a)) e
      (r.inside (object_length u n) (omega arith) (object_length u n / a) (object_units n e ∙ ap (λ (x : ℕ). object_length u n / a * x) (sym e)))

  object_below : (n : ℕ) → alignment u n ≡ a → object_length u n ≤ room → (object_length u n ≤ reach room a most)
  object_below n e l =
      let j = object_length u n / a in
      let w = object_makes n e l in
      let o = object_units n e in
      let h = k_greatest j w.0 (counts told room j (omega arith)) in
      rw (reach_long (not_short j h w.1)) (omega (arith, times told j k h))

  -- a length that these units make is its own object's
  made : short ≡ false → (alignment u (k * a) ≡ a) × (object_length u (k * a) ≡ k * a)
  unfolding alignment object_length
  made e =
      let c = r.covers told k (makes e) in
      let same : object_length u (k * a) ≡ k * a = ap (λ (x : ℕ). (k * a + (x - 1)) / x * x) c ∙ rounds told k in
      (ap u same ∙ c, same)

  reach_passes : (reach room a most ≡ 0) ⊎ (has_base u s a (reach room a most) ≡ true)
  reach_passes =
      by_test short (λ e. inl (reach_short e))
      (λ e.
      by_eq k 0 (λ z. inl (reach_long e ∙ ap (λ (x : ℕ). x * a) z ∙ omega arith))
      (λ z.
      let m = made e in
      let b = under told room k k_room in
      let p = times told 1 k (omega arith) in
      let q = some_unit told in
      inr (rw (reach_long e) (yes (k * a) (omega arith) m.0 (omega (arith, m.1))))))

  reach_inside : reach room a most ≤ length s
  reach_inside =
      by_test short (λ e. rw (reach_short e) (omega arith)) (λ e. rw (reach_long e) (omega (arith, under told room k k_room)))

  -- the definition tries every length
  pub largest_is : largest u s a ≡ reach room a most
  unfolding largest
  largest_is =
      greatest_is (has_base u s a) (length s) (reach room a most) reach_inside reach_passes
      (λ m l h. no m (omega arith) (λ e.
      by_test (leb (object_length u m) room)
      (λ t. let b = object_below m e (leb-true (object_length u m) room t) in let g = (rounded u units m).enough in absurd (omega arith))
      (λ t. leb-false (object_length u m) room t)))

  -- a request in this unit is refused for space exactly if it is longer
  pub space_exactly : (n : ℕ) → 0 < n → alignment u n ≡ a → is_none (base_for u s n) ≡ ltb (largest u s a) n
  unfolding alignment
  space_exactly n h e =
      by_test (leb (object_length u n) room)
      (λ t.
      let l = leb-true (object_length u n) room t in
      let b = object_below n e l in
      based n h e ∙ le-ltb room (object_length u n) l ∙ sym (rw largest_is (le-ltb (reach room a most) n (omega (arith, (rounded u units n).enough)))))
      (λ t.
      let l = leb-false (object_length u n) room t in
      based n h e ∙ lt-ltb room (object_length u n) l ∙ sym (rw largest_is (lt-ltb (reach room a most) n (shorter l))))
    where
      shorter : room < object_length u n → reach room a most < n
      shorter l =
          by_test short (λ c. rw (reach_short c) h)
          (λ c.
          by_test (leb n (k * a))
          (λ t.
          let below = leb-true n (k * a) t in
          let j = object_length u n / a in
          let o = object_units n e in
          let g = rounded u units n in
          let b = under told room k k_room in
          let up = apart told j k (omega arith) in
          let rise = r.rises n (object_length u n) g.enough in
          absurd (omega (arith, g.tight)))
          (λ t. rw (reach_long c) (leb-false n (k * a) t)))
