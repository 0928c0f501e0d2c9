-- The unit of a length by its leading zeros (rules 6.7 and 23.6), for every number of 32 bits.
use Prim.Native.Nat.{ℕ, zero, suc, ◌+◌, ◌*◌, ◌%◌, ◌^◌, ◌≤◌, ◌<◌}
use native.Mathlib.Nat.{add-zero, zero-add, add-suc, suc-add, le_of_suc-le-suc, not-suc-le-zero}
use native.Mathlib.Omega.{arith}
use mathlib.Core.Path.{◌≡◌, refl, sym, ap, ◌∙◌, subst}
use mathlib.Core.Bool.{Bool, true, false, cond}
use mathlib.Core.List.{List, [], ◌∷◌}
use mathlib.Core.Logic.{◌⊎◌, inl, inr, ⊎_elim}
use lib.Dec.{leb}
use lib.ListN.{get_or}
use lib.Pow.{pow_pos, pow_mono}
use borrow.Author.Tests.{leb-true, leb-false, le-leb, lt-leb}
use Rattle.rounding.specs.Rounding.{unit, unit_2, table, object_length, alignment, leading_zeros, power, by_zeros}
use Rattle.rounding.proofs.Zeros.{zeros_below, zeros_from}
use Rattle.rounding.proofs.Rounding.{rounded, by_row}
use Rattle.rounding.proofs.Editions.{by_row_2, table_is}

-- rule 6.7: edition 1's is the table's
pub zeros_1 : (n : ℕ) → n < 2 ^ 32 → by_zeros 0 n ≡ unit n
unfolding by_zeros
zeros_1 n h =
    let z = leading_zeros 32 n in
    by_row (λ (k : ℕ). 2 ^ power 0 (leading_zeros 32 n) ≡ k) n
    (λ l. let a = zeros_below 32 13 n h (omega arith) in rw (lt-leb z 16 (omega arith), lt-leb z 17 (omega arith), lt-leb z 18 (omega arith)))
    (λ l m. let e : z ≡ 18 = omega (arith, zeros_below 32 14 n h (omega arith), zeros_from 32 13 n h (omega arith)) in ap (λ (k : ℕ). 2 ^ power 0 k) e)
    (λ l m. let e : z ≡ 17 = omega (arith, zeros_below 32 15 n h (omega arith), zeros_from 32 14 n h (omega arith)) in ap (λ (k : ℕ). 2 ^ power 0 k) e)
    (λ l. rw (le-leb z 16 (omega (arith, zeros_from 32 15 n h (omega arith)))))

-- what holds of each unit between its powers of two holds of edition 2's unit by leading zeros
module _ (P : ℕ → Type 0) (d n : ℕ) (h : n < 2 ^ 32)
    (row-8 : n < 4096 → P 8) (row-16 : 4096 ≤ n → n < 8192 → P 16) (row-32 : 8192 ≤ n → n < 16384 → P 32)
    (row-64 : 16384 ≤ n → n < 32768 → P 64) (row-128 : 32768 ≤ n → P 128) where
  with_count : (z : ℕ) → leading_zeros 32 n ≡ z → P (2 ^ power (suc d) z) → P (2 ^ power (suc d) (leading_zeros 32 n))
  with_count z e = subst (λ (k : ℕ). P (2 ^ power (suc d) k)) (sym e)

  by_tests : (x y z w : Bool) → leb n 4095 ≡ x → leb n 8191 ≡ y → leb n 16383 ≡ z → leb n 32767 ≡ w → P (2 ^ power (suc d) (leading_zeros 32 n))
  by_tests true y z w e f g i =
      let k = leading_zeros 32 n in
      let l = leb-true n 4095 e in
      let a = zeros_below 32 12 n h (omega arith) in
      rw (lt-leb k 16 (omega arith), lt-leb k 17 (omega arith), lt-leb k 18 (omega arith), lt-leb k 19 (omega arith)) (row-8 (omega arith))
  by_tests false true z w e f g i =
      let l = leb-false n 4095 e in
      let m = leb-true n 8191 f in
      with_count 19 (omega (arith, zeros_below 32 13 n h (omega arith), zeros_from 32 12 n h (omega arith))) (row-16 (omega arith) (omega arith))
  by_tests false false true w e f g i =
      let l = leb-false n 8191 f in
      let m = leb-true n 16383 g in
      with_count 18 (omega (arith, zeros_below 32 14 n h (omega arith), zeros_from 32 13 n h (omega arith))) (row-32 (omega arith) (omega arith))
  by_tests false false false true e f g i =
      let l = leb-false n 16383 g in
      let m = leb-true n 32767 i in
      with_count 17 (omega (arith, zeros_below 32 15 n h (omega arith), zeros_from 32 14 n h (omega arith))) (row-64 (omega arith) (omega arith))
  by_tests false false false false e f g i =
      let l = leb-false n 32767 i in
      rw (le-leb (leading_zeros 32 n) 16 (omega (arith, zeros_from 32 15 n h (omega arith)))) (row-128 (omega arith))

  by_powers : P (by_zeros (suc d) n)
  unfolding by_zeros
  by_powers = by_tests (leb n 4095) (leb n 8191) (leb n 16383) (leb n 32767) refl refl refl refl

-- edition 2's is the table's, or the length is a multiple of neither
abbrev Agree : ℕ → ℕ → ℕ → Type 0
Agree n j k = (j ≡ k) ⊎ ((n % j ≡ 0 → ⊥) × (n % k ≡ 0 → ⊥))

zeros_2 : (d n : ℕ) → n < 2 ^ 32 → Agree n (by_zeros (suc d) n) (unit_2 n)
zeros_2 d n h =
    by_row_2 (λ (k : ℕ). Agree n (by_zeros (suc d) n) k) n
    (λ l. by_powers (λ (j : ℕ). Agree n j 8) d n h
    (λ a. inl refl) (λ a b. absurd (omega arith)) (λ a b. absurd (omega arith)) (λ a b. absurd (omega arith)) (λ a. absurd (omega arith)))
    (λ l m. by_powers (λ (j : ℕ). Agree n j 16) d n h
    (λ a. inr (λ e. omega arith, λ e. omega arith)) (λ a b. inl refl) (λ a b. absurd (omega arith)) (λ a b. absurd (omega arith)) (λ a. absurd (omega arith)))
    (λ l m. by_powers (λ (j : ℕ). Agree n j 32) d n h
    (λ a. absurd (omega arith)) (λ a b. inr (λ e. omega arith, λ e. omega arith)) (λ a b. inl refl) (λ a b. absurd (omega arith)) (λ a. absurd (omega arith)))
    (λ l m. by_powers (λ (j : ℕ). Agree n j 64) d n h
    (λ a. absurd (omega arith)) (λ a b. absurd (omega arith)) (λ a b. inr (λ e. omega arith, λ e. omega arith)) (λ a b. inl refl) (λ a. absurd (omega arith)))
    (λ l. by_powers (λ (j : ℕ). Agree n j 128) d n h
    (λ a. absurd (omega arith)) (λ a b. absurd (omega arith)) (λ a b. absurd (omega arith)) (λ a b. inr (λ e. omega arith, λ e. omega arith)) (λ a. inl refl))

zeros_agree : (e n : ℕ) → n < 2 ^ 32 → Agree n (by_zeros e n) (table e n)
unfolding table
zeros_agree zero n h = inl (zeros_1 n h)
zeros_agree (suc e) n h = zeros_2 e n h

-- rule 23.6: where a length is a multiple of one of the two, they are the same
module _ (e n : ℕ) (h : n < 2 ^ 32) where
  pub zeros_unit : n % table e n ≡ 0 → by_zeros e n ≡ table e n
  zeros_unit m = ⊎_elim (λ s. s) (λ s. absurd (s.1 m)) (zeros_agree e n h)

  pub fits_by_zeros : n % by_zeros e n ≡ 0 → by_zeros e n ≡ table e n
  fits_by_zeros m = ⊎_elim (λ s. s) (λ s. absurd (s.0 m)) (zeros_agree e n h)

-- so a rounded length's is the alignment of its request
pub zeros_alignment : (e n : ℕ) → object_length (table e) n < 2 ^ 32 → by_zeros e (object_length (table e) n) ≡ alignment (table e) n
unfolding alignment
zeros_alignment e n h = zeros_unit e (object_length (table e) n) h (rounded (table e) (table_is e) n).aligned

-- no power is greater than 128's
power_by : (x y z w : Bool) → (cond x 6 (cond y 5 (cond z 4 3)) ≤ 7) × (cond x 7 (cond y 6 (cond z 5 (cond w 4 3))) ≤ 7)
power_by true y z w = (omega arith, omega arith)
power_by false true z w = (omega arith, omega arith)
power_by false false true w = (omega arith, omega arith)
power_by false false false true = (omega arith, omega arith)
power_by false false false false = (omega arith, omega arith)

pub power_most : (e z : ℕ) → power e z ≤ 7
power_most zero z = (power_by (leb z 16) (leb z 17) (leb z 18) (leb z 19)).0
power_most (suc e) z = (power_by (leb z 16) (leb z 17) (leb z 18) (leb z 19)).1

-- a unit by leading zeros is not 0
pub zeros_positive : (e n : ℕ) → 0 < by_zeros e n
unfolding by_zeros
zeros_positive e n = pow_pos (power e (leading_zeros 32 n))

-- the first n values of a function from i on
abbrev values : (ℕ → ℕ) → ℕ → ℕ → List ℕ
values f zero i = []
values f (suc n) i = f i ∷ values f n (suc i)

values_from : (f : ℕ → ℕ) (n i k : ℕ) → k < n → get_or (values f n i) k 0 ≡ f (i + k)
values_from f zero i k h = absurd (not-suc-le-zero h)
values_from f (suc n) i zero h = ap f (sym (add-zero i))
values_from f (suc n) i (suc k) h = values_from f n (suc i) k (le_of_suc-le-suc h) ∙ ap f (suc-add i k ∙ sym (add-suc i k))

-- the power for each count from 0 to 32
abbrev pub powers : ℕ → List ℕ
powers e = values (power e) 33 0

powers_at : (e z : ℕ) → z ≤ 32 → get_or (powers e) z 0 ≡ power e z
powers_at e z h = values_from (power e) 33 0 z (omega arith) ∙ ap (power e) (zero-add z)

-- which it is by a test of the edition's number
pub powers_first : (e z : ℕ) → z ≤ 32 → e ≡ 0 → get_or (powers 0) z 0 ≡ power e z
powers_first e z h f = powers_at 0 z h ∙ ap (λ (k : ℕ). power k z) (sym f)

pub powers_second : (e z : ℕ) → z ≤ 32 → (e ≡ 0 → ⊥) → get_or (powers 1) z 0 ≡ power e z
powers_second zero z h f = absurd (f refl)
powers_second (suc e) z h f = powers_at (suc e) z h

-- 1, shifted by the power at a length's count, is the unit by leading zeros
pub shifted : (e n z p : ℕ) → z ≡ leading_zeros 32 n → p ≡ power e z → 1 * 2 ^ p % 2 ^ 32 ≡ by_zeros e n
unfolding by_zeros
shifted e n z p f g =
    let most : 2 ^ p ≤ 2 ^ 7 = pow_mono {i = p} {j = 7} (omega (arith, g, power_most e z)) in
    let same : 1 * 2 ^ p % 2 ^ 32 ≡ 2 ^ p = omega (arith, most) in
    same ∙ ap (λ (k : ℕ). 2 ^ k) (g ∙ ap (power e) f)
