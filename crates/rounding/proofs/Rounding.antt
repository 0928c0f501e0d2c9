-- Laws of the rounding of lengths: of any table of units, and of edition 1's.
use Prim.Native.Nat.{ℕ, suc, ◌+◌, ◌*◌, ◌-◌, ◌/◌, ◌%◌, ◌^◌, ◌≤◌, ◌<◌}
use native.Mathlib.Nat.{mul-mod_left, lt-div-mul-add, div-mul-le_self, div-add-mod', eq-or-lt_of_le, dvd_of_mod-eq-zero, dvd-mul_left_of_dvd}
use native.Mathlib.Nat.{mod-eq-zero_of_dvd}
use native.Mathlib.Omega.{arith}
use mathlib.Core.Path.{◌≡◌, refl, sym, ap, ◌∙◌, subst}
use mathlib.Core.List.{List, [], ◌∷◌}
use mathlib.Core.Bool.{Bool, true, false, cond}
use mathlib.Core.Logic.{⊎_elim}
use lib.Arith.{digits_div}
use lib.Dec.{leb}
use borrow.Author.Tests.{leb-true, leb-false}
use Rattle.rounding.specs.Rounding.{by, rows, unit, Units, object_length, alignment, leading_zeros, exponent, representable_alignment}
use Rattle.rounding.proofs.Rows

-- what an object's length is to the request
pub record Rounded (u : ℕ → ℕ) (n : ℕ) : Type 0 where
  pub multiple : object_length u n % u n ≡ 0
  pub aligned : object_length u n % alignment u n ≡ 0
  pub eights : object_length u n % 8 ≡ 0
  pub enough : n ≤ object_length u n
  pub tight : object_length u n < n + u n

module _ (u : ℕ → ℕ) (units : Units u) where
  pub rounded : (n : ℕ) → Rounded u n
  unfolding object_length alignment
  rounded n =
      let p = units.positive n in
      let x = n + (u n - 1) in
      record {
        multiple = mul-mod_left (x / u n) (u n);
        aligned = subst (λ (y : ℕ). y % u (object_length u n) ≡ 0) (units.stable n) (mul-mod_left _ (u (object_length u n)));
        eights = mod-eq-zero_of_dvd 8 (dvd-mul_left_of_dvd 8 (dvd_of_mod-eq-zero 8 (units.eights n)) (x / u n));
        enough = omega (arith, lt-div-mul-add {a = x} p);
        tight = omega (arith, div-mul-le_self x (u n));
      }

  -- an object that is asked for at all has at least 8 bytes
  pub at_least_8 : (n : ℕ) → 0 < n → 8 ≤ object_length u n
  at_least_8 n h = let r = rounded n in omega arith

  pub alignment_eights : (n : ℕ) → alignment u n % 8 ≡ 0
  unfolding alignment
  alignment_eights n = units.eights (object_length u n)

  pub alignment_positive : (n : ℕ) → 0 < alignment u n
  unfolding alignment
  alignment_positive n = units.positive (object_length u n)

-- what holds of each row's value on its row, from a number on, and of the value behind them
abbrev pub OnRows : (ℕ → Type 0) → ℕ → ℕ → List (ℕ × ℕ) → ℕ → Type 0
OnRows P n low [] other = low ≤ n → P other
OnRows P n low (row ∷ more) other = (low ≤ n → n ≤ row.0 → P row.1) × OnRows P n (suc row.0) more other

-- holds of a table's value for any number
module _ (P : ℕ → Type 0) (n : ℕ) where
  by_test : (row : ℕ × ℕ) (later : ℕ) → (n ≤ row.0 → P row.1) → (row.0 < n → P later)
      → (x : Bool) → leb n row.0 ≡ x → P (cond (leb n row.0) row.1 later)
  by_test row later f g true e = rw e (f (leb-true n row.0 e))
  by_test row later f g false e = rw e (g (leb-false n row.0 e))

  pub by_rows : (low : ℕ) (more : List (ℕ × ℕ)) (other : ℕ) → low ≤ n → OnRows P n low more other → P (by more other n)
  by_rows low [] other l f = f l
  by_rows low (row ∷ more) other l f =
      by_test row (by more other n) (f.0 l) (λ m. by_rows (suc row.0) more other m f.1) (leb n row.0) refl

-- so of edition 1's unit
module _ (P : ℕ → Type 0) (n : ℕ) (row-8 : n ≤ 8191 → P 8) (row-16 : 8192 ≤ n → n ≤ 16383 → P 16) (row-32 : 16384 ≤ n → n ≤ 32767 → P 32)
    (row-64 : 32768 ≤ n → P 64) where
  pub by_row : P (unit n)
  unfolding unit
  by_row = by_rows P n 0 rows 64 (omega arith) (λ _. row-8, (row-16, (row-32, row-64)))

-- what is a multiple of its unit rounds to itself
multiple_stays : (k n : ℕ) → 0 < k → n % k ≡ 0 → (n + (k - 1)) / k * k ≡ n
multiple_stays k n p e =
    let d : n / k * k ≡ n = omega (arith, div-add-mod' n k) in
    ap (λ (m : ℕ). (m + (k - 1)) / k * k) (sym d) ∙ ap (λ (m : ℕ). m * k) (digits_div (n / k) {m = k} {r = k - 1} (omega arith)) ∙ d

-- so a table in which every rounded length is a multiple of its own unit is stable
pub multiple_stable : (u : ℕ → ℕ) → ((n : ℕ) → 0 < u n) → ((n : ℕ) → object_length u n % u (object_length u n) ≡ 0)
    → (n : ℕ) → object_length u (object_length u n) ≡ object_length u n
unfolding object_length
multiple_stable u p e n = multiple_stays (u (object_length u n)) (object_length u n) (p (object_length u n)) (e n)

-- a rounded length is a multiple of its own unit
rounded_multiple : (n : ℕ) → object_length unit n % unit (object_length unit n) ≡ 0
unfolding object_length
rounded_multiple n =
    by_row (λ (k : ℕ). let x = (n + (k - 1)) / k * k in x % unit x ≡ 0) n
    (λ l. by_row (λ (j : ℕ). (n + 7) / 8 * 8 % j ≡ 0) ((n + 7) / 8 * 8) (λ a. omega arith) (λ a b. omega arith) (λ a b. omega arith)
    (λ a. omega arith))
    (λ l m. by_row (λ (j : ℕ). (n + 15) / 16 * 16 % j ≡ 0) ((n + 15) / 16 * 16) (λ a. omega arith) (λ a b. omega arith) (λ a b. omega arith)
    (λ a. omega arith))
    (λ l m. by_row (λ (j : ℕ). (n + 31) / 32 * 32 % j ≡ 0) ((n + 31) / 32 * 32) (λ a. omega arith) (λ a b. omega arith) (λ a b. omega arith)
    (λ a. omega arith))
    (λ l. by_row (λ (j : ℕ). (n + 63) / 64 * 64 % j ≡ 0) ((n + 63) / 64 * 64) (λ a. omega arith) (λ a b. omega arith) (λ a b. omega arith)
    (λ a. omega arith))

unit_positive : (n : ℕ) → 0 < unit n
unit_positive n = by_row (λ (k : ℕ). 0 < k) n (λ _. omega arith) (λ _ _. omega arith) (λ _ _. omega arith) (λ _. omega arith)

-- this table is one of units
pub unit_is : Units unit
unit_is = record {
  positive = unit_positive;
  eights = λ n. by_row (λ (k : ℕ). k % 8 ≡ 0) n (λ _. refl) (λ _ _. refl) (λ _ _. refl) (λ _. refl);
  stable = multiple_stable unit unit_positive rounded_multiple;
}

-- the alignment of rule 6.4 depends on the bits above the lowest 13 only
document_row : (n k : ℕ) → n / 8192 ≡ k → representable_alignment n ≡ 2 ^ (52 - leading_zeros 52 k + 3)
unfolding representable_alignment exponent
document_row n k e = rw e refl

-- rule 6.4: up to 32,768 the unit is the hardware's alignment
pub unit_document : (n : ℕ) → n ≤ 32768 → unit n ≡ representable_alignment n
unfolding leading_zeros
unit_document n h =
    by_row (λ (k : ℕ). k ≡ representable_alignment n) n
    (λ l. sym (document_row n 0 (omega arith)))
    (λ l m. sym (document_row n 1 (omega arith)))
    (λ l b. ⊎_elim (λ e. sym (document_row n 3 e)) (λ m. sym (document_row n 2 (omega arith))) (eq-or-lt_of_le {n = n / 8192} {m = 3} (omega arith)))
    (λ l. sym (document_row n 4 (omega arith)))
