-- Edition 2's table is one of units (rule 23.2), and what holds of both tables.
use Prim.Native.Nat.{ℕ, zero, suc, ◌+◌, ◌*◌, ◌-◌, ◌/◌, ◌%◌, ◌≤◌, ◌<◌}
use native.Mathlib.Omega.{arith}
use mathlib.Core.Path.{◌≡◌, refl}
use borrow.Author.Tests.{le-leb}
use Rattle.rounding.specs.Rounding.{unit, rows_2, unit_2, table, Units, object_length}
use Rattle.rounding.proofs.Rounding.{multiple_stable, by_rows, by_row, unit_is}
use Rattle.rounding.proofs.Rows

-- what holds of each row's unit on its row holds of the unit of any length
module _ (P : ℕ → Type 0) (n : ℕ)
    (row-8 : n ≤ 4088 → P 8) (row-16 : 4089 ≤ n → n ≤ 8176 → P 16) (row-32 : 8177 ≤ n → n ≤ 16352 → P 32)
    (row-64 : 16353 ≤ n → n ≤ 32704 → P 64) (row-128 : 32705 ≤ n → P 128) where
  pub by_row_2 : P (unit_2 n)
  unfolding unit_2
  by_row_2 = by_rows P n 0 rows_2 128 (omega arith) (λ _. row-8, (row-16, (row-32, (row-64, row-128))))

-- a length that is rounded in its row, none of which it leaves, is a multiple of its own unit
rounded_multiple_2 : (n : ℕ) → object_length unit_2 n % unit_2 (object_length unit_2 n) ≡ 0
unfolding object_length
rounded_multiple_2 n =
    by_row_2 (λ (k : ℕ). let x = (n + (k - 1)) / k * k in x % unit_2 x ≡ 0) n
    (λ l. let x = (n + 7) / 8 * 8 in
    by_row_2 (λ (j : ℕ). x % j ≡ 0) x (λ a. omega arith) (λ a b. omega arith) (λ a b. omega arith) (λ a b. omega arith) (λ a. omega arith))
    (λ l m. let x = (n + 15) / 16 * 16 in
    by_row_2 (λ (j : ℕ). x % j ≡ 0) x (λ a. omega arith) (λ a b. omega arith) (λ a b. omega arith) (λ a b. omega arith) (λ a. omega arith))
    (λ l m. let x = (n + 31) / 32 * 32 in
    by_row_2 (λ (j : ℕ). x % j ≡ 0) x (λ a. omega arith) (λ a b. omega arith) (λ a b. omega arith) (λ a b. omega arith) (λ a. omega arith))
    (λ l m. let x = (n + 63) / 64 * 64 in
    by_row_2 (λ (j : ℕ). x % j ≡ 0) x (λ a. omega arith) (λ a b. omega arith) (λ a b. omega arith) (λ a b. omega arith) (λ a. omega arith))
    (λ l. let x = (n + 127) / 128 * 128 in
    by_row_2 (λ (j : ℕ). x % j ≡ 0) x (λ a. omega arith) (λ a b. omega arith) (λ a b. omega arith) (λ a b. omega arith) (λ a. omega arith))

unit_2_positive : (n : ℕ) → 0 < unit_2 n
unit_2_positive n = by_row_2 (λ (k : ℕ). 0 < k) n (λ _. omega arith) (λ _ _. omega arith) (λ _ _. omega arith) (λ _ _. omega arith) (λ _. omega arith)

-- edition 2's table is one of units
pub unit_2_is : Units unit_2
unit_2_is = record {
  positive = unit_2_positive;
  eights = λ n. by_row_2 (λ (k : ℕ). k % 8 ≡ 0) n (λ _. refl) (λ _ _. refl) (λ _ _. refl) (λ _ _. refl) (λ _. refl);
  stable = multiple_stable unit_2 unit_2_positive rounded_multiple_2;
}

-- rule 23.2: so both are
pub table_is : (e : ℕ) → Units (table e)
unfolding table
table_is zero = unit_is
table_is (suc e) = unit_2_is

-- up to the end of edition 2's first row both have unit 8
pub table_short : (e n : ℕ) → n ≤ 4088 → table e n ≡ 8
unfolding table unit unit_2
table_short zero n h = rw (le-leb n 8191 (omega arith))
table_short (suc e) n h = rw (le-leb n 4088 h)

-- the longest request that line 4 lets pass gets no longer object than the longest heap
pub within_heap : (e n : ℕ) → n ≤ 32760 → object_length (table e) n ≤ 32768
unfolding table object_length
within_heap zero n h = by_row (λ (k : ℕ). (n + (k - 1)) / k * k ≤ 32768) n (λ _. omega arith) (λ _ _. omega arith) (λ _ _. omega arith) (λ _. omega arith)
within_heap (suc e) n h =
    by_row_2 (λ (k : ℕ). (n + (k - 1)) / k * k ≤ 32768) n
    (λ _. omega arith) (λ _ _. omega arith) (λ _ _. omega arith) (λ _ _. omega arith) (λ _. omega arith)
