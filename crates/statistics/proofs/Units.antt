-- The lengths of each unit, counted in units: at most so many, and more than half as many where the unit is not 8.
use Prim.Native.Nat.{ℕ, zero, suc, ◌+◌, ◌*◌, ◌-◌, ◌/◌, ◌%◌, ◌≤◌, ◌<◌}
use native.Mathlib.Omega.{arith}
use mathlib.Core.Path.{◌≡◌, refl}
use mathlib.Core.Logic.{◌⊎◌, inl, inr}
use Rattle.rounding.specs.Rounding.{unit, unit_2, table, object_length}
use Rattle.rounding.proofs.Rounding.{by_row}
use Rattle.rounding.proofs.Editions.{by_row_2}
use Rattle.statistics.specs.Tallies.{most_units}

-- the units of which the statistics tell the greatest length
pub data Told : ℕ → Type 0 where
  u8 : Told 8
  u16 : Told 16
  u32 : Told 32
  u64 : Told 64

-- so many units may make a length
abbrev pub Makes : ℕ → ℕ → ℕ → Type 0
Makes most a k = (k ≤ most) × ((a ≡ 8) ⊎ (most < 2 * k))

-- the lengths of a table, in units
pub record Rows (u : ℕ → ℕ) (most : ℕ) : Type 0 where
  pub rises : (n m : ℕ) → n ≤ m → u n ≤ u m
  pub inside : (n : ℕ) → n < 32768 → (k : ℕ) → n ≡ k * u n → Makes most (u n) k
  pub covers : {a : ℕ} → Told a → (k : ℕ) → Makes most a k → u (k * a) ≡ a

-- where the unit is not 8
more : {a most : ℕ} (k : ℕ) → (a ≡ 8 → ⊥) → (a ≡ 8) ⊎ (most < 2 * k) → most < 2 * k
more k n (inl e) = absurd (n e)
more k n (inr l) = l

rises_1 : (n m : ℕ) → n ≤ m → unit n ≤ unit m
rises_1 n m h =
    by_row (λ v. v ≤ unit m) n
    (λ l. by_row (λ w. 8 ≤ w) m (λ a. omega arith) (λ a b. omega arith) (λ a b. omega arith) (λ a. omega arith))
    (λ l r. by_row (λ w. 16 ≤ w) m (λ a. omega arith) (λ a b. omega arith) (λ a b. omega arith) (λ a. omega arith))
    (λ l r. by_row (λ w. 32 ≤ w) m (λ a. omega arith) (λ a b. omega arith) (λ a b. omega arith) (λ a. omega arith))
    (λ l. by_row (λ w. 64 ≤ w) m (λ a. omega arith) (λ a b. omega arith) (λ a b. omega arith) (λ a. omega arith))

inside_1 : (n : ℕ) → n < 32768 → (k : ℕ) → n ≡ k * unit n → Makes 1023 (unit n) k
inside_1 n h =
    by_row (λ v. (k : ℕ) → n ≡ k * v → Makes 1023 v k) n
    (λ l k e. (omega arith, inl refl))
    (λ l r k e. (omega arith, inr (omega arith)))
    (λ l r k e. (omega arith, inr (omega arith)))
    (λ l k e. absurd (omega arith))

covers_1 : {a : ℕ} → Told a → (k : ℕ) → Makes 1023 a k → unit (k * a) ≡ a
covers_1 u8 k w =
    by_row (λ v. v ≡ 8) (k * 8) (λ l. refl) (λ l r. absurd (omega (arith, w.0))) (λ l r. absurd (omega (arith, w.0))) (λ l. absurd (omega (arith, w.0)))
covers_1 u16 k w =
    let m : 1023 < 2 * k = more k (λ e. omega arith) w.1 in
    by_row (λ v. v ≡ 16) (k * 16) (λ l. absurd (omega arith)) (λ l r. refl) (λ l r. absurd (omega (arith, w.0))) (λ l. absurd (omega (arith, w.0)))
covers_1 u32 k w =
    let m : 1023 < 2 * k = more k (λ e. omega arith) w.1 in
    by_row (λ v. v ≡ 32) (k * 32) (λ l. absurd (omega arith)) (λ l r. absurd (omega arith)) (λ l r. refl) (λ l. absurd (omega (arith, w.0)))
covers_1 u64 k w =
    let m : 1023 < 2 * k = more k (λ e. omega arith) w.1 in
    by_row (λ v. v ≡ 64) (k * 64) (λ l. absurd (omega arith)) (λ l r. absurd (omega arith)) (λ l r. absurd (omega arith)) (λ l. refl)

rises_2 : (n m : ℕ) → n ≤ m → unit_2 n ≤ unit_2 m
rises_2 n m h =
    by_row_2 (λ v. v ≤ unit_2 m) n
    (λ l. by_row_2 (λ w. 8 ≤ w) m (λ a. omega arith) (λ a b. omega arith) (λ a b. omega arith) (λ a b. omega arith) (λ a. omega arith))
    (λ l r. by_row_2 (λ w. 16 ≤ w) m (λ a. omega arith) (λ a b. omega arith) (λ a b. omega arith) (λ a b. omega arith) (λ a. omega arith))
    (λ l r. by_row_2 (λ w. 32 ≤ w) m (λ a. omega arith) (λ a b. omega arith) (λ a b. omega arith) (λ a b. omega arith) (λ a. omega arith))
    (λ l r. by_row_2 (λ w. 64 ≤ w) m (λ a. omega arith) (λ a b. omega arith) (λ a b. omega arith) (λ a b. omega arith) (λ a. omega arith))
    (λ l. by_row_2 (λ w. 128 ≤ w) m (λ a. omega arith) (λ a b. omega arith) (λ a b. omega arith) (λ a b. omega arith) (λ a. omega arith))

inside_2 : (n : ℕ) → n < 32768 → (k : ℕ) → n ≡ k * unit_2 n → Makes 511 (unit_2 n) k
inside_2 n h =
    by_row_2 (λ v. (k : ℕ) → n ≡ k * v → Makes 511 v k) n
    (λ l k e. (omega arith, inl refl))
    (λ l r k e. (omega arith, inr (omega arith)))
    (λ l r k e. (omega arith, inr (omega arith)))
    (λ l r k e. (omega arith, inr (omega arith)))
    (λ l k e. absurd (omega arith))

covers_2 : {a : ℕ} → Told a → (k : ℕ) → Makes 511 a k → unit_2 (k * a) ≡ a
covers_2 u8 k w =
    by_row_2 (λ v. v ≡ 8) (k * 8) (λ l. refl) (λ l r. absurd (omega (arith, w.0))) (λ l r. absurd (omega (arith, w.0))) (λ l r. absurd (omega (arith, w.0)))
    (λ l. absurd (omega (arith, w.0)))
covers_2 u16 k w =
    let m : 511 < 2 * k = more k (λ e. omega arith) w.1 in
    by_row_2 (λ v. v ≡ 16) (k * 16) (λ l. absurd (omega arith)) (λ l r. refl) (λ l r. absurd (omega (arith, w.0))) (λ l r. absurd (omega (arith, w.0)))
    (λ l. absurd (omega (arith, w.0)))
covers_2 u32 k w =
    let m : 511 < 2 * k = more k (λ e. omega arith) w.1 in
    by_row_2 (λ v. v ≡ 32) (k * 32) (λ l. absurd (omega arith)) (λ l r. absurd (omega arith)) (λ l r. refl) (λ l r. absurd (omega (arith, w.0)))
    (λ l. absurd (omega (arith, w.0)))
covers_2 u64 k w =
    let m : 511 < 2 * k = more k (λ e. omega arith) w.1 in
    by_row_2 (λ v. v ≡ 64) (k * 64) (λ l. absurd (omega arith)) (λ l r. absurd (omega arith)) (λ l r. absurd (omega arith)) (λ l r. refl)
    (λ l. absurd (omega (arith, w.0)))

-- both editions
pub rows : (e : ℕ) → Rows (table e) (most_units e)
unfolding table
rows zero = record { rises = rises_1; inside = inside_1; covers = covers_1 }
rows (suc e) = record { rises = rises_2; inside = inside_2; covers = covers_2 }

-- units counted in a length, of each unit by its number
pub whole : {a : ℕ} → Told a → (n : ℕ) → n % a ≡ 0 → n ≡ n / a * a
whole u8 n e = omega arith
whole u16 n e = omega arith
whole u32 n e = omega arith
whole u64 n e = omega arith

pub under : {a : ℕ} → Told a → (n k : ℕ) → k ≤ n / a → k * a ≤ n
under u8 n k l = omega arith
under u16 n k l = omega arith
under u32 n k l = omega arith
under u64 n k l = omega arith

pub counts : {a : ℕ} → Told a → (n k : ℕ) → k * a ≤ n → k ≤ n / a
counts u8 n k l = omega arith
counts u16 n k l = omega arith
counts u32 n k l = omega arith
counts u64 n k l = omega arith

pub times : {a : ℕ} → Told a → (j k : ℕ) → j ≤ k → j * a ≤ k * a
times u8 j k l = omega arith
times u16 j k l = omega arith
times u32 j k l = omega arith
times u64 j k l = omega arith

-- of two multiples the higher one is higher by a unit at least
pub apart : {a : ℕ} → Told a → (j k : ℕ) → k * a < j * a → k * a + a ≤ j * a
apart u8 j k l = omega arith
apart u16 j k l = omega arith
apart u32 j k l = omega arith
apart u64 j k l = omega arith

pub some_unit : {a : ℕ} → Told a → 0 < a
some_unit u8 = omega arith
some_unit u16 = omega arith
some_unit u32 = omega arith
some_unit u64 = omega arith

-- a whole number of units is rounded to itself
pub rounds : {a : ℕ} → Told a → (k : ℕ) → (k * a + (a - 1)) / a * a ≡ k * a
rounds u8 k = omega arith
rounds u16 k = omega arith
rounds u32 k = omega arith
rounds u64 k = omega arith

-- a unit is one of those, or 128, which edition 2 alone has
pub units_told : (e n : ℕ) → Told (table e n) ⊎ (table e n ≡ 128)
unfolding table
units_told zero n = by_row (λ v. Told v ⊎ (v ≡ 128)) n (λ _. inl u8) (λ _ _. inl u16) (λ _ _. inl u32) (λ _. inl u64)
units_told (suc e) n =
    by_row_2 (λ v. Told v ⊎ (v ≡ 128)) n (λ _. inl u8) (λ _ _. inl u16) (λ _ _. inl u32) (λ _ _. inl u64)
    (λ _. inr refl)

-- a length with the unit 128 that is rounded is as long as the greatest heap
pub unit_128 : (e n : ℕ) → table e n ≡ 128 → object_length (table e) n ≡ n → 32768 ≤ n
unfolding table object_length
unit_128 zero n =
    by_row (λ v. v ≡ 128 → (n + (v - 1)) / v * v ≡ n → 32768 ≤ n) n
    (λ _ z s. absurd (omega arith)) (λ _ _ z s. absurd (omega arith)) (λ _ _ z s. absurd (omega arith))
    (λ _ z s. absurd (omega arith))
unit_128 (suc e) n =
    by_row_2 (λ v. v ≡ 128 → (n + (v - 1)) / v * v ≡ n → 32768 ≤ n) n
    (λ _ z s. absurd (omega arith)) (λ _ _ z s. absurd (omega arith)) (λ _ _ z s. absurd (omega arith))
    (λ _ _ z s. absurd (omega arith))
    (λ l z s. omega arith)
