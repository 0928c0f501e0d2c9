-- Rounding of lengths (rules, sections 6 and 23). Everything is derived from one function, the unit of a length.
use Rattle.std.specs.Prelude.{ℕ, zero, suc, ◌+◌, ◌*◌, ◌-◌, ◌/◌, ◌%◌, ◌^◌, ◌<◌, ◌≡◌, List, [], ◌∷◌, cond, leb, ltb}

-- a table: each row has the last number that it reaches, and its value; numbers behind the last row have one value more
abbrev pub by : List (ℕ × ℕ) → ℕ → ℕ → ℕ
by [] other n = other
by (row ∷ more) other n = cond (leb n row.0) row.1 (by more other n)

-- rule 6.1; and 6.5: a length below the first row or above the last one has that row's unit
abbrev pub rows : List (ℕ × ℕ)
rows = (8191, 8) ∷ (16383, 16) ∷ (32767, 32) ∷ []

unfoldable pub unit : ℕ → ℕ
unit n = by rows 64 n

-- rule 23.1: edition 2
abbrev pub rows_2 : List (ℕ × ℕ)
rows_2 = (4088, 8) ∷ (8176, 16) ∷ (16352, 32) ∷ (32704, 64) ∷ []

unfoldable pub unit_2 : ℕ → ℕ
unit_2 n = by rows_2 128 n

-- rule 23.3: the table of an edition by its number in the accounts, 0 for edition 1
unfoldable pub table : ℕ → ℕ → ℕ
table zero = unit
table (suc e) = unit_2

-- rule 6.2: the object's length, the least multiple of the unit that is not below the request
unfoldable pub object_length : (ℕ → ℕ) → ℕ → ℕ
object_length u n = (n + (u n - 1)) / u n * u n

-- rule 6.3: what the base is a multiple of, the unit of the object's length
unfoldable pub alignment : (ℕ → ℕ) → ℕ → ℕ
alignment u n = u (object_length u n)

-- what every table of units has: no unit is 0, each is a multiple of 8, and rule 6.6: an object's length is its own object length
pub record Units (u : ℕ → ℕ) : Type 0 where
  pub positive : (n : ℕ) → 0 < u n
  pub eights : (n : ℕ) → u n % 8 ≡ 0
  pub stable : (n : ℕ) → object_length u (object_length u n) ≡ object_length u n

-- the leading zeros of x, written with w bits: w for 0
unfoldable pub leading_zeros : ℕ → ℕ → ℕ
leading_zeros zero x = 0
leading_zeros (suc w) x =
    let more = suc (leading_zeros w x) in
    cond (ltb x (2 ^ w)) more 0

-- rule 6.4: the exponent E of the hardware's bounds, counted in the 52 bits above the lowest 13, and the alignment 2^(E+3)
unfoldable pub exponent : ℕ → ℕ
exponent n = 52 - leading_zeros 52 (n / 2 ^ 13)

unfoldable pub representable_alignment : ℕ → ℕ
representable_alignment n = 2 ^ (exponent n + 3)

-- rules 6.7 and 23.6: which power of two the unit is for a count of leading zeros, by the edition's number; and the unit so found of a length
abbrev pub power : ℕ → ℕ → ℕ
power zero z = by ((16, 6) ∷ (17, 5) ∷ (18, 4) ∷ []) 3 z
power (suc e) z = by ((16, 7) ∷ (17, 6) ∷ (18, 5) ∷ (19, 4) ∷ []) 3 z

unfoldable pub by_zeros : ℕ → ℕ → ℕ
by_zeros e n = 2 ^ power e (leading_zeros 32 n)
