-- The tables of units, computed at both ends of each row, with the object's lengths, the alignments and the hardware's alignment there, the leading zeros
-- at the powers of two, and the units by these (rules 6.1 to 6.4, 6.7, 23.1, 23.3, 23.6).
use mathlib.Core.Path.{◌≡◌, refl}
use mathlib.Core.List.{[], ◌∷◌, map}
use Rattle.rounding.specs.Rounding.{unit, unit_2, table, object_length, alignment, leading_zeros, exponent, representable_alignment, by_zeros}

-- the unit at both ends of each row, and above the table (6.5)
pub unit_rows : map unit (0 ∷ 1 ∷ 8191 ∷ 8192 ∷ 16383 ∷ 16384 ∷ 32767 ∷ 32768 ∷ 65536 ∷ 2147483648 ∷ 4294967295 ∷ [])
    ≡ 8 ∷ 8 ∷ 8 ∷ 16 ∷ 16 ∷ 32 ∷ 32 ∷ 64 ∷ 64 ∷ 64 ∷ 64 ∷ []
unfolding unit
unit_rows = refl

-- the object's length in the first row
pub length_rows : map (object_length unit) (1 ∷ 8 ∷ 9 ∷ 8185 ∷ 8191 ∷ []) ≡ 8 ∷ 8 ∷ 16 ∷ 8192 ∷ 8192 ∷ []
unfolding unit object_length
length_rows = refl

-- the object's length in the other rows
pub longer_rows : map (object_length unit) (8192 ∷ 8193 ∷ 16383 ∷ 16384 ∷ 32736 ∷ 32737 ∷ 32760 ∷ []) ≡ 8192 ∷ 8208 ∷ 16384 ∷ 16384 ∷ 32736 ∷ 32768 ∷ 32768 ∷ []
unfolding unit object_length
longer_rows = refl

-- the alignment of a request: that of its object's length, also where this falls into the next row
pub alignment_rows : map (alignment unit) (8184 ∷ 8185 ∷ 8191 ∷ 8192 ∷ 16368 ∷ 16369 ∷ 16383 ∷ 16384 ∷ []) ≡ 8 ∷ 16 ∷ 16 ∷ 16 ∷ 16 ∷ 32 ∷ 32 ∷ 32 ∷ []
unfolding unit object_length alignment
alignment_rows = refl

pub longest_rows : map (alignment unit) (32736 ∷ 32737 ∷ 32760 ∷ []) ≡ 32 ∷ 64 ∷ 64 ∷ []
unfolding unit object_length alignment
longest_rows = refl

-- the leading zeros of numbers of 32 bits, on both sides of a power of two
pub zeros_rows : map (leading_zeros 32) (0 ∷ 1 ∷ 2 ∷ 3 ∷ 255 ∷ 256 ∷ 65535 ∷ 65536 ∷ 2147483647 ∷ 2147483648 ∷ 4294967295 ∷ [])
    ≡ 32 ∷ 31 ∷ 30 ∷ 30 ∷ 24 ∷ 23 ∷ 16 ∷ 15 ∷ 1 ∷ 0 ∷ 0 ∷ []
unfolding leading_zeros
zeros_rows = refl

-- and at both ends of each row of units
pub row_zeros : map (leading_zeros 32) (8191 ∷ 8192 ∷ 16383 ∷ 16384 ∷ 32767 ∷ 32768 ∷ []) ≡ 19 ∷ 18 ∷ 18 ∷ 17 ∷ 17 ∷ 16 ∷ []
unfolding leading_zeros
row_zeros = refl

-- the hardware's alignment at the ends of the rows from 4 KiB on
pub formula_rows : map representable_alignment (4096 ∷ 8191 ∷ 8192 ∷ 16383 ∷ 16384 ∷ 32767 ∷ 32768 ∷ []) ≡ 8 ∷ 8 ∷ 16 ∷ 16 ∷ 32 ∷ 32 ∷ 64 ∷ []
unfolding leading_zeros exponent representable_alignment
formula_rows = refl

-- edition 2's unit at both ends of each row, and above the table
pub unit_2_rows : map unit_2 (0 ∷ 1 ∷ 4088 ∷ 4089 ∷ 8176 ∷ 8177 ∷ 16352 ∷ 16353 ∷ 32704 ∷ 32705 ∷ 32768 ∷ 4294967295 ∷ [])
    ≡ 8 ∷ 8 ∷ 8 ∷ 16 ∷ 16 ∷ 32 ∷ 32 ∷ 64 ∷ 64 ∷ 128 ∷ 128 ∷ 128 ∷ []
unfolding unit_2
unit_2_rows = refl

-- the object's length at both ends of each row
pub length_2_rows : map (object_length unit_2) (1 ∷ 4088 ∷ 4089 ∷ 8176 ∷ 8177 ∷ 16352 ∷ 16353 ∷ 32704 ∷ 32705 ∷ 32760 ∷ [])
    ≡ 8 ∷ 4088 ∷ 4096 ∷ 8176 ∷ 8192 ∷ 16352 ∷ 16384 ∷ 32704 ∷ 32768 ∷ 32768 ∷ []
unfolding unit_2 object_length
length_2_rows = refl

-- and the alignment
pub alignment_2_rows : map (alignment unit_2) (4088 ∷ 4089 ∷ 8176 ∷ 8177 ∷ 16352 ∷ 16353 ∷ 32704 ∷ 32705 ∷ [])
    ≡ 8 ∷ 16 ∷ 16 ∷ 32 ∷ 32 ∷ 64 ∷ 64 ∷ 128 ∷ []
unfolding unit_2 object_length alignment
alignment_2_rows = refl

-- which table a number of the accounts stands for, at a length where the two differ
pub table_rows : map (λ e. table e 8000) (0 ∷ 1 ∷ 2 ∷ 255 ∷ []) ≡ 8 ∷ 16 ∷ 16 ∷ 16 ∷ []
unfolding table unit unit_2
table_rows = refl

-- the unit by leading zeros: edition 1's is the table's; edition 2's is not at the lengths between a row's end and the next power of two
pub zeros_1_rows : map (by_zeros 0) (0 ∷ 8191 ∷ 8192 ∷ 16383 ∷ 16384 ∷ 32767 ∷ 32768 ∷ 4294967295 ∷ []) ≡ 8 ∷ 8 ∷ 16 ∷ 16 ∷ 32 ∷ 32 ∷ 64 ∷ 64 ∷ []
unfolding leading_zeros by_zeros
zeros_1_rows = refl

pub zeros_2_rows : map (by_zeros 1) (0 ∷ 4088 ∷ 4095 ∷ 4096 ∷ 8176 ∷ 8184 ∷ 8192 ∷ 16383 ∷ 16384 ∷ 32767 ∷ 32768 ∷ 4294967295 ∷ [])
    ≡ 8 ∷ 8 ∷ 8 ∷ 16 ∷ 16 ∷ 16 ∷ 32 ∷ 32 ∷ 64 ∷ 64 ∷ 128 ∷ 128 ∷ []
unfolding leading_zeros by_zeros
zeros_2_rows = refl
