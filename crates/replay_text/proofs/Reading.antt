-- Reading a part of an input byte by byte: the digits of a number, the bytes of a word, and the parts between marks.
use mathlib.Core.Path.{◌≡◌, refl, ap, sym, ◌∙◌}
use mathlib.Core.List.{List, [], ◌∷◌}
use mathlib.Core.Bool.{true, false, ◌&&◌}
use Prim.Native.Nat.{ℕ, ◌+◌, ◌*◌, ◌-◌, ◌≤◌, ◌<◌}
use native.Mathlib.Omega.{arith}
use native.Mathlib.Numerals.{add-one}
use lib.Dec.{eqb}
use borrow.Author.Tests.{le-leb, lt-leb, eq-eqb, ne_eqb}
use lib.ListN.{length, drop, get_or, drop_of_length-le}
use lib.Seq.{drop-cons}
use Rattle.std.specs.Prelude.{nat_eq, Some, None}
use Rattle.std.specs.Cmp.Lexicographic.{pointwise}
use Rattle.replay_model.specs.Text.{is_digit, read_on, read_number, greatest_number, same}

-- one digit more, where digits are read behind the number n: the next byte is none, or gives too large a number, or is read
module _ (n i : ℕ) (w : List ℕ) (h : i < length w) where
  next_byte : drop i w ≡ get_or w i 0 ∷ drop (i + 1) w
  next_byte = drop-cons w i 0 h ∙ ap (λ (k : ℕ). get_or w i 0 ∷ drop k w) (sym (add-one i))

  pub digit_none : is_digit (get_or w i 0) ≡ false → None ≡ read_on n (drop i w)
  unfolding read_on
  digit_none e = sym (rw (next_byte, e))

  pub digit_large : is_digit (get_or w i 0) ≡ true → greatest_number < n * 10 + (get_or w i 0 - 48) → None ≡ read_on n (drop i w)
  unfolding read_on
  digit_large e g = sym (rw (next_byte, e, lt-leb (n * 10 + (get_or w i 0 - 48)) greatest_number g))

  pub digit_more : (next : ℕ) → is_digit (get_or w i 0) ≡ true → next ≡ n * 10 + (get_or w i 0 - 48) → next ≤ greatest_number
      → read_on next (drop (i + 1) w) ≡ read_on n (drop i w)
  unfolding read_on
  digit_more next e q g =
      ap (λ (k : ℕ). read_on k (drop (i + 1) w)) q
      ∙ sym (rw (next_byte, e, le-leb (n * 10 + (get_or w i 0 - 48)) greatest_number (omega arith)))

pub digits_done : (n i : ℕ) (w : List ℕ) → length w ≤ i → Some n ≡ read_on n (drop i w)
unfolding read_on
digits_done n i w h = sym (rw (drop_of_length-le w h))

-- a word is digits, with no zero in front of others
pub number_empty : (w : List ℕ) → length w ≤ 0 → None ≡ read_number w
unfolding read_number
number_empty [] h = refl
number_empty (b ∷ w) h = absurd (omega arith)

pub number_leading : (w : List ℕ) → get_or w 0 0 ≡ 48 → 1 < length w → None ≡ read_number w
unfolding read_number
number_leading [] e h = absurd (omega arith)
number_leading (b ∷ []) e h = absurd (omega arith)
number_leading (b ∷ (c ∷ w)) e h = sym (rw (eq-eqb b 48 e))

pub number_plain : (w : List ℕ) → 0 < length w → (get_or w 0 0 ≡ 48 → ⊥) → read_on 0 w ≡ read_number w
unfolding read_number
number_plain [] h e = absurd (omega arith)
number_plain (b ∷ []) h e = refl
number_plain (b ∷ (c ∷ w)) h e = sym (rw (ne_eqb b 48 e))

pub number_one : (w : List ℕ) → 0 < length w → length w ≤ 1 → read_on 0 w ≡ read_number w
unfolding read_number
number_one [] h l = absurd (omega arith)
number_one (b ∷ []) h l = refl
number_one (b ∷ (c ∷ w)) h l = absurd (omega arith)

pub ruleset number_words = (number_empty, number_leading, number_plain, number_one)

-- what `==` of two slices says
pub bytes_same : (v w : List ℕ) → pointwise nat_eq v w ≡ same v w
unfolding same
bytes_same [] [] = refl
bytes_same [] (b ∷ w) = refl
bytes_same (a ∷ v) [] = refl
bytes_same (a ∷ v) (b ∷ w) = ap (λ t. nat_eq a b && t) (bytes_same v w)
