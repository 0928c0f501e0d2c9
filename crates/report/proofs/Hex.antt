-- Digits and numbers: each is had back from the other.
use mathlib.Core.Path.{◌≡◌, refl, ap, sym, ◌∙◌}
use mathlib.Core.List.{List, [], ◌∷◌}
use mathlib.Core.Bool.{Bool, true, false, cond, ◌&&◌}
use Prim.Native.Nat.{ℕ, zero, suc, ◌+◌, ◌*◌, ◌-◌, ◌/◌, ◌%◌, ◌^◌, ◌≤◌, ◌<◌}
use native.Mathlib.Omega.{arith}
use native.Mathlib.Nat.{pow-zero, pow-succ', mod-one, mod-lt, mod-eq_of_lt, one-le-pow}
use lib.Arith.{digits_div, digits_mod, digits_lt, mod-mul}
use lib.ListN.{length, get_or}
use lib.Dec.{leb, ltb, lit<}
use borrow.Author.Tests.{le-leb, lt-leb, lt-ltb, le-ltb, ltb-true, ltb-false, leb-true, leb-false}
use Rattle.lists.proofs.Bools.{and_parts}
use Rattle.report.specs.Words.{digit, value, is_digit, all_digits, digits, number}
use Rattle.report.proofs.Rows

-- a digit's character has its value
module _ (d : ℕ) (h : d < 16) where
  pub value_digit : value (digit d) ≡ d
  unfolding value digit
  value_digit = go (ltb d 10) refl
    where
      go : (t : Bool) → ltb d 10 ≡ t
          → cond (leb 48 (cond t (48 + d) (87 + d)) && leb (cond t (48 + d) (87 + d)) 57) (cond t (48 + d) (87 + d) - 48)
          (cond (leb 97 (cond t (48 + d) (87 + d)) && leb (cond t (48 + d) (87 + d)) 102) (cond t (48 + d) (87 + d) - 87) 16) ≡ d
      go true t = let l = ltb-true d 10 t in rw (le-leb 48 (48 + d) (omega arith), le-leb (48 + d) 57 (omega arith)) (omega arith)
      go false t =
          let l = ltb-false d 10 t in
          rw (le-leb 48 (87 + d) (omega arith), lt-leb (87 + d) 57 (omega arith), le-leb 97 (87 + d) (omega arith), le-leb (87 + d) 102 (omega arith))
          (omega arith)

  pub digit_is : is_digit (digit d) ≡ true
  unfolding is_digit
  digit_is = rw value_digit (lt-ltb d 16 h)

-- the value of a decimal digit, of a letter, and of any other character
module _ (c : ℕ) where
  pub value_decimal : 48 ≤ c → c ≤ 57 → value c ≡ c - 48
  unfolding value
  value_decimal h l = rw (le-leb 48 c h, le-leb c 57 l)

  pub value_letter : 97 ≤ c → c ≤ 102 → value c ≡ c - 87
  unfolding value
  value_letter h l = rw (le-leb 48 c (omega arith), lt-leb c 57 (omega arith), le-leb 97 c h, le-leb c 102 l)

  pub value_low : c < 48 → value c ≡ 16
  unfolding value
  value_low h = rw (lt-leb 48 c h, lt-leb 97 c (omega arith))

  pub value_between : 57 < c → c < 97 → value c ≡ 16
  unfolding value
  value_between h l = rw (le-leb 48 c (omega arith), lt-leb c 57 h, lt-leb 97 c l)

  pub value_high : 102 < c → value c ≡ 16
  unfolding value
  value_high h = rw (le-leb 48 c (omega arith), lt-leb c 57 (omega arith), le-leb 97 c (omega arith), lt-leb c 102 h)

-- a character that is a digit is that of its value
digit_decimal : (d : ℕ) → d < 10 → digit d ≡ 48 + d
unfolding digit
digit_decimal d h = rw (lt-ltb d 10 h)

digit_letter : (d : ℕ) → 10 ≤ d → digit d ≡ 87 + d
unfolding digit
digit_letter d h = rw (le-ltb d 10 h)

pub digit_again : (c : ℕ) → value c < 16 → digit (value c) ≡ c
digit_again c h = go (ltb c 48) refl (leb c 57) refl (ltb c 97) refl (leb c 102) refl
  where
    go : (t : Bool) → ltb c 48 ≡ t → (u : Bool) → leb c 57 ≡ u → (v : Bool) → ltb c 97 ≡ v → (w : Bool) → leb c 102 ≡ w → digit (value c) ≡ c
    go true t u p v q w r = absurd (omega (arith, value_low c (ltb-true c 48 t)))
    go false t true p v q w r =
        let l = ltb-false c 48 t in
        let m = leb-true c 57 p in
        ap digit (value_decimal c l m) ∙ digit_decimal (c - 48) (omega arith) ∙ omega arith
    go false t false p true q w r = absurd (omega (arith, value_between c (leb-false c 57 p) (ltb-true c 97 q)))
    go false t false p false q true r =
        let l = ltb-false c 97 q in
        let m = leb-true c 102 r in
        ap digit (value_letter c l m) ∙ digit_letter (c - 87) (omega arith) ∙ omega arith
    go false t false p false q false r = absurd (omega (arith, value_high c (leb-false c 102 r)))

-- the digits of a number
pub digits_length : (k n : ℕ) → length (digits k n) ≡ k
unfolding digits
digits_length zero n = refl
digits_length (suc k) n = ap suc (digits_length k n)

pub digits_are : (k n : ℕ) → all_digits (digits k n) ≡ true
unfolding digits all_digits
digits_are zero n = refl
digits_are (suc k) n = rw (digit_is (n / 16 ^ k % 16) (mod-lt (n / 16 ^ k) (lit< tt)), digits_are k n)

pub digits_at : (k i n e : ℕ) → e + suc i ≡ k → get_or (digits k n) i 0 ≡ digit (n / 16 ^ e % 16)
unfolding digits
digits_at zero i n e h = absurd (omega arith)
digits_at (suc k) zero n e h = let l : k ≡ e = omega arith in ap (λ (j : ℕ). digit (n / 16 ^ j % 16)) l
digits_at (suc k) (suc i) n e h = digits_at k i n e (omega arith)

-- their number is what the lowest k digits are
pub number_digits : (k n : ℕ) → number (digits k n) ≡ n % 16 ^ k
unfolding digits number
number_digits zero n = rw (pow-zero, mod-one)
number_digits (suc k) n =
    rw (value_digit (n / 16 ^ k % 16) (mod-lt (n / 16 ^ k) (lit< tt)), digits_length k n, number_digits k n, pow-succ' 16 k)
    (sym (mod-mul n {m = 16} {c = 16 ^ k} (lit< tt) (one-le-pow k 16 (lit< tt))))

pub number_below : (s : List ℕ) → all_digits s ≡ true → number s < 16 ^ length s
unfolding number all_digits is_digit
number_below [] e = rw pow-zero (lit< tt)
number_below (c ∷ s) e =
    let w = and_parts (is_digit c) (all_digits s) e in
    rw (pow-succ' 16 (length s)) (digits_lt (ltb-true (value c) 16 w.0) (number_below s w.1))

-- two texts of as many digits with one number are the same
same_digits : (s t : List ℕ) → all_digits s ≡ true → all_digits t ≡ true → length s ≡ length t → number s ≡ number t → s ≡ t
unfolding number all_digits is_digit
same_digits [] [] a b l e = refl
same_digits [] (d ∷ t) a b l e = absurd (omega arith)
same_digits (c ∷ s) [] a b l e = absurd (omega arith)
same_digits (c ∷ s) (d ∷ t) a b l e =
    let k : length s ≡ length t = omega arith in
    let x = and_parts (is_digit c) (all_digits s) a in
    let y = and_parts (is_digit d) (all_digits t) b in
    let p = 16 ^ length s in
    let f : number s < p = number_below s x.1 in
    let g : number t < p = rw k (number_below t y.1) in
    let m : value c * p + number s ≡ value d * p + number t = e ∙ ap (λ (n : ℕ). value d * 16 ^ n + number t) (sym k) in
    let v : value c ≡ value d = sym (digits_div (value c) f) ∙ ap (λ (n : ℕ). n / p) m ∙ digits_div (value d) g in
    let w : number s ≡ number t = sym (digits_mod (value c) f) ∙ ap (λ (n : ℕ). n % p) m ∙ digits_mod (value d) g in
    λ i.
    (sym (digit_again c (ltb-true (value c) 16 x.0)) ∙ ap digit v ∙ digit_again d (ltb-true (value d) 16 y.0)) i
    ∷ same_digits s t x.1 y.1 k w i

pub digits_number : (s : List ℕ) → all_digits s ≡ true → digits (length s) (number s) ≡ s
digits_number s e =
    same_digits (digits (length s) (number s)) s (digits_are (length s) (number s)) e (digits_length (length s) (number s))
    (number_digits (length s) (number s) ∙ mod-eq_of_lt (number_below s e))
