-- What the loops over words and lines find: a word read, tested and written, character by character, and a line word by word.
use mathlib.Core.Path.{◌≡◌, refl, ap, sym, ◌∙◌}
use mathlib.Core.List.{List, [], ◌∷◌, ◌++◌}
use mathlib.Core.Bool.{Bool, true, false, ◌&&◌}
use Prim.Native.Nat.{ℕ, zero, suc, ◌+◌, ◌*◌, ◌-◌, ◌/◌, ◌%◌, ◌^◌, ◌≤◌, ◌<◌}
use native.Mathlib.Omega.{arith}
use native.Mathlib.Numerals.{add-one}
use native.Mathlib.Nat.{pow-zero, pow-suc, pow-succ', mul_assoc, pow-le-pow_right}
use lib.Pow.{pow-add}
use lib.ListN.{length, take, drop, get_or, set, length-append, length-take, length-drop}
use lib.Seq.{take-suc, take-take, get_or-take, drop-drop, take_all, length-take-le}
use lib.Dec.{leb, eqb, lit<}
use borrow.Author.Tests.{le-leb, eq-eqb, ne_eqb}
use Rattle.std.specs.Prelude.{Ok, Err}
use Rattle.lists.proofs.Bools.{and_parts}
use Rattle.layout.specs.Bytes.{overwrite}
use Rattle.layout.proofs.Overwrite.{overwrite_more}
use Rattle.report.specs.Words.{digit, value, is_digit, all_digits, digits, number, mark, text, line_text, word_right, words_right, words, all_zero}
use Rattle.report.specs.Import.{line_of}
use Rattle.report.specs.declared.ReportRefusal.TheVariants.{Character, Reserved}
use Rattle.report.proofs.Hex.{digits_at, number_below}
use Rattle.report.proofs.Words.{words_digits, words_long}

-- a character more
number_snoc : (s : List ℕ) (c : ℕ) → number (s ++ (c ∷ [])) ≡ number s * 16 + value c
unfolding number
number_snoc [] c = omega (arith, pow-zero 16)
number_snoc (d ∷ s) c =
    let l : length (s ++ (c ∷ [])) ≡ suc (length s) = simp length-append (add-one (length s)) in
    rw (l, number_snoc s c, pow-suc 16 (length s)) (omega (arith, mul_assoc (value d) (16 ^ length s) 16))

digits_both : (s t : List ℕ) → all_digits s ≡ true → all_digits t ≡ true → all_digits (s ++ t) ≡ true
unfolding all_digits
digits_both [] t a b = b
digits_both (c ∷ s) t a b = let w = and_parts (is_digit c) (all_digits s) a in rw w.0 (digits_both s t w.1 b)

digits_take : (n : ℕ) (s : List ℕ) → all_digits s ≡ true → all_digits (take n s) ≡ true
unfolding all_digits
digits_take zero s e = refl
digits_take (suc n) [] e = refl
digits_take (suc n) (c ∷ s) e = let w = and_parts (is_digit c) (all_digits s) e in rw w.0 (digits_take n s w.1)

-- a character that is no digit
digits_stop : (s : List ℕ) (i : ℕ) → i < length s → is_digit (get_or s i 0) ≡ false → all_digits s ≡ false
unfolding all_digits
digits_stop [] i h e = absurd (omega arith)
digits_stop (c ∷ s) zero h e = rw e
digits_stop (c ∷ s) (suc i) h e = rw (digits_stop s i (omega arith) e) (and_no (is_digit c))
  where
    and_no : (b : Bool) → (b && false) ≡ false
    and_no true = refl
    and_no false = refl

-- digits fit 32 bits as long as there are at most eight
number_fits : (s : List ℕ) → all_digits s ≡ true → length s ≤ 8 → number s < 2 ^ 32
number_fits s e h =
    let p : 16 ^ length s ≤ 16 ^ 8 = pow-le-pow_right (lit< tt) h in
    omega (arith, number_below s e)

-- the word in front, read
module _ (t : List ℕ) (l : 8 ≤ length t) (d : all_digits (take 8 t) ≡ true) where
  pub read_more : (i n v : ℕ) → i < 8 → n ≡ number (take i t) → v ≡ value (get_or t i 0)
      → (n * 16 + v ≡ number (take (i + 1) t)) × (n * 16 + v < 2 ^ 32)
  read_more i n v h e f =
      let k : i < length t = omega arith in
      let x : number (take (i + 1) t) ≡ n * 16 + v =
      ap (λ (j : ℕ). number (take j t)) (add-one i) ∙ ap number (take-suc t i 0 k) ∙ number_snoc (take i t) (get_or t i 0)
      ∙ (λ j. sym e j * 16 + sym f j) in
      let y : all_digits (take (i + 1) t) ≡ true = rw (take-take (i + 1) 8 t (omega arith)) at (digits_take (i + 1) (take 8 t) d) in
      let z = number_fits (take (i + 1) t) y (omega (arith, length-take (i + 1) t)) in
      (sym x, omega arith)

-- a word in front, tested
module _ (t : List ℕ) (m : ℕ) (l : 9 ≤ length t) where
  long : leb 9 (length t) ≡ true
  long = le-leb 9 (length t) l

  pub word_stops : (i : ℕ) → i < 8 → is_digit (get_or t i 0) ≡ false → false ≡ word_right m t
  unfolding word_right
  word_stops i h e =
      let k : length (take 8 t) ≡ 8 = length-take-le 8 t (omega arith) in
      let g : is_digit (get_or (take 8 t) i 0) ≡ false = ap is_digit (get_or-take 8 t i 0 h) ∙ e in
      sym (rw (long, digits_stop (take 8 t) i (omega arith) g))

  pub word_goes_on : (i : ℕ) → i < 8 → all_digits (take i t) ≡ true → is_digit (get_or t i 0) ≡ true
      → all_digits (take (i + 1) t) ≡ true
  unfolding all_digits
  word_goes_on i h a e =
      let k : i < length t = omega arith in
      let one : all_digits (get_or t i 0 ∷ []) ≡ true = rw e in
      rw (add-one i, take-suc t i 0 k) (digits_both (take i t) (get_or t i 0 ∷ []) a one)

  pub word_ends : (i : ℕ) → i ≡ 8 → all_digits (take i t) ≡ true → eqb (get_or t 8 0) m ≡ word_right m t
  unfolding word_right
  word_ends i h a =
      let b : all_digits (take 8 t) ≡ true = rw h at a in
      sym (rw (long, b))

-- what a slice from a place to the end is
pub tail_is : (a : ℕ) (t : List ℕ) → take (length t - a) (drop a t) ≡ drop a t
tail_is a t = take_all (length t - a) (drop a t) (omega (arith, length-drop a t))

-- the words of a line, tested
module _ (t : List ℕ) where
  next_word : (k : ℕ) → drop 9 (drop (9 * k) t) ≡ drop (9 * (k + 1)) t
  next_word k = let e : 9 * k + 9 ≡ 9 * (k + 1) = omega arith in drop-drop 9 (9 * k) t ∙ ap (λ (n : ℕ). drop n t) e

  abbrev pub right_from : ℕ → Bool
  right_from k = words_right (6 - k) (drop (9 * k) t)

  right_more : (k : ℕ) → k < 5 → right_from k ≡ (word_right 32 (drop (9 * k) t) && right_from (k + 1))
  unfolding words_right mark
  right_more k h =
      let e : 6 - k ≡ suc (suc (4 - k)) = omega arith in
      let f : 6 - (k + 1) ≡ suc (4 - k) = omega arith in
      rw (e, f, next_word k)

  module _ (k : ℕ) (h : k < 5) (all : words_right 6 t ≡ right_from k) where
    pub right_stops : word_right 32 (drop (9 * k) t) ≡ false → false ≡ words_right 6 t
    right_stops e = sym (all ∙ right_more k h ∙ rw e)

    pub right_goes_on : word_right 32 (drop (9 * k) t) ≡ true → words_right 6 t ≡ right_from (k + 1)
    right_goes_on e = all ∙ right_more k h ∙ rw e

  pub right_ends : (k : ℕ) → k ≡ 5 → words_right 6 t ≡ right_from k → word_right 10 (drop 45 t) ≡ words_right 6 t
  unfolding words_right mark
  right_ends k h all = sym (all ∙ ap right_from h ∙ and_true (word_right 10 (drop 45 t)))
    where
      and_true : (b : Bool) → (b && true) ≡ b
      and_true true = refl
      and_true false = refl

  -- and those behind the first, whether they are zero
  abbrev pub zero_from : ℕ → Bool
  zero_from k = all_zero (words (6 - k) (drop (9 * k) t))

  zero_more : (k : ℕ) → k < 6 → zero_from k ≡ (eqb (number (take 8 (drop (9 * k) t))) 0 && zero_from (k + 1))
  unfolding words all_zero
  zero_more k h =
      let e : 6 - k ≡ suc (6 - (k + 1)) = omega arith in
      rw (e, next_word k)

  module _ (k n : ℕ) (h : k < 6) (all : all_zero (words 5 (drop 9 t)) ≡ zero_from k) (e : n ≡ number (take 8 (drop (9 * k) t))) where
    pub zero_stops : (n ≡ 0 → ⊥) → false ≡ all_zero (words 5 (drop 9 t))
    zero_stops z = sym (all ∙ zero_more k h ∙ rw (← e, ne_eqb n 0 z))

    pub zero_goes_on : n ≡ 0 → all_zero (words 5 (drop 9 t)) ≡ zero_from (k + 1)
    zero_goes_on z = all ∙ zero_more k h ∙ rw (← e, eq-eqb n 0 z)

  pub zero_ends : (k : ℕ) → k ≡ 6 → all_zero (words 5 (drop 9 t)) ≡ zero_from k → true ≡ all_zero (words 5 (drop 9 t))
  unfolding words all_zero
  zero_ends k h all = sym (all ∙ ap zero_from h)

  pub word_digits : (k : ℕ) → words_right 6 t ≡ true → k < 6 → all_digits (take 8 (drop (9 * k) t)) ≡ true
  word_digits k e h =
      let p : k * 9 ≡ 9 * k = omega arith in
      rw p at (words_digits 6 k t e h)

-- what a line says, by its tests
module _ (s : List ℕ) where
  pub line_wrong : words_right 6 s ≡ false → Err Character ≡ line_of s
  unfolding line_of
  line_wrong e = sym (rw e)

  pub line_short : length s < 54 → Err Character ≡ line_of s
  line_short h = line_wrong (go (words_right 6 s) refl)
    where
      go : (t : Bool) → words_right 6 s ≡ t → t ≡ false
      go true t = absurd (omega (arith, words_long 6 s t))
      go false t = refl

  pub line_reserved : words_right 6 s ≡ true → all_zero (words 5 (drop 9 s)) ≡ false → Err Reserved ≡ line_of s
  unfolding line_of
  line_reserved e z = sym (rw (e, z))

  pub line_right : words_right 6 s ≡ true → all_zero (words 5 (drop 9 s)) ≡ true → Ok (number (take 8 s)) ≡ line_of s
  unfolding line_of
  line_right e z = sym (rw (e, z))

-- a part written in front, character by character
pub put_more : (i b : ℕ) (new s s' : List ℕ) → length new ≤ length s → i < length new → b ≡ get_or new i 0 → s' ≡ overwrite 0 (take i new) s
    → set s' i b ≡ overwrite 0 (take (i + 1) new) s
put_more i b new s s' l h e p =
    let z : 0 + i ≡ i = omega arith in
    let m = overwrite_more 0 (take i new) s i (get_or new i 0) (length-take-le i new (omega arith)) (omega arith) in
    rw (p, e, add-one i, take-suc new i 0 h) (rw z at m)

-- a digit of a number, by its place in the word
sixteens : (k : ℕ) → 2 ^ (4 * k) ≡ 16 ^ k
sixteens zero = refl
sixteens (suc k) =
    let e : 4 * suc k ≡ 4 + 4 * k = omega arith in
    ap (λ (n : ℕ). 2 ^ n) e ∙ pow-add 2 4 (4 * k) ∙ ap (λ (n : ℕ). 16 * n) (sixteens k) ∙ sym (pow-succ' 16 k)

pub shifted : (n i : ℕ) → i < 8 → digit (n / 2 ^ (28 - 4 * i) % 16) ≡ get_or (digits 8 n) i 0
shifted n i h =
    let e : 28 - 4 * i ≡ 4 * (7 - i) = omega arith in
    let p : 2 ^ (28 - 4 * i) ≡ 16 ^ (7 - i) = ap (λ (k : ℕ). 2 ^ k) e ∙ sixteens (7 - i) in
    ap (λ (k : ℕ). digit (n / k % 16)) p ∙ sym (digits_at 8 i n (7 - i) (omega arith))

-- the tail of every line, as it stands in the code
abbrev pub TAIL : List ℕ
TAIL =
    32 ∷ 48 ∷ 48 ∷ 48 ∷ 48 ∷ 48 ∷ 48 ∷ 48 ∷ 48 ∷ 32 ∷ 48 ∷ 48 ∷ 48 ∷ 48 ∷ 48 ∷ 48 ∷ 48 ∷ 48 ∷ 32 ∷ 48 ∷ 48 ∷ 48 ∷ 48 ∷ 48 ∷ 48 ∷ 48 ∷ 48 ∷ 32 ∷ 48
    ∷ 48 ∷ 48 ∷ 48 ∷ 48 ∷ 48 ∷ 48 ∷ 48 ∷ 32 ∷ 48 ∷ 48 ∷ 48 ∷ 48 ∷ 48 ∷ 48 ∷ 48 ∷ 48 ∷ 10 ∷ []

pub line_tail : (g : ℕ) → line_text g ≡ digits 8 g ++ TAIL
unfolding line_text text mark digits digit
line_tail g = refl
