-- Words and lines: each is had back from the other.
use mathlib.Core.Path.{◌≡◌, refl, ap, sym, ◌∙◌}
use mathlib.Core.List.{List, [], ◌∷◌, ◌++◌, map, append_assoc}
use mathlib.Core.Bool.{Bool, true, false, cond, ◌&&◌}
use Prim.Native.Nat.{ℕ, zero, suc, ◌+◌, ◌*◌, ◌%◌, ◌^◌, ◌≤◌, ◌<◌}
use native.Mathlib.Omega.{arith}
use native.Mathlib.Nat.{mod-eq_of_lt, suc-mul}
use lib.ListN.{length, take, drop, get_or, replicate, length-append, length-drop, take-append-drop}
use lib.Seq.{take_at, drop_at, get_or_at, drop-cons, drop-drop, length-take-le}
use lib.Dec.{leb, eqb}
use borrow.Author.Tests.{le-leb, leb-true, eq-eqb, eqb-true}
use Rattle.std.specs.Prelude.{Ok, Err}
use Rattle.lists.proofs.Bools.{and_parts}
use Rattle.report.specs.Words.{all_digits, digits, number, mark, text, line_text, word_right, words_right, words, all_zero}
use Rattle.report.specs.Import.{line_of}
use Rattle.report.specs.declared.ReportRefusal.TheVariants.{Character, Reserved}
use Rattle.report.proofs.Hex.{digits_length, digits_are, number_digits, number_below, digits_number}

-- a word, its mark and more text behind them
module _ (m n : ℕ) (q : List ℕ) where
  word_dropped : drop 9 (digits 8 n ++ (m ∷ q)) ≡ q
  word_dropped =
      let l : length (digits 8 n ++ (m ∷ [])) ≡ 9 = simp (length-append, digits_length) in
      rw (← append_assoc (digits 8 n) (m ∷ []) q) (drop_at (digits 8 n ++ (m ∷ [])) q 9 l)

  word_read : number (take 8 (digits 8 n ++ (m ∷ q))) ≡ n % 16 ^ 8
  word_read = rw (take_at (digits 8 n) (m ∷ q) 8 (digits_length 8 n)) (number_digits 8 n)

  word_is_right : word_right m (digits 8 n ++ (m ∷ q)) ≡ true
  unfolding word_right
  word_is_right =
      let l : 9 ≤ length (digits 8 n ++ (m ∷ q)) = simp (length-append, digits_length) (omega arith) in
      rw (le-leb 9 (length (digits 8 n ++ (m ∷ q))) l, take_at (digits 8 n) (m ∷ q) 8 (digits_length 8 n), digits_are 8 n)
      (eq-eqb (get_or (digits 8 n ++ (m ∷ q)) 8 0) m (get_or_at (digits 8 n) m q 0 8 (digits_length 8 n)))

text_front : (n : ℕ) (ns q : List ℕ) → text (n ∷ ns) ++ q ≡ digits 8 n ++ (mark (length ns) ∷ (text ns ++ q))
unfolding text
text_front n ns q = append_assoc (digits 8 n) (mark (length ns) ∷ text ns) q

-- a text of words is right, and its words are they
pub text_right : (ns q : List ℕ) → words_right (length ns) (text ns ++ q) ≡ true
unfolding words_right
text_right [] q = refl
text_right (n ∷ ns) q =
    rw (text_front n ns q, word_is_right (mark (length ns)) n (text ns ++ q), word_dropped (mark (length ns)) n (text ns ++ q)) (text_right ns q)

pub text_words : (ns q : List ℕ) → words (length ns) (text ns ++ q) ≡ map (λ n. n % 16 ^ 8) ns
unfolding words
text_words [] q = refl
text_words (n ∷ ns) q =
    rw (text_front n ns q, word_read (mark (length ns)) n (text ns ++ q), word_dropped (mark (length ns)) n (text ns ++ q), text_words ns q)

pub text_length : (ns : List ℕ) → length (text ns) ≡ length ns * 9
unfolding text
text_length [] = refl
text_length (n ∷ ns) =
    let l : length (digits 8 n ++ (mark (length ns) ∷ text ns)) ≡ 8 + suc (length (text ns)) = simp (length-append, digits_length) in
    omega (arith, text_length ns, suc-mul (length ns) 9)

-- what a word that is right says of its text
pub record Word (m : ℕ) (s : List ℕ) : Type 0 where
  pub long : 9 ≤ length s
  pub right : all_digits (take 8 s) ≡ true
  pub marked : get_or s 8 0 ≡ m

pub word_is : (m : ℕ) (s : List ℕ) → word_right m s ≡ true → Word m s
unfolding word_right
word_is m s e =
    let x = and_parts (leb 9 (length s)) (all_digits (take 8 s) && eqb (get_or s 8 0) m) e in
    let y = and_parts (all_digits (take 8 s)) (eqb (get_or s 8 0) m) x.1 in
    record { long = leb-true 9 (length s) x.0; right = y.0; marked = eqb-true (get_or s 8 0) m y.1 }

word_again : (m : ℕ) (s : List ℕ) → Word m s → digits 8 (number (take 8 s)) ++ (m ∷ drop 9 s) ≡ s
word_again m s w =
    let l = w.long in
    let d : digits 8 (number (take 8 s)) ≡ take 8 s = rw (length-take-le 8 s (omega arith)) at (digits_number (take 8 s) w.right) in
    rw (d, ← w.marked, ← drop-cons s 8 0 (omega arith)) (take-append-drop 8 s)

pub words_length : (k : ℕ) (s : List ℕ) → length (words k s) ≡ k
unfolding words
words_length zero s = refl
words_length (suc k) s = ap suc (words_length k (drop 9 s))

drop_words : (k : ℕ) (s : List ℕ) → drop (k * 9) (drop 9 s) ≡ drop (suc k * 9) s
drop_words k s = let e : 9 + k * 9 ≡ suc k * 9 = omega (arith, suc-mul k 9) in drop-drop (k * 9) 9 s ∙ ap (λ (n : ℕ). drop n s) e

-- and a right text is that of its words
pub words_text : (k : ℕ) (s : List ℕ) → words_right k s ≡ true → text (words k s) ++ drop (k * 9) s ≡ s
unfolding words_right words text
words_text zero s e = refl
words_text (suc k) s e =
    let w = and_parts (word_right (mark k) s) (words_right k (drop 9 s)) e in
    text_front (number (take 8 s)) (words k (drop 9 s)) (drop (suc k * 9) s)
    ∙ rw (words_length k (drop 9 s), ← drop_words k s, words_text k (drop 9 s) w.1) (word_again (mark k) s (word_is (mark k) s w.0))

-- each of its words is one of digits, and it is long enough for them
pub words_digits : (k j : ℕ) (s : List ℕ) → words_right k s ≡ true → j < k → all_digits (take 8 (drop (j * 9) s)) ≡ true
unfolding words_right
words_digits zero j s e h = absurd (omega arith)
words_digits (suc k) zero s e h =
    let w = and_parts (word_right (mark k) s) (words_right k (drop 9 s)) e in
    (word_is (mark k) s w.0).right
words_digits (suc k) (suc j) s e h =
    let w = and_parts (word_right (mark k) s) (words_right k (drop 9 s)) e in
    rw (← drop_words j s) (words_digits k j (drop 9 s) w.1 (omega arith))

pub words_long : (k : ℕ) (s : List ℕ) → words_right k s ≡ true → k * 9 ≤ length s
unfolding words_right
words_long zero s e = omega arith
words_long (suc k) s e =
    let w = and_parts (word_right (mark k) s) (words_right k (drop 9 s)) e in
    let l = (word_is (mark k) s w.0).long in
    omega (arith, words_long k (drop 9 s) w.1, length-drop 9 s, suc-mul k 9)

-- zeros
all_zero_is : (ns : List ℕ) → all_zero ns ≡ true → ns ≡ replicate (length ns) 0
unfolding all_zero
all_zero_is [] e = refl
all_zero_is (n ∷ ns) e = let w = and_parts (eqb n 0) (all_zero ns) e in λ i. eqb-true n 0 w.0 i ∷ all_zero_is ns w.1 i

-- the line of a grant: its length, what it says with any text behind it, and that a line which says a grant is the grant's
pub line_length : (g : ℕ) → length (line_text g) ≡ 54
unfolding line_text
line_length g = text_length (g ∷ replicate 5 0)

module _ (g : ℕ) (q : List ℕ) where
  said_words : words 6 (line_text g ++ q) ≡ g % 16 ^ 8 ∷ replicate 5 0
  unfolding line_text
  said_words = text_words (g ∷ replicate 5 0) q

  said_first : number (take 8 (line_text g ++ q)) ≡ g % 16 ^ 8
  unfolding words
  said_first = ap (λ (l : List ℕ). get_or l 0 0) said_words

  said_rest : words 5 (drop 9 (line_text g ++ q)) ≡ replicate 5 0
  unfolding words
  said_rest = ap (λ (l : List ℕ). drop 1 l) said_words

  said_right : words_right 6 (line_text g ++ q) ≡ true
  unfolding line_text
  said_right = text_right (g ∷ replicate 5 0) q

  pub line_says : g < 2 ^ 32 → line_of (line_text g ++ q) ≡ Ok g
  unfolding line_of all_zero
  line_says h = rw (said_right, said_rest, said_first) (ap Ok (mod-eq_of_lt h))

pub record Told (s : List ℕ) (g : ℕ) : Type 0 where
  pub small : g < 2 ^ 32
  pub again : line_text g ++ drop 54 s ≡ s

zeros_behind : (s : List ℕ) → all_zero (words 5 (drop 9 s)) ≡ true → words 5 (drop 9 s) ≡ replicate 5 0
zeros_behind s z = all_zero_is (words 5 (drop 9 s)) z ∙ ap (λ (n : ℕ). replicate n 0) (words_length 5 (drop 9 s))

told_again : (s : List ℕ) → words_right 6 s ≡ true → words 5 (drop 9 s) ≡ replicate 5 0 → line_text (number (take 8 s)) ++ drop 54 s ≡ s
unfolding line_text words
told_again s e w = ap (λ (l : List ℕ). text (number (take 8 s) ∷ l) ++ drop 54 s) (sym w) ∙ words_text 6 s e

told : (s : List ℕ) → words_right 6 s ≡ true → all_zero (words 5 (drop 9 s)) ≡ true → Told s (number (take 8 s))
told s e z =
    let l = words_long 6 s e in
    record {
      small = rw (length-take-le 8 s (omega arith)) at (number_below (take 8 s) (words_digits 6 0 s e (omega arith)));
      again = told_again s e (zeros_behind s z);
    }

pub line_told : (s : List ℕ) (g : ℕ) → line_of s ≡ Ok g → Told s g
unfolding line_of
line_told s g e = go (words_right 6 s) refl (all_zero (words 5 (drop 9 s))) refl e
  where
    go : (t : Bool) → words_right 6 s ≡ t → (z : Bool) → all_zero (words 5 (drop 9 s)) ≡ z
        → cond t (cond z (Ok (number (take 8 s))) (Err Reserved)) (Err Character) ≡ Ok g
        → Told s g
    go true t true z q = let n : number (take 8 s) ≡ g = cc in rw (← n) (told s t z)
    go true t false z q = let w : ◌≡◌ {A = ℕ} 0 1 = cc in absurd (omega arith)
    go false t u z q = let w : ◌≡◌ {A = ℕ} 0 1 = cc in absurd (omega arith)
