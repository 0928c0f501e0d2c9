-- A quota's line in the audit report (rules 18.1 and 18.2): six words of eight hexadecimal digits with a space between, and a line feed.
use Rattle.std.specs.Prelude.{ℕ, zero, suc, ◌+◌, ◌*◌, ◌-◌, ◌/◌, ◌%◌, ◌^◌, List, [], ◌∷◌, ◌++◌, Bool, true, cond, ◌&&◌, length, get_or, take, drop, replicate}
use Rattle.std.specs.Prelude.{leb, ltb, eqb}

-- rule 18.1: the character of a digit, 0 to 9 and a to f; and the digit of a character, 16 where it is none
unfoldable pub digit : ℕ → ℕ
digit d = cond (ltb d 10) (48 + d) (87 + d)

unfoldable pub value : ℕ → ℕ
value c = cond (leb 48 c && leb c 57) (c - 48) (cond (leb 97 c && leb c 102) (c - 87) 16)

unfoldable pub is_digit : ℕ → Bool
is_digit c = ltb (value c) 16

unfoldable pub all_digits : List ℕ → Bool
all_digits [] = true
all_digits (c ∷ cs) = is_digit c && all_digits cs

-- the last k digits of a number, the highest first; and the number that digits are
unfoldable pub digits : ℕ → ℕ → List ℕ
digits zero n = []
digits (suc k) n = digit (n / 16 ^ k % 16) ∷ digits k n

unfoldable pub number : List ℕ → ℕ
number [] = 0
number (c ∷ cs) = value c * 16 ^ length cs + number cs

-- rule 18.2: behind a word that k words follow stands a space, behind the last a line feed
unfoldable pub mark : ℕ → ℕ
mark zero = 10
mark (suc k) = 32

-- words as a line, and the line of a grant
unfoldable pub text : List ℕ → List ℕ
text [] = []
text (n ∷ ns) = digits 8 n ++ (mark (length ns) ∷ text ns)

unfoldable pub line_text : ℕ → List ℕ
line_text grant = text (grant ∷ replicate 5 0)

-- s begins with a word and this character behind it
unfoldable pub word_right : ℕ → List ℕ → Bool
word_right m s = leb 9 (length s) && (all_digits (take 8 s) && eqb (get_or s 8 0) m)

-- s begins with a line of k words
unfoldable pub words_right : ℕ → List ℕ → Bool
words_right zero s = true
words_right (suc k) s = word_right (mark k) s && words_right k (drop 9 s)

-- the k words that s begins with
unfoldable pub words : ℕ → List ℕ → List ℕ
words zero s = []
words (suc k) s = number (take 8 s) ∷ words k (drop 9 s)

unfoldable pub all_zero : List ℕ → Bool
all_zero [] = true
all_zero (n ∷ ns) = eqb n 0 && all_zero ns
