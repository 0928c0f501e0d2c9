-- Words and numbers as text: bytes in ASCII, and numbers in decimal without leading zeros.
use Rattle.std.specs.Prelude.{ℕ, zero, suc, ◌+◌, ◌*◌, ◌-◌, ◌/◌, ◌%◌, List, [], ◌∷◌, ◌++◌, Bool, true, false, cond, ◌&&◌, leb, ltb, eqb, Option, Some, None}
use Prim.Native.Char.{code}
use Prim.Native.String.{String, [] as «no_text», ◌∷◌ as ◌«then»◌}

-- the bytes of a text
abbrev pub text : String → List ℕ
text «no_text» = []
text (c «then» s) = code c ∷ text s

-- the bytes that part words and end lines
abbrev pub SPACE : ℕ
SPACE = 32

abbrev pub LINE_FEED : ℕ
LINE_FEED = 10

-- the last k decimal digits of n
unfoldable pub digits : ℕ → ℕ → List ℕ
digits zero n = []
digits (suc k) n = digits k (n / 10) ++ ((48 + n % 10) ∷ [])

-- how many digits n has, at most one more than `fuel`
unfoldable pub places : ℕ → ℕ → ℕ
places zero n = 1
places (suc fuel) n =
    let more = suc (places fuel (n / 10)) in
    cond (ltb n 10) 1 more

-- a number in decimal: a 32-bit number has at most ten digits, and no larger one is written
unfoldable pub decimal : ℕ → List ℕ
decimal n = digits (places 9 n) n

-- rule 11.3: the greatest number
abbrev pub greatest_number : ℕ
greatest_number = 4294967295

unfoldable pub is_digit : ℕ → Bool
is_digit b = leb 48 b && leb b 57

-- the number that digits give behind the number n; none where another byte stands among them, or the number gets too large
unfoldable pub read_on : ℕ → List ℕ → Option ℕ
read_on n [] = Some n
read_on n (b ∷ bs) =
    let next = n * 10 + (b - 48) in
    let rest = read_on next bs in
    cond (is_digit b && leb next greatest_number) rest None

-- rule 11.3: no 0 in front of another digit, and no empty word
unfoldable pub read_number : List ℕ → Option ℕ
read_number [] = None
read_number (b ∷ []) = read_on 0 (b ∷ [])
read_number (b ∷ (c ∷ w)) = cond (eqb b 48) None (read_on 0 (b ∷ (c ∷ w)))

-- two words are the same
unfoldable pub same : List ℕ → List ℕ → Bool
same [] [] = true
same [] (b ∷ w) = false
same (a ∷ v) [] = false
same (a ∷ v) (b ∷ w) = eqb a b && same v w
