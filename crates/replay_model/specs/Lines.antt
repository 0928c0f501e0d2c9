-- Lines of an input and words of a line (rule 11.2).
use Rattle.std.specs.Prelude.{ℕ, List, [], ◌∷◌, cond, eqb, Option, Some, None}
use Rattle.replay_model.specs.Text.{SPACE, LINE_FEED, read_number}

-- a byte in front of the first of these parts
unfoldable pub onto : ℕ → List (List ℕ) → List (List ℕ)
onto b [] = (b ∷ []) ∷ []
onto b (p ∷ ps) = (b ∷ p) ∷ ps

-- the parts of s between the bytes `mark`: one more than there are marks, and empty where two marks stand side by side
unfoldable pub split : ℕ → List ℕ → List (List ℕ)
split mark [] = [] ∷ []
split mark (b ∷ s) =
    let rest = split mark s in
    cond (eqb b mark) ([] ∷ rest) (onto b rest)

-- the lines of an input, without their line feeds, and last what stands behind the last line feed
abbrev pub lines : List ℕ → List (List ℕ)
lines s = split LINE_FEED s

-- the words of a line: a space in front, behind or beside another makes an empty word, which is no number and no name of a call
abbrev pub words : List ℕ → List (List ℕ)
words l = split SPACE l

-- the numbers that words are; none where one of them is no number
unfoldable pub join_number : Option ℕ → Option (List ℕ) → Option (List ℕ)
join_number None ns = None
join_number (Some n) None = None
join_number (Some n) (Some ns) = Some (n ∷ ns)

unfoldable pub numbers : List (List ℕ) → Option (List ℕ)
numbers [] = Some []
numbers (w ∷ ws) = join_number (read_number w) (numbers ws)
