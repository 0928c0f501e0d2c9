-- What is said of import: which texts it takes, and which line is the first bad one.
use Rattle.std.specs.Prelude.{ℕ, zero, suc, ◌+◌, ◌-◌, ◌^◌, ◌≤◌, ◌<◌, ◌≡◌, List, [], ◌∷◌, ◌++◌, cond, ◌⊎◌, length, drop, replicate, eqb, Err}
use Rattle.report.specs.Import.{Lines, Good, Wrong, line_of, with_line}
use Rattle.report.specs.Export.{lines_text}
use Rattle.report.specs.declared.ReportRefusal.{ReportRefusal}
use Rattle.report.specs.declared.ReportRefusal.TheVariants.{TooMany}

-- every number fits a word
abbrev pub Small : List ℕ → Type 0
Small [] = Unit {0}
Small (g ∷ gs) = (g < 2 ^ 32) × Small gs

-- s is lines as export writes them, at most one for each of so many quotas, and gs are their grants with zeros behind them
pub record GoodLines (left : ℕ) (s gs : List ℕ) : Type 0 where
  pub listed : List ℕ
  pub small : Small listed
  pub fits : length listed ≤ left
  pub lines : s ≡ lines_text listed
  pub grants : gs ≡ listed ++ replicate (left - length listed) 0

-- s is such lines and then a bad one, the m-th where the first is the n-th: one too many, or one that is bad by itself
pub record FirstBad (left n : ℕ) (s : List ℕ) (r : ReportRefusal) (m : ℕ) : Type 0 where
  pub listed : List ℕ
  pub small : Small listed
  pub behind : List ℕ
  pub there : 0 < length behind
  pub lines : s ≡ lines_text listed ++ behind
  pub which : m ≡ n + length listed
  pub why : ((length listed ≡ left) × (r ≡ TooMany)) ⊎ ((length listed < left) × (line_of behind ≡ Err r))

-- a text up to its first line feed
unfoldable pub to_line_feed : List ℕ → List ℕ
to_line_feed [] = []
to_line_feed (c ∷ s) = cond (eqb c 10) (c ∷ []) (c ∷ to_line_feed s)

-- what lines say if each goes to its line feed, however far that is
unfoldable pub lines_by_feed : ℕ → ℕ → List ℕ → Lines
lines_by_feed zero n [] = Good []
lines_by_feed zero n (c ∷ s) = Wrong TooMany n
lines_by_feed (suc left) n [] = Good (replicate (suc left) 0)
lines_by_feed (suc left) n (c ∷ s) =
    let one = to_line_feed (c ∷ s) in
    with_line n (line_of one) (lines_by_feed left (suc n) (drop (length one) (c ∷ s)))
