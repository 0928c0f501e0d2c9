-- A text as grants (rules 18.3 to 18.6): a line for each quota from 0 on, and the first bad line decides.
use Rattle.std.specs.Prelude.{ℕ, zero, suc, List, [], ◌∷◌, cond, drop, take, replicate, Result, Ok, Err}
use Rattle.accounts.specs.Accounts.{QUOTAS}
use Rattle.report.specs.Words.{number, words_right, words, all_zero}
use Rattle.report.specs.declared.ReportRefusal.{ReportRefusal}
use Rattle.report.specs.declared.ReportRefusal.TheVariants.{Character, Reserved, TooMany, Room}
use Rattle.report.specs.declared.Imported.{Imported}
use Rattle.report.specs.declared.BadLine.{BadLine}

abbrev pub report_refusal_number : ReportRefusal → ℕ
report_refusal_number Character = 31
report_refusal_number Reserved = 32
report_refusal_number TooMany = 33
report_refusal_number Room = 34

-- rule 18.4: what the line says that s begins with, 31 before 32
unfoldable pub line_of : List ℕ → Result ℕ ReportRefusal
line_of s = cond (words_right 6 s) (cond (all_zero (words 5 (drop 9 s))) (Ok (number (take 8 s))) (Err Reserved)) (Err Character)

-- what lines say: grants, or the first bad line's refusal and number
pub data Lines : Type 0 where
  Good : List ℕ → Lines
  Wrong : ReportRefusal → ℕ → Lines

unfoldable pub in_front : ℕ → Lines → Lines
in_front g (Good gs) = Good (g ∷ gs)
in_front g (Wrong r n) = Wrong r n

-- the n-th line and those behind it
unfoldable pub with_line : ℕ → Result ℕ ReportRefusal → Lines → Lines
with_line n (Ok g) later = in_front g later
with_line n (Err r) later = Wrong r n

-- rules 18.3 and 18.5: the lines from the n-th on, for so many quotas; missing grants are 0, and a line for which there is no quota is a bad one,
-- whatever it says
unfoldable pub lines_from : ℕ → ℕ → List ℕ → Lines
lines_from zero n [] = Good []
lines_from zero n (c ∷ s) = Wrong TooMany n
lines_from (suc left) n [] = Good (replicate (suc left) 0)
lines_from (suc left) n (c ∷ s) = with_line n (line_of (c ∷ s)) (lines_from left (suc n) (drop 54 (c ∷ s)))

-- rule 18.6: what import gives, no grant where there is a bad line
abbrev pub taken : List ℕ → Imported
taken gs = record { grants = gs; answer = Ok tt }

abbrev pub bad_at : ReportRefusal → ℕ → Imported
bad_at r n = record { grants = replicate QUOTAS 0; answer = Err (record { refusal = r; line = n }) }

unfoldable pub imported : Lines → Imported
imported (Good gs) = taken gs
imported (Wrong r n) = bad_at r n

unfoldable pub import_of : List ℕ → Imported
import_of t = imported (lines_from QUOTAS 1 t)

-- the same in numbers: the refusal's and the bad line's, 0 where there is none
pub record ImportTold : Type 0 where
  pub grants : List ℕ
  pub refusal : ℕ
  pub line : ℕ

unfoldable pub grants_told : List ℕ → Result (Unit {0}) BadLine → ImportTold
grants_told gs (Ok tt) = record { grants = gs; refusal = 0; line = 0 }
grants_told gs (Err b) = record { grants = gs; refusal = report_refusal_number b.refusal; line = b.line }

abbrev pub import_told : Imported → ImportTold
import_told x = grants_told x.grants x.answer
