-- Grants as a text (rule 18.7): a line for each.
use Rattle.std.specs.Prelude.{ℕ, List, [], ◌∷◌, ◌++◌, cond, length, drop, ltb, Result, Ok, Err}
use Rattle.report.specs.Words.{line_text}
use Rattle.report.specs.Import.{report_refusal_number}
use Rattle.report.specs.declared.ReportRefusal.TheVariants.{Room}
use Rattle.report.specs.declared.ReportRefusal.{ReportRefusal}

unfoldable pub lines_text : List ℕ → List ℕ
lines_text [] = []
lines_text (g ∷ gs) = line_text g ++ lines_text gs

-- what export leaves in the lent text, and what it answers
pub record Written : Type 0 where
  pub text : List ℕ
  pub answer : Result ℕ ReportRefusal

unfoldable pub export_of : List ℕ → List ℕ → Written
export_of t gs =
    cond (ltb (length t) 1728) (record { text = t; answer = Err Room }) (record { text = lines_text gs ++ drop 1728 t; answer = Ok 1728 })

-- the same in numbers: the refusal's, 0 where there is none, and how many bytes were written
pub record ExportTold : Type 0 where
  pub text : List ℕ
  pub refusal : ℕ
  pub length : ℕ

unfoldable pub text_told : List ℕ → Result ℕ ReportRefusal → ExportTold
text_told t (Ok n) = record { text = t; refusal = 0; length = n }
text_told t (Err r) = record { text = t; refusal = report_refusal_number r; length = 0 }

abbrev pub export_told : Written → ExportTold
export_told w = text_told w.text w.answer
