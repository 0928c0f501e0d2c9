-- Each refusal has a number of its own, which gives it back; and no two answers come to the same numbers.
use mathlib.Core.Path.{◌≡◌, refl, ap, sym, ◌∙◌}
use mathlib.Core.Bool.{false, cond}
use mathlib.Core.List.{List, [], ◌∷◌}
use Prim.Native.Nat.{ℕ, ◌-◌, ◌≤◌}
use native.Mathlib.Omega.{arith}
use lib.ListN.{get_or}
use lib.Dec.{eqb}
use borrow.Author.Tests.{ne_eqb}
use Rattle.std.specs.Prelude.{Result, Ok, Err}
use Rattle.report.specs.Import.{report_refusal_number, ImportTold, grants_told, import_told}
use Rattle.report.specs.Export.{Written, ExportTold, text_told, export_told}
use Rattle.report.specs.declared.Imported.{Imported}
use Rattle.report.specs.declared.ReportRefusal.{ReportRefusal}
use Rattle.report.specs.declared.ReportRefusal.TheVariants.{Character, Reserved, TooMany, Room}
use Rattle.report.specs.declared.BadLine.{BadLine}
use Rattle.report.proofs.Rows

abbrev pub report_refusal_at : ℕ → ReportRefusal
report_refusal_at n = get_or (Character ∷ Reserved ∷ TooMany ∷ Room ∷ []) (n - 31) Room

pub report_refusal_is : (r : ReportRefusal) → (report_refusal_at (report_refusal_number r) ≡ r) × (1 ≤ report_refusal_number r)
report_refusal_is Character = (refl, omega arith)
report_refusal_is Reserved = (refl, omega arith)
report_refusal_is TooMany = (refl, omega arith)
report_refusal_is Room = (refl, omega arith)

pub report_refusal_number_injective : (r t : ReportRefusal) → report_refusal_number r ≡ report_refusal_number t → r ≡ t
report_refusal_number_injective r t e = sym (report_refusal_is r).0 ∙ ap report_refusal_at e ∙ (report_refusal_is t).0

-- what is given where a refusal's number is 0, or else the refusal
answered : {A : Type 0} → A → (ReportRefusal → A) → ℕ → A
answered a refuse n = cond (eqb n 0) a (refuse (report_refusal_at n))

answered_refused : {A : Type 0} (a : A) (refuse : ReportRefusal → A) (r : ReportRefusal)
    → answered a refuse (report_refusal_number r) ≡ refuse r
unfolding answered
answered_refused a refuse r =
    let n = report_refusal_is r in
    let e : eqb (report_refusal_number r) 0 ≡ false =
    ne_eqb (report_refusal_number r) 0 (λ z. omega (arith, z, n.1)) in
    rw (e, n.0)

-- of import
import_answer : ImportTold → Result (Unit {0}) BadLine
import_answer t = answered (Ok tt) (λ x. Err (record { refusal = x; line = t.line })) t.refusal

import_answer_is : (gs : List ℕ) (a : Result (Unit {0}) BadLine)
    → (import_answer (grants_told gs a) ≡ a) × ((grants_told gs a).grants ≡ gs)
unfolding import_answer answered grants_told
import_answer_is gs (Ok tt) = (refl, refl)
import_answer_is gs (Err b) = (answered_refused (Ok tt) (λ x. Err (record { refusal = x; line = b.line })) b.refusal, refl)

pub import_told_injective : (x y : Imported) → import_told x ≡ import_told y → x ≡ y
import_told_injective x y e =
    let p = import_answer_is x.grants x.answer in
    let q = import_answer_is y.grants y.answer in
    let a : x.answer ≡ y.answer = sym p.0 ∙ ap import_answer e ∙ q.0 in
    let g : x.grants ≡ y.grants = sym p.1 ∙ ap (λ (t : ImportTold). t.grants) e ∙ q.1 in
    λ i. record { grants = g i; answer = a i }

-- of export
export_answer : ExportTold → Result ℕ ReportRefusal
export_answer t = answered (Ok t.length) Err t.refusal

export_answer_is : (s : List ℕ) (a : Result ℕ ReportRefusal) → (export_answer (text_told s a) ≡ a) × ((text_told s a).text ≡ s)
unfolding export_answer answered text_told
export_answer_is s (Ok n) = (refl, refl)
export_answer_is s (Err r) = (answered_refused (Ok 0) Err r, refl)

pub export_told_injective : (v w : Written) → export_told v ≡ export_told w → v ≡ w
export_told_injective v w e =
    let p = export_answer_is v.text v.answer in
    let q = export_answer_is w.text w.answer in
    let a : v.answer ≡ w.answer = sym p.0 ∙ ap export_answer e ∙ q.0 in
    let t : v.text ≡ w.text = sym p.1 ∙ ap (λ (x : ExportTold). x.text) e ∙ q.1 in
    λ i. record { text = t i; answer = a i }
