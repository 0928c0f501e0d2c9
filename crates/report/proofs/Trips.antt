-- Import and export undo each other (rule 18.8).
use mathlib.Core.Path.{◌≡◌, refl, ap, sym, ◌∙◌}
use mathlib.Core.List.{List, ◌++◌, append-nil}
use Prim.Native.Nat.{ℕ, ◌-◌, ◌≤◌}
use native.Mathlib.Omega.{arith}
use lib.ListN.{length, take, drop, replicate}
use lib.Seq.{take_at}
use borrow.Author.Tests.{le-ltb}
use Rattle.std.specs.Prelude.{Ok}
use Rattle.accounts.specs.Accounts.{QUOTAS}
use Rattle.report.specs.Import.{taken, import_of}
use Rattle.report.specs.Export.{lines_text, export_of}
use Rattle.report.specs.Exact.{Small}
use Rattle.report.specs.declared.Imported.{Imported}
use Rattle.report.proofs.Exports.{lines_length}
use Rattle.report.proofs.Exact.{import_accepts}

-- what export leaves in a text with room
exported : (t gs : List ℕ) → 1728 ≤ length t → export_of t gs ≡ record { text = lines_text gs ++ drop 1728 t; answer = Ok 1728 }
unfolding export_of
exported t gs h = rw (le-ltb (length t) 1728 h)

-- rule 18.8: what export wrote is read as the same grants
pub import_export : (t gs : List ℕ) → 1728 ≤ length t → length gs ≡ QUOTAS → Small gs → import_of (take 1728 (export_of t gs).text) ≡ taken gs
import_export t gs h l s =
    let n : length (lines_text gs) ≡ 1728 = omega (arith, lines_length gs) in
    let e : QUOTAS - length gs ≡ 0 = omega arith in
    rw (exported t gs h, take_at (lines_text gs) (drop 1728 t) 1728 n)
    ((import_accepts (lines_text gs) gs).1
    (record { listed = gs; small = s; fits = omega arith; lines = refl; grants = sym (append-nil gs) ∙ ap (λ (k : ℕ). gs ++ replicate k 0) (sym e) }))

-- and a text of 32 lines that import takes is the one that export writes of its grants
accepted_taken : (x : Imported) → x.answer ≡ Ok tt → x ≡ taken x.grants
accepted_taken x e = λ i. record { grants = x.grants; answer = e i }

pub export_import : (t u : List ℕ) → length t ≡ 1728 → (import_of t).answer ≡ Ok tt → 1728 ≤ length u
    → export_of u (import_of t).grants ≡ record { text = t ++ drop 1728 u; answer = Ok 1728 }
export_import t u l a h =
    let w = (import_accepts t (import_of t).grants).0 (accepted_taken (import_of t) a) in
    let n : length w.listed ≡ QUOTAS = omega (arith, lines_length w.listed, ap length w.lines) in
    let e : QUOTAS - length w.listed ≡ 0 = omega arith in
    let g : (import_of t).grants ≡ w.listed = w.grants ∙ ap (λ (k : ℕ). w.listed ++ replicate k 0) e ∙ append-nil w.listed in
    exported u (import_of t).grants h
    ∙ (λ i. record { text = (ap lines_text g ∙ sym w.lines) i ++ drop 1728 u; answer = Ok 1728 })
