-- The numbers of replies, computed. And a reply's numbers say everything: what was answered is had back from them. An
-- export's reply says all but the text, which stands where it was lent.
use mathlib.Core.Path.{◌≡◌, refl, ap, sym, ◌∙◌}
use mathlib.Core.List.{List, [], ◌∷◌}
use lib.ListN.{replicate}
use Prim.Native.Nat.{ℕ}
use Rattle.std.specs.Prelude.{Result, Ok, Err}
use Rattle.report.specs.Import.{ImportTold, taken, bad_at, grants_told, import_told}
use Rattle.report.specs.Export.{Written, ExportTold, text_told}
use Rattle.report.specs.declared.Imported.{Imported}
use Rattle.report.specs.declared.ReportRefusal.TheVariants.{Character, Reserved, TooMany, Room}
use Rattle.report.specs.declared.ReportRefusal.{ReportRefusal}
use Rattle.report.proofs.Answers.{import_told_injective, export_told_injective}
use Rattle.exports.specs.declared.reports.ImportReply.{ImportReply}
use Rattle.exports.specs.declared.reports.ExportReply.{ExportReply}
use Rattle.exports.specs.ReportReplies.{import_reply, export_reply}

import_rows : (import_reply (import_told (taken (7 ∷ replicate 31 0)))
    ≡ record { grants = record { values = 7 ∷ replicate 31 0 }; refusal = 0; line = 0 })
    × (import_reply (import_told (bad_at Character 1))
    ≡ record { grants = record { values = replicate 32 0 }; refusal = 31; line = 1 })
    × (import_reply (import_told (bad_at Reserved 32))
    ≡ record { grants = record { values = replicate 32 0 }; refusal = 32; line = 32 })
    × (import_reply (import_told (bad_at TooMany 33))
    ≡ record { grants = record { values = replicate 32 0 }; refusal = 33; line = 33 })
unfolding grants_told
import_rows = (refl, refl, refl, refl)

export_rows : (export_reply (text_told (1 ∷ []) (Ok 1728)) ≡ record { refusal = 0; length = 1728 })
    × (export_reply (text_told [] (Err Room)) ≡ record { refusal = 34; length = 0 })
unfolding text_told
export_rows = (refl, refl)

-- import's
abbrev import_from : ImportReply → ImportTold
import_from r = record { grants = r.grants.values; refusal = r.refusal; line = r.line }

pub import_reply_injective : (x y : Imported) → import_reply (import_told x) ≡ import_reply (import_told y) → x ≡ y
import_reply_injective x y e = import_told_injective x y (ap import_from e)

-- export's
abbrev export_from : List ℕ → ExportReply → ExportTold
export_from t r = record { text = t; refusal = r.refusal; length = r.length }

export_back : (t : List ℕ) (a : Result ℕ ReportRefusal) → export_from t (export_reply (text_told t a)) ≡ text_told t a
unfolding text_told
export_back t (Ok n) = refl
export_back t (Err r) = refl

pub export_reply_injective : (t : List ℕ) (a b : Result ℕ ReportRefusal)
    → export_reply (text_told t a) ≡ export_reply (text_told t b) → a ≡ b
export_reply_injective t a b e =
    ap (λ (w : Written). w.answer)
    (export_told_injective (record { text = t; answer = a }) (record { text = t; answer = b })
    (sym (export_back t a) ∙ ap (export_from t) e ∙ export_back t b))
