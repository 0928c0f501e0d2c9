-- The walk gives the entry that has the number (`Folds`).
use Rattle.std.proofs.Common.{rules, ◌≡◌, ap, sym, ◌∙◌}
use Rattle.std.specs.Prelude.{Err}
use Rattle.settings.specs.Entries.{entry_told, nth_of}
use Rattle.settings.specs.Walks.{picked}
use Rattle.settings.proofs.Folds.{nth_told}
use Rattle.settings.proofs.entries.nth_entry.Goals as goal

pub returns-in_err-used_bytes : goal.returns-in_err-used_bytes
unfolding nth_of entry_told
returns-in_err-used_bytes c =
    let k = c.in_err-used_bytes.ensures in
    let e : c.from_residual.result ≡ Err c.in_err-used_bytes.field-0.0 = search rules in
    ap entry_told (e ∙ ap Err k.0) ∙ ap (nth_of c.args.n) (sym k.1)

pub returns : goal.returns
returns c =
    let n = c.args.n in
    let w = c.walk.ensures.given (picked n) (λ k e b p. search rules) in
    ap entry_told w ∙ nth_told n _ ∙ ap (nth_of n) (sym c.in_ok-used_bytes.ensures)
