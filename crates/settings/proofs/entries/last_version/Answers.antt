-- The walk gives the version of the last entry (`Folds`).
use Rattle.std.proofs.Common.{rules, ◌≡◌, ap, sym, ◌∙◌}
use Rattle.std.specs.Prelude.{Some, Ok, Err}
use Rattle.settings.specs.Entries.{entries}
use Rattle.settings.proofs.Folds.{last_refused, last_told}
use Rattle.settings.proofs.entries.last_version.Goals as goal

pub returns-in_err-walk : goal.returns-in_err-walk
returns-in_err-walk c =
    let e : c.from_residual.result ≡ Err c.in_err-walk.field-0.0 = search rules in
    let w = c.walk.ensures.given (λ k x. Some x.version) (λ k x b p. search rules) in
    e ∙ last_refused (entries c.args.store.now) c.in_err-walk.field-0.0 (sym w ∙ c.in_err-walk.was)

pub returns : goal.returns
returns c =
    let w = c.walk.ensures.given (λ k x. Some x.version) (λ k x b p. search rules) in
    ap Ok c.unwrap_or.ensures ∙ last_told (entries c.args.store.now) c.in_ok-walk.field-0 (sym w ∙ c.in_ok-walk.was)
