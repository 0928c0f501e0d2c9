-- The walk gives the last entry that answers (`Folds`).
use Rattle.std.proofs.Common.{rules, ◌≡◌, ap, sym, ◌∙◌}
use Rattle.std.specs.Prelude.{Ok, Err}
use Rattle.settings.specs.Entries.{entries}
use Rattle.settings.specs.Walks.{answered}
use Rattle.settings.proofs.Folds.{valued, found_refused, found_told}
use Rattle.settings.proofs.finding.find_in.Goals as goal

pub returns-in_err-found : goal.returns-in_err-found
returns-in_err-found c =
    let a = c.args in
    let e : c.from_residual.result ≡ Err c.in_err-found.field-0.0 = search rules in
    let w = c.walk.ensures.given (λ k x. answered a.name a.version x) (λ k x b p. search rules) in
    e ∙ found_refused a.name a.version (entries a.store.now) c.in_err-found.field-0.0 (sym w ∙ c.in_err-found.was)

pub returns : goal.returns
returns c =
    let a = c.args in
    let w = c.walk.ensures.given (λ k x. answered a.name a.version x) (λ k x b p. search rules) in
    ap Ok (valued c.in_ok-found.found c.map.result _ (λ x y p. search rules) c.map.ensures.cases)
    ∙ found_told a.name a.version (entries a.store.now) c.in_ok-found.found (sym w ∙ c.in_ok-found.was)
