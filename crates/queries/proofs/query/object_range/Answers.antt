-- `queries::object_range` meets its contract: the refusals are those of lend, and else the range is the handle's.
use Rattle.std.proofs.lemmas.Result.{err_from_is_err_and}
use Rattle.std.specs.Prelude.{Result}
use Rattle.model.specs.declared.Refusal.{Refusal}
use mathlib.Core.Path.{ap, ◌∙◌}
use Rattle.words.specs.Words.{accounts_of}
use Rattle.model.specs.Answers.{verdict_values, range_values}
use Rattle.model.specs.Calls.{lend}
use Rattle.results.proofs.Lines.{refused_is, accepted_is}
use Rattle.queries.proofs.query.object_range.Goals as goal

pub returns-in_err-is_lent : goal.returns-in_err-is_lent
unfolding lend range_values verdict_values
returns-in_err-is_lent c =
    let a = c.args in
    let p = err_from_is_err_and c.from_residual.result c.from_residual.ensures.1 in
    rw (p.1, p.2) (refused_is _ a.heap.now (accounts_of a.words.now) _ _
    (c.is_lent.ensures.0 ∙ ap (λ (v : Result (Unit {0}) Refusal). (verdict_values v).refusal) c.in_err-is_lent.was))

pub returns : goal.returns
unfolding lend range_values verdict_values
returns c =
    let a = c.args in
    accepted_is _ a.heap.now (accounts_of a.words.now) _ (c.is_lent.ensures.0
    ∙ ap (λ (v : Result (Unit {0}) Refusal). (verdict_values v).refusal) c.in_ok-is_lent.was)
