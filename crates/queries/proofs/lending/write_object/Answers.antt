-- `queries::write_object` meets its contract: the refusals are those of lend, and a place in the handle's range lies in the heap.
use Rattle.std.proofs.lemmas.Result.{err_from_is_err_and}
use Rattle.std.specs.Prelude.{Result}
use Rattle.model.specs.declared.Refusal.{Refusal}
use mathlib.Core.Path.{ap, ◌∙◌}
use Rattle.rounding.specs.Rounding.{table}
use Rattle.words.specs.Words.{edition_of, accounts_of}
use Rattle.model.specs.Answers.{verdict_values}
use Rattle.queries.specs.Lending.{write_object}
use Rattle.results.proofs.Lines.{refused_is}
use Rattle.queries.proofs.Lent.{writes, passes}
use Rattle.queries.proofs.lending.write_object.Goals as goal

pub returns-in_err-is_lent : goal.returns-in_err-is_lent
unfolding write_object verdict_values
returns-in_err-is_lent c =
    let a = c.args in
    let p = err_from_is_err_and c.from_residual.result c.from_residual.ensures.1 in
    rw (p.1, p.2) (refused_is _ a.heap.now (accounts_of a.words.now) _ _
    (c.is_lent.ensures.0 ∙ ap (λ (v : Result (Unit {0}) Refusal). (verdict_values v).refusal) c.in_err-is_lent.was))

pub returns-then-at-handle : goal.returns-then-at-handle
unfolding verdict_values
returns-then-at-handle c =
    let a = c.args in
    let w = a.words.now in
    writes (table (edition_of w)) a.heap.now (accounts_of w) a.handle
    (c.is_lent.ensures.0 ∙ ap (λ (v : Result (Unit {0}) Refusal). (verdict_values v).refusal) c.in_ok-is_lent.was) a.at a.byte c.if-at-handle.true

pub returns-else-at-handle : goal.returns-else-at-handle
unfolding verdict_values
returns-else-at-handle c =
    let a = c.args in
    let w = a.words.now in
    passes (table (edition_of w)) a.heap.now (accounts_of w) a.handle
    (c.is_lent.ensures.0 ∙ ap (λ (v : Result (Unit {0}) Refusal). (verdict_values v).refusal) c.in_ok-is_lent.was) a.at a.byte c.if-at-handle.false
