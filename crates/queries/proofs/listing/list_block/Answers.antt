-- `queries::list_block` meets its contract: the check decides, and else the block that the walk meets at the place is the definition's.
use mathlib.Core.Path.{ap, ◌∙◌}
use mathlib.Core.List.{[]}
use Rattle.std.proofs.lemmas.Result.{err_from_is_err_and}
use Rattle.rounding.specs.Rounding.{table}
use Rattle.words.specs.Words.{edition_of, accounts_of}
use Rattle.model.specs.Answers.{Values, block_values}
use Rattle.model.specs.Refusals.{first_refusal, row_lines}
use Rattle.model.specs.Calls.{unchanged, list_block}
use Rattle.model.proofs.Consistent.{accounted_cut}
use Rattle.results.proofs.Lines.{check_refuses, check_accepts, check_accounted, refused_is, accepted_is}
use Rattle.queries.proofs.Listed.{find_block_is}
use Rattle.queries.proofs.listing.list_block.Goals as goal

pub returns-in_err-check : goal.returns-in_err-check
unfolding list_block block_values row_lines
returns-in_err-check c =
    let a = c.args in
    let s = a.heap.now in
    let k = accounts_of a.words.now in
    let e = c.check in
    let p = err_from_is_err_and c.from_residual.result c.from_residual.ensures.1 in
    rw (p.1, p.2) (refused_is _ s k _ _ (check_refuses (table (edition_of a.words.now)) s k e.result e.ensures [] _ c.in_err-check.was))

pub returns : goal.returns
unfolding list_block row_lines first_refusal
returns c =
    let a = c.args in
    let s = a.heap.now in
    let w = a.words.now in
    let k = accounts_of w in
    let u = table (edition_of w) in
    let e = c.check in
    let t = c.in_ok-check.was in
    let p = (check_accounted u s k e.result e.ensures t).1 in
    ap (λ (v : Values). unchanged s k v) (ap block_values c.find_block.ensures ∙ find_block_is s a.at (accounted_cut s k p).0)
    ∙ accepted_is _ s k _ (check_accepts u s k e.result e.ensures [] t)
