-- `holding::open` meets its contract: a length that is not allowed is refused, and else the cleared bytes are the definition's one block.
use mathlib.Core.Path.{sym, ◌∙◌}
use borrow.Author.Tests.{not-true, not-false}
use Rattle.holding.proofs.Cleared.{open_refused, open_accepted}
use Rattle.holding.proofs.opening.open.Goals as goal

pub returns-then-not-is_allowed-clause-holds : goal.returns-then-not-is_allowed-clause-holds
returns-then-not-is_allowed-clause-holds c =
    let k = c.is_allowed in
    let a = c.args in
    open_refused a.settings a.heap.now a.grants _ c.clear.ensures.holds (sym k.ensures ∙ not-true k.result c.if-not-is_allowed.true-raw)

pub returns-clause-holds : goal.returns-clause-holds
returns-clause-holds c =
    let k = c.is_allowed in
    let w = c.clear-2 in
    let a = c.args in
    open_accepted a.settings a.heap.now a.grants _ w.new.heap c.open.ensures.holds w.ensures
    (sym k.ensures ∙ not-false k.result c.if-not-is_allowed.false-raw)
