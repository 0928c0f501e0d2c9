-- The listing's call gives the block, and it lies in the heap.
use mathlib.Core.Path.{◌∙◌}
use Rattle.replay_text.proofs.Listings.{given_is, given_ends}
use Rattle.replay_text.proofs.run.block_at.Goals as goal

pub returns-clause-block : goal.returns-clause-block
returns-clause-block c =
    let a = c.args in
    c.unwrap_or.ensures ∙ given_is a.heap.now a.accounts c.requires a.place c.list_from.result c.list_from.ensures

pub returns-clause-inside : goal.returns-clause-inside
returns-clause-inside c =
    let a = c.args in
    given_ends a.heap.now a.accounts c.requires a.place c.list_from.result c.list_from.ensures c.unwrap_or.result c.unwrap_or.ensures
