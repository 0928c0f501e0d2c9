-- The number is that of the check's verdict, and the check changes nothing.
use mathlib.Core.Path.{◌∙◌}
use Rattle.rounding.specs.Rounding.{table}
use Rattle.words.specs.Words.{edition_of, accounts_of}
use Rattle.exports.proofs.HeapReplies.{check_whole, number_says}
use Rattle.exports.proofs.heaps.lokhazim_raw_check.Goals as goal

pub returns : goal.returns
returns c =
    let a = c.args in
    let w = a.words.now in
    check_whole (table (edition_of w)) a.heap.now (accounts_of w) c.number_of.result ((number_says _ _ c.number_of.ensures) ∙ c.check.ensures)
