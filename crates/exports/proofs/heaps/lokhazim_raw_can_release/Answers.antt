-- The numbers are those of the call's answer, and no word changes.
use mathlib.Core.Path.{ap, ◌∙◌}
use Rattle.exports.specs.HeapReplies.{left}
use Rattle.exports.proofs.HeapReplies.{number_says}
use Rattle.exports.proofs.heaps.lokhazim_raw_can_release.Goals as goal

pub returns : goal.returns
returns c =
    let a = c.args in
    ap (left a.heap.now a.words.now) (number_says _ _ c.number_of.ensures) ∙ c.can_release.ensures
