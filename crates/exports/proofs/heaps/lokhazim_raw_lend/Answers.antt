-- The numbers are those of the call's answer, and no word changes.
use mathlib.Core.Path.{ap, ◌∙◌}
use Rattle.exports.specs.HeapReplies.{left}
use Rattle.exports.proofs.heaps.lokhazim_raw_lend.Goals as goal

pub returns : goal.returns
returns c =
    let a = c.args in
    ap (left a.heap.now a.words.now) c.reply_of_range.ensures ∙ c.object_range.ensures
