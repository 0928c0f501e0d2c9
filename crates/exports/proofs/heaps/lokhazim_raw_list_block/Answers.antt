-- The numbers are those of the call's answer and no others, and no word changes.
use mathlib.Core.Path.{ap, ◌∙◌}
use Rattle.exports.specs.HeapReplies.{left}
use Rattle.exports.proofs.heaps.lokhazim_raw_list_block.Goals as goal

pub returns : goal.returns
returns c =
    let a = c.args in
    record {
      answers = ap (left a.heap.now a.words.now) c.reply_of_block.ensures.answers ∙ c.list_block.ensures;
      zeros = c.reply_of_block.ensures.zeros;
    }
