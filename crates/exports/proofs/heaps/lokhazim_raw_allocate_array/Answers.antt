-- The numbers are those of the call's answer, over the heap and the words that it leaves.
use mathlib.Core.Path.{ap, ◌∙◌}
use Rattle.exports.specs.HeapReplies.{left}
use Rattle.exports.proofs.HeapReplies.{handle_says}
use Rattle.exports.proofs.heaps.lokhazim_raw_allocate_array.Goals as goal

pub returns : goal.returns
returns c =
    let o = c.allocate_array in
    record {
      holds = ap (left o.new.heap o.new.words) (handle_says _ _ c.reply_of_handle.ensures) ∙ o.ensures.holds;
      pads = o.ensures.pads;
    }
