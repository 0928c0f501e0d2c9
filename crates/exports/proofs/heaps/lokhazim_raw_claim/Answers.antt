-- The numbers are those of the call's answer, over the heap and the words that it leaves.
use mathlib.Core.Path.{ap, ◌∙◌}
use Rattle.exports.specs.HeapReplies.{left}
use Rattle.exports.proofs.heaps.lokhazim_raw_claim.Goals as goal

pub returns : goal.returns
returns c =
    let o = c.claim in
    let s = c.args.heap.now in
    record {
      holds = ap (left s o.new.words) c.reply_of_amount.ensures ∙ o.ensures.holds;
      pads = o.ensures.pads;
    }
