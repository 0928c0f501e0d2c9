-- The number makes, with heap, words and queue at exit, what the answer of the call makes.
use mathlib.Core.Path.{ap, ◌∙◌}
use Rattle.exports.specs.QueueReplies.{sent_in}
use Rattle.exports.proofs.QueueReplies.{number_says}
use Rattle.exports.proofs.queues.lokhazim_raw_queue_send.Goals as goal

pub returns : goal.returns
returns c =
    let e = c.send_in_place in
    let l = e.new in
    record {
      holds = ap (sent_in l.heap l.words l.queue) (number_says _ _ c.number_of.ensures) ∙ e.ensures.holds;
      pads = e.ensures.pads;
    }
