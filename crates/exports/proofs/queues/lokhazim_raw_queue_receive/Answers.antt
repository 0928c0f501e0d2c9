-- The reply says, with the queue at exit, what the answer of the call says.
use mathlib.Core.Path.{ap, ◌∙◌}
use Rattle.exports.specs.QueueReplies.{received_in}
use Rattle.exports.proofs.QueueReplies.{handle_says}
use Rattle.exports.proofs.queues.lokhazim_raw_queue_receive.Goals as goal

pub returns : goal.returns
returns c =
    let e = c.receive_in_place in
    ap (received_in e.new.queue) (handle_says _ _ c.reply_of_handle.ensures) ∙ e.ensures
