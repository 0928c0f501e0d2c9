-- What the numbers of a queue's replies mean: with heap, words and queue at exit, what a send leaves; and with the queue
-- at exit, what a receive leaves and gives.
use Rattle.std.specs.Prelude.{ℕ, List}
use Rattle.words.specs.Words.{accounts_of}
use Rattle.queue.specs.Queue.{Sent, Received}
use Rattle.queue.specs.Places.{queue_of}
use Rattle.exports.specs.declared.replies.HandleReply.{HandleReply}

abbrev pub sent_in : List ℕ → List ℕ → List ℕ → ℕ → Sent
sent_in s w q n = record { heap = s; accounts = accounts_of w; queue = queue_of q; refusal = n }

abbrev pub received_in : List ℕ → HandleReply → Received
received_in q r = record { queue = queue_of q; refusal = r.refusal; handle = r.handle }
