-- What the functions' results say: the number and the values for each case of an answer.
use Rattle.std.specs.Prelude.{ℕ, List, Result, Ok, Err}
use Rattle.words.specs.Words.{accounts_of}
use Rattle.model.specs.Answers.{refusal_number, zero_handle}
use Rattle.model.specs.declared.Handle.{Handle}
use Rattle.queue.specs.declared.QueueRefusal.{QueueRefusal}
use Rattle.queue.specs.declared.QueueRefusal.TheVariants.{Damaged, Full, Empty, Heap}
use Rattle.queue.specs.declared.SendResult.{SendResult}
use Rattle.queue.specs.declared.ReceiveResult.{ReceiveResult}
use Rattle.queue.specs.Queue.{Sent, Received}
use Rattle.queue.specs.Places.{queue_of}

abbrev pub queue_refusal_number : QueueRefusal → ℕ
queue_refusal_number Damaged = 53
queue_refusal_number Full = 51
queue_refusal_number Empty = 52
queue_refusal_number (Heap r) = refusal_number r

unfoldable pub send_number : Result (Unit {0}) QueueRefusal → ℕ
send_number (Ok tt) = 0
send_number (Err r) = queue_refusal_number r

unfoldable pub receive_number : Result Handle QueueRefusal → ℕ
receive_number (Ok h) = 0
receive_number (Err r) = queue_refusal_number r

unfoldable pub receive_handle : Result Handle QueueRefusal → Handle
receive_handle (Ok h) = h
receive_handle (Err r) = zero_handle

abbrev pub send_outcome : List ℕ → SendResult → Sent
send_outcome s r = record { heap = s; accounts = r.accounts; queue = r.queue; refusal = send_number r.answer }

-- a send over words: the accounts and the queue that they hold at its exit, and the answer that it gives, as one result
abbrev pub send_result : List ℕ → List ℕ → Result (Unit {0}) QueueRefusal → SendResult
send_result words queue a = record { accounts = accounts_of words; queue = queue_of queue; answer = a }

abbrev pub receive_outcome : ReceiveResult → Received
receive_outcome r = record { queue = r.queue; refusal = receive_number r.answer; handle = receive_handle r.answer }

abbrev pub receive_result : List ℕ → Result Handle QueueRefusal → ReceiveResult
receive_result queue a = record { queue = queue_of queue; answer = a }
