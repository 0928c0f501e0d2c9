-- Queues that must fail (rule 21.14): what each does instead of a send or a receive. That they are not first in, first out is `proofs/Wrong.antt`.
use Rattle.std.specs.Prelude.{ℕ, ◌-◌, get_or, ltb, cond}
use Rattle.rounding.specs.Rounding.{table}
use Rattle.model.specs.Answers.{zero_handle}
use Rattle.queue.specs.declared.Queue.{Queue}
use Rattle.queue.specs.Queue.{Received, send, receive}
use Rattle.queue.specs.Runs.{Performer, by_rules}

-- a queue of this many handles
abbrev with_count : ℕ → Queue → Queue
with_count n u = record { sender = u.sender; receiver = u.receiver; count = n; handles = u.handles }

abbrev with_receive : (Queue → Received) → Performer
with_receive f = record { sends = (by_rules table).sends; receives = f }

-- it gives the newest handle
unfoldable pub newest_out : Performer
newest_out =
    with_receive
    (λ u. record { queue = with_count (u.count - 1) u; refusal = (receive u).refusal; handle = get_or u.handles (u.count - 1) zero_handle })

-- it gives the oldest handle and keeps it
unfoldable pub gives_again : Performer
gives_again = with_receive (λ u. record { queue = u; refusal = (receive u).refusal; handle = (receive u).handle })

-- it says that nothing is on its way while one handle is
unfoldable pub keeps_the_last : Performer
keeps_the_last = with_receive (λ u. cond (ltb u.count 2) (record { queue = u; refusal = 52; handle = zero_handle }) (receive u))

-- a send that is accepted puts nothing into the queue
unfoldable pub loses : Performer
loses =
    record {
      sends =
          λ s k u h.
          (let r = send (table k.edition) s k u h in
          record { heap = r.heap; accounts = r.accounts; queue = u; refusal = r.refusal });
      receives = receive;
    }
