-- Computed rows: sends on both sides of each line and what they leave, receives, a list of both, and a queue as words.
use Rattle.std.specs.Prelude.{None}
use Prim.Native.Nat.{ℕ}
use mathlib.Core.Path.{◌≡◌, refl}
use mathlib.Core.List.{List, [], ◌∷◌, ◌++◌, map}
use lib.ListN.{length, replicate}
use Rattle.accounts.specs.declared.Hold.{Hold}
use Rattle.accounts.specs.Accounts.{zero_hold, with_edition}
use Rattle.rounding.specs.Rounding.{unit, table}
use Rattle.words.specs.Words.{tabulate}
use Rattle.model.specs.Answers.{zero_handle}
use Rattle.model.specs.Calls.{Outcome, lend, release}
use Rattle.model.specs.Marked.{handle}
use Rattle.model.specs.Tables.{head, zeros, parts, quota, quota_with, hold, places, accounts_of, state}
use Rattle.model.specs.Units.{Placed, placed, gap, heap_with, accounts_with}
use Rattle.model.specs.declared.Handle.{Handle}
use Rattle.model.specs.declared.Call.TheVariants.{Claim, Release}
use Rattle.model.specs.declared.Refusal.TheVariants.{Inconsistent, NotPermitted}
use Rattle.model.proofs.Computing.{computing}
use Rattle.ledger.specs.Ledger.{Called}
use Rattle.safety.specs.Stale.{lines_before_5}
use Rattle.queue.specs.declared.Queue.{Queue}
use Rattle.queue.specs.declared.QueueRefusal.TheVariants.{Damaged, Full, Empty, Heap}
use Rattle.queue.specs.Queue.{PLACES, empty_queue, waiting, with_handle, without_oldest, line_53, line_51, line_52, line_of, Sent, sent_unless}
use Rattle.queue.specs.Queue.{send_lines, send, received_unless, receive_lines, receive}
use Rattle.queue.specs.Places.{QUEUE_WORD_COUNT, handles_of, queue_of}
use Rattle.queue.specs.Results.{queue_refusal_number}
use Rattle.queue.specs.Runs.{by_rules, QueueCall, Sends, Receives, and_then, next, traffic}
use Rattle.queue.specs.Packets.{send_events}
use Rattle.queue.specs.Stale.{stale_send_refusal}

-- a heap of 64 bytes with the object (8, 16, 1); quota 0 holds it so often, quota 1 has this remainder and permissions, and quota 2 holds nothing
pub one_object : ℕ → ℕ → ℕ → Outcome
one_object n r p =
    state (parts (head 3 0 1 ∷ zeros 16 ∷ head 5 3 0 ∷ zeros 32 ∷ []))
    (accounts_of (quota 100 76 ∷ quota_with p r r ∷ quota 50 50 ∷ []) 1 (hold 1 0 n ∷ []))

packet : Handle
packet = handle 8 16 1

-- queues with so many handles that name nothing
queue_with : ℕ → ℕ → ℕ → Queue
queue_with from to n = record { sender = from; receiver = to; count = n; handles = replicate PLACES (handle 8 8 9) }

sent : Outcome → Queue → Handle → Sent
sent t u h = send unit t.heap t.accounts u h

refusals : Outcome → List Queue → Handle → List ℕ
refusals t us h = map (λ (u : Queue). (sent t u h).refusal) us

-- a heap of 64 bytes with the same object, which eight quotas hold once each; there are no other records
full_table : Outcome
full_table =
    let holder : ℕ → Hold = λ q. hold 1 q 1 in
    state (parts (head 3 0 1 ∷ zeros 16 ∷ head 5 3 0 ∷ zeros 32 ∷ []))
    (accounts_of (replicate places (quota 24 0) ++ (quota 50 50 ∷ quota 50 50 ∷ [])) 1 (map holder (0 ∷ 1 ∷ 2 ∷ 3 ∷ 4 ∷ 5 ∷ 6 ∷ 7 ∷ [])))

-- what the send leaves, and what is left where the receiver then releases the packet
moved : Sent
moved = sent (one_object 1 100 7) (empty_queue 0 1) packet

dropped : Outcome
dropped = release unit moved.heap moved.accounts 1 packet

-- every definition that the rows unfold
unfoldable pub rows : Unit {0}
unfolding computing accounts_of parts one_object packet queue_with sent refusals full_table moved dropped
    waiting without_oldest line_53 line_51 line_52 line_of sent_unless send_lines send received_unless receive_lines receive send_events traffic next and_then
rows = tt

-- an accepted send: the hold has moved with its charge, and the handle stands behind the others as it was given, here narrowed
moved_rows : (sent (one_object 1 100 7) (empty_queue 0 1) (handle 12 4 1)
    ≡ record {
      heap = (one_object 1 100 7).heap;
      accounts = accounts_of (quota 100 100 ∷ quota 100 76 ∷ quota 50 50 ∷ []) 1 (hold 0 0 0 ∷ hold 1 1 1 ∷ []);
      queue = record { sender = 0; receiver = 1; count = 1; handles = handle 12 4 1 ∷ replicate 15 zero_handle };
      refusal = 0;
    })
    × ((sent (one_object 2 100 7) (empty_queue 0 1) packet).accounts
    ≡ accounts_of (quota 100 76 ∷ quota 100 76 ∷ quota 50 50 ∷ []) 1 (hold 1 0 1 ∷ hold 1 1 1 ∷ []))
    × (send_events table (one_object 1 100 7).heap (one_object 1 100 7).accounts (empty_queue 0 1) packet
    ≡ Called (Release 0 packet) (record { refusal = 0; handle = zero_handle; amount = 24; range = record { start = 0; end = 0 }; block = None })
    ∷ Called (Claim 1 packet) (record { refusal = 0; handle = zero_handle; amount = 16; range = record { start = 0; end = 0 }; block = None }) ∷ [])
unfolding rows
moved_rows = (refl, refl, refl)

-- the lines, on both sides: 53 and 51 by the count, then claim's for the receiver, then can release's for the sender
line_rows : (refusals (one_object 1 100 7) (queue_with 0 1 15 ∷ queue_with 0 1 16 ∷ queue_with 0 1 17 ∷ queue_with 0 1 4294967295 ∷ []) packet
    ≡ 0 ∷ 51 ∷ 53 ∷ 53 ∷ [])
    × (refusals (one_object 1 24 7) (queue_with 0 1 0 ∷ queue_with 2 1 0 ∷ queue_with 32 1 0 ∷ queue_with 0 32 0 ∷ []) packet ≡ 0 ∷ 6 ∷ 3 ∷ 3 ∷ [])
    × (refusals (one_object 1 23 7) (queue_with 0 1 0 ∷ queue_with 2 1 0 ∷ []) packet ≡ 8 ∷ 8 ∷ [])
    × (refusals (one_object 1 100 5) (queue_with 0 1 0 ∷ queue_with 2 1 0 ∷ queue_with 0 1 16 ∷ []) packet ≡ 12 ∷ 12 ∷ 51 ∷ [])
    × (refusals (one_object 1 100 7) (queue_with 0 1 0 ∷ queue_with 2 1 0 ∷ queue_with 0 32 0 ∷ []) (handle 8 17 1) ≡ 5 ∷ 5 ∷ 3 ∷ [])
    × (refusals (one_object 0 100 7) (queue_with 0 1 0 ∷ queue_with 0 1 16 ∷ queue_with 0 1 17 ∷ []) packet ≡ 2 ∷ 51 ∷ 53 ∷ [])
    × (refusals (state [] (one_object 1 100 7).accounts) (queue_with 0 1 0 ∷ queue_with 0 1 16 ∷ []) packet ≡ 1 ∷ 51 ∷ [])
unfolding rows
line_rows = (refl, refl, refl, refl, refl, refl, refl)

-- a refused send leaves everything
refused_rows : (sent (one_object 1 23 7) (queue_with 0 1 3) packet
    ≡ record { heap = (one_object 1 23 7).heap; accounts = (one_object 1 23 7).accounts; queue = queue_with 0 1 3; refusal = 8 })
    × (sent (one_object 1 100 7) (queue_with 2 1 3) packet
    ≡ record { heap = (one_object 1 100 7).heap; accounts = (one_object 1 100 7).accounts; queue = queue_with 2 1 3; refusal = 6 })
unfolding rows
refused_rows = (refl, refl)

-- the sender is the receiver: the count goes up and down again, but not above 255; without a hold it would pay, and then has nothing to release
own_rows : (refusals (one_object 254 0 7) (queue_with 0 0 0 ∷ []) packet ≡ 0 ∷ []) × (refusals (one_object 255 0 7) (queue_with 0 0 0 ∷ []) packet ≡ 7 ∷ [])
    × ((sent (one_object 254 0 7) (queue_with 0 0 0) packet).accounts ≡ (one_object 254 0 7).accounts)
    × (refusals (one_object 1 23 7) (queue_with 2 2 0 ∷ queue_with 1 1 0 ∷ []) packet ≡ 6 ∷ 8 ∷ [])
unfolding rows
own_rows = (refl, refl, refl, refl)

-- all records are used: 9, though the sender's would come free; a receiver that has a record needs none
table_rows : (refusals full_table (queue_with 0 9 0 ∷ queue_with 0 1 0 ∷ []) packet ≡ 9 ∷ 0 ∷ [])
    × ((sent full_table (queue_with 0 1 0) packet).accounts.holds ≡ zero_hold ∷ hold 1 1 2 ∷ map (λ (q : ℕ). hold 1 q 1) (2 ∷ 3 ∷ 4 ∷ 5 ∷ 6 ∷ 7 ∷ []))
unfolding rows
table_rows = (refl, refl)

-- a handle with a serial that no object has: the send is refused as it is to be
gone : Handle
gone = handle 8 16 9

told : Outcome → List Queue → List ℕ
told t us = map (λ (u : Queue). stale_send_refusal u gone t.accounts) us

-- with room, with room for one, to a quota that is none, full, damaged
queues : List Queue
queues = queue_with 0 1 0 ∷ queue_with 2 1 15 ∷ queue_with 0 32 0 ∷ queue_with 0 1 16 ∷ queue_with 0 1 17 ∷ []

stale_rows : (told (one_object 1 100 7) queues ≡ 5 ∷ 5 ∷ 3 ∷ 51 ∷ 53 ∷ [])
    × (told (one_object 1 100 5) queues ≡ 12 ∷ 12 ∷ 3 ∷ 51 ∷ 53 ∷ [])
    × (refusals (one_object 1 100 7) queues gone ≡ 5 ∷ 5 ∷ 3 ∷ 51 ∷ 53 ∷ [])
    × (refusals (one_object 1 100 5) queues gone ≡ 12 ∷ 12 ∷ 3 ∷ 51 ∷ 53 ∷ [])
unfolding rows gone told queues lines_before_5 stale_send_refusal
stale_rows = (refl, refl, refl, refl)

-- receives: the oldest, the places behind it moved up; 53 before 52
receive_rows : (receive (with_handle (handle 2 2 2) (with_handle (handle 1 1 1) (empty_queue 5 6)))
    ≡ record {
      queue = record { sender = 5; receiver = 6; count = 1; handles = handle 2 2 2 ∷ replicate 15 zero_handle };
      refusal = 0;
      handle = handle 1 1 1;
    })
    × (receive (queue_with 0 1 16)
    ≡ record {
      queue = record { sender = 0; receiver = 1; count = 15; handles = replicate 15 (handle 8 8 9) ++ (zero_handle ∷ []) };
      refusal = 0;
      handle = handle 8 8 9;
    })
    × (receive (queue_with 0 1 0) ≡ record { queue = queue_with 0 1 0; refusal = 52; handle = zero_handle })
    × (receive (queue_with 0 1 17) ≡ record { queue = queue_with 0 1 17; refusal = 53; handle = zero_handle })
unfolding rows
receive_rows = (refl, refl, refl, refl)

-- the packet is dropped by its receiver: its handle comes out of the queue as before, and lend refuses it by 5
dropped_rows : ((release unit moved.heap moved.accounts 1 packet).values.refusal ≡ 0)
    × ((lend unit dropped.heap dropped.accounts packet).values.refusal ≡ 5)
    × ((receive moved.queue).refusal ≡ 0) × ((receive moved.queue).handle ≡ packet)
    × (waiting moved.queue ≡ packet ∷ [])
unfolding rows
dropped_rows = (refl, refl, refl, refl, refl)

-- a list of both calls, the newest first: three sends of which one is refused, and four receives of which two are
both : List QueueCall
both =
    Receives ∷ Receives ∷ Receives ∷ Sends moved.heap moved.accounts packet
    ∷ Sends (one_object 1 100 7).heap (one_object 1 100 7).accounts (handle 16 8 1)
    ∷ Sends (one_object 1 100 7).heap (one_object 1 100 7).accounts packet ∷ Receives ∷ []

list_rows : ((traffic (by_rules table) (empty_queue 0 1) both).accepted ≡ packet ∷ handle 16 8 1 ∷ [])
    × ((traffic (by_rules table) (empty_queue 0 1) both).given ≡ packet ∷ handle 16 8 1 ∷ [])
    × ((traffic (by_rules table) (empty_queue 0 1) both).queue ≡ empty_queue 0 1)
unfolding rows both
list_rows = (refl, refl, refl)

-- sends on heaps of both editions, the newest first: an object of 4,096 bytes at 8 or at 16, sent by its quota to
-- itself. Each goes by the table of its own accounts: edition 2 has no object of this length at 8, so the newest is
-- refused
sends_in : ℕ → Placed → QueueCall
sends_in e (placed base length behind) =
    let p = placed base length behind in
    Sends (heap_with p) (with_edition e (accounts_with p)) (handle base length 1)

either : List QueueCall
either = sends_in 1 (placed 8 4096 0) ∷ sends_in 0 (placed 8 4096 0) ∷ sends_in 1 (placed 16 4096 0) ∷ []

edition_rows : ((traffic (by_rules table) (empty_queue 0 0) either).accepted ≡ handle 16 4096 1 ∷ handle 8 4096 1 ∷ [])
    × (waiting (traffic (by_rules table) (empty_queue 0 0) either).queue ≡ handle 16 4096 1 ∷ handle 8 4096 1 ∷ [])
unfolding rows gap heap_with accounts_with sends_in either
edition_rows = (refl, refl)

number_rows : map queue_refusal_number (Full ∷ Empty ∷ Damaged ∷ Heap Inconsistent ∷ Heap NotPermitted ∷ []) ≡ 51 ∷ 52 ∷ 53 ∷ 2 ∷ 12 ∷ []
number_rows = refl

-- the queue that 51 words hold: numbers in the first words and in those of the first and the last place
words : List ℕ
words = 1 ∷ 2 ∷ 3 ∷ 10 ∷ 11 ∷ 12 ∷ (replicate 42 0 ++ (20 ∷ 21 ∷ 22 ∷ []))

words_rows : (length words ≡ QUEUE_WORD_COUNT)
    × (queue_of words ≡ record {
      sender = 1;
      receiver = 2;
      count = 3;
      handles = handle 10 11 12 ∷ (replicate 14 zero_handle ++ (handle 20 21 22 ∷ []));
    })
unfolding words handles_of tabulate
words_rows = (refl, refl)
