-- The numbers of every kind of answer, computed; and what a reply makes gives it back, so no two make the same.
use Rattle.std.specs.Prelude.{Result, Ok, Err}
use Rattle.queue.specs.declared.QueueRefusal.{QueueRefusal}
use mathlib.Core.Path.{◌≡◌, refl}
use mathlib.Core.List.{List, [], ◌∷◌, map}
use Prim.Native.Nat.{ℕ}
use Rattle.words.specs.Words.{accounts_of}
use Rattle.model.specs.declared.Handle.{Handle}
use Rattle.model.specs.declared.Refusal.TheVariants.{NotHeld, NotPermitted}
use Rattle.queue.specs.declared.QueueRefusal.TheVariants.{Damaged, Full, Empty, Heap}
use Rattle.queue.specs.Places.{queue_of}
use Rattle.queue.specs.Results.{queue_refusal_number, send_number, receive_number, receive_handle}
use Rattle.exports.specs.declared.replies.HandleReply.{HandleReply}
use Rattle.exports.specs.HeapReplies.{number_in, handle_in, no_handle}
use Rattle.exports.specs.QueueReplies.{sent_in, received_in}

send_rows : map send_number
    (Ok tt ∷ Err Damaged ∷ Err Full ∷ Err (Heap NotHeld) ∷ Err (Heap NotPermitted) ∷ [])
    ≡ 0 ∷ 53 ∷ 51 ∷ 6 ∷ 12 ∷ []
unfolding send_number
send_rows = refl

some_handle : Handle
some_handle = record { base = 8; length = 16; serial = 3 }

abbrev told : Result Handle QueueRefusal → HandleReply
told a = record { refusal = receive_number a; handle = receive_handle a }

receive_rows : map told (Ok some_handle ∷ Err Empty ∷ Err Damaged ∷ [])
    ≡ record { refusal = 0; handle = some_handle } ∷ no_handle 52 ∷ no_handle 53 ∷ []
unfolding receive_number receive_handle
receive_rows = refl

pub sent_in_injective : (s t w x p q : List ℕ) (m n : ℕ) → sent_in s w p m ≡ sent_in t x q n
    → (s ≡ t) × (accounts_of w ≡ accounts_of x) × (queue_of p ≡ queue_of q) × (m ≡ n)
sent_in_injective s t w x p q m n e = (λ i. (e i).heap, λ i. (e i).accounts, λ i. (e i).queue, λ i. (e i).refusal)

pub received_in_injective : (p q : List ℕ) (a b : HandleReply) → received_in p a ≡ received_in q b
    → (queue_of p ≡ queue_of q) × (a ≡ b)
received_in_injective p q a b e = (λ i. (e i).queue, λ i. record { refusal = (e i).refusal; handle = (e i).handle })

-- what the generic number and the generic reply of a handle say, of a queue's refusals
pub number_says : (n : ℕ) (a : Result (Unit {0}) QueueRefusal) → n ≡ number_in queue_refusal_number a → n ≡ send_number a
unfolding send_number
number_says n (Ok tt) e = e
number_says n (Err r) e = e

pub handle_says : (r : HandleReply) (a : Result Handle QueueRefusal) → r ≡ handle_in queue_refusal_number a → r ≡ told a
unfolding receive_number receive_handle
handle_says r (Ok h) e = e
handle_says r (Err x) e = e
