-- Computed rows: two objects that two quotas hold, released in two orders. The heap is fresh again both times, and the answers come in another order,
-- so the answers of two orders are not equal as lists. A list with a refused release goes on behind it. In a heap with quarantine the same lists leave two
-- blocks that wait side by side in front of a free one, whichever was released first. A release and a free-all go by
-- the table of their own accounts.
use Prim.Native.Nat.{ℕ}
use mathlib.Core.Path.{◌≡◌, refl}
use mathlib.Core.List.{List, [], ◌∷◌, map}
use mathlib.Core.Bool.{true, false}
use lib.ListN.{replicate}
use Rattle.accounts.specs.Accounts.{with_last_serial, with_edition}
use Rattle.layout.specs.Blocks.{Block, QUARANTINED, render}
use Rattle.rounding.specs.Rounding.{unit}
use Rattle.model.specs.Calls.{Outcome, allocate, claim}
use Rattle.model.specs.Cases.{opened_heap}
use Rattle.model.specs.Quarantine.{waiting_heap}
use Rattle.model.specs.Units.{Placed, placed, gap, heap_with, accounts_with}
use Rattle.model.specs.declared.Handle.{Handle}
use Rattle.model.proofs.Computing.{computing}
use Rattle.cleanup.specs.Releases.{own_release, Drop, Answered, Cleaned, cleaned, accepted_throughout}
use Rattle.cleanup.specs.FreeAll.{own_free_all, all_for, sum_of, releases_of}

fresh_heap : Outcome
fresh_heap = opened_heap 128 100 100

-- a heap of 128 bytes with objects of 16 and 24 bytes; quota 0 holds the first twice and the second once, quota 1 holds the second
held_in : Outcome → Outcome
held_in t =
    let b = allocate unit t.heap t.accounts 0 16 in
    let c = allocate unit b.heap b.accounts 0 24 in
    let d = claim unit c.heap c.accounts 0 b.values.handle in
    claim unit d.heap d.accounts 1 c.values.handle

held_heap : Outcome
held_heap = held_in fresh_heap

first : Handle
first = record { base = 8; length = 16; serial = 1 }

second : Handle
second = record { base = 32; length = 24; serial = 2 }

drop : ℕ → Handle → Drop
drop q h = record { quota = q; handle = h }

one_order : List Drop
one_order = drop 0 first ∷ drop 0 second ∷ drop 1 second ∷ drop 0 first ∷ []

other_order : List Drop
other_order = drop 1 second ∷ drop 0 first ∷ drop 0 first ∷ drop 0 second ∷ []

-- quota 0 releases all that it holds; quota 1 releases what it does not hold, and a third release of the first finds nothing
of_quota_0 : List Drop
of_quota_0 = drop 0 first ∷ drop 0 second ∷ drop 0 first ∷ []

with_refusals : List Drop
with_refusals = drop 1 first ∷ drop 0 first ∷ drop 0 first ∷ drop 0 first ∷ drop 1 second ∷ []

after : List Drop → Cleaned
after ds = cleaned own_release ds held_heap.heap held_heap.accounts

amounts : List Drop → List ℕ
amounts ds = map (λ (a : Answered). a.values.amount) (after ds).answers

refusals : List Drop → List ℕ
refusals ds = map (λ (a : Answered). a.values.refusal) (after ds).answers

answered : List Drop → List ℕ
answered ds = map (λ (a : Answered). a.quota) (after ds).answers

-- both orders
order_rows : (amounts one_order ≡ 0 ∷ 32 ∷ 32 ∷ 24 ∷ []) × (answered one_order ≡ 0 ∷ 0 ∷ 1 ∷ 0 ∷ []) × (accepted_throughout (after one_order).answers ≡ true)
    × ((after one_order).heap ≡ 16 ∷ replicate 127 0) × ((after one_order).accounts ≡ with_last_serial 2 fresh_heap.accounts)
    × (amounts other_order ≡ 32 ∷ 0 ∷ 24 ∷ 32 ∷ []) × (answered other_order ≡ 1 ∷ 0 ∷ 0 ∷ 0 ∷ []) × (accepted_throughout (after other_order).answers ≡ true)
    × ((after other_order).heap ≡ 16 ∷ replicate 127 0) × ((after other_order).accounts ≡ with_last_serial 2 fresh_heap.accounts)
unfolding computing opened_heap fresh_heap held_in held_heap first second drop one_order other_order after amounts answered cleaned accepted_throughout
order_rows = (refl, refl, refl, refl, refl, refl, refl, refl, refl, refl)

-- refused releases, and the others of the same list
refusal_rows : (refusals with_refusals ≡ 6 ∷ 0 ∷ 0 ∷ 5 ∷ 0 ∷ []) × (amounts with_refusals ≡ 0 ∷ 0 ∷ 24 ∷ 0 ∷ 32 ∷ [])
    × (accepted_throughout (after with_refusals).answers ≡ false)
    × (accepted_throughout [] ≡ true)
unfolding computing opened_heap fresh_heap held_in held_heap first second drop with_refusals after amounts refusals cleaned accepted_throughout
refusal_rows = (refl, refl, refl, refl)

-- one quota's releases and its free-all
freed_heap : Outcome
freed_heap = own_free_all held_heap.heap held_heap.accounts 0

second_left : List ℕ
second_left =
    render (record { serial = 0; body = replicate 16 0 } ∷ record { serial = 2; body = replicate 24 0 } ∷ record { serial = 0; body = replicate 64 0 } ∷ [])

free_rows : (all_for 0 of_quota_0 ≡ true) × (all_for 1 of_quota_0 ≡ false) × (all_for 0 other_order ≡ false) × (all_for 1 (drop 1 second ∷ []) ≡ true)
    × (sum_of (after of_quota_0).answers ≡ 56) × (sum_of (after one_order).answers ≡ 88) × (sum_of (after with_refusals).answers ≡ 56)
    × (releases_of 0 held_heap.accounts.holds (first ∷ second ∷ []) ≡ drop 0 first ∷ drop 0 first ∷ drop 0 second ∷ [])
    × (releases_of 1 held_heap.accounts.holds (first ∷ second ∷ []) ≡ drop 1 second ∷ [])
    × (freed_heap.values.amount ≡ 56) × ((after of_quota_0).heap ≡ second_left) × (freed_heap.heap ≡ second_left)
unfolding computing opened_heap fresh_heap held_in held_heap freed_heap second_left first second drop one_order other_order of_quota_0 with_refusals after
    cleaned all_for sum_of releases_of
free_rows = (refl, refl, refl, refl, refl, refl, refl, refl, refl, refl, refl, refl)

-- the same in a heap with quarantine
held_waiting : Outcome
held_waiting = held_in (waiting_heap 128)

waits_after : List Drop → Cleaned
waits_after ds = cleaned own_release ds held_waiting.heap held_waiting.accounts

waits_amounts : List Drop → List ℕ
waits_amounts ds = map (λ (a : Answered). a.values.amount) (waits_after ds).answers

-- a block of zeros
block : ℕ → ℕ → Block
block serial n = record { serial = serial; body = replicate n 0 }

both_wait : List ℕ
both_wait = render (block QUARANTINED 16 ∷ block QUARANTINED 24 ∷ block 0 64 ∷ [])

waiting_rows : (waits_amounts one_order ≡ 0 ∷ 32 ∷ 32 ∷ 24 ∷ []) × (waits_amounts other_order ≡ 32 ∷ 0 ∷ 24 ∷ 32 ∷ [])
    × ((waits_after one_order).heap ≡ both_wait) × ((waits_after one_order).accounts ≡ with_last_serial 2 (waiting_heap 128).accounts)
    × ((waits_after other_order).heap ≡ both_wait) × ((waits_after other_order).accounts ≡ with_last_serial 2 (waiting_heap 128).accounts)
unfolding computing waiting_heap held_in held_waiting first second drop one_order other_order waits_after waits_amounts block both_wait cleaned
waiting_rows = (refl, refl, refl, refl, refl, refl)

-- and one quota's releases and its free-all
freed_waiting : Outcome
freed_waiting = own_free_all held_waiting.heap held_waiting.accounts 0

first_waits : List ℕ
first_waits = render (block QUARANTINED 16 ∷ block 2 24 ∷ block 0 64 ∷ [])

free_waiting_rows : (freed_waiting.values.amount ≡ 56) × (sum_of (waits_after of_quota_0).answers ≡ 56)
    × (freed_waiting.heap ≡ first_waits) × ((waits_after of_quota_0).heap ≡ first_waits)
unfolding computing waiting_heap held_in held_waiting first second drop of_quota_0 waits_after block first_waits freed_waiting cleaned sum_of
free_waiting_rows = (refl, refl, refl, refl)

-- an object of 4,096 bytes at 8 and at 16, by the number of the edition in the accounts: edition 2 has no object of
-- this length at 8, so its accounts don't go with that heap
released_in : ℕ → Placed → Outcome
released_in e (placed base length behind) =
    let p = placed base length behind in
    own_release (heap_with p) (with_edition e (accounts_with p)) 0 (record { base = base; length = length; serial = 1 })

freed_in : ℕ → Placed → Outcome
freed_in e p = own_free_all (heap_with p) (with_edition e (accounts_with p)) 0

edition_rows : ((released_in 0 (placed 8 4096 0)).values.amount ≡ 4104)
    × ((released_in 0 (placed 8 4096 0)).values.refusal ≡ 0)
    × ((released_in 1 (placed 8 4096 0)).values.refusal ≡ 2) × ((released_in 1 (placed 16 4096 0)).values.amount ≡ 4104)
    × ((freed_in 0 (placed 8 4096 0)).values.amount ≡ 4104) × ((freed_in 0 (placed 8 4096 0)).values.refusal ≡ 0)
    × ((freed_in 1 (placed 8 4096 0)).values.refusal ≡ 2) × ((freed_in 1 (placed 16 4096 0)).values.amount ≡ 4104)
unfolding computing gap heap_with accounts_with released_in freed_in
edition_rows = (refl, refl, refl, refl, refl, refl, refl, refl)
