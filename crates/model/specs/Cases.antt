-- What calls answer and leave: cases that the run M does not reach (rules, section 8; rules 12.3 to 12.7 among them). How they are run is `Tables`.
use Rattle.std.specs.Prelude.{ℕ, ◌-◌, List, [], ◌∷◌, replicate, take, Some, None}
use Rattle.accounts.specs.Accounts.{QUOTAS, plain, zero_hold, with_holds}
use Rattle.rounding.specs.Rounding.{unit}
use Rattle.model.specs.Answers.{Values, refused, accepted, given, amount_of, lent, listed}
use Rattle.model.specs.Calls.{Outcome, open_heap}
use Rattle.model.specs.Marked.{handle}
use Rattle.model.specs.Tables.{Case, case, run, head, zeros, parts, quota_with, quota, hold, places, accounts_of, state, written}
use Rattle.model.specs.declared.Call.TheVariants.{Allocate, AllocateArray, Claim, Release, FreeAll, Reallocate, Lend, Remaining, CanRelease}
use Rattle.model.specs.declared.Call.TheVariants.{ListBlock}
use Rattle.model.specs.declared.Call.TheVariants.{ClearPermissions}

-- a fresh heap of H bytes with two grants, and with as many records as the accounts of a case have
unfoldable pub opened_heap : ℕ → ℕ → ℕ → Outcome
opened_heap H g₀ g₁ =
    let t = open_heap plain (replicate H 255) (g₀ ∷ g₁ ∷ replicate (QUOTAS - 2) 0) in
    state t.heap (with_holds (take places t.accounts.holds) t.accounts)

-- a block of the listing
unfoldable pub block : ℕ → ℕ → ℕ → Values
block at size serial = listed (Some (record { offset = at; size = size; serial = serial }))

-- both sides of each row of the rounding table, of the product and of line 4
unfoldable pub lengths : List Case
lengths =
    case (opened_heap 8208 100000 0) (Allocate 0 8191 ∷ []) (given (handle 16 8192 1) ∷ [])
    0 (parts (head 1 0 0 ∷ (1 ∷ 4 ∷ 1 ∷ 0 ∷ 1 ∷ 0 ∷ 0 ∷ 0 ∷ []) ∷ [])) (accounts_of (quota 100000 91800 ∷ []) 1 (hold 1 0 1 ∷ []))
    -- 8 bytes are left in front and behind
    ∷ case (opened_heap 8216 100000 0) (Allocate 0 8192 ∷ ListBlock 8208 ∷ []) (given (handle 16 8192 1) ∷ block 8208 8 0 ∷ [])
    0 (parts (head 1 0 0 ∷ (1 ∷ 4 ∷ 1 ∷ 0 ∷ 1 ∷ 0 ∷ 0 ∷ 0 ∷ []) ∷ [])) (accounts_of (quota 100000 91800 ∷ []) 1 (hold 1 0 1 ∷ []))
    ∷ case (opened_heap 16400 100000 0) (Allocate 0 16383 ∷ Allocate 0 16368 ∷ []) (refused 11 ∷ given (handle 16 16368 1) ∷ [])
    0 (head 1 0 0) (accounts_of (quota 100000 83624 ∷ []) 1 (hold 1 0 1 ∷ []))
    ∷ case (opened_heap 16416 100000 0) (Allocate 0 16384 ∷ []) (given (handle 32 16384 1) ∷ []) 0 (head 3 0 0)
    (accounts_of (quota 100000 83608 ∷ []) 1 (hold 1 0 1 ∷ []))
    ∷ case (opened_heap 32768 100000 0) (Allocate 0 32737 ∷ Allocate 0 32736 ∷ []) (refused 11 ∷ given (handle 32 32736 1) ∷ [])
    0 (head 3 0 0) (accounts_of (quota 100000 67256 ∷ []) 1 (hold 1 0 1 ∷ []))
    ∷ case (opened_heap 64 40000 0)
    (AllocateArray 0 3 5 ∷ AllocateArray 0 65536 65536 ∷ AllocateArray 0 2 2147483649 ∷ AllocateArray 0 1 32761
    ∷ Allocate 0 0 ∷ Allocate 0 32761 ∷ Allocate 0 32760 ∷ [])
    (given (handle 8 16 1) ∷ refused 4 ∷ refused 4 ∷ refused 4 ∷ refused 4 ∷ refused 4 ∷ refused 11 ∷ [])
    0 (parts (head 3 0 1 ∷ zeros 16 ∷ head 5 3 0 ∷ zeros 32 ∷ [])) (accounts_of (quota 40000 39976 ∷ []) 1 (hold 1 0 1 ∷ []))
    ∷ []

-- four objects, of which the first and the third were released: two gaps in the heap and two among the records
unfoldable pub with_gaps : Outcome
with_gaps =
    run unit (opened_heap 128 1000 1000)
    (Allocate 0 8 ∷ Allocate 0 8 ∷ Allocate 0 24 ∷ Allocate 0 8 ∷ Release 0 (handle 8 8 1) ∷ Release 0 (handle 40 24 3) ∷ [])

-- one free block, none of whose bytes is zero
unfoldable pub used_heap : ℕ → ℕ → Outcome
used_heap units n = state (parts (head units 0 0 ∷ replicate n 170 ∷ [])) (accounts_of (quota 100 100 ∷ []) 0 [])

-- no object may have a higher serial than the next
unfoldable pub next_serial_last : Outcome
next_serial_last = state (parts (head 8 0 0 ∷ zeros 56 ∷ [])) (accounts_of (quota 100 100 ∷ []) 4294967293 [])

unfoldable pub allocations : List Case
allocations =
    -- the lowest gap that is long enough and the lowest unused record are taken; what is left stays free, if only 8 bytes, and too short for more
    case with_gaps (Allocate 1 16 ∷ Allocate 1 8 ∷ Allocate 1 8 ∷ []) (given (handle 40 16 5) ∷ given (handle 8 8 6) ∷ given (handle 88 8 7) ∷ [])
    0 (parts (head 2 0 6 ∷ zeros 8 ∷ head 2 2 2 ∷ zeros 8 ∷ head 3 2 5 ∷ zeros 16 ∷ head 1 3 0
    ∷ head 2 1 4 ∷ zeros 8 ∷ head 2 2 7 ∷ zeros 8 ∷ head 4 2 0 ∷ zeros 24 ∷ []))
    (accounts_of (quota 1000 968 ∷ quota 1000 944 ∷ []) 7 (hold 5 1 1 ∷ hold 2 0 1 ∷ hold 6 1 1 ∷ hold 4 0 1 ∷ hold 7 1 1 ∷ []))
    -- the object is zero where other bytes lay, and the other bytes of the free block stay, when it is released too
    ∷ case (used_heap 8 56) (Allocate 0 8 ∷ []) (given (handle 8 8 1) ∷ [])
    0 (parts (head 2 0 1 ∷ zeros 8 ∷ head 6 2 0 ∷ replicate 40 170 ∷ [])) (accounts_of (quota 100 84 ∷ []) 1 (hold 1 0 1 ∷ []))
    ∷ case (used_heap 8 56) (Allocate 0 8 ∷ Release 0 (handle 8 8 1) ∷ []) (given (handle 8 8 1) ∷ amount_of 16 ∷ [])
    0 (parts (head 8 0 0 ∷ zeros 16 ∷ replicate 40 170 ∷ [])) (accounts_of (quota 100 100 ∷ []) 1 [])
    -- a charge up to the whole remainder
    ∷ case (opened_heap 64 24 0) (Allocate 0 17 ∷ Allocate 0 16 ∷ Allocate 0 1 ∷ []) (refused 8 ∷ given (handle 8 16 1) ∷ refused 8 ∷ [])
    0 (head 3 0 1) (accounts_of (quota 24 0 ∷ []) 1 (hold 1 0 1 ∷ []))
    -- the last serial that there is
    ∷ case next_serial_last (Allocate 0 64 ∷ Allocate 0 8 ∷ Allocate 0 8 ∷ []) (refused 11 ∷ given (handle 8 8 4294967294) ∷ refused 10 ∷ [])
    0 (2 ∷ 0 ∷ 0 ∷ 0 ∷ 254 ∷ 255 ∷ 255 ∷ 255 ∷ []) (accounts_of (quota 100 84 ∷ []) 4294967294 (hold 4294967294 0 1 ∷ []))
    ∷ []

-- with a table of units in which each is 32: the base and the length are multiples of 32, and the bytes in front stay
unfoldable pub wide : List Case
wide =
    case (used_heap 16 120) (Allocate 0 8 ∷ Allocate 0 33 ∷ Allocate 0 1 ∷ Allocate 0 1 ∷ [])
    (given (handle 32 32 1) ∷ refused 8 ∷ given (handle 96 32 2) ∷ refused 8 ∷ [])
    0 (parts (head 3 0 0 ∷ replicate 16 170 ∷ head 5 3 1 ∷ zeros 32 ∷ head 3 5 0 ∷ replicate 16 170 ∷ head 5 3 2 ∷ zeros 32 ∷ []))
    (accounts_of (quota 100 20 ∷ []) 2 (hold 1 0 1 ∷ hold 2 0 1 ∷ []))
    ∷ []

-- one object, which quota 0 holds twice and quota 1 once
unfoldable pub shared : Outcome
shared = run unit (opened_heap 64 100 100) (Allocate 0 16 ∷ Claim 0 (handle 8 16 1) ∷ Claim 1 (handle 8 16 1) ∷ [])

-- one object, which quota 0 holds so often
unfoldable pub held_times : ℕ → Outcome
held_times n = state (parts (head 2 0 1 ∷ zeros 8 ∷ head 6 2 0 ∷ zeros 40 ∷ [])) (accounts_of (quota 16 0 ∷ []) 1 (hold 1 0 n ∷ []))

unfoldable pub claims : List Case
claims =
    let h = handle 8 8 1 in
    -- the first claim of a quota is paid, a further one is not, even where nothing remains
    case (opened_heap 64 100 16) (Allocate 0 8 ∷ Claim 1 h ∷ Claim 1 h ∷ Allocate 0 8 ∷ Claim 1 (handle 24 8 2) ∷ Remaining 0 ∷ Remaining 1 ∷ [])
    (given h ∷ amount_of 8 ∷ amount_of 8 ∷ given (handle 24 8 2) ∷ refused 8 ∷ amount_of 68 ∷ amount_of 0 ∷ [])
    0 (parts (head 2 0 1 ∷ zeros 8 ∷ head 2 2 2 ∷ zeros 8 ∷ head 4 2 0 ∷ zeros 24 ∷ []))
    (accounts_of (quota 100 68 ∷ quota 16 0 ∷ []) 2 (hold 1 0 1 ∷ hold 1 1 2 ∷ hold 2 0 1 ∷ []))
    -- a count goes to 255 and no further
    ∷ case (held_times 254) (Claim 0 h ∷ Claim 0 h ∷ []) (amount_of 8 ∷ refused 7 ∷ []) 0 (head 2 0 1)
    (accounts_of (quota 16 0 ∷ []) 1 (hold 1 0 255 ∷ []))
    -- a first claim takes the lowest unused record
    ∷ case with_gaps (Claim 1 (handle 24 8 2) ∷ Claim 1 (handle 72 8 4) ∷ Claim 1 (handle 24 8 2) ∷ []) (amount_of 8 ∷ amount_of 8 ∷ amount_of 8 ∷ [])
    0 (head 2 0 0) (accounts_of (quota 1000 968 ∷ quota 1000 968 ∷ []) 4 (hold 2 1 2 ∷ hold 2 0 1 ∷ hold 4 1 1 ∷ hold 4 0 1 ∷ []))
    ∷ []

-- three objects with bytes in them; quota 0 holds all, the first twice, and quota 1 the second
unfoldable pub several : Outcome
several =
    written 40 (replicate 8 9)
    (written 24 (replicate 8 9)
    (written 8 (replicate 8 9)
    (run unit (opened_heap 64 100 100) (Allocate 0 8 ∷ Allocate 0 8 ∷ Allocate 0 8 ∷ Claim 0 (handle 8 8 1) ∷ Claim 1 (handle 24 8 2) ∷ []))))

unfoldable pub releases : List Case
releases =
    let h = handle 8 16 1 in
    -- a count above 1 goes down, nothing is given back and the object stays
    case shared (Release 0 h ∷ Remaining 0 ∷ []) (amount_of 0 ∷ amount_of 76 ∷ [])
    0 (parts (head 3 0 1 ∷ zeros 16 ∷ head 5 3 0 ∷ zeros 32 ∷ [])) (accounts_of (quota 100 76 ∷ quota 100 76 ∷ []) 1 (hold 1 0 1 ∷ hold 1 1 1 ∷ []))
    -- one of two holders lets go
    ∷ case shared (Release 0 h ∷ Release 0 h ∷ Release 0 h ∷ CanRelease 0 h ∷ CanRelease 1 h ∷ Lend h ∷ [])
    (amount_of 0 ∷ amount_of 24 ∷ refused 6 ∷ refused 6 ∷ accepted ∷ lent (record { start = 8; end = 24 }) ∷ [])
    0 (parts (head 3 0 1 ∷ zeros 16 ∷ head 5 3 0 ∷ zeros 32 ∷ [])) (accounts_of (quota 100 100 ∷ quota 100 76 ∷ []) 1 (zero_hold ∷ hold 1 1 1 ∷ []))
    -- each quota in its own time, and then the object is gone
    ∷ case shared (Release 1 h ∷ Release 0 h ∷ Release 0 h ∷ Release 0 h ∷ Lend h ∷ [])
    (amount_of 24 ∷ amount_of 0 ∷ amount_of 24 ∷ refused 5 ∷ refused 5 ∷ [])
    0 (parts (head 8 0 0 ∷ zeros 56 ∷ [])) (accounts_of (quota 100 100 ∷ quota 100 100 ∷ []) 1 [])
    -- a freed block joins what is free in front, nothing, what is free on both sides; no header stays inside
    ∷ case (run unit (opened_heap 64 100 0) (Allocate 0 8 ∷ Allocate 0 8 ∷ Allocate 0 8 ∷ Allocate 0 8 ∷ []))
    (Release 0 (handle 8 8 1) ∷ Release 0 (handle 24 8 2) ∷ ListBlock 0
    ∷ Release 0 (handle 56 8 4) ∷ ListBlock 48 ∷ Release 0 (handle 40 8 3) ∷ ListBlock 0 ∷ [])
    (amount_of 16 ∷ amount_of 16 ∷ block 0 32 0 ∷ amount_of 16 ∷ block 48 16 0 ∷ amount_of 16 ∷ block 0 64 0 ∷ [])
    0 (parts (head 8 0 0 ∷ zeros 56 ∷ [])) (accounts_of (quota 100 100 ∷ []) 4 [])
    -- the object's bytes become zero, and no others do
    ∷ case several (Release 0 (handle 40 8 3) ∷ []) (amount_of 16 ∷ [])
    0 (parts (head 2 0 1 ∷ replicate 8 9 ∷ head 2 2 2 ∷ replicate 8 9 ∷ head 4 2 0 ∷ zeros 24 ∷ []))
    (accounts_of (quota 100 68 ∷ quota 100 84 ∷ []) 3 (hold 1 0 2 ∷ hold 2 0 1 ∷ zero_hold ∷ hold 2 1 1 ∷ []))
    -- free-all: nothing for a quota without a record; else all its records go, also one with a count of 2, and only what nobody else holds is freed
    ∷ case several (FreeAll 2 ∷ FreeAll 0 ∷ FreeAll 0 ∷ []) (amount_of 0 ∷ amount_of 48 ∷ amount_of 0 ∷ [])
    0 (parts (head 2 0 0 ∷ zeros 8 ∷ head 2 2 2 ∷ replicate 8 9 ∷ head 4 2 0 ∷ zeros 24 ∷ []))
    (accounts_of (quota 100 100 ∷ quota 100 84 ∷ []) 3 (zero_hold ∷ zero_hold ∷ zero_hold ∷ hold 2 1 1 ∷ []))
    ∷ case (held_times 255) (FreeAll 0 ∷ Lend (handle 8 8 1) ∷ []) (amount_of 16 ∷ refused 5 ∷ [])
    0 (parts (head 8 0 0 ∷ zeros 56 ∷ [])) (accounts_of (quota 16 16 ∷ []) 1 [])
    ∷ []

-- 1 to 8 and 1 to 16, and one object that holds the latter
abbrev pub eight : List ℕ
eight = 1 ∷ 2 ∷ 3 ∷ 4 ∷ 5 ∷ 6 ∷ 7 ∷ 8 ∷ []

unfoldable pub sixteen : List ℕ
sixteen = parts (eight ∷ (9 ∷ 10 ∷ 11 ∷ 12 ∷ 13 ∷ 14 ∷ 15 ∷ 16 ∷ []) ∷ [])

unfoldable pub copying : ℕ → Outcome
copying g₀ = written 8 sixteen (run unit (opened_heap 128 g₀ 100) (Allocate 0 16 ∷ []))

unfoldable pub reallocations : List Case
reallocations =
    let h = handle 8 16 1 in
    -- a shorter object gets the first bytes; the old one is freed and its record unused
    case (copying 100) (Reallocate 0 h 8 ∷ []) (given (handle 32 8 2) ∷ [])
    0 (parts (head 3 0 0 ∷ zeros 16 ∷ head 2 3 2 ∷ eight ∷ head 11 2 0 ∷ zeros 80 ∷ []))
    (accounts_of (quota 100 84 ∷ quota 100 100 ∷ []) 2 (zero_hold ∷ hold 2 0 1 ∷ []))
    -- a longer one has zeros behind the copy; a count above 1 goes down and the old object lives on
    ∷ case (copying 100) (Claim 0 h ∷ Reallocate 0 h 24 ∷ []) (amount_of 16 ∷ given (handle 32 24 2) ∷ [])
    0 (parts (head 3 0 1 ∷ sixteen ∷ head 4 3 2 ∷ sixteen ∷ zeros 8 ∷ head 9 4 0 ∷ zeros 64 ∷ []))
    (accounts_of (quota 100 44 ∷ quota 100 100 ∷ []) 2 (hold 1 0 1 ∷ hold 2 0 1 ∷ []))
    -- it lives on for another holder too, and then this quota has no record for it
    ∷ case (copying 100) (Claim 1 h ∷ Reallocate 0 h 16 ∷ Reallocate 0 h 8 ∷ []) (amount_of 16 ∷ given (handle 32 16 2) ∷ refused 6 ∷ [])
    0 (parts (head 3 0 1 ∷ sixteen ∷ head 3 3 2 ∷ sixteen ∷ head 10 3 0 ∷ zeros 72 ∷ []))
    (accounts_of (quota 100 76 ∷ quota 100 76 ∷ []) 2 (zero_hold ∷ hold 1 1 1 ∷ hold 2 0 1 ∷ []))
    -- the old object still counts when the new one is paid for, and when its place is looked for
    ∷ case (copying 40) (Reallocate 0 h 16 ∷ Reallocate 0 h 8 ∷ []) (refused 8 ∷ given (handle 32 8 2) ∷ [])
    0 (parts (head 3 0 0 ∷ zeros 16 ∷ head 2 3 2 ∷ eight ∷ head 11 2 0 ∷ zeros 80 ∷ []))
    (accounts_of (quota 40 24 ∷ quota 100 100 ∷ []) 2 (zero_hold ∷ hold 2 0 1 ∷ []))
    ∷ case (copying 1000) (Reallocate 0 h 104 ∷ Reallocate 0 h 96 ∷ []) (refused 11 ∷ given (handle 32 96 2) ∷ [])
    0 (parts (head 3 0 0 ∷ zeros 16 ∷ head 13 3 2 ∷ sixteen ∷ zeros 80 ∷ []))
    (accounts_of (quota 1000 896 ∷ quota 100 100 ∷ []) 2 (zero_hold ∷ hold 2 0 1 ∷ []))
    ∷ []

-- two objects, the first with bytes in it
unfoldable pub neighbours : Outcome
neighbours = written 8 sixteen (run unit (opened_heap 64 100 100) (Allocate 0 16 ∷ Allocate 0 8 ∷ []))

-- handles whose range is not the whole object's (rules 4.3 and 4.6 to 4.10)
unfoldable pub narrowed : List Case
narrowed =
    let left = parts (head 3 0 1 ∷ sixteen ∷ head 2 3 2 ∷ zeros 8 ∷ head 3 2 0 ∷ zeros 16 ∷ []) in
    let accounts = accounts_of (quota 100 60 ∷ quota 100 100 ∷ []) 2 (hold 1 0 1 ∷ hold 2 0 1 ∷ []) in
    -- lend gives the range: the whole, the first byte, one byte behind it, the last byte, all but the first
    case neighbours (Lend (handle 8 16 1) ∷ Lend (handle 8 1 1) ∷ Lend (handle 9 1 1) ∷ Lend (handle 23 1 1) ∷ Lend (handle 9 15 1) ∷ [])
    (lent (record { start = 8; end = 24 }) ∷ lent (record { start = 8; end = 9 }) ∷ lent (record { start = 9; end = 10 })
    ∷ lent (record { start = 23; end = 24 }) ∷ lent (record { start = 9; end = 24 }) ∷ [])
    0 left accounts
    -- no byte; a byte too many behind, in front and on both sides; the sums are true ones; the serial of another object, of none and of a free block
    ∷ case neighbours
    (Lend (handle 8 0 1) ∷ Lend (handle 16 0 1) ∷ Lend (handle 8 17 1) ∷ Lend (handle 23 2 1)
    ∷ Lend (handle 7 1 1) ∷ Lend (handle 7 2 1) ∷ Lend (handle 7 18 1) ∷ Lend (handle 24 1 1)
    ∷ Lend (handle 4294967295 1 1) ∷ Lend (handle 4294967295 4294967295 1) ∷ Lend (handle 8 4294967295 1) ∷ Lend (handle 4294967295 16 1)
    ∷ Lend (handle 9 1 2) ∷ Lend (handle 33 1 1) ∷ Lend (handle 9 1 3) ∷ Lend (handle 49 1 0) ∷ [])
    (replicate 16 (refused 5)) 0 left accounts
    -- claim, can release and release act on the whole object
    ∷ case neighbours
    (Claim 1 (handle 9 1 1) ∷ Claim 1 (handle 8 17 1) ∷ CanRelease 1 (handle 23 1 1) ∷ CanRelease 1 (handle 33 1 2) ∷ CanRelease 1 (handle 8 0 1)
    ∷ Release 0 (handle 23 1 1) ∷ Lend (handle 10 2 1) ∷ Release 1 (handle 8 17 1) ∷ Release 1 (handle 8 1 1) ∷ Lend (handle 8 16 1) ∷ [])
    (amount_of 16 ∷ refused 5 ∷ accepted ∷ refused 6 ∷ refused 5
    ∷ amount_of 24 ∷ lent (record { start = 10; end = 12 }) ∷ refused 5 ∷ amount_of 24 ∷ refused 5 ∷ [])
    0 (parts (head 3 0 0 ∷ zeros 16 ∷ head 2 3 2 ∷ zeros 8 ∷ head 3 2 0 ∷ zeros 16 ∷ []))
    (accounts_of (quota 100 84 ∷ quota 100 100 ∷ []) 2 (zero_hold ∷ hold 2 0 1 ∷ []))
    -- reallocate takes the whole handle alone, behind line 4 and before line 6
    ∷ case neighbours
    (Reallocate 0 (handle 9 15 1) 0 ∷ Reallocate 0 (handle 9 15 1) 8 ∷ Reallocate 0 (handle 8 15 1) 8
    ∷ Reallocate 0 (handle 9 1 1) 8 ∷ Reallocate 1 (handle 9 1 1) 8 ∷ Reallocate 1 (handle 8 16 1) 8 ∷ Reallocate 0 (handle 8 16 1) 8 ∷ [])
    (refused 4 ∷ refused 5 ∷ refused 5 ∷ refused 5 ∷ refused 5 ∷ refused 6 ∷ given (handle 48 8 3) ∷ [])
    0 (parts (head 3 0 0 ∷ zeros 16 ∷ head 2 3 2 ∷ zeros 8 ∷ head 2 2 3 ∷ eight ∷ head 1 2 0 ∷ []))
    (accounts_of (quota 100 68 ∷ quota 100 100 ∷ []) 3 (zero_hold ∷ hold 2 0 1 ∷ hold 3 0 1 ∷ []))
    ∷ []

-- a walk over the blocks, a place inside a block, the end and a place past it
unfoldable pub walks : List Case
walks =
    case with_gaps (ListBlock 0 ∷ ListBlock 16 ∷ ListBlock 32 ∷ ListBlock 64 ∷ ListBlock 80 ∷ ListBlock 8 ∷ ListBlock 40 ∷ ListBlock 128
    ∷ ListBlock 136 ∷ [])
    (block 0 16 0 ∷ block 16 16 2 ∷ block 32 32 0 ∷ block 64 16 4 ∷ block 80 48 0 ∷ listed None ∷ listed None ∷ listed None ∷ listed None ∷ [])
    0 (parts (head 2 0 0 ∷ zeros 8 ∷ head 2 2 2 ∷ zeros 8 ∷ head 4 2 0 ∷ zeros 24 ∷ head 2 4 4 ∷ zeros 8 ∷ head 6 2 0 ∷ zeros 40 ∷ []))
    (accounts_of (quota 1000 968 ∷ quota 1000 1000 ∷ []) 4 (zero_hold ∷ hold 2 0 1 ∷ zero_hold ∷ hold 4 0 1 ∷ []))
    ∷ []

-- permissions are cleared one after the other, and none is set again (rules 15.3 to 15.5)
unfoldable pub clearings : List Case
clearings =
    let h = handle 8 8 1 in
    -- all are set at opening; bits above 2 mean nothing; a quota that may neither claim nor free all still releases
    case (opened_heap 64 100 100)
    (ClearPermissions 0 0 ∷ ClearPermissions 0 4294967288 ∷ Allocate 0 8 ∷ ClearPermissions 0 1 ∷ Allocate 0 8 ∷ Claim 1 h
    ∷ ClearPermissions 1 4294967290
    ∷ Claim 1 h ∷ ClearPermissions 1 4 ∷ FreeAll 1 ∷ Release 1 h ∷ ClearPermissions 0 8 ∷ FreeAll 0 ∷ [])
    (amount_of 7 ∷ amount_of 7 ∷ given h ∷ amount_of 6 ∷ refused 12 ∷ amount_of 8 ∷ amount_of 5
    ∷ refused 12 ∷ amount_of 1 ∷ refused 12 ∷ amount_of 16 ∷ amount_of 6 ∷ amount_of 16 ∷ [])
    0 (parts (head 8 0 0 ∷ zeros 56 ∷ [])) (accounts_of (quota_with 6 100 100 ∷ quota_with 1 100 100 ∷ []) 1 [])
    -- a quota that may allocate alone reallocates
    ∷ case (opened_heap 128 100 0)
    (Allocate 0 8 ∷ ClearPermissions 0 6 ∷ Reallocate 0 h 8 ∷ AllocateArray 0 2 4 ∷ Claim 0 (handle 24 8 2) ∷ FreeAll 0 ∷ Release 0 (handle 24 8 2)
    ∷ [])
    (given h ∷ amount_of 1 ∷ given (handle 24 8 2) ∷ given (handle 8 8 3) ∷ refused 12 ∷ refused 12 ∷ amount_of 16 ∷ [])
    0 (parts (head 2 0 3 ∷ zeros 8 ∷ head 14 2 0 ∷ zeros 104 ∷ [])) (accounts_of (quota_with 1 100 84 ∷ []) 3 (hold 3 0 1 ∷ []))
    ∷ []
