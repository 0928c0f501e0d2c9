-- What heaps with quarantine answer and leave, and which of them are consistent (rules, section 22). How the cases are run is `Tables`.
use Rattle.std.specs.Prelude.{ℕ, ◌-◌, List, [], ◌∷◌, replicate, take, Some}
use Rattle.accounts.specs.declared.settings.Kind.TheVariants.{Quarantine}
use Rattle.accounts.specs.declared.settings.Edition.TheVariants.{First}
use Rattle.accounts.specs.declared.Accounts.{Accounts}
use Rattle.accounts.specs.Accounts.{QUOTAS, zero_hold, with_holds, with_kind}
use Rattle.model.specs.Answers.{refused, given, amount_of, listed}
use Rattle.model.specs.Calls.{Outcome, open_heap}
use Rattle.model.specs.Marked.{handle}
use Rattle.model.specs.Inconsistent.{Judged, judged}
use Rattle.model.specs.Tables.{Case, case, head, zeros, parts, quota, hold, places, accounts_of, state}
use Rattle.model.specs.declared.Call.TheVariants.{Allocate, Claim, Release, FreeAll, Sweep, Reallocate, Lend, CanRelease, ListBlock}

-- a fresh heap with quarantine, of H bytes, where quota 0 has 1,000 and quota 1 has 100
unfoldable pub waiting_heap : ℕ → Outcome
waiting_heap H =
    let t = open_heap (record { kind = Quarantine; edition = First }) (replicate H 255) (1000 ∷ 100 ∷ replicate (QUOTAS - 2) 0) in
    state t.heap (with_holds (take places t.accounts.holds) t.accounts)

-- accounts of a heap of some kind, with a last serial and nothing held
unfoldable pub of_kind : ℕ → ℕ → Accounts
of_kind kind last = with_kind kind (accounts_of (quota 1000 1000 ∷ quota 100 100 ∷ []) last [])

-- the header of a quarantined block
abbrev pub waits : ℕ → ℕ → List ℕ
waits size back = size ∷ 0 ∷ back ∷ 0 ∷ 255 ∷ 255 ∷ 255 ∷ 255 ∷ []

unfoldable pub waiting : List Case
waiting =
    -- a released block keeps its place beside a free one and beside another that waits, and is no space; its quota is refunded at once
    case (waiting_heap 64) (Allocate 0 8 ∷ Allocate 0 8 ∷ Allocate 0 8 ∷ Release 0 (handle 40 8 3) ∷ Release 0 (handle 8 8 1) ∷ [])
    (given (handle 8 8 1) ∷ given (handle 24 8 2) ∷ given (handle 40 8 3) ∷ amount_of 16 ∷ amount_of 16 ∷ [])
    0 (parts (waits 2 0 ∷ zeros 8 ∷ head 2 2 2 ∷ zeros 8 ∷ waits 2 2 ∷ zeros 8 ∷ head 2 2 0 ∷ zeros 8 ∷ []))
    (with_kind 1 (accounts_of (quota 1000 984 ∷ quota 100 100 ∷ []) 3 (zero_hold ∷ hold 2 0 1 ∷ [])))
    -- free-all too; no object can be cut out of what waits, and a sweep frees all of it at once and joins it; a second one finds nothing
    ∷ case (waiting_heap 64)
    (Allocate 0 8 ∷ Allocate 0 8 ∷ Allocate 0 8 ∷ Allocate 0 8 ∷ Release 0 (handle 8 8 1) ∷ Release 0 (handle 56 8 4) ∷ Sweep
    ∷ Release 0 (handle 24 8 2) ∷ FreeAll 0 ∷ Allocate 0 24 ∷ ListBlock 16 ∷ Sweep ∷ Sweep ∷ Allocate 0 24 ∷ [])
    (given (handle 8 8 1) ∷ given (handle 24 8 2) ∷ given (handle 40 8 3) ∷ given (handle 56 8 4) ∷ amount_of 16 ∷ amount_of 16 ∷ amount_of 32
    ∷ amount_of 16 ∷ amount_of 16 ∷ refused 11 ∷ listed (Some (record { offset = 16; size = 16; serial = 4294967295 }))
    ∷ amount_of 32 ∷ amount_of 0 ∷ given (handle 8 24 5) ∷ [])
    0 (parts (head 4 0 5 ∷ zeros 24 ∷ head 4 4 0 ∷ zeros 24 ∷ [])) (with_kind 1 (accounts_of (quota 1000 968 ∷ quota 100 100 ∷ []) 5 (hold 5 0 1 ∷ [])))
    -- one that is still held does not wait; reallocate leaves its old block waiting
    ∷ case (waiting_heap 64)
    (Allocate 0 8 ∷ Claim 1 (handle 8 8 1) ∷ Release 0 (handle 8 8 1) ∷ Sweep ∷ Reallocate 1 (handle 8 8 1) 16 ∷ Lend (handle 8 8 1) ∷ Sweep ∷ [])
    (given (handle 8 8 1) ∷ amount_of 8 ∷ amount_of 16 ∷ amount_of 0 ∷ given (handle 24 16 2) ∷ refused 5 ∷ amount_of 16 ∷ [])
    0 (parts (head 2 0 0 ∷ zeros 8 ∷ head 3 2 2 ∷ zeros 16 ∷ head 3 3 0 ∷ zeros 16 ∷ []))
    (with_kind 1 (accounts_of (quota 1000 1000 ∷ quota 100 76 ∷ []) 2 (hold 2 1 1 ∷ [])))
    ∷ []

unfoldable pub sweeps : List Case
sweeps =
    -- in a plain heap a sweep finds nothing, and a serial of that number is no block's
    case (state (parts (head 8 0 0 ∷ replicate 56 170 ∷ [])) (of_kind 0 0)) (Sweep ∷ Sweep ∷ []) (amount_of 0 ∷ amount_of 0 ∷ [])
    0 (parts (head 8 0 0 ∷ replicate 56 170 ∷ [])) (of_kind 0 0)
    ∷ case (state (parts (waits 8 0 ∷ replicate 56 170 ∷ [])) (of_kind 0 0)) (Sweep ∷ Lend (handle 8 56 4294967295) ∷ []) (refused 2 ∷ refused 2 ∷ [])
    0 (parts (waits 8 0 ∷ replicate 56 170 ∷ [])) (of_kind 0 0)
    -- it is no object's either; its bytes stay, and of the headers between joined blocks nothing
    ∷ case (state (parts (waits 8 0 ∷ replicate 56 170 ∷ [])) (of_kind 1 0))
    (Lend (handle 8 56 4294967295) ∷ Claim 0 (handle 8 8 4294967295) ∷ CanRelease 0 (handle 8 56 4294967295) ∷ Sweep ∷ [])
    (refused 5 ∷ refused 5 ∷ refused 5 ∷ amount_of 64 ∷ []) 0 (parts (head 8 0 0 ∷ replicate 56 170 ∷ [])) (of_kind 1 0)
    ∷ case (state (parts (head 1 0 0 ∷ waits 2 1 ∷ replicate 8 9 ∷ waits 2 2 ∷ replicate 8 7 ∷ head 3 2 0 ∷ replicate 16 5 ∷ [])) (of_kind 1 3))
    (Sweep ∷ []) (amount_of 32 ∷ [])
    0 (parts (head 8 0 0 ∷ zeros 8 ∷ replicate 8 9 ∷ zeros 8 ∷ replicate 8 7 ∷ zeros 8 ∷ replicate 16 5 ∷ [])) (of_kind 1 3)
    -- lines 1 and 2 alone
    ∷ case (state (zeros 56) (of_kind 1 0)) (Sweep ∷ []) (refused 1 ∷ []) 0 (zeros 56) (of_kind 1 0)
    ∷ case (state (zeros 64) (of_kind 1 0)) (Sweep ∷ []) (refused 2 ∷ []) 0 (zeros 64) (of_kind 1 0)
    ∷ []

unfoldable pub judgements : List Judged
judgements =
    let empty = parts (head 8 0 0 ∷ zeros 56 ∷ []) in
    -- a block that waits has 16 bytes or more, and no unit
    judged 2 (parts (waits 1 0 ∷ head 7 1 0 ∷ zeros 48 ∷ [])) (of_kind 1 0)
    ∷ judged 0 (parts (waits 2 0 ∷ zeros 8 ∷ waits 2 2 ∷ zeros 8 ∷ head 4 2 0 ∷ zeros 24 ∷ [])) (of_kind 1 0)
    ∷ judged 0 (parts ((1 ∷ 4 ∷ 0 ∷ 0 ∷ 255 ∷ 255 ∷ 255 ∷ 255 ∷ []) ∷ zeros 8192 ∷ (1 ∷ 0 ∷ 1 ∷ 4 ∷ 0 ∷ 0 ∷ 0 ∷ 0 ∷ []) ∷ [])) (of_kind 1 0)
    -- no record names it
    ∷ judged 2 (parts (waits 8 0 ∷ zeros 56 ∷ [])) (with_kind 1 (accounts_of (quota 64 0 ∷ []) 4294967294 (hold 4294967295 0 1 ∷ [])))
    -- the last serial is below its serial in either kind, and there are two kinds
    ∷ judged 0 empty (of_kind 0 4294967294) ∷ judged 2 empty (of_kind 0 4294967295)
    ∷ judged 0 empty (of_kind 1 4294967294) ∷ judged 2 empty (of_kind 1 4294967295)
    ∷ judged 2 empty (of_kind 2 0) ∷ judged 2 empty (of_kind 255 0) ∷ []
