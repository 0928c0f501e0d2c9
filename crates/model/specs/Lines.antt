-- In which order the lines of each call are looked at, and on which side of each line a refusal begins (rules, section 7). How cases are run is `Tables`.
use Rattle.std.specs.Prelude.{ℕ, zero, suc, ◌+◌, ◌*◌, ◌-◌, ◌/◌, List, [], ◌∷◌, ◌++◌, map, replicate, take, drop}
use Rattle.rounding.specs.Rounding.{unit}
use Rattle.accounts.specs.declared.Hold.{Hold}
use Rattle.accounts.specs.declared.Accounts.{Accounts}
use Rattle.accounts.specs.Accounts.{QUOTAS, HOLDS, plain}
use Rattle.model.specs.Answers.{Values, refused, accepted, amount_of, lent}
use Rattle.model.specs.Calls.{Outcome, open_heap}
use Rattle.model.specs.Marked.{handle}
use Rattle.model.specs.Refusals.{Line, allocate_lines, reallocate_lines, claim_lines}
use Rattle.model.specs.Tables.{Case, case, head, zeros, parts, quota_with, quota, hold, accounts_to, accounts_of, state}
use Rattle.model.specs.Cases.{block}
use Rattle.model.specs.declared.Call.{Call}
use Rattle.model.specs.declared.Call.TheVariants.{Allocate, AllocateArray, Claim, Release, FreeAll, Reallocate, Lend, Remaining, CanRelease, ListBlock}
use Rattle.model.specs.declared.Call.TheVariants.{ClearPermissions}

-- what open answers and leaves for a heap of H bytes: its first bytes and the accounts
unfoldable pub opening : ℕ → Values × List ℕ × Accounts
opening H =
    let t = open_heap plain (replicate H 170) (5 ∷ 4294967295 ∷ replicate (QUOTAS - 2) 0) in
    (t.values, take 64 t.heap, t.accounts)

-- a refused open leaves the bytes and gives accounts of zeros, which have no permission
abbrev pub not_opened : ℕ → Values × List ℕ × Accounts
not_opened n = (refused 1, replicate n 170, accounts_to HOLDS (replicate QUOTAS (quota_with 0 0 0)) 0 [])

abbrev pub is_opened : List ℕ → Values × List ℕ × Accounts
is_opened bytes = (accepted, bytes, accounts_to HOLDS (quota 5 5 ∷ quota 4294967295 4294967295 ∷ []) 0 [])

-- rule 2.1 on both sides: the bounds, and multiples of 1, 4 and 8
abbrev pub heap_lengths : List ℕ
heap_lengths = 0 ∷ 56 ∷ 64 ∷ 65 ∷ 68 ∷ 72 ∷ 32764 ∷ 32768 ∷ 32776 ∷ []

unfoldable pub openings : List (Values × List ℕ × Accounts)
openings =
    not_opened 0 ∷ not_opened 56 ∷ is_opened (parts (head 8 0 0 ∷ zeros 56 ∷ [])) ∷ not_opened 64
    ∷ not_opened 64 ∷ is_opened (parts (head 9 0 0 ∷ zeros 56 ∷ [])) ∷ not_opened 64
    ∷ is_opened (parts ((0 ∷ 16 ∷ zeros 6) ∷ zeros 56 ∷ [])) ∷ not_opened 64 ∷ []

-- every call, with a quota and a length that no call takes and a handle that names nothing
unfoldable pub every_call : List Call
every_call =
    let h = handle 8 8 9 in
    Allocate QUOTAS 0 ∷ AllocateArray QUOTAS 0 1 ∷ Reallocate QUOTAS h 0 ∷ Claim QUOTAS h ∷ Release QUOTAS h ∷ CanRelease QUOTAS h
    ∷ FreeAll QUOTAS ∷ Remaining QUOTAS ∷ ClearPermissions QUOTAS 0 ∷ Lend h ∷ ListBlock 0 ∷ []

-- one free block of so many units and bytes, with a back size that is true only if it is 0
unfoldable pub one_block : ℕ → ℕ → ℕ → Outcome
one_block units n back = state (parts (head units back 0 ∷ zeros n ∷ [])) (accounts_of [] 0 [])

-- every call on the same state is refused by a number and leaves heap and accounts
unfoldable pub each_refused : ℕ → Outcome → List Case
each_refused n t = map (λ c. case t (c ∷ []) (refused n ∷ []) 0 t.heap t.accounts) every_call

-- 1 before 2 before 3 before what follows
unfoldable pub first_lines : List Case
first_lines =
    each_refused 1 (one_block 7 48 1)
    ++ (each_refused 2 (one_block 8 56 1)
    ++ (case (one_block 8 56 0) every_call (replicate 9 (refused 3) ++ (refused 5 ∷ block 0 64 0 ∷ [])) 0 (head 8 0 0) (accounts_of [] 0 []) ∷ []))

-- so many objects of 8 bytes, from one with a serial on, behind a block of `back` units
unfoldable pub filled_from : ℕ → ℕ → ℕ → List ℕ
filled_from zero back serial = []
filled_from (suc n) back serial = head 2 back serial ++ (zeros 8 ++ filled_from n 2 (suc serial))

-- a record for an object of each of n quotas, from one on; and of these quotas for so many objects, from one with a serial on
unfoldable pub holders : ℕ → ℕ → ℕ → List Hold
holders q zero serial = []
holders q (suc n) serial = hold serial (q + n) 1 ∷ holders q n serial

unfoldable pub records_from : ℕ → ℕ → ℕ → ℕ → List Hold
records_from q m zero serial = []
records_from q m (suc n) serial = holders q m serial ++ records_from q m n (suc serial)

-- a full table: every quota holds so many objects, and the upper half of the quotas two more. The last quota holds the first object n times.
-- Nothing is free, no serial is left, 15 remain to quota 0, 1,000 to quota 1 and nothing to the others
abbrev pub common : ℕ
common = HOLDS / QUOTAS - 1

abbrev pub half : ℕ
half = QUOTAS / 2

unfoldable pub full_heap : List ℕ
full_heap = filled_from (common + 2) 0 1

unfoldable pub full_accounts : ℕ → Accounts
full_accounts n =
    let all = 16 * common in
    accounts_of (quota (all + 15) 15 ∷ quota (all + 1000) 1000 ∷ (replicate (half - 2) (quota all 0) ++ replicate half (quota (all + 32) 0))) 4294967294
    (hold 1 (QUOTAS - 1) n ∷ (holders 0 (QUOTAS - 1) 1 ++ (records_from 0 QUOTAS (common - 1) 2 ++ records_from half half 2 (common + 1))))

-- the lines of calls on it, but 1 and 2, which ask nothing of a table that is full
unfoldable pub full_lines : ℕ → List (List Line)
full_lines n =
    let s = full_heap in
    let k = full_accounts n in
    let h = handle 8 8 1 in
    let upper = handle (16 * common + 8) 8 (common + 1) in
    map (drop 2)
    (allocate_lines unit s k 2 8 ∷ allocate_lines unit s k 1 8 ∷ reallocate_lines unit s k 0 h 8 ∷ reallocate_lines unit s k 1 h 8
    ∷ claim_lines unit s k 2 upper ∷ claim_lines unit s k 1 upper ∷ claim_lines unit s k (QUOTAS - 1) h ∷ [])

-- four objects that fill a heap; quota 0 holds all of them, quota 1 the first
unfoldable pub four_accounts : ℕ → Accounts
four_accounts last = accounts_of (quota 79 15 ∷ quota 1000 984 ∷ []) last (hold 1 1 1 ∷ records_from 0 1 4 1)

unfoldable pub four_objects : ℕ → Outcome
four_objects last = state (filled_from 4 0 1) (four_accounts last)

-- 4 before 5 before 6 before 8, and 10 before 11
unfoldable pub last_lines : List Case
last_lines =
    let h = handle 8 8 1 in
    let missing = handle 8 8 9 in
    case (four_objects 4294967294)
    (Allocate 2 0 ∷ Allocate 2 32761 ∷ Allocate 2 8 ∷ Allocate 0 8 ∷ Allocate 1 8 ∷ AllocateArray 2 0 8 ∷ AllocateArray 2 1 8 ∷ AllocateArray 1 1 8
    ∷ Reallocate 2 missing 0 ∷ Reallocate 2 missing 32761 ∷ Reallocate 2 missing 8 ∷ Reallocate 2 h 8 ∷ Reallocate 0 h 8 ∷ Reallocate 1 h 8
    ∷ Claim 2 missing ∷ Claim 2 h ∷ [])
    (refused 4 ∷ refused 4 ∷ refused 8 ∷ refused 8 ∷ refused 10 ∷ refused 4 ∷ refused 8 ∷ refused 10
    ∷ refused 4 ∷ refused 4 ∷ refused 5 ∷ refused 6 ∷ refused 8 ∷ refused 10
    ∷ refused 5 ∷ refused 8 ∷ [])
    0 (filled_from 4 0 1) (four_accounts 4294967294)
    ∷ case (four_objects 4) (Allocate 1 8 ∷ AllocateArray 1 8 1 ∷ Reallocate 1 h 8 ∷ []) (replicate 3 (refused 11))
    0 (filled_from 4 0 1) (four_accounts 4)
    -- 5 before 6
    ∷ case (four_objects 4)
    (Release 2 missing ∷ Release 2 h ∷ Release 1 (handle 24 8 2) ∷ CanRelease 2 missing ∷ CanRelease 2 h ∷ CanRelease 1 (handle 24 8 2) ∷ CanRelease 1 h ∷ [])
    (refused 5 ∷ refused 6 ∷ refused 6 ∷ refused 5 ∷ refused 6 ∷ refused 6 ∷ accepted ∷ []) 0 (filled_from 4 0 1) (four_accounts 4)
    -- a handle with the serial of an object, but a byte outside of it or none, names nothing; nor does one with another serial
    ∷ case (four_objects 4)
    (Lend h ∷ Lend (handle 16 8 1) ∷ Lend (handle 24 8 1) ∷ Lend (handle 8 16 1)
    ∷ Lend (handle 8 0 1) ∷ Lend (handle 8 8 2) ∷ Lend (handle 8 8 0) ∷ Lend (handle 0 0 0) ∷ [])
    (lent (record { start = 8; end = 16 }) ∷ replicate 7 (refused 5)) 0 (filled_from 4 0 1) (four_accounts 4)
    ∷ case (four_objects 4)
    (Reallocate 1 (handle 24 8 1) 8 ∷ Reallocate 1 (handle 8 16 1) 8 ∷ Reallocate 1 (handle 8 8 2) 8
    ∷ Claim 1 (handle 24 8 1) ∷ Claim 1 (handle 8 16 1) ∷ Claim 1 (handle 8 8 2) ∷ [])
    (replicate 6 (refused 5)) 0 (filled_from 4 0 1) (four_accounts 4)
    ∷ []

-- the same objects; quota 0 may not allocate, quota 1 not claim, quota 2 not free all, and quota 3 nothing
unfoldable pub barred_accounts : Accounts
barred_accounts =
    accounts_of (quota_with 6 79 15 ∷ quota_with 5 1000 984 ∷ quota_with 3 8 8 ∷ quota_with 0 8 8 ∷ []) 4294967294 (hold 1 1 1 ∷ records_from 0 1 4 1)

-- what a refused open hands back, over one free block
unfoldable pub zero_state : Outcome
zero_state = state (parts (head 8 0 0 ∷ zeros 56 ∷ [])) (accounts_of (replicate QUOTAS (quota_with 0 0 0)) 0 [])

-- 12 right after 3 (rule 15.6)
unfoldable pub permission_lines : List Case
permission_lines =
    let h = handle 8 8 1 in
    let missing = handle 8 8 9 in
    -- before 4, 5, 6, 8 and 10; claim with a record, and free-all with none
    case (state (filled_from 4 0 1) barred_accounts)
    (Allocate 0 0 ∷ Allocate 0 8 ∷ Allocate 3 32761 ∷ AllocateArray 0 0 8 ∷ AllocateArray 3 1 8 ∷ Reallocate 0 missing 0 ∷ Reallocate 0 h 8 ∷ Reallocate 3 h 8
    ∷ Claim 1 missing ∷ Claim 1 h ∷ Claim 3 h ∷ FreeAll 2 ∷ FreeAll 3 ∷ [])
    (replicate 13 (refused 12)) 0 (filled_from 4 0 1) barred_accounts
    -- each call asks for its own permission alone
    ∷ case (state (filled_from 4 0 1) barred_accounts)
    (Allocate 1 0 ∷ Allocate 2 0 ∷ AllocateArray 1 0 8 ∷ Reallocate 1 missing 0 ∷ Reallocate 2 missing 8 ∷ Claim 0 missing ∷ Claim 2 missing ∷ FreeAll 4 ∷ [])
    (refused 4 ∷ refused 4 ∷ refused 4 ∷ refused 4 ∷ refused 5 ∷ refused 5 ∷ refused 5 ∷ amount_of 0 ∷ []) 0 (filled_from 4 0 1) barred_accounts
    -- the others ask for none
    ∷ case (state (filled_from 4 0 1) barred_accounts)
    (Release 3 missing ∷ Release 3 h ∷ CanRelease 3 missing ∷ CanRelease 3 h ∷ Remaining 3 ∷ Lend h ∷ ListBlock 0 ∷ ClearPermissions 3 7 ∷ [])
    (refused 5 ∷ refused 6 ∷ refused 5 ∷ refused 6 ∷ amount_of 8 ∷ lent (record { start = 8; end = 16 }) ∷ block 0 16 1 ∷ amount_of 0 ∷ [])
    0 (filled_from 4 0 1) barred_accounts
    -- accounts of zeros have no permission
    ∷ case zero_state (Allocate 0 8 ∷ FreeAll 0 ∷ ClearPermissions 0 0 ∷ []) (refused 12 ∷ refused 12 ∷ amount_of 0 ∷ []) 0 (head 8 0 0) zero_state.accounts
    ∷ []
