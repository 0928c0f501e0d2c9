-- The wrong heaps of rules 10.13, 22.14 and 23.9: what each does instead of `step`. That demand 3 does not hold of them
-- is `proofs/Wrong.antt`.
use Rattle.std.specs.Prelude.{ℕ, ◌+◌, ◌-◌, ◌^◌, List, [], cond, set, eqb}
use Rattle.accounts.specs.declared.Quota.{Quota}
use Rattle.accounts.specs.declared.Accounts.{Accounts}
use Rattle.accounts.specs.Accounts.{quota_at, remaining, with_remainder, change_quota, refund, with_quotas, with_holds}
use Rattle.accounts.specs.Accounts.{with_kind, with_edition}
use Rattle.layout.specs.Blocks.{render}
use Rattle.rounding.specs.Rounding.{unit, table, object_length}
use Rattle.model.specs.Answers.{Values, refused, given, amount_of}
use Rattle.model.specs.Objects.{blocks_of}
use Rattle.model.specs.Space.{changed, vacates, vacate}
use Rattle.model.specs.Holds.{take_record}
use Rattle.model.specs.Calls.{Outcome, unchanged, leaves, state_of, new_object, allocated}
use Rattle.model.specs.Step.{step}
use Rattle.model.specs.declared.Handle.{Handle}
use Rattle.model.specs.declared.Call.{Call}
use Rattle.model.specs.declared.Call.TheVariants.{Allocate, AllocateArray, Claim, Release, FreeAll, Reallocate}
use Rattle.model.specs.declared.Call.TheVariants.{Lend, Remaining, CanRelease, ListBlock, ClearPermissions, Sweep}

-- what is done at five kinds of calls, and what at any other
module _ (new : ℕ → ℕ → Outcome) (more less : ℕ → Handle → Outcome) (asked : ℕ → Outcome) (swept other : Outcome) where
  abbrev pub at_call : Call → Outcome
  at_call (Allocate q n) = new q n
  at_call (AllocateArray q count size) = other
  at_call (Claim q h) = more q h
  at_call (Release q h) = less q h
  at_call (FreeAll q) = other
  at_call Sweep = swept
  at_call (Reallocate q h n) = other
  at_call (Lend h) = other
  at_call (Remaining q) = asked q
  at_call (CanRelease q h) = other
  at_call (ListBlock at) = other
  at_call (ClearPermissions q n) = other

-- what is done at one kind of call, and what at any other
unfoldable pub at_allocate : (ℕ → ℕ → Outcome) → Call → Outcome → Outcome
at_allocate f c t = at_call f (λ q h. t) (λ q h. t) (λ q. t) t t c

unfoldable pub at_claim : (ℕ → Handle → Outcome) → Call → Outcome → Outcome
at_claim f c t = at_call (λ q n. t) f (λ q h. t) (λ q. t) t t c

unfoldable pub at_release : (ℕ → Handle → Outcome) → Call → Outcome → Outcome
at_release f c t = at_call (λ q n. t) (λ q h. t) f (λ q. t) t t c

unfoldable pub at_remaining : (ℕ → Outcome) → Call → Outcome → Outcome
at_remaining f c t = at_call (λ q n. t) (λ q h. t) (λ q h. t) f t t c

unfoldable pub at_sweep : Outcome → Call → Outcome → Outcome
at_sweep u c t = at_call (λ q n. t) (λ q h. t) (λ q h. t) (λ q. t) u t c

-- another heap, other accounts, or other values than the rules have
abbrev pub with_heap : List ℕ → Outcome → Outcome
with_heap s t = record { heap = s; accounts = t.accounts; values = t.values }

abbrev pub with_accounts : Accounts → Outcome → Outcome
with_accounts k t = record { heap = t.heap; accounts = k; values = t.values }

abbrev pub with_values : Values → Outcome → Outcome
with_values v t = record { heap = t.heap; accounts = t.accounts; values = v }

-- every call is refused, for want of space
unfoldable pub refuses_all : Call → List ℕ → Accounts → Outcome
refuses_all c s k = unchanged s k (refused 11)

-- every allocate answers the same handle
unfoldable pub fixed_handle : Call → List ℕ → Accounts → Outcome
fixed_handle c s k =
    let t = step unit c s k in
    at_allocate (λ q n. with_values (given (record { base = 8; length = 8; serial = 1 })) t) c t

-- a release answers as it should and does nothing
unfoldable pub idle_release : Call → List ℕ → Accounts → Outcome
idle_release c s k =
    let t = step unit c s k in
    at_release (λ q h. unchanged s k t.values) c t

-- only the first call is made; the others answer as they should and do nothing
unfoldable pub pretends : Call → List ℕ → Accounts → Outcome
pretends c s k =
    let t = step unit c s k in
    cond (eqb k.last_serial 0) t (unchanged s k t.values)

-- remaining answers one too many
unfoldable pub invented_remainder : Call → List ℕ → Accounts → Outcome
invented_remainder c s k =
    let t = step unit c s k in
    at_remaining (λ q. unchanged s k (amount_of (remaining q k + 1))) c t

-- release gives back one too many
unfoldable pub invented_refund : Call → List ℕ → Accounts → Outcome
invented_refund c s k =
    let t = step unit c s k in
    at_release (λ q h. record { heap = t.heap; accounts = refund q 1 t.accounts; values = amount_of (t.values.amount + 1) }) c t

-- it frees an object that is still held: the first release drops all of the quota's holds, and answers as a release does
unfoldable pub frees_early : Call → List ℕ → Accounts → Outcome
frees_early c s k =
    let t = step unit c s k in
    at_release (λ q h. with_values t.values (step unit (FreeAll q) s k)) c t

-- a heap of the second kind that frees a block at once, as a plain one does
unfoldable pub frees_at_once : Call → List ℕ → Accounts → Outcome
frees_at_once c s k =
    let t = step unit c s (with_kind 0 k) in
    with_accounts (with_kind k.kind t.accounts) t

-- a sweep answers as it should and does nothing
unfoldable pub never_sweeps : Call → List ℕ → Accounts → Outcome
never_sweeps c s k =
    let t = step unit c s k in
    at_sweep (unchanged s k t.values) c t

-- a heap of edition 2 that goes by the table of edition 1
unfoldable pub rounds_by_first : Call → List ℕ → Accounts → Outcome
rounds_by_first c s k = step unit c s k

-- a heap that any call makes one of edition 1
unfoldable pub forgets_edition : Call → List ℕ → Accounts → Outcome
forgets_edition c s k =
    let t = step (table k.edition) c s k in
    with_accounts (with_edition 0 t.accounts) t

-- a charge is taken from a remainder that is smaller: it wraps round 2^32, and the request is granted
unfoldable pub wrapped : List ℕ → Accounts → ℕ → ℕ → Outcome
wrapped s k q n =
    let o = new_object unit s k n in
    leaves (allocated q o (state_of s (change_quota q (with_remainder (remaining q k + 2 ^ 32)) k))) (given o)

unfoldable pub wraps : Call → List ℕ → Accounts → Outcome
wraps c s k =
    let t = step unit c s k in
    at_allocate (λ q n. cond (eqb t.values.refusal 8) (wrapped s k q n) t) c t

-- a claim answers as it should and is not counted
unfoldable pub loses_a_claim : Call → List ℕ → Accounts → Outcome
loses_a_claim c s k =
    let t = step unit c s k in
    at_claim (λ q h. unchanged s k t.values) c t

-- a claim takes a record of its own where the quota has one that could count on
unfoldable pub takes_two_records : Call → List ℕ → Accounts → Outcome
takes_two_records c s k =
    let t = step unit c s k in
    let two : ℕ → Handle → Accounts = λ q h. with_holds (take_record h.serial q k.holds) t.accounts in
    at_claim (λ q h. cond (eqb t.values.refusal 0) (with_accounts (two q h) t) t) c t

-- a release drops the hold and pays back, and leaves the block as it was
unfoldable pub leaks : Call → List ℕ → Accounts → Outcome
leaks c s k =
    let t = step unit c s k in
    at_release (λ q h. with_heap s t) c t

-- a release frees the object and pays back, and leaves the record
unfoldable pub keeps_the_record : Call → List ℕ → Accounts → Outcome
keeps_the_record c s k =
    let t = step unit c s k in
    at_release (λ q h. with_accounts (with_holds k.holds t.accounts) t) c t

-- a release frees the block and joins it with none beside it
unfoldable pub never_joins : Call → List ℕ → Accounts → Outcome
never_joins c s k =
    let t = step unit c s k in
    let bs = changed (vacates t.accounts.holds) (vacate k.kind) (blocks_of s) in
    at_release (λ q h. with_heap (render bs) t) c t

-- a release adds what it gives back to the grant too
unfoldable pub raise_grant : ℕ → ℕ → Accounts → Accounts
raise_grant q n k =
    let x = quota_at q k in
    let y : Quota = record { grant = x.grant + n; remainder = x.remainder; permissions = x.permissions } in
    with_quotas (set k.quotas q y) k

unfoldable pub raises_the_grant : Call → List ℕ → Accounts → Outcome
raises_the_grant c s k =
    let t = step unit c s k in
    at_release (λ q h. with_accounts (raise_grant q t.values.amount t.accounts) t) c t

-- every new object gets serial 1
unfoldable pub with_serial_1 : List ℕ → Accounts → ℕ → ℕ → Outcome
with_serial_1 s k q n =
    let x = new_object unit s k n in
    let o : Handle = record { base = x.base; length = x.length; serial = 1 } in
    leaves (allocated q o (state_of s k)) (given o)

unfoldable pub repeats_the_serial : Call → List ℕ → Accounts → Outcome
repeats_the_serial c s k =
    let t = step unit c s k in
    at_allocate (λ q n. cond (eqb t.values.refusal 0) (with_serial_1 s k q n) t) c t

-- allocate answers where the block starts, as if the object did
unfoldable pub answers_the_block : Call → List ℕ → Accounts → Outcome
answers_the_block c s k =
    let t = step unit c s k in
    let o = t.values.handle in
    let block = given (record { base = o.base - 8; length = o.length; serial = o.serial }) in
    at_allocate (λ q n. cond (eqb t.values.refusal 0) (with_values block t) t) c t

-- what finds no space is granted at the first base
unfoldable pub runs_over : Call → List ℕ → Accounts → Outcome
runs_over c s k =
    let t = step unit c s k in
    let over : ℕ → Handle = λ n. record { base = 8; length = object_length unit n; serial = k.last_serial + 1 } in
    at_allocate (λ q n. cond (eqb t.values.refusal 11) (unchanged s k (given (over n))) t) c t

-- any call leaves no byte of the heap
unfoldable pub loses_the_heap : Call → List ℕ → Accounts → Outcome
loses_the_heap c s k = with_heap [] (step unit c s k)

-- a heap that any call makes a plain one
unfoldable pub forgets_kind : Call → List ℕ → Accounts → Outcome
forgets_kind c s k =
    let t = step unit c s k in
    with_accounts (with_kind 0 t.accounts) t

-- what names no object is refused by another number
unfoldable pub misnumbers : Call → List ℕ → Accounts → Outcome
misnumbers c s k =
    let t = step unit c s k in
    cond (eqb t.values.refusal 5) (unchanged s k (refused 6)) t
