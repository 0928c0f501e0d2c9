-- What a call answers: for each answer type, the refusal's number and the values of each of its cases (rules 7.1, 7.6 and 7.7), and the answer of a call
-- that has given values.
use Rattle.std.specs.Prelude.{ℕ, ◌-◌, List, [], ◌∷◌, cond, get_or, eqb, Option, Some, None, Result, Ok, Err}
use Rattle.model.specs.declared.Handle.{Handle}
use Rattle.model.specs.declared.Range.{Range}
use Rattle.model.specs.declared.ListedBlock.{ListedBlock}
use Rattle.model.specs.declared.Refusal.{Refusal}
use Rattle.model.specs.declared.Refusal.TheVariants.{HeapLength, Inconsistent, QuotaNumber, ObjectLength, NoSuchObject, NotHeld, CountLimit}
use Rattle.model.specs.declared.Refusal.TheVariants.{QuotaExceeded, HoldsExhausted, SerialsExhausted, NoSpace, NotPermitted}
use Rattle.model.specs.declared.Answer.{Answer}
use Rattle.model.specs.declared.Answer.TheVariants.{Verdict as OfVerdict, Handle as OfHandle, Amount as OfAmount, Range as OfRange, Block as OfBlock}
use Rattle.model.specs.declared.Call.{Call}
use Rattle.model.specs.declared.Call.TheVariants.{Allocate, AllocateArray, Claim, Release, FreeAll, Reallocate, Lend, Remaining, CanRelease, ListBlock}
use Rattle.model.specs.declared.Call.TheVariants.{ClearPermissions, Sweep}

-- rule 7.1
abbrev pub refusal_number : Refusal → ℕ
refusal_number HeapLength = 1
refusal_number Inconsistent = 2
refusal_number QuotaNumber = 3
refusal_number ObjectLength = 4
refusal_number NoSuchObject = 5
refusal_number NotHeld = 6
refusal_number CountLimit = 7
refusal_number QuotaExceeded = 8
refusal_number HoldsExhausted = 9
refusal_number SerialsExhausted = 10
refusal_number NoSpace = 11
refusal_number NotPermitted = 12

-- the values of an answer: the refusal's number, 0 where the call is accepted, and what it answers; what a call does not answer is zero or none
pub record Values : Type 0 where
  pub refusal : ℕ
  pub handle : Handle
  pub amount : ℕ
  pub range : Range
  pub block : Option ListedBlock

abbrev pub zero_handle : Handle
zero_handle = record { base = 0; length = 0; serial = 0 }

abbrev pub zero_range : Range
zero_range = record { start = 0; end = 0 }

-- rule 7.6: a refused call hands back zeros and an empty range
abbrev pub refused : ℕ → Values
refused n = record { refusal = n; handle = zero_handle; amount = 0; range = zero_range; block = None }

-- rule 7.7: an accepted call that gives nothing else
abbrev pub accepted : Values
accepted = record { refusal = 0; handle = zero_handle; amount = 0; range = zero_range; block = None }

abbrev pub given : Handle → Values
given h = record { refusal = 0; handle = h; amount = 0; range = zero_range; block = None }

abbrev pub amount_of : ℕ → Values
amount_of n = record { refusal = 0; handle = zero_handle; amount = n; range = zero_range; block = None }

abbrev pub lent : Range → Values
lent r = record { refusal = 0; handle = zero_handle; amount = 0; range = r; block = None }

abbrev pub listed : Option ListedBlock → Values
listed b = record { refusal = 0; handle = zero_handle; amount = 0; range = zero_range; block = b }

-- each answer type, case by case
unfoldable pub verdict_values : Result (Unit {0}) Refusal → Values
verdict_values (Ok tt) = accepted
verdict_values (Err r) = refused (refusal_number r)

unfoldable pub handle_values : Result Handle Refusal → Values
handle_values (Ok h) = given h
handle_values (Err r) = refused (refusal_number r)

unfoldable pub amount_values : Result ℕ Refusal → Values
amount_values (Ok n) = amount_of n
amount_values (Err r) = refused (refusal_number r)

unfoldable pub range_values : Result Range Refusal → Values
range_values (Ok r) = lent r
range_values (Err r) = refused (refusal_number r)

unfoldable pub block_values : Result (Option ListedBlock) Refusal → Values
block_values (Ok (Some b)) = listed (Some b)
block_values (Ok None) = listed None
block_values (Err r) = refused (refusal_number r)

-- any answer; answers of two types can have the same values, and the call tells which one it is (`answer_of`)
unfoldable pub answer_values : Answer → Values
answer_values (OfVerdict v) = verdict_values v
answer_values (OfHandle a) = handle_values a
answer_values (OfAmount a) = amount_values a
answer_values (OfRange a) = range_values a
answer_values (OfBlock a) = block_values a

-- the refusals in the table's order, and the one with a number; a number that no refusal has stands for the first
abbrev pub refusals : List Refusal
refusals =
    HeapLength ∷ Inconsistent ∷ QuotaNumber ∷ ObjectLength ∷ NoSuchObject ∷ NotHeld ∷ CountLimit ∷ QuotaExceeded
    ∷ HoldsExhausted ∷ SerialsExhausted ∷ NoSpace ∷ NotPermitted ∷ []

abbrev pub refusal_at : ℕ → Refusal
refusal_at n = get_or refusals (n - 1) HeapLength

-- an answer from its refusal's number: what is given where there is none, or else the refusal
abbrev pub answer_from : {A : Type 0} → A → (Refusal → A) → ℕ → A
answer_from a refuse n = cond (eqb n 0) a (refuse (refusal_at n))

-- the answer with these values, in each answer type
abbrev pub verdict_from : Values → Result (Unit {0}) Refusal
verdict_from v = answer_from (Ok tt) Err v.refusal

abbrev pub handle_from : Values → Result Handle Refusal
handle_from v = answer_from (Ok v.handle) Err v.refusal

abbrev pub amount_from : Values → Result ℕ Refusal
amount_from v = answer_from (Ok v.amount) Err v.refusal

abbrev pub range_from : Values → Result Range Refusal
range_from v = answer_from (Ok v.range) Err v.refusal

abbrev pub listed_from : Option ListedBlock → Result (Option ListedBlock) Refusal
listed_from None = Ok None
listed_from (Some b) = Ok (Some b)

abbrev pub block_from : Values → Result (Option ListedBlock) Refusal
block_from v = answer_from (listed_from v.block) Err v.refusal

-- the answer of a call with these values: each call has one answer type
unfoldable pub answer_of : Call → Values → Answer
answer_of (Allocate q n) v = OfHandle (handle_from v)
answer_of (AllocateArray q count size) v = OfHandle (handle_from v)
answer_of (Claim q h) v = OfAmount (amount_from v)
answer_of (Release q h) v = OfAmount (amount_from v)
answer_of (FreeAll q) v = OfAmount (amount_from v)
answer_of Sweep v = OfAmount (amount_from v)
answer_of (Reallocate q h n) v = OfHandle (handle_from v)
answer_of (Lend h) v = OfRange (range_from v)
answer_of (Remaining q) v = OfAmount (amount_from v)
answer_of (CanRelease q h) v = OfVerdict (verdict_from v)
answer_of (ListBlock at) v = OfBlock (block_from v)
answer_of (ClearPermissions q n) v = OfAmount (amount_from v)
