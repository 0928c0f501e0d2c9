-- Refusals (rules, section 7): each line of rule 7.1; the table of section 8, which says which lines a call has; and a call's
-- refusal over both.
use Rattle.std.specs.Prelude.{ℕ, List, [], ◌∷◌, map, Bool, true, false, not, cond, ◌&&◌, ◌||◌, length, leb, ltb, eqb, Option}
use Rattle.accounts.specs.declared.Accounts.{Accounts}
use Rattle.accounts.specs.Accounts.{QUOTAS, ALLOCATE, CLAIM, FREE_ALL, used, remaining, permits}
use Rattle.rounding.specs.Rounding.{object_length, alignment}
use Rattle.lists.specs.Lists.{all, is_none}
use Rattle.model.specs.Objects.{blocks_of, lookup, lookup_whole, found}
use Rattle.model.specs.Consistent.{allowed, consistent, greatest_serial, charge_of, has_record}
use Rattle.model.specs.Space.{lowest_base}
use Rattle.model.specs.Answers.{refusal_number, zero_handle}
use Rattle.model.specs.Holds.{count_of}
use Rattle.model.specs.declared.Handle.{Handle}
use Rattle.model.specs.declared.Refusal.{Refusal}
use Rattle.model.specs.declared.Refusal.TheVariants.{HeapLength, Inconsistent, QuotaNumber, ObjectLength, NoSuchObject}
use Rattle.model.specs.declared.Refusal.TheVariants.{NotHeld, CountLimit, QuotaExceeded, HoldsExhausted}
use Rattle.model.specs.declared.Refusal.TheVariants.{SerialsExhausted, NoSpace, NotPermitted}
use Rattle.model.specs.declared.Row.{Row}
use Rattle.model.specs.declared.Row.TheVariants.{Check, Quota, FreeAll, Object, Held, Claim, Room, Exchange}

-- a line of the table: its number, and whether it holds
pub data Line : Type 0 where
  ◌when◌ : ℕ → Bool → Line

infix 5 ◌when◌
abbrev pub line_number : Line → ℕ
line_number (n when t) = n

abbrev pub line_holds : Line → Bool
line_holds (n when t) = t

-- rule 7.2: the number of the first line that holds, 0 where none does
unfoldable pub first_refusal : List Line → ℕ
first_refusal [] = 0
first_refusal ((n when true) ∷ ls) = n
first_refusal ((n when false) ∷ ls) = first_refusal ls

-- the greatest length of a request, and the greatest count of a record
abbrev pub greatest_length : ℕ
greatest_length = 32760

abbrev pub greatest_count : ℕ
greatest_count = 255

-- line 1: a heap of this length is not allowed (rule 2.1)
unfoldable pub line_1 : List ℕ → Line
line_1 s = 1 when not (allowed (length s))

-- line 2: the state is not consistent (rules, section 5)
unfoldable pub line_2 : (ℕ → ℕ) → List ℕ → Accounts → Line
line_2 unit s k = 2 when not (consistent unit s k)

-- line 3: there is no such quota
unfoldable pub line_3 : ℕ → Line
line_3 q = 3 when leb QUOTAS q

-- line 4: nothing is asked for, or more than any request may
unfoldable pub line_4 : ℕ → Line
line_4 n = 4 when eqb n 0 || ltb greatest_length n

-- line 5: the lookup finds no object
unfoldable pub line_5 : Option Handle → Line
line_5 o = 5 when is_none o

-- line 6: the quota does not hold the object
unfoldable pub line_6 : Accounts → ℕ → Handle → Line
line_6 k q o = 6 when not (has_record k.holds q o.serial)

-- line 7: the record's count is the greatest
unfoldable pub line_7 : Accounts → ℕ → Handle → Line
line_7 k q o = 7 when eqb (count_of o.serial q k.holds) greatest_count

-- line 8: the quota has less left than the charge
unfoldable pub line_8 : Accounts → ℕ → ℕ → Line
line_8 k q n = 8 when ltb (remaining q k) (charge_of n)

-- line 9: all records are used
unfoldable pub line_9 : Accounts → Line
line_9 k = 9 when all used k.holds

-- line 10: there is no next serial
unfoldable pub line_10 : Accounts → Line
line_10 k = 10 when eqb k.last_serial greatest_serial

-- rule 8.6: the base of a new object for a request of n bytes
unfoldable pub base_for : (ℕ → ℕ) → List ℕ → ℕ → Option ℕ
base_for unit s n = lowest_base (length s) (blocks_of s) (alignment unit n) (object_length unit n)

-- line 11: the request has no base
unfoldable pub line_11 : (ℕ → ℕ) → List ℕ → ℕ → Line
line_11 unit s n = 11 when is_none (base_for unit s n)

-- line 12, rule 15.6: the quota lacks the permission with this bit
unfoldable pub line_12 : ℕ → Accounts → ℕ → Line
line_12 bit k q = 12 when not (permits bit q k)

-- rule 7.3: a line that is given only where a test holds
unfoldable pub only_if : Bool → Line → Line
only_if c (n when t) = n when c && t

-- a quota without a record for the object pays for its first hold
unfoldable pub claims_first : Accounts → ℕ → Handle → Bool
claims_first k q o = not (has_record k.holds q o.serial)

-- The table at the head of section 8: the lines of each row, in the order in which they are tested. Open, which comes
-- before any state, has line 1 alone.
abbrev pub lines_of : Row → List Refusal
lines_of Check = HeapLength ∷ Inconsistent ∷ []
lines_of Quota = HeapLength ∷ Inconsistent ∷ QuotaNumber ∷ []
lines_of FreeAll = HeapLength ∷ Inconsistent ∷ QuotaNumber ∷ NotPermitted ∷ []
lines_of Object = HeapLength ∷ Inconsistent ∷ NoSuchObject ∷ []
lines_of Held = HeapLength ∷ Inconsistent ∷ QuotaNumber ∷ NoSuchObject ∷ NotHeld ∷ []
lines_of Claim =
    HeapLength ∷ Inconsistent ∷ QuotaNumber ∷ NotPermitted ∷ NoSuchObject ∷ CountLimit ∷ QuotaExceeded ∷ HoldsExhausted ∷ []
lines_of Room =
    HeapLength ∷ Inconsistent ∷ QuotaNumber ∷ NotPermitted ∷ ObjectLength ∷ QuotaExceeded ∷ HoldsExhausted
    ∷ SerialsExhausted ∷ NoSpace ∷ []
lines_of Exchange =
    HeapLength ∷ Inconsistent ∷ QuotaNumber ∷ NotPermitted ∷ ObjectLength ∷ NoSuchObject ∷ NotHeld ∷ QuotaExceeded
    ∷ HoldsExhausted ∷ SerialsExhausted ∷ NoSpace ∷ []

-- the row has this line
abbrev pub is_among : ℕ → List Refusal → Bool
is_among n [] = false
is_among n (r ∷ rs) = eqb n (refusal_number r) || is_among n rs

abbrev pub has : Refusal → Row → Bool
has r row = is_among (refusal_number r) (lines_of row)

unfoldable pub open_lines : List ℕ → List Line
open_lines s = line_1 s ∷ []

-- what the lines of a call are tested for; a call that has no quota, handle or length has zeros
pub record Arguments : Type 0 where
  pub quota : ℕ
  pub handle : Handle
  pub length : ℕ

abbrev pub arguments : ℕ → Handle → ℕ → Arguments
arguments q h n = record { quota = q; handle = h; length = n }

-- rule 15.5: the bit of the permission that a row needs, 0 where it needs none
abbrev pub permission_of : Row → ℕ
permission_of Check = 0
permission_of Quota = 0
permission_of FreeAll = FREE_ALL
permission_of Object = 0
permission_of Held = 0
permission_of Claim = CLAIM
permission_of Room = ALLOCATE
permission_of Exchange = ALLOCATE

-- rule 8.23: the handle has to be the whole of the object
abbrev pub is_whole : Row → Bool
is_whole Check = false
is_whole Quota = false
is_whole FreeAll = false
is_whole Object = false
is_whole Held = false
is_whole Claim = false
is_whole Room = false
is_whole Exchange = true

-- the object that a row's handle names
abbrev pub named : Row → Handle → List ℕ → Option Handle
named row h s = cond (is_whole row) (lookup_whole h s) (lookup h s)

-- the row of a claim is the one with line 7
abbrev pub claims : Row → Bool
claims row = has CountLimit row

-- rule 7.3: a claim has lines 8 and 9 for a first hold alone
abbrev pub if_paid : Row → Bool → Line → Line
if_paid row first l = cond (claims row) (only_if first l) l

module _ (unit : ℕ → ℕ) where
  -- the length that is paid for: that of the object that is claimed, or a new one's
  abbrev pub paid_length : Row → Arguments → List ℕ → ℕ
  paid_length row a s = cond (claims row) (found (lookup a.handle s)).length (object_length unit a.length)

  -- one test a line
  abbrev pub line_for : Refusal → Row → Arguments → List ℕ → Accounts → Line
  line_for HeapLength row a s k = line_1 s
  line_for Inconsistent row a s k = line_2 unit s k
  line_for QuotaNumber row a s k = line_3 a.quota
  line_for ObjectLength row a s k = line_4 a.length
  line_for NoSuchObject row a s k = line_5 (named row a.handle s)
  line_for NotHeld row a s k = line_6 k a.quota (found (named row a.handle s))
  line_for CountLimit row a s k = line_7 k a.quota (found (named row a.handle s))
  line_for QuotaExceeded row a s k =
      if_paid row (claims_first k a.quota (found (named row a.handle s))) (line_8 k a.quota (paid_length row a s))
  line_for HoldsExhausted row a s k = if_paid row (claims_first k a.quota (found (named row a.handle s))) (line_9 k)
  line_for SerialsExhausted row a s k = line_10 k
  line_for NoSpace row a s k = line_11 unit s a.length
  line_for NotPermitted row a s k = line_12 (permission_of row) k a.quota

  -- the lines of a row for these arguments, and the refusal of its call (rule 7.2)
  unfoldable pub row_lines : Row → Arguments → List ℕ → Accounts → List Line
  row_lines row a s k = map (λ r. line_for r row a s k) (lines_of row)

  abbrev pub refusal_of : Row → Arguments → List ℕ → Accounts → ℕ
  refusal_of row a s k = first_refusal (row_lines row a s k)

  -- the rows by their arguments
  abbrev pub check_lines : List ℕ → Accounts → List Line
  check_lines s k = row_lines Check (arguments 0 zero_handle 0) s k

  abbrev pub quota_lines : List ℕ → Accounts → ℕ → List Line
  quota_lines s k q = row_lines Quota (arguments q zero_handle 0) s k

  abbrev pub free_all_lines : List ℕ → Accounts → ℕ → List Line
  free_all_lines s k q = row_lines FreeAll (arguments q zero_handle 0) s k

  abbrev pub lend_lines : List ℕ → Accounts → Handle → List Line
  lend_lines s k h = row_lines Object (arguments 0 h 0) s k

  abbrev pub release_lines : List ℕ → Accounts → ℕ → Handle → List Line
  release_lines s k q h = row_lines Held (arguments q h 0) s k

  abbrev pub claim_lines : List ℕ → Accounts → ℕ → Handle → List Line
  claim_lines s k q h = row_lines Claim (arguments q h 0) s k

  abbrev pub allocate_lines : List ℕ → Accounts → ℕ → ℕ → List Line
  allocate_lines s k q n = row_lines Room (arguments q zero_handle n) s k

  abbrev pub reallocate_lines : List ℕ → Accounts → ℕ → Handle → ℕ → List Line
  reallocate_lines s k q h n = row_lines Exchange (arguments q h n) s k
