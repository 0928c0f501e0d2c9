-- The answers' values tell every two answers apart: the twelve refusals have the numbers 1 to 12, one each, and an answer that is no refusal
-- has 0 there and what it gives beside it.
-- A number gives its refusal back, which shows that no two have the same; of an answer, the refusal's number and the value give it back.
-- And `answer_of` loses nothing: the answer that it gives to what `step` gives has step's values, so two outcomes of a call with different values
-- have different answers. Every line of a call has the number of a refusal, which is computed; the rest is by cases of the calls.
use Rattle.model.specs.declared.Range.{Range}
use Rattle.model.specs.declared.Handle.{Handle}
use Rattle.std.specs.Prelude.{Option, Some, None, Result, Ok, Err}
use mathlib.Core.Path.{◌≡◌, refl, ap, sym, ◌∙◌}
use Prim.Native.Nat.{ℕ, zero, suc, ◌≤◌}
use native.Mathlib.Omega.{arith}
use mathlib.Core.List.{List, [], ◌∷◌, map}
use mathlib.Core.Bool.{Bool, true, false}
use lib.Dec.{eqb}
use borrow.Author.Tests.{ne_eqb, eqb-true}
use Rattle.accounts.specs.declared.Accounts.{Accounts}
use Rattle.accounts.specs.Accounts.{clear_permissions, left_permissions}
use Rattle.lists.specs.Lists.{all}
use Rattle.model.specs.Refusals.{Line, ◌when◌, line_number, first_refusal}
use Rattle.model.specs.Calls.{Outcome, unchanged, unless}
use Rattle.model.specs.Calls.{allocate, allocate_array, claim, release, free_all, sweep, reallocate, lend, remaining_of, can_release, list_block, clear}
use Rattle.model.specs.Step.{Answered, step, performed}
use Rattle.model.specs.Answers.{Values, refusal_number, zero_handle, zero_range, refused, accepted, listed, amount_of}
use Rattle.model.specs.Answers.{verdict_values, handle_values, amount_values, range_values, block_values, answer_values}
use Rattle.model.specs.Answers.{refusals, refusal_at, answer_from, verdict_from, handle_from, amount_from, range_from, block_from, answer_of}
use Rattle.model.proofs.Rows
use Rattle.lists.proofs.Bools.{and_left, and_right}
use Rattle.model.specs.Rows.{call_lines}
use Rattle.model.proofs.Refusals.{tables}
use Rattle.model.specs.declared.ListedBlock.{ListedBlock}
use Rattle.model.specs.declared.Refusal.{Refusal}
use Rattle.model.specs.declared.Refusal.TheVariants.{HeapLength, Inconsistent, QuotaNumber, ObjectLength, NoSuchObject, NotHeld, CountLimit}
use Rattle.model.specs.declared.Refusal.TheVariants.{QuotaExceeded, HoldsExhausted, SerialsExhausted, NoSpace, NotPermitted}
use Rattle.model.specs.declared.Handle.{Handle as Object}
use Rattle.model.specs.declared.Answer.{Answer}
use Rattle.model.specs.declared.Answer.TheVariants.{Verdict as OfVerdict, Handle as OfHandle, Amount as OfAmount, Range as OfRange, Block as OfBlock}
use Rattle.model.specs.declared.Call.{Call}
use Rattle.model.specs.declared.Call.TheVariants.{Allocate, AllocateArray, Claim, Release, FreeAll, Reallocate, Lend, Remaining, CanRelease, ListBlock}
use Rattle.model.specs.declared.Call.TheVariants.{ClearPermissions, Sweep}

-- every number from 1 to 12 is a refusal's
pub refusal_numbers : map refusal_number refusals ≡ 1 ∷ 2 ∷ 3 ∷ 4 ∷ 5 ∷ 6 ∷ 7 ∷ 8 ∷ 9 ∷ 10 ∷ 11 ∷ 12 ∷ []
refusal_numbers = refl

-- and a refusal's number is one of those, and the number of no other
pub refusal_number_is : (r : Refusal) → (refusal_at (refusal_number r) ≡ r) × (1 ≤ refusal_number r) × (refusal_number r ≤ 12)
refusal_number_is HeapLength = (refl, omega arith, omega arith)
refusal_number_is Inconsistent = (refl, omega arith, omega arith)
refusal_number_is QuotaNumber = (refl, omega arith, omega arith)
refusal_number_is ObjectLength = (refl, omega arith, omega arith)
refusal_number_is NoSuchObject = (refl, omega arith, omega arith)
refusal_number_is NotHeld = (refl, omega arith, omega arith)
refusal_number_is CountLimit = (refl, omega arith, omega arith)
refusal_number_is QuotaExceeded = (refl, omega arith, omega arith)
refusal_number_is HoldsExhausted = (refl, omega arith, omega arith)
refusal_number_is SerialsExhausted = (refl, omega arith, omega arith)
refusal_number_is NoSpace = (refl, omega arith, omega arith)
refusal_number_is NotPermitted = (refl, omega arith, omega arith)

-- what a function undoes tells its arguments apart
told_apart : {A B : Type 0} (f : A → B) (back : B → A) → ((a : A) → back (f a) ≡ a) → (a c : A) → f a ≡ f c → a ≡ c
told_apart f back undo a c e = sym (undo a) ∙ ap back e ∙ undo c

pub refusal_number_injective : (r t : Refusal) → refusal_number r ≡ refusal_number t → r ≡ t
refusal_number_injective = told_apart refusal_number refusal_at (λ r. (refusal_number_is r).0)

-- a refusal's number gives the refusal
pub answer_refused : {A : Type 0} (a : A) (refuse : Refusal → A) (r : Refusal) → answer_from a refuse (refusal_number r) ≡ refuse r
answer_refused a refuse r =
    let n = refusal_number_is r in
    let e : eqb (refusal_number r) 0 ≡ false = ne_eqb (refusal_number r) 0 (λ z. omega (arith, z, n.1)) in
    rw (e, n.0)

-- the values of an answer give it back
pub verdict_back : (a : Result (Unit {0}) Refusal) → verdict_from (verdict_values a) ≡ a
unfolding verdict_values
verdict_back (Ok tt) = refl
verdict_back (Err r) = answer_refused (Ok tt) Err r

pub handle_back : (a : Result Handle Refusal) → handle_from (handle_values a) ≡ a
unfolding handle_values
handle_back (Ok h) = refl
handle_back (Err r) = answer_refused _ Err r

pub amount_back : (a : Result ℕ Refusal) → amount_from (amount_values a) ≡ a
unfolding amount_values
amount_back (Ok n) = refl
amount_back (Err r) = answer_refused (Ok 0) Err r

pub range_back : (a : Result Range Refusal) → range_from (range_values a) ≡ a
unfolding range_values
range_back (Ok r) = refl
range_back (Err r) = answer_refused _ Err r

pub block_back : (a : Result (Option ListedBlock) Refusal) → block_from (block_values a) ≡ a
unfolding block_values
block_back (Ok (Some b)) = refl
block_back (Ok None) = refl
block_back (Err r) = answer_refused (Ok None) Err r

-- so no two answers of a type have the same values
pub verdict_values_injective : (a c : Result (Unit {0}) Refusal) → verdict_values a ≡ verdict_values c → a ≡ c
verdict_values_injective = told_apart verdict_values verdict_from verdict_back

pub handle_values_injective : (a c : Result Handle Refusal) → handle_values a ≡ handle_values c → a ≡ c
handle_values_injective = told_apart handle_values handle_from handle_back

pub amount_values_injective : (a c : Result ℕ Refusal) → amount_values a ≡ amount_values c → a ≡ c
amount_values_injective = told_apart amount_values amount_from amount_back

pub range_values_injective : (a c : Result Range Refusal) → range_values a ≡ range_values c → a ≡ c
range_values_injective = told_apart range_values range_from range_back

pub block_values_injective : (a c : Result (Option ListedBlock) Refusal) → block_values a ≡ block_values c → a ≡ c
block_values_injective = told_apart block_values block_from block_back

-- the answer of each call to the values of an acceptance that gives nothing: in the call's own answer type; and of some refusals
pub answer_rows : (answer_of (Allocate 1 8) accepted ≡ OfHandle (Ok zero_handle))
    × (answer_of (AllocateArray 1 8 1) accepted ≡ OfHandle (Ok zero_handle))
    × (answer_of (Claim 1 zero_handle) accepted ≡ OfAmount (Ok 0))
    × (answer_of (Release 1 zero_handle) accepted ≡ OfAmount (Ok 0))
    × (answer_of (FreeAll 1) accepted ≡ OfAmount (Ok 0))
    × (answer_of Sweep accepted ≡ OfAmount (Ok 0))
    × (answer_of (Reallocate 1 zero_handle 8) accepted ≡ OfHandle (Ok zero_handle))
    × (answer_of (Lend zero_handle) accepted ≡ OfRange (Ok (record { start = 0; end = 0 })))
    × (answer_of (Remaining 1) accepted ≡ OfAmount (Ok 0))
    × (answer_of (CanRelease 1 zero_handle) accepted ≡ OfVerdict (Ok tt))
    × (answer_of (ListBlock 0) accepted ≡ OfBlock (Ok None))
    × (answer_of (ClearPermissions 1 8) accepted ≡ OfAmount (Ok 0))
    × (answer_of (Lend zero_handle) (refused 5) ≡ OfRange (Err NoSuchObject))
    × (answer_of (CanRelease 1 zero_handle) (refused 6) ≡ OfVerdict (Err NotHeld))
    × (answer_of (Allocate 1 8) (refused 11) ≡ OfHandle (Err NoSpace))
    × (answer_of (FreeAll 1) (refused 12) ≡ OfAmount (Err NotPermitted))
unfolding answer_of
answer_rows = (refl, refl, refl, refl, refl, refl, refl, refl, refl, refl, refl, refl, refl, refl, refl, refl)

-- a number of the table: the number of the refusal that it stands for
abbrev pub is_refusal : ℕ → Bool
is_refusal n = eqb (refusal_number (refusal_at n)) n

-- the refusal of lines that have such numbers is none, or such a number
first_is_refusal : (ls : List Line) → all is_refusal (map line_number ls) ≡ true → (m : ℕ) → first_refusal ls ≡ suc m → is_refusal (suc m) ≡ true
unfolding first_refusal all
first_is_refusal [] t m e = absurd (omega arith)
first_is_refusal ((n when true) ∷ ls) t m e = rw e at (and_left (is_refusal n) (all is_refusal (map line_number ls)) t)
first_is_refusal ((n when false) ∷ ls) t m e = first_is_refusal ls (and_right (is_refusal n) (all is_refusal (map line_number ls)) t) m e

-- every line of a call has the number of a refusal
pub lines_are_refusals : (unit : ℕ → ℕ) (c : Call) (s : List ℕ) (k : Accounts) → all is_refusal (map line_number (call_lines unit c s k)) ≡ true
unfolding all tables
lines_are_refusals unit (Allocate q n) s k = refl
lines_are_refusals unit (AllocateArray q count size) s k = refl
lines_are_refusals unit (Claim q h) s k = refl
lines_are_refusals unit (Release q h) s k = refl
lines_are_refusals unit (FreeAll q) s k = refl
lines_are_refusals unit Sweep s k = refl
lines_are_refusals unit (Reallocate q h n) s k = refl
lines_are_refusals unit (Lend h) s k = refl
lines_are_refusals unit (Remaining q) s k = refl
lines_are_refusals unit (CanRelease q h) s k = refl
lines_are_refusals unit (ListBlock at) s k = refl
lines_are_refusals unit (ClearPermissions q n) s k = refl

-- an answer that is made of values has these values
abbrev pub Faithful : (Values → Answer) → Values → Type 0
Faithful f v = answer_values (f v) ≡ v

module _ (f : Values → Answer) (refuses : (r : Refusal) → Faithful f (refused (refusal_number r))) (s : List ℕ) (k : Accounts) (done : Outcome)
    (accepts : Faithful f done.values) where
  faithful_number : (n : ℕ) → ((m : ℕ) → n ≡ suc m → is_refusal (suc m) ≡ true) → Faithful f (unless n s k done).values
  unfolding unless
  faithful_number zero h = accepts
  faithful_number (suc m) h = rw (eqb-true (refusal_number (refusal_at (suc m))) (suc m) (h m refl)) at (refuses (refusal_at (suc m)))

  faithful : (ls : List Line) → all is_refusal (map line_number ls) ≡ true → Faithful f (unless (first_refusal ls) s k done).values
  faithful ls t = faithful_number (first_refusal ls) (first_is_refusal ls t)

-- of each answer type: a refusal's answer has the refusal's values
verdict_refuses : (r : Refusal) → Faithful (λ v. OfVerdict (verdict_from v)) (refused (refusal_number r))
unfolding answer_values verdict_values
verdict_refuses r = ap (λ (a : Result (Unit {0}) Refusal). answer_values (OfVerdict a)) (answer_refused (Ok tt) Err r)

handle_refuses : (r : Refusal) → Faithful (λ v. OfHandle (handle_from v)) (refused (refusal_number r))
unfolding answer_values handle_values
handle_refuses r = ap (λ (a : Result Handle Refusal). answer_values (OfHandle a)) (answer_refused (Ok zero_handle) Err r)

amount_refuses : (r : Refusal) → Faithful (λ v. OfAmount (amount_from v)) (refused (refusal_number r))
unfolding answer_values amount_values
amount_refuses r = ap (λ (a : Result ℕ Refusal). answer_values (OfAmount a)) (answer_refused (Ok 0) Err r)

range_refuses : (r : Refusal) → Faithful (λ v. OfRange (range_from v)) (refused (refusal_number r))
unfolding answer_values range_values
range_refuses r = ap (λ (a : Result Range Refusal). answer_values (OfRange a)) (answer_refused (Ok zero_range) Err r)

block_refuses : (r : Refusal) → Faithful (λ v. OfBlock (block_from v)) (refused (refusal_number r))
unfolding answer_values block_values
block_refuses r = ap (λ (a : Result (Option ListedBlock) Refusal). answer_values (OfBlock a)) (answer_refused (Ok None) Err r)

block_lists : (b : Option ListedBlock) → Faithful (λ v. OfBlock (block_from v)) (listed b)
unfolding answer_values block_values
block_lists None = refl
block_lists (Some b) = refl

-- the answer to what `step` gives has step's values: call by call, and of any call
allocate_answer : (unit : ℕ → ℕ) (q : ℕ) (n : ℕ) (s : List ℕ) (k : Accounts) → Faithful (answer_of (Allocate q n)) (step unit (Allocate q n) s k).values
unfolding answer_of answer_values handle_values step allocate
allocate_answer unit q n s k = faithful (λ v. OfHandle (handle_from v)) handle_refuses s k _ refl _ (lines_are_refusals unit (Allocate q n) s k)

allocate_array_answer : (unit : ℕ → ℕ) (q : ℕ) (count : ℕ) (size : ℕ) (s : List ℕ) (k : Accounts) → Faithful (answer_of (AllocateArray q count size))
    (step unit (AllocateArray q count size) s k).values
unfolding answer_of answer_values handle_values step allocate_array allocate
allocate_array_answer unit q count size s k =
    faithful (λ v. OfHandle (handle_from v)) handle_refuses s k _ refl _ (lines_are_refusals unit (AllocateArray q count size) s k)

claim_answer : (unit : ℕ → ℕ) (q : ℕ) (h : Object) (s : List ℕ) (k : Accounts) → Faithful (answer_of (Claim q h)) (step unit (Claim q h) s k).values
unfolding answer_of answer_values amount_values step claim
claim_answer unit q h s k = faithful (λ v. OfAmount (amount_from v)) amount_refuses s k _ refl _ (lines_are_refusals unit (Claim q h) s k)

release_answer : (unit : ℕ → ℕ) (q : ℕ) (h : Object) (s : List ℕ) (k : Accounts) → Faithful (answer_of (Release q h)) (step unit (Release q h) s k).values
unfolding answer_of answer_values amount_values step release
release_answer unit q h s k = faithful (λ v. OfAmount (amount_from v)) amount_refuses s k _ refl _ (lines_are_refusals unit (Release q h) s k)

free_all_answer : (unit : ℕ → ℕ) (q : ℕ) (s : List ℕ) (k : Accounts) → Faithful (answer_of (FreeAll q)) (step unit (FreeAll q) s k).values
unfolding answer_of answer_values amount_values step free_all
free_all_answer unit q s k = faithful (λ v. OfAmount (amount_from v)) amount_refuses s k _ refl _ (lines_are_refusals unit (FreeAll q) s k)

sweep_answer : (unit : ℕ → ℕ) (s : List ℕ) (k : Accounts) → Faithful (answer_of Sweep) (step unit Sweep s k).values
unfolding answer_of answer_values amount_values step sweep
sweep_answer unit s k = faithful (λ v. OfAmount (amount_from v)) amount_refuses s k _ refl _ (lines_are_refusals unit Sweep s k)

reallocate_answer : (unit : ℕ → ℕ) (q : ℕ) (h : Object) (n : ℕ) (s : List ℕ) (k : Accounts) → Faithful (answer_of (Reallocate q h n))
    (step unit (Reallocate q h n) s k).values
unfolding answer_of answer_values handle_values step reallocate
reallocate_answer unit q h n s k =
    faithful (λ v. OfHandle (handle_from v)) handle_refuses s k _ refl _ (lines_are_refusals unit (Reallocate q h n) s k)

lend_answer : (unit : ℕ → ℕ) (h : Object) (s : List ℕ) (k : Accounts) → Faithful (answer_of (Lend h)) (step unit (Lend h) s k).values
unfolding answer_of answer_values range_values step lend
lend_answer unit h s k = faithful (λ v. OfRange (range_from v)) range_refuses s k _ refl _ (lines_are_refusals unit (Lend h) s k)

remaining_of_answer : (unit : ℕ → ℕ) (q : ℕ) (s : List ℕ) (k : Accounts) → Faithful (answer_of (Remaining q)) (step unit (Remaining q) s k).values
unfolding answer_of answer_values amount_values step remaining_of
remaining_of_answer unit q s k = faithful (λ v. OfAmount (amount_from v)) amount_refuses s k _ refl _ (lines_are_refusals unit (Remaining q) s k)

can_release_answer : (unit : ℕ → ℕ) (q : ℕ) (h : Object) (s : List ℕ) (k : Accounts) → Faithful (answer_of (CanRelease q h))
    (step unit (CanRelease q h) s k).values
unfolding answer_of answer_values verdict_values step can_release
can_release_answer unit q h s k =
    faithful (λ v. OfVerdict (verdict_from v)) verdict_refuses s k _ refl _ (lines_are_refusals unit (CanRelease q h) s k)

list_block_answer : (unit : ℕ → ℕ) (at : ℕ) (s : List ℕ) (k : Accounts) → Faithful (answer_of (ListBlock at)) (step unit (ListBlock at) s k).values
unfolding answer_of answer_values block_values step list_block
list_block_answer unit at s k =
    faithful (λ v. OfBlock (block_from v)) block_refuses s k _ (block_lists _) _ (lines_are_refusals unit (ListBlock at) s k)

amount_accepts : (n : ℕ) → Faithful (λ v. OfAmount (amount_from v)) (amount_of n)
unfolding answer_values amount_values
amount_accepts n = refl

clear_answer : (unit : ℕ → ℕ) (q : ℕ) (n : ℕ) (s : List ℕ) (k : Accounts) → Faithful (answer_of (ClearPermissions q n))
    (step unit (ClearPermissions q n) s k).values
unfolding answer_of step clear
clear_answer unit q n s k =
    faithful (λ v. OfAmount (amount_from v)) amount_refuses s k (unchanged s (clear_permissions q n k) (amount_of (left_permissions q n k)))
    (amount_accepts (left_permissions q n k)) (call_lines unit (ClearPermissions q n) s k) (lines_are_refusals unit (ClearPermissions q n) s k)

pub answer_of_values : (unit : ℕ → ℕ) (c : Call) (s : List ℕ) (k : Accounts) → Faithful (answer_of c) (step unit c s k).values
answer_of_values unit (Allocate q n) s k = allocate_answer unit q n s k
answer_of_values unit (AllocateArray q count size) s k = allocate_array_answer unit q count size s k
answer_of_values unit (Claim q h) s k = claim_answer unit q h s k
answer_of_values unit (Release q h) s k = release_answer unit q h s k
answer_of_values unit (FreeAll q) s k = free_all_answer unit q s k
answer_of_values unit Sweep s k = sweep_answer unit s k
answer_of_values unit (Reallocate q h n) s k = reallocate_answer unit q h n s k
answer_of_values unit (Lend h) s k = lend_answer unit h s k
answer_of_values unit (Remaining q) s k = remaining_of_answer unit q s k
answer_of_values unit (CanRelease q h) s k = can_release_answer unit q h s k
answer_of_values unit (ListBlock at) s k = list_block_answer unit at s k
answer_of_values unit (ClearPermissions q n) s k = clear_answer unit q n s k

-- so answers to a call tell apart what `step` gives to it, here and there
pub answer_of_injective : (unit : ℕ → ℕ) (c : Call) (s s' : List ℕ) (k k' : Accounts)
    → answer_of c (step unit c s k).values ≡ answer_of c (step unit c s' k').values → (step unit c s k).values ≡ (step unit c s' k').values
answer_of_injective unit c s s' k k' e = sym (answer_of_values unit c s k) ∙ ap answer_values e ∙ answer_of_values unit c s' k'

-- and what is performed is what `step` gives, with the values of the answer
pub performed_step : (unit : ℕ → ℕ) (c : Call) (s : List ℕ) (k : Accounts) (t : Answered) → t ≡ performed unit c s k
    → record { heap = t.heap; accounts = t.accounts; values = answer_values t.answer } ≡ step unit c s k
unfolding performed
performed_step unit c s k t e =
    λ i. record { heap = (e i).heap; accounts = (e i).accounts; values = (ap (λ (x : Answered). answer_values x.answer) e ∙ answer_of_values unit c s k) i }
