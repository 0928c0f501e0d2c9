-- What an accepted call's lines have shown: each line of its list does not hold.
use Rattle.std.specs.Prelude.{Option, Some, None}
use Prim.Native.Nat.{ℕ, ◌+◌, ◌≤◌, ◌<◌}
use native.Mathlib.Omega.{arith}
use mathlib.Core.Path.{◌≡◌, refl}
use mathlib.Core.List.{List, [], ◌∷◌}
use mathlib.Core.Bool.{Bool, true, false, not, true≢false, false≢true}
use lib.Dec.{ltb, eqb}
use borrow.Author.Tests.{leb-false, ltb-false, eqb-false}
use Rattle.accounts.specs.declared.Accounts.{Accounts}
use Rattle.accounts.specs.Accounts.{QUOTAS, ALLOCATE, CLAIM, used, remaining}
use Rattle.lists.specs.Lists.{any, all, is_none}
use Rattle.rounding.specs.Rounding.{object_length}
use Rattle.model.specs.Objects.{lookup, lookup_whole, found}
use Rattle.model.specs.Consistent.{charge_of, has_record}
use Rattle.model.specs.Refusals.{Line, ◌when◌, line_holds, line_1, line_2, line_3, line_4, line_5, line_6, line_7, line_8, line_9, line_10, line_11}
use Rattle.model.specs.Refusals.{line_12, row_lines}
use Rattle.model.specs.Refusals.{only_if, claims_first, base_for, free_all_lines, release_lines, claim_lines, allocate_lines, reallocate_lines}
use Rattle.layout.specs.Blocks.{QUARANTINED}
use Rattle.model.specs.declared.Handle.{Handle}
use Rattle.lists.proofs.Bools.{or_neither}

-- a list of which no line holds: the first does not, and none of the others
passed : (l : Line) (ls : List Line) → any line_holds (l ∷ ls) ≡ false → (line_holds l ≡ false) × (any line_holds ls ≡ false)
unfolding any
passed l ls e = or_neither (line_holds l) (any line_holds ls) e

quota_exists : (q : ℕ) → line_holds (line_3 q) ≡ false → q < QUOTAS
unfolding line_3
quota_exists q e = leb-false QUOTAS q e

length_asked : (n : ℕ) → line_holds (line_4 n) ≡ false → (0 < n) × (n ≤ 32760)
unfolding line_4
length_asked n e =
    let p = or_neither (eqb n 0) (ltb 32760 n) e in
    let z : n ≡ 0 → ⊥ = eqb-false n 0 p.0 in
    (omega (arith, z), ltb-false 32760 n p.1)

some_of : {A : Type 0} (o : Option A) → is_none o ≡ false → (x : A) × (o ≡ Some x)
unfolding is_none
some_of None e = absurd (true≢false e)
some_of (Some x) e = (x, refl)

object_found : (o : Option Handle) → line_holds (line_5 o) ≡ false → (x : Handle) × (o ≡ Some x)
unfolding line_5
object_found o e = some_of o e

not_no : (b : Bool) → not b ≡ false → b ≡ true
not_no true e = refl
not_no false e = absurd (true≢false e)

quota_holds : (k : Accounts) (q : ℕ) (o : Handle) → line_holds (line_6 k q o) ≡ false → has_record k.holds q o.serial ≡ true
unfolding line_6
quota_holds k q o e = not_no (has_record k.holds q o.serial) e

charge_left : (k : Accounts) (q n : ℕ) → line_holds (line_8 k q n) ≡ false → charge_of n ≤ remaining q k
unfolding line_8
charge_left k q n e = ltb-false (remaining q k) (charge_of n) e

record_left : (k : Accounts) → line_holds (line_9 k) ≡ false → all used k.holds ≡ false
unfolding line_9
record_left k e = e

serial_left : (k : Accounts) → line_holds (line_10 k) ≡ false → k.last_serial < QUARANTINED → k.last_serial + 1 < QUARANTINED
unfolding line_10
serial_left k e l = let z : k.last_serial ≡ 4294967294 → ⊥ = eqb-false k.last_serial 4294967294 e in omega (arith, z)

base_found : (unit : ℕ → ℕ) (s : List ℕ) (n : ℕ) → line_holds (line_11 unit s n) ≡ false → (b : ℕ) × (base_for unit s n ≡ Some b)
unfolding line_11
base_found unit s n e = some_of (base_for unit s n) e

-- a line that is given only where a test holds
only_passed : (c : Bool) (l : Line) → line_holds (only_if c l) ≡ false → c ≡ true → line_holds l ≡ false
unfolding only_if
only_passed true (n when t) e p = e
only_passed false (n when t) e p = absurd (false≢true p)

-- what the lines of free-all have shown
pub free_all_passed : (unit : ℕ → ℕ) (s : List ℕ) (k : Accounts) (q : ℕ) → any line_holds (free_all_lines unit s k q) ≡ false → q < QUOTAS
unfolding row_lines
free_all_passed unit s k q e = quota_exists q (passed (line_3 q) _ (passed (line_2 unit s k) _ (passed (line_1 s) _ e).1).1).0

-- those of a release
pub record Releasable (s : List ℕ) (k : Accounts) (q : ℕ) (h : Handle) : Type 0 where
  pub exists : q < QUOTAS
  pub object : Handle
  pub names : lookup h s ≡ Some object
  pub recorded : has_record k.holds q (found (lookup h s)).serial ≡ true

pub release_passed : (unit : ℕ → ℕ) (s : List ℕ) (k : Accounts) (q : ℕ) (h : Handle) → any line_holds (release_lines unit s k q h) ≡ false → Releasable s k q h
unfolding row_lines
release_passed unit s k q h e =
    let p₃ = passed (line_3 q) _ (passed (line_2 unit s k) _ (passed (line_1 s) _ e).1).1 in
    let p₅ = passed (line_5 (lookup h s)) _ p₃.1 in
    let p₆ = passed (line_6 k q (found (lookup h s))) [] p₅.1 in
    let f = object_found (lookup h s) p₅.0 in
    record { exists = quota_exists q p₃.0; object = f.0; names = f.1; recorded = quota_holds k q (found (lookup h s)) p₆.0 }

-- those of a claim
pub record Claimable (s : List ℕ) (k : Accounts) (q : ℕ) (h : Handle) : Type 0 where
  pub exists : q < QUOTAS
  pub object : Handle
  pub names : lookup h s ≡ Some object
  pub pays : claims_first k q (found (lookup h s)) ≡ true → charge_of (found (lookup h s)).length ≤ remaining q k
  pub unused : claims_first k q (found (lookup h s)) ≡ true → all used k.holds ≡ false

pub claim_passed : (unit : ℕ → ℕ) (s : List ℕ) (k : Accounts) (q : ℕ) (h : Handle) → any line_holds (claim_lines unit s k q h) ≡ false → Claimable s k q h
unfolding row_lines
claim_passed unit s k q h e =
    let o = found (lookup h s) in
    let first = claims_first k q o in
    let p₃ = passed (line_3 q) _ (passed (line_2 unit s k) _ (passed (line_1 s) _ e).1).1 in
    let p₁₂ = passed (line_12 CLAIM k q) _ p₃.1 in
    let p₅ = passed (line_5 (lookup h s)) _ p₁₂.1 in
    let p₇ = passed (line_7 k q o) _ p₅.1 in
    let p₈ = passed (only_if first (line_8 k q o.length)) _ p₇.1 in
    let p₉ = passed (only_if first (line_9 k)) [] p₈.1 in
    let f = object_found (lookup h s) p₅.0 in
    record {
      exists = quota_exists q p₃.0;
      object = f.0;
      names = f.1;
      pays = λ c. charge_left k q o.length (only_passed first (line_8 k q o.length) p₈.0 c);
      unused = λ c. record_left k (only_passed first (line_9 k) p₉.0 c);
    }

-- those of a request for a new object
module _ (unit : ℕ → ℕ) (s : List ℕ) (k : Accounts) where
  pub record Allocatable (q n : ℕ) : Type 0 where
    pub exists : q < QUOTAS
    pub asked : 0 < n
    pub paid : charge_of (object_length unit n) ≤ remaining q k
    pub unused : all used k.holds ≡ false
    pub left : k.last_serial < QUARANTINED → k.last_serial + 1 < QUARANTINED
    pub base : ℕ
    pub based : base_for unit s n ≡ Some base

  -- the last four lines of each
  rest_passed : (q n : ℕ) → q < QUOTAS → line_holds (line_4 n) ≡ false
      → any line_holds (line_8 k q (object_length unit n) ∷ line_9 k ∷ line_10 k ∷ line_11 unit s n ∷ []) ≡ false → Allocatable q n
  rest_passed q n x p₄ e =
      let p₈ = passed (line_8 k q (object_length unit n)) _ e in
      let p₉ = passed (line_9 k) _ p₈.1 in
      let p₁₀ = passed (line_10 k) _ p₉.1 in
      let p₁₁ = passed (line_11 unit s n) [] p₁₀.1 in
      let b = base_found unit s n p₁₁.0 in
      record {
        exists = x;
        asked = (length_asked n p₄).0;
        paid = charge_left k q (object_length unit n) p₈.0;
        unused = record_left k p₉.0;
        left = serial_left k p₁₀.0;
        base = b.0;
        based = b.1;
      }

  pub allocate_passed : (q n : ℕ) → any line_holds (allocate_lines unit s k q n) ≡ false → Allocatable q n
  unfolding row_lines
  allocate_passed q n e =
      let p₃ = passed (line_3 q) _ (passed (line_2 unit s k) _ (passed (line_1 s) _ e).1).1 in
      let p₁₂ = passed (line_12 ALLOCATE k q) _ p₃.1 in
      let p₄ = passed (line_4 n) _ p₁₂.1 in
      rest_passed q n (quota_exists q p₃.0) p₄.0 p₄.1

  -- of a reallocation: the old object too
  pub record Reallocatable (q : ℕ) (h : Handle) (n : ℕ) : Type 0 where
    pub new : Allocatable q n
    pub object : Handle
    pub names : lookup_whole h s ≡ Some object
    pub recorded : has_record k.holds q (found (lookup_whole h s)).serial ≡ true

  pub reallocate_passed : (q : ℕ) (h : Handle) (n : ℕ) → any line_holds (reallocate_lines unit s k q h n) ≡ false → Reallocatable q h n
  unfolding row_lines
  reallocate_passed q h n e =
      let p₃ = passed (line_3 q) _ (passed (line_2 unit s k) _ (passed (line_1 s) _ e).1).1 in
      let p₁₂ = passed (line_12 ALLOCATE k q) _ p₃.1 in
      let p₄ = passed (line_4 n) _ p₁₂.1 in
      let p₅ = passed (line_5 (lookup_whole h s)) _ p₄.1 in
      let p₆ = passed (line_6 k q (found (lookup_whole h s))) _ p₅.1 in
      let f = object_found (lookup_whole h s) p₅.0 in
      record {
        new = rest_passed q n (quota_exists q p₃.0) p₄.0 p₆.1;
        object = f.0;
        names = f.1;
        recorded = quota_holds k q (found (lookup_whole h s)) p₆.0;
      }
