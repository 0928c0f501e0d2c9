-- Along a history there are as many records as at its beginning, and every count fits a byte: a new record counts 1,
-- a release lowers a count, and a claim is refused where the count is 255 (rule 7.2, line 7).
use Rattle.std.specs.Prelude.{Some}
use mathlib.Core.Path.{◌≡◌, refl, ap, sym, ◌∙◌, subst}
use mathlib.Core.List.{List, [], ◌∷◌, map}
use mathlib.Core.Bool.{Bool, true, false, cond, not}
use Prim.Native.Nat.{ℕ, zero, suc, ◌+◌, ◌*◌, ◌-◌, ◌<◌, ◌^◌}
use native.Mathlib.Omega.{arith}
use lib.ListN.{length, get_or, replicate}
use lib.Dec.{leb, ltb, eqb}
use borrow.Author.Tests.{ltb-true, ltb-false, lt-ltb, eqb-false}
use Rattle.accounts.specs.declared.Hold.{Hold}
use Rattle.accounts.specs.declared.Accounts.{Accounts}
use Rattle.accounts.specs.Accounts.{QUOTAS, HOLDS, CLAIM, zero_hold, unused, is_for, record_of, dropped, drop_records}
use Rattle.accounts.specs.Accounts.{clear_permissions, with_holds, charge, permits}
use Rattle.accounts.proofs.Laws.{clear_kept}
use Rattle.lists.specs.Lists.{all, any, first, change_first, or_else, is_none}
use Rattle.model.specs.Objects.{lookup, found}
use Rattle.model.specs.Consistent.{charge_of, allowed, consistent}
use Rattle.model.specs.Holds.{count_of, with_count, take_record, raise_count, less_one, lower_count}
use Rattle.model.specs.Refusals.{first_refusal, line_holds, claims_first, line_1, line_2, line_3, line_5, line_7, row_lines}
use Rattle.model.specs.Refusals.{line_12}
use Rattle.model.specs.Refusals.{check_lines, quota_lines, free_all_lines, lend_lines, release_lines, claim_lines}
use Rattle.model.specs.Refusals.{allocate_lines}
use Rattle.model.specs.Refusals.{reallocate_lines}
use Rattle.model.specs.Calls.{Outcome, allocated, claimed, released, freed, copied, allocate, allocate_array, claim}
use Rattle.model.specs.Calls.{release}
use Rattle.model.specs.Calls.{free_all, sweep, reallocate, lend, remaining_of, can_release, list_block, clear}
use Rattle.model.specs.Step.{step}
use Rattle.model.specs.declared.Handle.{Handle}
use Rattle.model.specs.declared.Call.{Call}
use Rattle.model.specs.declared.Call.TheVariants.{Allocate, AllocateArray, Claim, Release, FreeAll, Reallocate}
use Rattle.model.specs.declared.Call.TheVariants.{Lend, Remaining, CanRelease, ListBlock, ClearPermissions, Sweep}
use Rattle.lists.proofs.Bools.{and_left, and_right, and_both, or_neither}
use Rattle.lists.proofs.Lists.{all_member, first_some}
use Rattle.model.proofs.Refusals.{accepted_exactly, by_lines, unless_has, unless_where}
use Rattle.model.proofs.StepFrame.{step_keeps}
use Rattle.ledger.specs.Ledger.{Ledger, Event, Called, Wrote, Saved, Restored}
use Rattle.ledger.specs.History.{Begins, Opening, Restoring, History, by_own}
use Rattle.ledger.proofs.Opening.{opening_records, opening_unused}

-- a count that fits a byte, and records with such counts alone
abbrev byte_count : Hold → Bool
byte_count h = ltb h.count 256

abbrev Counted : List Hold → Type 0
Counted hs = all byte_count hs ≡ true

-- the same by places
module _ {A : Type 0} (p : A → Bool) (d : A) where
  at_places : (xs : List A) → all p xs ≡ true → p d ≡ true → (i : ℕ) → p (get_or xs i d) ≡ true
  unfolding all
  at_places [] e z i = z
  at_places (x ∷ xs) e z zero = and_left (p x) (all p xs) e
  at_places (x ∷ xs) e z (suc i) = at_places xs (and_right (p x) (all p xs) e) z i

  from_places : (xs : List A) → ((i : ℕ) → p (get_or xs i d) ≡ true) → all p xs ≡ true
  unfolding all
  from_places [] f = refl
  from_places (x ∷ xs) f = and_both (p x) (all p xs) (f 0) (from_places xs (λ i. f (suc i)))

  all_alike : (n : ℕ) → p d ≡ true → all p (replicate n d) ≡ true
  unfolding all
  all_alike zero z = refl
  all_alike (suc n) z = and_both (p d) (all p (replicate n d)) z (all_alike n z)

-- the first element that passes a test is changed to one that passes another
module _ {A : Type 0} (t p : A → Bool) (f : A → A) where
  changed_all : (xs : List A) → all t xs ≡ true → ((x : A) → first p xs ≡ Some x → t (f x) ≡ true)
      → all t (change_first p f xs) ≡ true
  unfolding all first change_first
  changed_all [] e g = refl
  changed_all (x ∷ xs) e g = go (p x) refl (changed_all xs (and_right (t x) (all t xs) e))
    where
      go : (b : Bool) → p x ≡ b
          → (((y : A) → first p xs ≡ Some y → t (f y) ≡ true) → all t (change_first p f xs) ≡ true)
          → all t (cond b (f x ∷ xs) (x ∷ change_first p f xs)) ≡ true
      go true q ih = and_both (t (f x)) (all t xs) (g x (rw q)) (and_right (t x) (all t xs) e)
      go false q ih =
          and_both (t x) (all t (change_first p f xs)) (and_left (t x) (all t xs) e) (ih (λ y r. g y (rw q r)))

-- a new record counts 1
taken : (serial q : ℕ) (hs : List Hold) → Counted hs → Counted (take_record serial q hs)
unfolding take_record
taken serial q hs e =
    changed_all byte_count unused (λ h. record { serial = serial; quota = q; count = 1 }) hs e (λ x r. refl)

-- a count that is not 255 may rise
raised : (serial q : ℕ) (hs : List Hold) → Counted hs → eqb (count_of serial q hs) 255 ≡ false
    → Counted (raise_count serial q hs)
unfolding raise_count count_of or_else
raised serial q hs e n = changed_all byte_count (is_for serial q) (λ h. with_count (h.count + 1) h) hs e up
  where
    up : (x : Hold) → first (is_for serial q) hs ≡ Some x → byte_count (with_count (x.count + 1) x) ≡ true
    up x r =
        let l = ltb-true x.count 256 (all_member byte_count hs e x (first_some (is_for serial q) hs x r).0) in
        let d = eqb-false x.count 255 (rw (r, count_of) at n) in
        go (ltb x.count 255) refl l d
      where
        go : (b : Bool) → ltb x.count 255 ≡ b → x.count < 256 → (x.count ≡ 255 → ⊥) → ltb (x.count + 1) 256 ≡ true
        go true b l d = lt-ltb (x.count + 1) 256 (omega (arith, ltb-true x.count 255 b))
        go false b l d = absurd (d (omega (arith, l, ltb-false x.count 255 b)))

-- any count may fall
lowered : (serial q : ℕ) (hs : List Hold) → Counted hs → Counted (lower_count serial q hs)
unfolding lower_count less_one
lowered serial q hs e = changed_all byte_count (is_for serial q) less_one hs e down
  where
    go : (x : Hold) → x.count < 256 → (b : Bool) → byte_count (cond b zero_hold (with_count (x.count - 1) x)) ≡ true
    go x l true = refl
    go x l false = lt-ltb (x.count - 1) 256 (omega arith)

    down : (x : Hold) → first (is_for serial q) hs ≡ Some x → byte_count (less_one x) ≡ true
    down x r =
        let m = (first_some (is_for serial q) hs x r).0 in
        go x (ltb-true x.count 256 (all_member byte_count hs e x m)) (eqb x.count 1)

dropped_all : (q : ℕ) (hs : List Hold) → Counted hs → Counted (drop_records q hs)
unfolding drop_records all
dropped_all q [] e = refl
dropped_all q (h ∷ hs) e =
    and_both (byte_count (dropped q h)) (all byte_count (map (dropped q) hs)) (go (record_of q h))
    (dropped_all q hs (and_right (byte_count h) (all byte_count hs) e))
  where
    go : (b : Bool) → byte_count (cond b zero_hold h) ≡ true
    go true = refl
    go false = and_left (byte_count h) (all byte_count hs) e

-- an accepted claim finds no count of 255
module _ (unit : ℕ → ℕ) (s : List ℕ) (k : Accounts) (q : ℕ) (h : Handle) where
  none_holds : any line_holds (claim_lines unit s k q h) ≡ false
      → eqb (count_of (found (lookup h s)).serial q k.holds) 255 ≡ false
  unfolding any row_lines line_1 line_2 line_3 line_12 line_5 line_7
  none_holds a =
      let b = or_neither (not (allowed (length s))) _ a in
      let c = or_neither (not (consistent unit s k)) _ b.1 in
      let d = or_neither (leb QUOTAS q) _ c.1 in
      let f = or_neither (not (permits CLAIM q k)) _ d.1 in
      let g = or_neither (is_none (lookup h s)) _ f.1 in
      (or_neither (eqb (count_of (found (lookup h s)).serial q k.holds) 255) _ g.1).0

  below_limit : first_refusal (claim_lines unit s k q h) ≡ 0
      → eqb (count_of (found (lookup h s)).serial q k.holds) 255 ≡ false
  below_limit e =
      none_holds ((accepted_exactly (claim_lines unit s k q h) (by_lines unit (Claim q h) s k).numbered).0 e)

claimed_counts : (q : ℕ) (o : Handle) (k : Accounts) → Counted k.holds
    → eqb (count_of o.serial q k.holds) 255 ≡ false → Counted (claimed q o k).holds
unfolding claimed
claimed_counts q o k e n = go (claims_first k q o)
  where
    go : (b : Bool)
        → Counted (cond b (with_holds (take_record o.serial q k.holds) (charge q (charge_of o.length) k))
        (with_holds (raise_count o.serial q k.holds) k)).holds
    go true = taken o.serial q k.holds e
    go false = raised o.serial q k.holds e n

cleared_counts : (q n : ℕ) (k : Accounts) → Counted k.holds → Counted (clear_permissions q n k).holds
cleared_counts q n k e = rw (clear_kept q n k).same_holds e

-- every call keeps counts of one byte
module _ (unit : ℕ → ℕ) where
  keeps : Outcome → Type 0
  keeps t = Counted t.accounts.holds

  step_counts : (c : Call) (s : List ℕ) (k : Accounts) → Counted k.holds → Counted (step unit c s k).accounts.holds
  unfolding keeps
      step allocate allocate_array claim release free_all sweep reallocate lend remaining_of can_release list_block
      clear allocated released freed copied
  step_counts (Allocate q n) s k e =
      unless_has keeps (first_refusal (allocate_lines unit s k q n)) s k _ (taken _ q k.holds e) (λ m. e)
  step_counts (AllocateArray q count size) s k e =
      unless_has keeps (first_refusal (allocate_lines unit s k q (count * size))) s k _
      (taken _ q k.holds e) (λ m. e)
  step_counts (Claim q h) s k e =
      unless_where keeps (first_refusal (claim_lines unit s k q h)) s k _
      (λ z. claimed_counts q (found (lookup h s)) k e (below_limit unit s k q h z)) (λ m. e)
  step_counts (Release q h) s k e =
      unless_has keeps (first_refusal (release_lines unit s k q h)) s k _ (lowered _ q k.holds e) (λ m. e)
  step_counts (FreeAll q) s k e =
      unless_has keeps (first_refusal (free_all_lines unit s k q)) s k _ (dropped_all q k.holds e) (λ m. e)
  step_counts Sweep s k e = unless_has keeps (first_refusal (check_lines unit s k)) s k _ e (λ m. e)
  step_counts (Reallocate q h n) s k e =
      unless_has keeps (first_refusal (reallocate_lines unit s k q h n)) s k _
      (lowered _ q _ (taken _ q k.holds e)) (λ m. e)
  step_counts (Lend h) s k e = unless_has keeps (first_refusal (lend_lines unit s k h)) s k _ e (λ m. e)
  step_counts (Remaining q) s k e = unless_has keeps (first_refusal (quota_lines unit s k q)) s k _ e (λ m. e)
  step_counts (CanRelease q h) s k e = unless_has keeps (first_refusal (release_lines unit s k q h)) s k _ e (λ m. e)
  step_counts (ListBlock at) s k e = unless_has keeps (first_refusal (check_lines unit s k)) s k _ e (λ m. e)
  step_counts (ClearPermissions q n) s k e =
      unless_has keeps (first_refusal (quota_lines unit s k q)) s k _ (cleared_counts q n k e) (λ m. e)

-- all records, with counts of one byte
abbrev Whole : List Hold → Type 0
Whole hs = (length hs ≡ HOLDS) × Counted hs

module _ (tables : ℕ → ℕ → ℕ) (begun : Ledger) where
  -- an image's counts are such, by its places
  placed : (hs : List Hold) → ((i : ℕ) → (get_or hs i zero_hold).count < 256) → Counted hs
  placed hs f = from_places byte_count zero_hold hs (λ i. lt-ltb (get_or hs i zero_hold).count 256 (f i))

  beginning_whole : (s : List ℕ) (k : Accounts) → Begins tables begun s k → Whole k.holds
  beginning_whole s k (Opening g grants e o) =
      (opening_records g grants s k o, rw (opening_unused g grants s k o) (all_alike byte_count zero_hold HOLDS refl))
  beginning_whole s k (Restoring e r) = (r.records, placed k.holds (λ i. omega (arith, r.counts i)))

  history_whole : (es : List Event) (s : List ℕ) (k : Accounts) → History tables (by_own tables) begun es s k
      → Whole k.holds
  history_whole [] s k h = beginning_whole s k h
  history_whole (Called c v ∷ es) s k h =
      let a = history_whole es h.0 h.1 h.2 in
      let unit = tables h.1.edition in (
        sym (ap (λ (t : Outcome). length t.accounts.holds) h.3) ∙ (step_keeps unit c h.0 h.1).places ∙ a.0,
        subst (λ (t : Outcome). Counted t.accounts.holds) h.3 (step_counts unit c h.0 h.1 a.1),
      )
  history_whole (Wrote ∷ es) s k h = history_whole es h.0 k h.1
  history_whole (Saved s₀ k₀ ∷ es) s k h = history_whole es s k h.0
  history_whole (Restored s₁ k₁ ∷ es) s k h = (h.4.records, placed k.holds (λ i. omega (arith, h.4.counts i)))

  -- so along every history, in or out of a restore
  pub history_records : (es : List Event) (s : List ℕ) (k : Accounts) → History tables (by_own tables) begun es s k
      → length k.holds ≡ HOLDS
  history_records es s k h = (history_whole es s k h).0

  pub history_counts : (es : List Event) (s : List ℕ) (k : Accounts) → History tables (by_own tables) begun es s k
      → (i : ℕ) → (get_or k.holds i zero_hold).count < 2 ^ 8
  history_counts es s k h i =
      omega (
        arith,
        ltb-true (get_or k.holds i zero_hold).count 256
            (at_places byte_count zero_hold k.holds (history_whole es s k h).1 refl i),
      )
