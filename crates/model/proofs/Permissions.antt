-- Permissions (rules, section 15): no call but the one that clears them changes a quota's permissions, and that one sets none.
-- A refused call changes nothing; payments and changes of records leave the permissions, and a bit that is left after clearing was there.
use Rattle.std.specs.Prelude.{Option, Some, None}
use Prim.Native.Nat.{ℕ, zero, suc, ◌+◌, ◌*◌, ◌/◌, ◌%◌, ◌<◌}
use native.Mathlib.Omega.{arith}
use mathlib.Core.Path.{◌≡◌, refl, ap, sym, ◌∙◌}
use mathlib.Core.List.{List, [], ◌∷◌, map}
use mathlib.Core.Bool.{Bool, true, false, cond, ◌&&◌, true≢false, false≢true}
use mathlib.Core.Logic.{◌⊎◌, inl, inr, ⊎_elim}
use lib.ListN.{length, get_or, set, get_or-map}
use lib.Seq.{get_or-set_same}
use lib.Dec.{eqb}
use borrow.Author.Tests.{le-leb}
use Rattle.accounts.specs.declared.Quota.{Quota}
use Rattle.accounts.specs.declared.Hold.{Hold}
use Rattle.accounts.specs.declared.Accounts.{Accounts}
use Rattle.accounts.specs.Accounts.{QUOTAS, ALLOCATE, CLAIM, FREE_ALL, zero_quota, with_holds, quota_at, put_quota, charged, refunded, charge, refund}
use Rattle.accounts.specs.Accounts.{with_permissions, permissions, permissible, permits, bit_left, cleared, left_permissions, without, clear_permissions}
use Rattle.accounts.proofs.Laws.{change_there, change_case, change_but}
use Rattle.accounts.proofs.Permissions.{cleared_bits}
use Rattle.layout.specs.Blocks.{Block, parse}
use Rattle.lists.specs.Lists.{all}
use Rattle.model.specs.Objects.{objects, objects_of, lookup, lookup_whole, found}
use Rattle.model.specs.Consistent.{charge_of, charges, balanced_from, accounted_blocks, accounted_parsed, accounted}
use Rattle.model.specs.Holds.{take_record, raise_count}
use Rattle.model.specs.Refusals.{first_refusal, claims_first, quota_lines, free_all_lines, release_lines, claim_lines, allocate_lines, reallocate_lines}
use Rattle.model.specs.Refusals.{lend_lines, check_lines}
use Rattle.model.specs.Calls.{Outcome, State, unless, state_of, allocated, claimed, given_back, released, freed, copied, new_object, allocate}
use Rattle.model.specs.Calls.{allocate_array, claim, release, free_all, sweep, reallocate, lend, remaining_of, can_release, list_block, clear}
use Rattle.model.specs.Step.{step}
use Rattle.model.specs.declared.Handle.{Handle}
use Rattle.model.specs.declared.Call.{Call}
use Rattle.model.specs.declared.Call.TheVariants.{Allocate, AllocateArray, Claim, Release, FreeAll, Reallocate, Lend, Remaining, CanRelease, ListBlock}
use Rattle.model.specs.declared.Call.TheVariants.{ClearPermissions, Sweep}
use Rattle.model.proofs.Rows
use Rattle.lists.proofs.Bools.{and_both, and_left, and_right, and_no, and_yes}

-- payments leave the permissions
refund_permissions : (q n : ℕ) (k : Accounts) → permissions (refund q n k) ≡ permissions k
unfolding refund
refund_permissions q n k = change_but q (refunded n) k (λ (x : Quota). x.permissions) (λ x. refl)

charge_permissions : (q n : ℕ) (k : Accounts) → permissions (charge q n k) ≡ permissions k
unfolding charge
charge_permissions q n k = change_but q (charged n) k (λ (x : Quota). x.permissions) (λ x. refl)

claimed_permissions : (q : ℕ) (o : Handle) (k : Accounts) → permissions (claimed q o k) ≡ permissions k
unfolding claimed
claimed_permissions q o k = go (claims_first k q o)
  where
    go : (t : Bool)
        → permissions (cond t (with_holds (take_record o.serial q k.holds) (charge q (charge_of o.length) k))
        (with_holds (raise_count o.serial q k.holds) k)) ≡ permissions k
    go true = charge_permissions q (charge_of o.length) k
    go false = refl

pub allocated_permissions : (q : ℕ) (o : Handle) (t : State) → permissions (allocated q o t).accounts ≡ permissions t.accounts
unfolding allocated
allocated_permissions q o t = charge_permissions q (charge_of o.length) t.accounts

pub released_permissions : (q : ℕ) (o : Handle) (t : State) → permissions (released q o t).accounts ≡ permissions t.accounts
unfolding released
released_permissions q o t = refund_permissions q (given_back q o t.accounts) t.accounts

copied_permissions : (old new : Handle) (t : State) → permissions (copied old new t).accounts ≡ permissions t.accounts
unfolding copied
copied_permissions old new t = refl

freed_permissions : (q back : ℕ) (t : State) → permissions (freed q back t).accounts ≡ permissions t.accounts
unfolding freed
freed_permissions q back t = refund_permissions q back t.accounts

unless_permissions : (n : ℕ) (s : List ℕ) (k : Accounts) (done : Outcome) → permissions done.accounts ≡ permissions k
    → permissions (unless n s k done).accounts ≡ permissions k
unfolding unless
unless_permissions zero s k done e = e
unless_permissions (suc n) s k done e = refl

-- whether a call is the one that clears permissions
abbrev pub clears : Call → Bool
clears (Allocate q n) = false
clears (AllocateArray q count size) = false
clears (Claim q h) = false
clears (Release q h) = false
clears (FreeAll q) = false
clears Sweep = false
clears (Reallocate q h n) = false
clears (Lend h) = false
clears (Remaining q) = false
clears (CanRelease q h) = false
clears (ListBlock at) = false
clears (ClearPermissions q n) = true

module _ (unit : ℕ → ℕ) where
  -- every other call keeps each quota's permissions
  pub step_permissions : (c : Call) (s : List ℕ) (k : Accounts) → clears c ≡ false → permissions (step unit c s k).accounts ≡ permissions k
  unfolding step allocate allocate_array claim release free_all sweep reallocate lend remaining_of can_release list_block
  step_permissions (Allocate q n) s k e =
      unless_permissions (first_refusal (allocate_lines unit s k q n)) s k _ (allocated_permissions q (new_object unit s k n) (state_of s k))
  step_permissions (AllocateArray q count size) s k e =
      unless_permissions (first_refusal (allocate_lines unit s k q (count * size))) s k _
      (allocated_permissions q (new_object unit s k (count * size)) (state_of s k))
  step_permissions (Claim q h) s k e = unless_permissions (first_refusal (claim_lines unit s k q h)) s k _ (claimed_permissions q (found (lookup h s)) k)
  step_permissions (Release q h) s k e =
      unless_permissions (first_refusal (release_lines unit s k q h)) s k _ (released_permissions q (found (lookup h s)) (state_of s k))
  step_permissions (FreeAll q) s k e =
      unless_permissions (first_refusal (free_all_lines unit s k q)) s k _ (freed_permissions q (charges k.holds q (objects_of s)) (state_of s k))
  step_permissions Sweep s k e = unless_permissions (first_refusal (check_lines unit s k)) s k _ refl
  step_permissions (Reallocate q h n) s k e =
      let old = found (lookup_whole h s) in
      let new = new_object unit s k n in
      let t = allocated q new (state_of s k) in
      unless_permissions (first_refusal (reallocate_lines unit s k q h n)) s k _
      (released_permissions q old (copied old new t) ∙ copied_permissions old new t ∙ allocated_permissions q new (state_of s k))
  step_permissions (Lend h) s k e = unless_permissions (first_refusal (lend_lines unit s k h)) s k _ refl
  step_permissions (Remaining q) s k e = unless_permissions (first_refusal (quota_lines unit s k q)) s k _ refl
  step_permissions (CanRelease q h) s k e = unless_permissions (first_refusal (release_lines unit s k q h)) s k _ refl
  step_permissions (ListBlock at) s k e = unless_permissions (first_refusal (check_lines unit s k)) s k _ refl
  step_permissions (ClearPermissions q n) s k e = absurd (true≢false e)

-- a stored element is at its own place alone, if anywhere
set_at : (xs : List Quota) (i j : ℕ) (y : Quota)
    → (get_or (set xs i y) j zero_quota ≡ get_or xs j zero_quota) ⊎ ((i ≡ j) × (get_or (set xs i y) j zero_quota ≡ y))
set_at [] i j y = inl refl
set_at (x ∷ xs) zero zero y = inr (refl, refl)
set_at (x ∷ xs) zero (suc j) y = inl refl
set_at (x ∷ xs) (suc i) zero y = inl refl
set_at (x ∷ xs) (suc i) (suc j) y = ⊎_elim (λ e. inl e) (λ e. inr (ap suc e.0, e.1)) (set_at xs i j y)

-- one of the three bits
abbrev pub IsBit : ℕ → Type 0
IsBit bit = (bit ≡ ALLOCATE) ⊎ ((bit ≡ CLAIM) ⊎ (bit ≡ FREE_ALL))

bit_is : (bit n p : ℕ) → IsBit bit → cleared n p / bit % 2 ≡ bit_left (n / bit) (p / bit)
bit_is bit n p b =
    let c = cleared_bits n p in
    let whole : (x : ℕ) → x ≡ x / 1 = λ x. omega arith in
    ⊎_elim (λ (e : bit ≡ 1). rw e (c.0 ∙ (λ i. bit_left (whole n i) (whole p i))))
    (λ d. ⊎_elim (λ (e : bit ≡ 2). rw e c.1) (λ (e : bit ≡ 4). rw e c.2) d) b

-- a permission is left exactly if it was there and its bit is not set in the number
left_exactly : (bit n p : ℕ) → IsBit bit → eqb (cleared n p / bit % 2) 1 ≡ (eqb (p / bit % 2) 1 && eqb (n / bit % 2) 0)
left_exactly bit n p b = ap (λ (x : ℕ). eqb x 1) (bit_is bit n p b) ∙ go (eqb (n / bit % 2) 0)
  where
    go : (t : Bool) → eqb (cond t (p / bit % 2) 0) 1 ≡ (eqb (p / bit % 2) 1 && t)
    go true = sym (and_yes (eqb (p / bit % 2) 1))
    go false = sym (and_no (eqb (p / bit % 2) 1) false refl)

-- so it is after the call, and every other quota's are as they were
pub clear_exactly : (q n : ℕ) (k : Accounts) (bit : ℕ) → IsBit bit → q < QUOTAS → q < length k.quotas
    → permits bit q (clear_permissions q n k) ≡ (permits bit q k && eqb (n / bit % 2) 0)
unfolding clear_permissions permits
clear_exactly q n k bit b h l =
    rw (change_there q (without n) k h, get_or-set_same k.quotas q (without n (quota_at q k)) zero_quota l)
    (left_exactly bit n (quota_at q k).permissions b)

-- clearing sets none
clear_sets_none : (q n : ℕ) (k : Accounts) (j bit : ℕ) → IsBit bit → permits bit j (clear_permissions q n k) ≡ true → permits bit j k ≡ true
unfolding clear_permissions permits
clear_sets_none q n k j bit b =
    change_case q (without n) k
    (λ (l : Accounts). eqb ((quota_at j l).permissions / bit % 2) 1 ≡ true → eqb ((quota_at j k).permissions / bit % 2) 1 ≡ true)
    (at _ (set_at k.quotas q j (without n (quota_at q k)))) (λ e. e)
  where
    at : (x : Quota) → (x ≡ quota_at j k) ⊎ ((q ≡ j) × (x ≡ without n (quota_at q k)))
        → eqb (x.permissions / bit % 2) 1 ≡ true → eqb ((quota_at j k).permissions / bit % 2) 1 ≡ true
    at x c e =
        ⊎_elim (λ (h : x ≡ quota_at j k). rw h at e)
        (λ h.
        let own : x.permissions ≡ cleared n (quota_at j k).permissions =
        ap (λ (y : Quota). y.permissions) h.1 ∙ ap (λ (i : ℕ). cleared n (quota_at i k).permissions) h.0 in
        and_left (eqb ((quota_at j k).permissions / bit % 2) 1) _ (sym (left_exactly bit n (quota_at j k).permissions b) ∙ rw own at e))
        c

-- the permissions of a quota in the list of all
listed_at : (j : ℕ) (k : Accounts) → get_or (permissions k) j 0 ≡ (quota_at j k).permissions
listed_at j k = get_or-map (λ (x : Quota). x.permissions) k.quotas j zero_quota

same_permits : (bit j : ℕ) (k l : Accounts) → permissions l ≡ permissions k → permits bit j l ≡ permits bit j k
unfolding permits
same_permits bit j k l e = ap (λ (p : ℕ). eqb (p / bit % 2) 1) (sym (listed_at j l) ∙ ap (λ (ps : List ℕ). get_or ps j 0) e ∙ listed_at j k)

unless_sets_none : (n : ℕ) (s : List ℕ) (k : Accounts) (done : Outcome) (bit j : ℕ)
    → (permits bit j done.accounts ≡ true → permits bit j k ≡ true)
    → permits bit j (unless n s k done).accounts ≡ true → permits bit j k ≡ true
unfolding unless
unless_sets_none zero s k done bit j f e = f e
unless_sets_none (suc n) s k done bit j f e = e

-- clearing leaves numbers of three bits
permissible_after : (xs : List Quota) (i : ℕ) (y : Quota) → permissible y.permissions ≡ true
    → all permissible (map (λ (x : Quota). x.permissions) xs) ≡ true
    → all permissible (map (λ (x : Quota). x.permissions) (set xs i y)) ≡ true
unfolding all
permissible_after [] i y p a = a
permissible_after (x ∷ xs) zero y p a = and_both (permissible y.permissions) _ p (and_right (permissible x.permissions) _ a)
permissible_after (x ∷ xs) (suc i) y p a =
    and_both (permissible x.permissions) _ (and_left (permissible x.permissions) _ a)
    (permissible_after xs i y p (and_right (permissible x.permissions) _ a))

clear_permissible : (q n : ℕ) (k : Accounts) → all permissible (permissions k) ≡ true → all permissible (permissions (clear_permissions q n k)) ≡ true
unfolding clear_permissions
clear_permissible q n k a =
    change_case q (without n) k (λ (l : Accounts). all permissible (permissions l) ≡ true)
    (permissible_after k.quotas q (without n (quota_at q k))
    (le-leb (cleared n (quota_at q k).permissions) 7 (cleared_bits n (quota_at q k).permissions).3) a)
    a

unless_permissible : (n : ℕ) (s : List ℕ) (k : Accounts) (done : Outcome) → all permissible (permissions k) ≡ true
    → all permissible (permissions done.accounts) ≡ true
    → all permissible (permissions (unless n s k done).accounts) ≡ true
unfolding unless
unless_permissible zero s k done a d = d
unless_permissible (suc n) s k done a d = a

after_clearing : (unit : ℕ → ℕ) (q n : ℕ) (s : List ℕ) (k : Accounts) → all permissible (permissions k) ≡ true
    → all permissible (permissions (step unit (ClearPermissions q n) s k).accounts) ≡ true
unfolding step clear
after_clearing unit q n s k a = unless_permissible (first_refusal (quota_lines unit s k q)) s k _ a (clear_permissible q n k a)

module _ (unit : ℕ → ℕ) where
  -- no call sets one
  pub step_sets_none : (c : Call) (s : List ℕ) (k : Accounts) (j bit : ℕ) → IsBit bit
      → permits bit j (step unit c s k).accounts ≡ true → permits bit j k ≡ true
  unfolding step clear
  step_sets_none (Allocate q n) s k j bit b e = sym (same_permits bit j k _ (step_permissions unit (Allocate q n) s k refl)) ∙ e
  step_sets_none (AllocateArray q count size) s k j bit b e = sym (same_permits bit j k _ (step_permissions unit (AllocateArray q count size) s k refl)) ∙ e
  step_sets_none (Claim q h) s k j bit b e = sym (same_permits bit j k _ (step_permissions unit (Claim q h) s k refl)) ∙ e
  step_sets_none (Release q h) s k j bit b e = sym (same_permits bit j k _ (step_permissions unit (Release q h) s k refl)) ∙ e
  step_sets_none (FreeAll q) s k j bit b e = sym (same_permits bit j k _ (step_permissions unit (FreeAll q) s k refl)) ∙ e
  step_sets_none Sweep s k j bit b e = sym (same_permits bit j k _ (step_permissions unit Sweep s k refl)) ∙ e
  step_sets_none (Reallocate q h n) s k j bit b e = sym (same_permits bit j k _ (step_permissions unit (Reallocate q h n) s k refl)) ∙ e
  step_sets_none (Lend h) s k j bit b e = sym (same_permits bit j k _ (step_permissions unit (Lend h) s k refl)) ∙ e
  step_sets_none (Remaining q) s k j bit b e = sym (same_permits bit j k _ (step_permissions unit (Remaining q) s k refl)) ∙ e
  step_sets_none (CanRelease q h) s k j bit b e = sym (same_permits bit j k _ (step_permissions unit (CanRelease q h) s k refl)) ∙ e
  step_sets_none (ListBlock at) s k j bit b e = sym (same_permits bit j k _ (step_permissions unit (ListBlock at) s k refl)) ∙ e
  step_sets_none (ClearPermissions q n) s k j bit b e = unless_sets_none (first_refusal (quota_lines unit s k q)) s k _ bit j (clear_sets_none q n k j bit b) e

  -- so numbers that are permissions stay such
  pub step_permissible : (c : Call) (s : List ℕ) (k : Accounts) → all permissible (permissions k) ≡ true
      → all permissible (permissions (step unit c s k).accounts) ≡ true
  step_permissible c s k a = go (clears c) refl
    where
      cleared_by : (d : Call) → clears d ≡ true → all permissible (permissions (step unit d s k).accounts) ≡ true
      cleared_by (Allocate q n) e = absurd (false≢true e)
      cleared_by (AllocateArray q count size) e = absurd (false≢true e)
      cleared_by (Claim q h) e = absurd (false≢true e)
      cleared_by (Release q h) e = absurd (false≢true e)
      cleared_by (FreeAll q) e = absurd (false≢true e)
      cleared_by Sweep e = absurd (false≢true e)
      cleared_by (Reallocate q h n) e = absurd (false≢true e)
      cleared_by (Lend h) e = absurd (false≢true e)
      cleared_by (Remaining q) e = absurd (false≢true e)
      cleared_by (CanRelease q h) e = absurd (false≢true e)
      cleared_by (ListBlock at) e = absurd (false≢true e)
      cleared_by (ClearPermissions q n) e = after_clearing unit q n s k a

      go : (t : Bool) → clears c ≡ t → all permissible (permissions (step unit c s k).accounts) ≡ true
      go true e = cleared_by c e
      go false e = ap (all permissible) (step_permissions unit c s k e) ∙ a

-- grants and remainders stay, and so consistency does
balanced_after : (os : List Handle) (hs : List Hold) (from : ℕ) (xs : List Quota) (i p : ℕ)
    → balanced_from os hs from (set xs i (with_permissions p (get_or xs i zero_quota))) ≡ balanced_from os hs from xs
unfolding balanced_from
balanced_after os hs from [] i p = refl
balanced_after os hs from (x ∷ xs) zero p = refl
balanced_after os hs from (x ∷ xs) (suc i) p =
    ap (λ (t : Bool). eqb x.grant (x.remainder + charges hs from os) && t) (balanced_after os hs (suc from) xs i p)

-- so clearing leaves a state accounted for, or not
module _ (q n : ℕ) (k : Accounts) where
  same_parsed : (b : Option (List Block)) → accounted_parsed b (put_quota q (without n (quota_at q k)) k) ≡ accounted_parsed b k
  unfolding accounted_parsed accounted_blocks
  same_parsed None = refl
  same_parsed (Some bs) = rw (balanced_after (objects bs) k.holds 0 k.quotas q (left_permissions q n k))

  pub clear_accounted : (s : List ℕ) → accounted s (clear_permissions q n k) ≡ accounted s k
  unfolding clear_permissions accounted
  clear_accounted s = change_case q (without n) k (λ (l : Accounts). accounted s l ≡ accounted s k) (same_parsed (parse s)) refl
