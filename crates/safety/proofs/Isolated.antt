-- What a quota can learn of the others. Each line of a call made for a quota, and each of its answers, reads of the accounts only the quota's own numbers and
-- records, the edition, the last serial, and whether a record is left.
use Prim.Native.Nat.{ℕ, zero, suc, ◌*◌}
use native.Mathlib.Omega.{arith}
use mathlib.Core.Path.{◌≡◌, refl, ap, sym, subst}
use mathlib.Core.List.{List, [], ◌∷◌}
use mathlib.Core.Bool.{true, ◌&&◌}
use lib.Dec.{ltb, leb}
use borrow.Author.Tests.{lt-ltb, le-leb}
use Rattle.accounts.specs.declared.Quota.{Quota}
use Rattle.accounts.specs.declared.Accounts.{Accounts}
use Rattle.accounts.specs.Accounts.{QUOTAS, remaining, used, permits, left_permissions, cleared}
use Rattle.rounding.specs.Rounding.{table}
use Rattle.lists.specs.Lists.{total}
use Rattle.model.specs.Answers.{given, amount_of}
use Rattle.model.specs.Objects.{blocks_of, objects, objects_of, lookup, lookup_whole, found}
use Rattle.model.specs.Consistent.{accounted, consistent, has_record, charged_for, charges}
use Rattle.model.specs.Refusals.{Line, first_refusal, line_2, line_6, line_7, line_8, line_9, line_10, line_12, claims_first, quota_lines}
use Rattle.model.specs.Refusals.{free_all_lines, row_lines}
use Rattle.model.specs.Refusals.{check_lines, lend_lines, release_lines, claim_lines, allocate_lines, reallocate_lines}
use Rattle.model.specs.Calls.{Outcome, unless, new_object, given_back, allocate, allocate_array, claim, release, free_all, sweep, reallocate, lend}
use Rattle.model.specs.Calls.{remaining_of, can_release, list_block, clear}
use Rattle.model.specs.Step.{step, own_step}
use Rattle.model.specs.declared.Handle.{Handle}
use Rattle.model.specs.declared.Call.{Call}
use Rattle.model.specs.declared.Call.TheVariants.{Allocate, AllocateArray, Claim, Release, FreeAll, Reallocate, Lend, Remaining, CanRelease, ListBlock}
use Rattle.model.specs.declared.Call.TheVariants.{ClearPermissions, Sweep}
use Rattle.lists.proofs.Bools.{implied, and_both, same_test}
use Rattle.lists.proofs.Lists.{member_all}
use Rattle.model.proofs.Consistent.{tests_exactly, valid_exactly, accounted_cut, consistent_accounted}
use Rattle.invariant.proofs.Good.{proper, Ordered}
use Rattle.invariant.proofs.Counts.{record_counted}
use Rattle.ledger.specs.History.{by_own}
use Rattle.safety.specs.Isolated.{MadeFor, Alike, Isolated}
use Rattle.safety.proofs.Wrong

-- the records of a consistent state are in order
pub accounted_ordered : (s : List ℕ) (k : Accounts) → accounted s k ≡ true → Ordered k.holds
unfolding proper
accounted_ordered s k c =
    let t = (tests_exactly (blocks_of s) k).0 (accounted_cut s k c).1 in
    let valid = (valid_exactly (objects (blocks_of s)) k.holds).0 t.valid in
    record {
      each =
          member_all proper k.holds (λ h m. implied (used h) (ltb h.quota QUOTAS && leb 1 h.count) (λ u.
          (let v = valid h m u in and_both (ltb h.quota QUOTAS) (leb 1 h.count) (lt-ltb h.quota QUOTAS v.3) (le-leb 1 h.count v.4))));
      differ = t.unique;
    }

-- `unless` answers the same where the refusals and what is due are the same
unless_same : (m n : ℕ) (s : List ℕ) (k k' : Accounts) (x y : Outcome) → m ≡ n → x.values ≡ y.values → (unless m s k x).values ≡ (unless n s k' y).values
unfolding unless
unless_same zero zero s k k' x y e v = v
unless_same zero (suc n) s k k' x y e v = absurd (omega (arith, e))
unless_same (suc m) zero s k k' x y e v = absurd (omega (arith, e))
unless_same (suc m) (suc n) s k k' x y e v = rw e

module _ (unit : ℕ → ℕ) (q : ℕ) (s : List ℕ) (k k' : Accounts) (c : consistent unit s k ≡ true) (c' : consistent unit s k' ≡ true) (a : Alike q k k') where
  remains : remaining q k ≡ remaining q k'
  unfolding remaining
  remains = ap (λ (x : Quota). x.remainder) a.quota

  permitted : (bit : ℕ) → permits bit q k ≡ permits bit q k'
  unfolding permits
  permitted bit = rw a.quota

  records : (serial : ℕ) → has_record k.holds q serial ≡ has_record k'.holds q serial
  records serial =
      let r = record_counted k.holds (accounted_ordered s k (consistent_accounted unit s k c)) serial q in
      let r' = record_counted k'.holds (accounted_ordered s k' (consistent_accounted unit s k' c')) serial q in
      same_test _ _ (λ e. r'.1 (rw (a.holds serial) at (r.0 e))) (λ e. r.1 (rw (a.holds serial) (r'.0 e)))

  -- what it pays for
  pays : (os : List Handle) → charges k.holds q os ≡ charges k'.holds q os
  unfolding charges total charged_for
  pays [] = refl
  pays (o ∷ os) = rw (records o.serial, pays os)

  -- the lines of its calls
  same_allocate : (n : ℕ) → allocate_lines unit s k q n ≡ allocate_lines unit s k' q n
  unfolding row_lines line_2 line_8 line_9 line_10 line_12
  same_allocate n = rw (c, c', permitted 1, remains, a.record_left, a.last)

  same_reallocate : (h : Handle) (n : ℕ) → reallocate_lines unit s k q h n ≡ reallocate_lines unit s k' q h n
  unfolding row_lines line_2 line_6 line_8 line_9 line_10 line_12
  same_reallocate h n = rw (c, c', permitted 1, records (found (lookup_whole h s)).serial, remains, a.record_left, a.last)

  same_object : (n : ℕ) → new_object unit s k n ≡ new_object unit s k' n
  unfolding new_object
  same_object n = rw a.last

  same_claim : (h : Handle) → claim_lines unit s k q h ≡ claim_lines unit s k' q h
  unfolding row_lines line_2 line_7 line_8 line_9 line_12 claims_first
  same_claim h = rw (c, c', permitted 2, records (found (lookup h s)).serial, a.holds (found (lookup h s)).serial, remains, a.record_left)

  same_release : (h : Handle) → release_lines unit s k q h ≡ release_lines unit s k' q h
  unfolding row_lines line_2 line_6
  same_release h = rw (c, c', records (found (lookup h s)).serial)

  same_quota : quota_lines unit s k q ≡ quota_lines unit s k' q
  unfolding row_lines line_2
  same_quota = rw (c, c')

  same_free_all : free_all_lines unit s k q ≡ free_all_lines unit s k' q
  unfolding row_lines line_2 line_12
  same_free_all = rw (c, c', permitted 4)

  same_check : check_lines unit s k ≡ check_lines unit s k'
  unfolding row_lines line_2
  same_check = rw (c, c')

  same_lend : (h : Handle) → lend_lines unit s k h ≡ lend_lines unit s k' h
  unfolding row_lines line_2
  same_lend h = rw (c, c')

  same_back : (o : Handle) → given_back q o k ≡ given_back q o k'
  unfolding given_back
  same_back o = rw (a.holds o.serial)

  same_left : (n : ℕ) → left_permissions q n k ≡ left_permissions q n k'
  same_left n = ap (λ (x : Quota). cleared n x.permissions) a.quota

  refusal : (x y : List Line) → x ≡ y → first_refusal x ≡ first_refusal y
  refusal x y e = ap first_refusal e

  answers : (d : Call) → MadeFor q d → (step unit d s k).values ≡ (step unit d s k').values
  unfolding step allocate allocate_array claim release free_all sweep reallocate lend remaining_of can_release list_block clear
  answers (Allocate p n) m = rw (m p refl) (unless_same _ _ s k k' _ _ (refusal _ _ (same_allocate n)) (ap given (same_object n)))
  answers (AllocateArray p count size) m =
      rw (m p refl) (unless_same _ _ s k k' _ _ (refusal _ _ (same_allocate (count * size))) (ap given (same_object (count * size))))
  answers (Claim p h) m = rw (m p refl) (unless_same _ _ s k k' _ _ (refusal _ _ (same_claim h)) refl)
  answers (Release p h) m = rw (m p refl) (unless_same _ _ s k k' _ _ (refusal _ _ (same_release h)) (ap amount_of (same_back (found (lookup h s)))))
  answers (FreeAll p) m = rw (m p refl) (unless_same _ _ s k k' _ _ (refusal _ _ same_free_all) (ap amount_of (pays (objects_of s))))
  answers Sweep m = unless_same _ _ s k k' _ _ (refusal _ _ same_check) refl
  answers (Reallocate p h n) m = rw (m p refl) (unless_same _ _ s k k' _ _ (refusal _ _ (same_reallocate h n)) (ap given (same_object n)))
  answers (Lend h) m = unless_same _ _ s k k' _ _ (refusal _ _ (same_lend h)) refl
  answers (Remaining p) m = rw (m p refl) (unless_same _ _ s k k' _ _ (refusal _ _ same_quota) (ap amount_of remains))
  answers (CanRelease p h) m = rw (m p refl) (unless_same _ _ s k k' _ _ (refusal _ _ (same_release h)) refl)
  answers (ListBlock at) m = unless_same _ _ s k k' _ _ (refusal _ _ same_check) refl
  answers (ClearPermissions p n) m = rw (m p refl) (unless_same _ _ s k k' _ _ (refusal _ _ same_quota) (ap amount_of (same_left n)))

-- THE THEOREM, for every family of tables
pub isolated_of : (tables : ℕ → ℕ → ℕ) → Isolated tables (by_own tables)
isolated_of tables =
    record {
      always = λ q s k k' c c' a d m.
          subst (λ (e : ℕ). (step (tables k.edition) d s k).values ≡ (step (tables e) d s k').values) a.edition
          (answers (tables k.edition) q s k k' c (subst (λ (e : ℕ). consistent (tables e) s k' ≡ true) (sym a.edition) c') a d m);
    }

pub isolated : Isolated table own_step
isolated = isolated_of table
