-- Free-all: what it gives back is what the quota has spent, since in a consistent state that is the sum of its charges.
-- With no record (rule 8.22) the very heap bytes and accounts come back:
-- No record is dropped, so nothing is charged for, every object is held still, and settling and writing the blocks gives what was read.
use Prim.Native.Nat.{ℕ, ◌<◌}
use native.Mathlib.Omega.{arith}
use native.Mathlib.Nat.{zero-add}
use mathlib.Core.Path.{◌≡◌, refl, ap, sym, ◌∙◌}
use mathlib.Core.List.{List, [], ◌∷◌}
use mathlib.Core.Bool.{true, false}
use lib.ListN.{length}
use borrow.Author.Tests.{eq-eqb}
use Rattle.accounts.specs.declared.Hold.{Hold}
use Rattle.accounts.specs.declared.Accounts.{Accounts}
use Rattle.accounts.specs.Accounts.{used, is_for, remaining, spent, with_holds, record_of}
use Rattle.accounts.proofs.Laws.{refund_nothing}
use Rattle.layout.specs.Bytes.{Octets}
use Rattle.layout.specs.Blocks.{render}
use Rattle.layout.proofs.Parse.{parse_is}
use Rattle.lists.specs.Lists.{all, any, total}
use Rattle.model.specs.Answers.{amount_of}
use Rattle.model.specs.Objects.{blocks_of, objects, objects_of}
use Rattle.model.specs.Consistent.{accounted, has_record, charged_for, charges}
use Rattle.model.specs.Refusals.{first_refusal, free_all_lines}
use Rattle.model.specs.Calls.{State, leaves, unless, unchanged, state_of, freed, free_all}
use Rattle.model.specs.declared.Handle.{Handle}
use Rattle.model.proofs.Rows
use Rattle.lists.proofs.Bools.{and_both}
use Rattle.model.proofs.Consistent.{Tests, tests_exactly, accounted_cut, accounted_apart, accounted_facts, is_for_exactly}
use Rattle.model.proofs.Settle.{stays_objects, drop_none, settle_none}
use Rattle.lists.proofs.Lists.{none_exactly}
use Rattle.model.specs.Space.{stays}

-- in a consistent state the sum of a quota's charges is what it has spent
pub charges_spent : (s : List ℕ) (k : Accounts) → accounted s k ≡ true → (q : ℕ) → q < length k.quotas → charges k.holds q (objects_of s) ≡ spent q k
unfolding spent remaining objects_of
charges_spent s k c q h = omega (arith, (accounted_facts s k c).balance q h)

-- a quota without records is charged for nothing
none_for : (q : ℕ) (hs : List Hold) → any (record_of q) hs ≡ false → (serial : ℕ) → has_record hs q serial ≡ false
unfolding has_record
none_for q hs e serial =
    (none_exactly (is_for serial q) hs).1
    (λ h m t. (let r = (is_for_exactly serial q h).0 t in (none_exactly (record_of q) hs).0 e h m (and_both (used h) _ r.0 (eq-eqb h.quota q r.2))))

charges_none : (q : ℕ) (hs : List Hold) → any (record_of q) hs ≡ false → (os : List Handle) → charges hs q os ≡ 0
unfolding charges total charged_for
charges_none q hs e [] = refl
charges_none q hs e (o ∷ os) = rw (none_for q hs e o.serial) (zero-add _ ∙ charges_none q hs e os)

module _ (s : List ℕ) (k : Accounts) (o : Octets s) (c : accounted s k ≡ true) (q : ℕ) (none : any (record_of q) k.holds ≡ false) where
  tests : Tests (blocks_of s) k
  tests = (tests_exactly (blocks_of s) k).0 (accounted_cut s k c).1

  stay : all (stays k.holds) (blocks_of s) ≡ true
  unfolding objects
  stay = sym (stays_objects k.holds 0 (blocks_of s)) ∙ tests.recorded

  freed_none : freed q 0 (state_of s k) ≡ state_of s k
  unfolding freed
  freed_none =
      λ i.
      record {
        blocks = settle_none k.kind q k.holds (blocks_of s) none stay (accounted_apart s k c) i;
        accounts = with_holds (drop_none q k.holds none i) (refund_nothing q k i);
      }

  -- free_all leaves heap and accounts as they are and answers 0
  pub free_all_none : (unit : ℕ → ℕ) → free_all unit s k q ≡ unless (first_refusal (free_all_lines unit s k q)) s k (unchanged s k (amount_of 0))
  unfolding free_all
  free_all_none unit =
      let again : render (blocks_of s) ≡ s = ((parse_is s (blocks_of s) o).0 (accounted_cut s k c).0).0 in
      rw (charges_none q k.holds none (objects_of s))
      (ap (λ (t : State). unless (first_refusal (free_all_lines unit s k q)) s k (leaves t (amount_of 0))) freed_none
      ∙ ap (λ (x : List ℕ). unless (first_refusal (free_all_lines unit s k q)) s k (unchanged x k (amount_of 0))) again)
