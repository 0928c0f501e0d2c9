-- Two releases, one after the other, may be exchanged: both are accepted in the other order too and lead to the same state.
-- A release makes records, objects and holders fewer and changes no other record, so the second was possible before the first; and the first is
-- possible after the second, because that is of another record or leaves this one a hold. The records come out the same, and blocks that are settled
-- in steps are settled once. Grants stay, so what remains of each quota, which is its grant less its charges, comes out the same too.
use mathlib.Core.Path.{◌≡◌, refl, ap, sym, ◌∙◌}
use Prim.Native.Nat.{ℕ}
use mathlib.Core.List.Permᴰ
use mathlib.Core.List.{List, ◌∷◌, Permᴰ}
use mathlib.Core.Bool.{Bool, true, false, cond, ◌&&◌, true≢false}
use lib.Dec.{eqb}
use borrow.Author.Tests.{eqb-true, eq-eqb}
use Rattle.accounts.specs.declared.Hold.{Hold}
use Rattle.model.specs.Answers.{amount_of}
use Rattle.model.specs.Objects.{objects, names}
use Rattle.model.specs.Consistent.{has_record, charge_of}
use Rattle.model.specs.Space.{settle}
use Rattle.model.specs.Holds.{count_of, lower_count}
use Rattle.model.specs.Calls.{State, given_back, released}
use Rattle.model.specs.declared.Handle.{Handle}
use Rattle.lists.proofs.Bools.{and_left, and_right, and_both, fails}
use Rattle.model.proofs.Lookup.{same_serial}
use Rattle.model.proofs.Settle.{object_held, settle_twice}
use Rattle.invariant.proofs.Good.{Good}
use Rattle.invariant.proofs.Heaps.{good_ordered}
use Rattle.invariant.proofs.Counts.{lower_counted}
use Rattle.invariant.proofs.Settled.{released_objects}
use Rattle.invariant.proofs.Releasing.{Possible, possible_there, possible_good}
use Rattle.cleanup.specs.Releases.{Drop, Answered}
use Rattle.cleanup.proofs.Lowering.{lowered_held, lowered_record, other_record, lowered_exchanged, record_held}
use Rattle.cleanup.proofs.Finding.{found_kept, found_before}
use Rattle.cleanup.proofs.Balance.{same_state, released_holds, released_but, released_last, released_kind, released_edition}

-- the answer of a release
abbrev pub answer : ℕ → Handle → State → Answered
answer q o t = record { quota = q; values = amount_of (given_back q o t.accounts) }

-- blocks that are settled after one release and after another are settled once, whatever the kind
settled_once : (q j : ℕ) (o p : Handle) (t : State)
    → (released j p (released q o t)).blocks
    ≡ settle t.accounts.kind (lower_count p.serial j (lower_count o.serial q t.accounts.holds)) t.blocks
unfolding released
settled_once q j o p t =
    let hs = lower_count o.serial q t.accounts.holds in
    let less = lower_count p.serial j hs in
    ap (λ (n : ℕ). settle n less (settle t.accounts.kind hs t.blocks)) (released_kind q o t)
    ∙ settle_twice t.accounts.kind hs less (lowered_held p.serial j hs) t.blocks

-- two releases, one after the other
module _ (t : State) (g : Good t) (d e : Drop) (o p : Handle) (a : Possible d.quota d.handle o t)
    (b : Possible e.quota e.handle p (released d.quota o t)) where
  -- the second was possible before the first
  earlier : Possible e.quota e.handle p t
  earlier =
      record {
        exists = b.exists;
        names =
            found_before e.handle (object_held (lower_count o.serial d.quota t.accounts.holds)) (objects t.blocks) g.tests.differ p
            (rw (released_objects d.quota o t g (possible_there d.quota d.handle o t g a) a.recorded) at b.names);
        recorded = lowered_record o.serial d.quota t.accounts.holds p.serial e.quota (rw (released_holds d.quota o t) at b.recorded);
      }

  -- both are of one record, or of two
  same : Bool
  same = eqb p.serial o.serial && eqb e.quota d.quota

  -- the first one's record is left by the second
  still : (x : Bool) → same ≡ x → has_record (lower_count p.serial e.quota t.accounts.holds) d.quota o.serial ≡ true
  unfolding same
  still true s =
      let y = eqb-true p.serial o.serial (and_left _ _ s) in
      let z = eqb-true e.quota d.quota (and_right (eqb p.serial o.serial) _ s) in
      rw (y, z) (rw (released_holds d.quota o t, y, z) at b.recorded)
  still false s = other_record p.serial e.quota t.accounts.holds o.serial d.quota s a.recorded

  -- the first is possible after the second
  later : Possible d.quota d.handle o (released e.quota p t)
  later =
      let r = still same refl in
      record {
        exists = a.exists;
        names =
            rw (released_objects e.quota p t g (possible_there e.quota e.handle p t g earlier) earlier.recorded)
            (found_kept (names d.handle) (object_held (lower_count p.serial e.quota t.accounts.holds)) (objects t.blocks) o a.names
            (record_held _ o.serial d.quota r));
        recorded = rw (released_holds e.quota p t) r;
      }

  -- the states after the first, after the second by itself, and after both in each order
  abbrev first_done : State
  first_done = released d.quota o t

  abbrev second_done : State
  second_done = released e.quota p t

  abbrev both_done : State
  both_done = released e.quota p first_done

  abbrev both_done' : State
  both_done' = released d.quota o second_done

  -- where both are of one record they are of one object and one quota
  one_object : same ≡ true → p ≡ o
  unfolding same
  one_object s =
      same_serial (objects t.blocks) g.tests.differ p o (possible_there e.quota e.handle p t g earlier)
      (possible_there d.quota d.handle o t g a) (eqb-true p.serial o.serial (and_left _ _ s))

  one_quota : same ≡ true → e.quota ≡ d.quota
  unfolding same
  one_quota s = eqb-true e.quota d.quota (and_right (eqb p.serial o.serial) _ s)

  -- the records come out the same
  both_holds : same ≡ false → both_done.accounts.holds ≡ both_done'.accounts.holds
  unfolding same released
  both_holds s = sym (lowered_exchanged p.serial e.quota t.accounts.holds o.serial d.quota s)

  -- and so do the blocks
  both_blocks : same ≡ false → both_done.blocks ≡ both_done'.blocks
  unfolding released
  both_blocks s =
      settled_once d.quota e.quota o p t
      ∙ ap (λ (l : List Hold). settle t.accounts.kind l t.blocks) (both_holds s)
      ∙ sym (settled_once e.quota d.quota p o t)

  -- the two orders lead to the same state
  both_same : (x : Bool) → same ≡ x → both_done ≡ both_done'
  both_same true s = rw (one_object s, one_quota s)
  both_same false s =
      same_state both_done both_done' (possible_good e.quota e.handle p first_done (possible_good d.quota d.handle o t g a) b)
      (possible_good d.quota d.handle o second_done (possible_good e.quota e.handle p t g earlier) later)
      ((released_but e.quota p first_done ∙ released_but d.quota o t) ∙ sym (released_but d.quota o second_done ∙ released_but e.quota p t))
      (both_holds s) (both_blocks s)
      ((released_last e.quota p first_done ∙ released_last d.quota o t) ∙ sym (released_last d.quota o second_done ∙ released_last e.quota p t))
      ((released_kind e.quota p first_done ∙ released_kind d.quota o t) ∙ sym (released_kind d.quota o second_done ∙ released_kind e.quota p t))
      ((released_edition e.quota p first_done ∙ released_edition d.quota o t)
      ∙ sym (released_edition d.quota o second_done ∙ released_edition e.quota p t))

  -- a release of another record gives back the same
  same_answer : (q : ℕ) (x : Handle) (j : ℕ) (y : Handle) → has_record t.accounts.holds j y.serial ≡ true
      → (eqb y.serial x.serial && eqb j q) ≡ false
      → answer q x (released j y t) ≡ answer q x t
  unfolding released given_back
  same_answer q x j y r s =
      let n : count_of x.serial q (lower_count y.serial j t.accounts.holds) ≡ count_of x.serial q t.accounts.holds =
      rw s at (lower_counted t.accounts.holds (good_ordered t g) y.serial j r x.serial q) in
      ap (λ (n : ℕ). record { quota = q; values = amount_of (cond (eqb n 1) (charge_of x.length) 0) }) n

  turned : same ≡ false → (eqb o.serial p.serial && eqb d.quota e.quota) ≡ false
  unfolding same
  turned s =
      fails _
      (λ u. true≢false (sym (and_both _ _ (eq-eqb p.serial o.serial (sym (eqb-true _ _ (and_left _ _ u))))
      (eq-eqb e.quota d.quota (sym (eqb-true _ _ (and_right (eqb o.serial p.serial) _ u))))) ∙ s))

  -- the answers are the same but for their order
  both_answers : (rest : List Answered) (x : Bool) → same ≡ x
      → Permᴰ (answer d.quota o t ∷ answer e.quota p first_done ∷ rest) (answer e.quota p t ∷ answer d.quota o second_done ∷ rest)
  unfolding same
  both_answers rest true s = rw (one_object s, one_quota s) (Permᴰ.refl _)
  both_answers rest false s =
      Permᴰ.swap (sym (same_answer d.quota o e.quota p earlier.recorded s))
      (same_answer e.quota p d.quota o a.recorded (turned s))

  -- so the two may be exchanged
  pub record Exchanged : Type 0 where
    pub before : Possible e.quota e.handle p t
    pub after : Possible d.quota d.handle o (released e.quota p t)
    pub state : released e.quota p (released d.quota o t) ≡ released d.quota o (released e.quota p t)
    pub answers : (rest : List Answered)
        → Permᴰ (answer d.quota o t ∷ answer e.quota p (released d.quota o t) ∷ rest)
        (answer e.quota p t ∷ answer d.quota o (released e.quota p t) ∷ rest)

  pub exchanged : Exchanged
  exchanged = record { before = earlier; after = later; state = both_same same refl; answers = λ rest. both_answers rest same refl }
