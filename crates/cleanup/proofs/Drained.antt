-- A quota that releases until it holds nothing leaves what free_all leaves.
-- Whichever of its records a release is about, dropping all of them afterwards comes to the same; with none left there is nothing to drop. Blocks that are
-- settled in steps are settled once. Both states are good, so the same remains of each quota; and each answer is what its release adds to the remainder.
use mathlib.Core.Path.{◌≡◌, refl, ap, sym, subst, ◌∙◌}
use Prim.Native.Nat.{ℕ, zero, suc, ◌+◌, ◌-◌, ◌<◌}
use native.Mathlib.Omega.{arith}
use mathlib.Core.List.{List, [], ◌∷◌}
use mathlib.Core.Bool.{Bool, true, false, not}
use lib.ListN.{length}
use lib.Dec.{eqb}
use borrow.Author.Tests.{eqb-true, eqb-false, eq-eqb, not-false}
use Rattle.accounts.specs.declared.Hold.{Hold}
use Rattle.accounts.specs.declared.Accounts.{Accounts}
use Rattle.accounts.specs.Accounts.{QUOTAS, used, is_for, remaining, record_of, dropped, drop_records}
use Rattle.accounts.proofs.Laws.{refund_but, refund_kept}
use Rattle.layout.specs.Blocks.{render}
use Rattle.lists.specs.Lists.{any, all, total, change_first}
use Rattle.model.specs.Answers.{amount_of}
use Rattle.model.specs.Objects.{blocks_of, objects, objects_of}
use Rattle.model.specs.Consistent.{allowed, accounted, consistent, held, charges, long_enough, free_apart, well_cut}
use Rattle.model.specs.Space.{settle}
use Rattle.model.specs.Holds.{with_count, less_one, lower_count}
use Rattle.model.specs.Refusals.{line_holds, line_1, line_2, free_all_lines, row_lines}
use Rattle.model.specs.Calls.{State, leaves, unless, state_of, given_back, released, freed, free_all, release}
use Rattle.model.specs.Step.{step}
use Rattle.model.specs.declared.Handle.{Handle}
use Rattle.model.specs.declared.Call.TheVariants.{FreeAll}
use Rattle.lists.proofs.Bools.{and_left, and_right, and_both, or_neither}
use Rattle.model.proofs.Consistent.{is_for_exactly, consistent_accounted, consistent_range, range_serial}
use Rattle.model.proofs.Settle.{stays_objects, settle_same, settle_twice, drop_none}
use Rattle.model.proofs.Refusals.{by_lines, refusal_of_lines, call_accepted_exactly}
use Rattle.invariant.proofs.Good.{Good}
use Rattle.invariant.proofs.Heaps.{heap_good, heap_again}
use Rattle.invariant.proofs.Counts.{counted_used}
use Rattle.invariant.proofs.Passed.{free_all_passed}
use Rattle.invariant.proofs.Settled.{released_paid, freed_paid, freed_good}
use Rattle.invariant.proofs.Releasing.{Possible, possible_there, consistent_fitting}
use Rattle.cleanup.specs.Releases.{Drop, Cleaned, cleaned, accepted_throughout, Fits}
use Rattle.cleanup.specs.FreeAll.{all_for, sum_of, AsFreeAll, FreeAllByReleases}
use Rattle.cleanup.proofs.Lowering.{lowered_held}
use Rattle.cleanup.proofs.Balance.{but_remainders, same_state, released_holds, released_blocks, released_but, released_last, released_kind}
use Rattle.cleanup.proofs.Balance.{released_edition}
use Rattle.cleanup.proofs.Accepting.{Consistent, after, Accepted, next_consistent, after_first, rest_accepted, first_possible}

-- a used record with one hold less is of zeros or still used
less_dropped : (q : ℕ) (h : Hold) → record_of q h ≡ true → dropped q (less_one h) ≡ dropped q h
unfolding less_one used
less_dropped q h e = go (eqb h.count 1) refl
  where
    left : (n : ℕ) → h.count ≡ n → eqb h.count 1 ≡ false → record_of q (with_count (h.count - 1) h) ≡ true
    left zero z f = rw z (rw z at e)
    left (suc n) z f =
        and_both _ _ (counted_used (with_count (h.count - 1) h) (omega (arith, z, eqb-false h.count 1 f))) (and_right (used h) _ e)

    go : (x : Bool) → eqb h.count 1 ≡ x → dropped q (less_one h) ≡ dropped q h
    go true f = rw (f, e)
    go false f = rw (f, e, left h.count refl f)

-- so dropping a quota's records comes to the same after one of its holds was dropped
lowered_dropped : (serial q : ℕ) (hs : List Hold) → drop_records q (lower_count serial q hs) ≡ drop_records q hs
unfolding drop_records lower_count change_first
lowered_dropped serial q [] = refl
lowered_dropped serial q (h ∷ hs) = go (is_for serial q h) refl (lowered_dropped serial q hs)
  where
    go : (x : Bool) → is_for serial q h ≡ x → drop_records q (lower_count serial q hs) ≡ drop_records q hs
        → drop_records q (change_first (is_for serial q) less_one (h ∷ hs)) ≡ drop_records q (h ∷ hs)
    go true e ih =
        let r = (is_for_exactly serial q h).0 e in
        rw (e, less_dropped q h (and_both _ _ r.0 (eq-eqb h.quota q r.2)))
    go false e ih = rw e (ap (λ (l : List Hold). dropped q h ∷ l) ih)

module _ (unit : ℕ → ℕ) (q : ℕ) where
  -- where a list of a quota's releases ends
  pub record Ends (ds : List Drop) (t : State) : Type 0 where
    pub state : State
    pub good : Good state
    pub heap : (after unit ds t).heap ≡ render state.blocks
    pub accounts : (after unit ds t).accounts ≡ state.accounts
    pub blocks : state.blocks ≡ settle t.accounts.kind state.accounts.holds t.blocks
    pub fewer : (serial : ℕ) → held state.accounts.holds serial ≡ true → held t.accounts.holds serial ≡ true
    pub same : drop_records q state.accounts.holds ≡ drop_records q t.accounts.holds
    pub but : but_remainders state.accounts ≡ but_remainders t.accounts
    pub last : state.accounts.last_serial ≡ t.accounts.last_serial
    pub kind : state.accounts.kind ≡ t.accounts.kind
    pub edition : state.accounts.edition ≡ t.accounts.edition
    pub paid : remaining q state.accounts ≡ remaining q t.accounts + sum_of (after unit ds t).answers

  -- nothing is settled in a good state
  settled : (t : State) → Good t → t.blocks ≡ settle t.accounts.kind t.accounts.holds t.blocks
  unfolding objects well_cut
  settled t g =
      sym (settle_same t.accounts.kind t.accounts.holds t.blocks (sym (stays_objects t.accounts.holds 0 t.blocks) ∙ g.tests.recorded)
      (and_right (all long_enough t.blocks) (free_apart t.blocks) g.tests.cut))

  -- a release that is possible, in front of a list
  module _ (t : State) (g : Consistent unit t) (d : Drop) (o : Handle) (p : Possible d.quota d.handle o t) (here : d.quota ≡ q) (ds : List Drop)
      (e : Ends ds (released d.quota o t)) where
    abbrev left : List Hold
    left = lower_count o.serial d.quota t.accounts.holds

    still_held : (serial : ℕ) → held e.state.accounts.holds serial ≡ true → held left serial ≡ true
    still_held serial h = rw (released_holds d.quota o t) at (e.fewer serial h)

    repaid : remaining q (released d.quota o t).accounts ≡ remaining q t.accounts + given_back d.quota o t.accounts
    repaid =
        subst (λ (j : ℕ). remaining j (released d.quota o t).accounts ≡ remaining j t.accounts + given_back d.quota o t.accounts) here
        (released_paid d.quota o t g.good (possible_there d.quota d.handle o t g.good p) p.recorded)

    summed : sum_of (after unit (d ∷ ds) t).answers ≡ given_back d.quota o t.accounts + sum_of (after unit ds (released d.quota o t)).answers
    unfolding sum_of total
    summed = ap (λ (c : Cleaned). sum_of c.answers) (after_first unit t g d o p ds)

    ends_behind : Ends (d ∷ ds) t
    ends_behind =
        record {
          state = e.state;
          good = e.good;
          heap = ap (λ (c : Cleaned). c.heap) (after_first unit t g d o p ds) ∙ e.heap;
          accounts = ap (λ (c : Cleaned). c.accounts) (after_first unit t g d o p ds) ∙ e.accounts;
          blocks =
              e.blocks
              ∙ ap (λ (n : ℕ). settle n e.state.accounts.holds (released d.quota o t).blocks) (released_kind d.quota o t)
              ∙ ap (settle t.accounts.kind e.state.accounts.holds) (released_blocks d.quota o t)
              ∙ settle_twice t.accounts.kind left e.state.accounts.holds still_held t.blocks;
          fewer = λ serial h. lowered_held o.serial d.quota t.accounts.holds serial (still_held serial h);
          same =
              e.same
              ∙ ap (drop_records q) (released_holds d.quota o t)
              ∙ subst (λ (j : ℕ). drop_records q (lower_count o.serial j t.accounts.holds) ≡ drop_records q t.accounts.holds) (sym here)
              (lowered_dropped o.serial q t.accounts.holds);
          but = e.but ∙ released_but d.quota o t;
          last = e.last ∙ released_last d.quota o t;
          kind = e.kind ∙ released_kind d.quota o t;
          edition = e.edition ∙ released_edition d.quota o t;
          paid = omega (arith, e.paid, repaid, summed);
        }

  pub ends : (ds : List Drop) (t : State) → Consistent unit t → Accepted unit ds t → all_for q ds ≡ true → Ends ds t
  unfolding cleaned sum_of total all_for all
  ends [] t g a f =
      record {
        state = t;
        good = g.good;
        heap = refl;
        accounts = refl;
        blocks = settled t g.good;
        fewer = λ serial e. e;
        same = refl;
        but = refl;
        last = refl;
        kind = refl;
        edition = refl;
        paid = omega arith;
      }
  ends (d ∷ ds) t g a f =
      let r = first_possible unit t g d ds a in
      ends_behind t g d r.0 r.1 (eqb-true d.quota q (and_left _ _ f)) ds
      (ends ds (released d.quota r.0 t) (next_consistent unit t g d r.0 r.1) (rest_accepted unit t g d r.0 r.1 ds a)
      (and_right (eqb d.quota q) _ f))

  -- with no record left that is where free_all ends
  module _ (ds : List Drop) (t : State) (g : Consistent unit t) (exists : q < QUOTAS) (a : Accepted unit ds t) (f : all_for q ds ≡ true)
      (none : any (record_of q) (after unit ds t).accounts.holds ≡ false) where
    end : Ends ds t
    end = ends ds t g a f

    abbrev back : ℕ
    back = charges t.accounts.holds q (objects t.blocks)

    abbrev all_freed : State
    all_freed = freed q back t

    no_record : any (record_of q) end.state.accounts.holds ≡ false
    no_record = rw end.accounts at none

    end_holds : end.state.accounts.holds ≡ drop_records q t.accounts.holds
    end_holds = sym (drop_none q end.state.accounts.holds no_record) ∙ end.same

    end_freed : end.state ≡ all_freed
    unfolding freed
    end_freed =
        same_state end.state all_freed end.good (freed_good q t g.good exists)
        (end.but ∙ sym (refund_but q back t.accounts))
        end_holds
        (end.blocks ∙ ap (λ (hs : List Hold). settle t.accounts.kind hs t.blocks) end_holds)
        (end.last ∙ sym (refund_kept q back t.accounts).same_last)
        (end.kind ∙ sym (refund_kept q back t.accounts).same_kind)
        (end.edition ∙ sym (refund_kept q back t.accounts).same_edition)

    end_sum : sum_of (after unit ds t).answers ≡ back
    end_sum = omega (arith, end.paid, freed_paid q t g.good exists, ap (λ (u : State). remaining q u.accounts) end_freed)

  -- an accepted free_all began in a good state
  module _ (s : List ℕ) (k : Accounts) (fits : Fits s k) (e : (free_all unit s k q).values.refusal ≡ 0) where
    none_holds : any line_holds (free_all_lines unit s k q) ≡ false
    unfolding step
    none_holds = (call_accepted_exactly unit (FreeAll q) s k).0 e

    checked : (allowed (length s) ≡ true) × (consistent unit s k ≡ true)
    unfolding row_lines any line_1 line_2
    checked =
        let x = or_neither (not (allowed (length s))) _ none_holds in
        let y = or_neither (not (consistent unit s k)) _ x.1 in
        (not-false (allowed (length s)) x.0, not-false (consistent unit s k) y.0)

    whole : accounted s k ≡ true
    whole = consistent_accounted unit s k checked.1

    pub again : render (blocks_of s) ≡ s
    again = heap_again s k fits.octets whole

    pub begun : Consistent unit (state_of s k)
    begun =
        let e = checked.1 in
        record {
          good = heap_good s k checked.0 fits.octets whole fits.quotas fits.narrow (range_serial k (consistent_range unit s k e));
          fitting = consistent_fitting unit s k e;
        }

    pub exists : q < QUOTAS
    exists = free_all_passed unit s k q none_holds

    -- and leaves what its definition says
    freed_all : free_all unit s k q ≡ leaves (freed q (charges k.holds q (objects_of s)) (state_of s k)) (amount_of (charges k.holds q (objects_of s)))
    unfolding free_all unless step
    freed_all = rw (sym (refusal_of_lines (by_lines unit (FreeAll q) s k)) ∙ e)

    by_releases : (ds : List Drop) → all_for q ds ≡ true → accepted_throughout (cleaned (release unit) ds s k).answers ≡ true
        → any (record_of q) (cleaned (release unit) ds s k).accounts.holds ≡ false → AsFreeAll (release unit) (free_all unit) q ds s k
    unfolding objects_of
    by_releases ds f a none =
        let t = state_of s k in
        let a' : Accepted unit ds t = rw again a in
        let n : any (record_of q) (after unit ds t).accounts.holds ≡ false = rw again none in
        let x = end ds t begun exists a' f n in
        let y = end_freed ds t begun exists a' f n in
        let z = end_sum ds t begun exists a' f n in
        record {
          heap = rw freed_all (rw again at x.heap ∙ ap (λ (u : State). render u.blocks) y);
          accounts = rw freed_all (rw again at x.accounts ∙ ap (λ (u : State). u.accounts) y);
          amount = rw freed_all (rw again at z);
        }

-- by one table of units, whichever
pub freed_by : (unit : ℕ → ℕ) → FreeAllByReleases (release unit) (free_all unit)
freed_by unit = record { always = λ q ds s k fits e f a none. by_releases unit q s k fits e ds f a none }
