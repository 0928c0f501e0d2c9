-- A release is accepted exactly where it is possible, and then leaves what its definition says.
-- Each of its lines says one thing of the state: the heap's length, consistency, the quota's number, the object that the handle names, its record.
use Rattle.std.specs.Prelude.{Some}
use mathlib.Core.Path.{◌≡◌, ap, ◌∙◌}
use Prim.Native.Nat.{ℕ, ◌<◌, ◌^◌}
use mathlib.Core.List.{List, Memᴰ}
use mathlib.Core.Bool.{true, false, not}
use lib.ListN.{length, get_or}
use borrow.Author.Tests.{not-false, lt-leb}
use Rattle.accounts.specs.declared.Accounts.{Accounts}
use Rattle.accounts.specs.Accounts.{QUOTAS, zero_quota, permissible, permissions}
use Rattle.layout.specs.Bytes.{Octets}
use Rattle.layout.specs.Blocks.{render}
use Rattle.lists.specs.Lists.{all, any, first, or_else, is_none}
use Rattle.model.specs.Answers.{amount_of}
use Rattle.model.specs.Objects.{objects, objects_of, names, lookup, found}
use Rattle.model.specs.Consistent.{allowed, accounted, consistent, has_record, in_units}
use Rattle.model.specs.Refusals.{line_holds, first_refusal, line_1, line_2, line_3, line_5, line_6, release_lines, row_lines}
use Rattle.model.specs.Calls.{State, leaves, unless, state_of, given_back, released, release}
use Rattle.model.specs.Step.{step}
use Rattle.model.specs.declared.Handle.{Handle}
use Rattle.model.specs.declared.Call.TheVariants.{Release}
use Rattle.lists.proofs.Bools.{and_both, or_neither}
use Rattle.lists.proofs.Lists.{first_some, all_member, member_all}
use Rattle.model.proofs.Consistent.{consistent_accounted, consistent_fits, consistent_permissible, consistent_kinds, consistent_range, range_serial}
use Rattle.model.proofs.Permissions.{released_permissions}
use Rattle.model.proofs.Refusals.{call_accepted_exactly}
use Rattle.invariant.proofs.Good.{Good}
use Rattle.invariant.proofs.Heaps.{good_heap, heap_good}
use Rattle.invariant.proofs.Kinded.{Kinded, released_kinds, written_kinds}
use Rattle.invariant.proofs.Members.{keep_exactly}
use Rattle.invariant.proofs.Settled.{released_good, released_objects}
use Rattle.invariant.proofs.Passed.{release_passed}

-- a release is possible: its quota exists, its handle names an object, and the quota has a record for that
pub record Possible (q : ℕ) (h o : Handle) (t : State) : Type 0 where
  pub exists : q < QUOTAS
  pub names : first (names h) (objects t.blocks) ≡ Some o
  pub recorded : has_record t.accounts.holds q o.serial ≡ true

-- what `consistent` asks for beyond `accounted`: every object of a state fits its unit, every quota's permissions are such, and blocks and numbers
-- are of the kind
pub record Fitting (unit : ℕ → ℕ) (t : State) : Type 0 where
  pub units : all (in_units unit) (objects t.blocks) ≡ true
  pub permitted : all permissible (permissions t.accounts) ≡ true
  pub kinded : Kinded t

-- a good state that has this is written as a consistent heap
good_consistent : (unit : ℕ → ℕ) (t : State) → Good t → Fitting unit t → consistent unit (render t.blocks) t.accounts ≡ true
unfolding consistent
good_consistent unit t g f =
    let k = written_kinds t g f.kinded in
    and_both _ _ (good_heap t g).passes
    (and_both _ _ (ap (all (in_units unit)) (good_heap t g).objects ∙ f.units) (and_both _ _ f.permitted (and_both _ _ k.0 k.1)))

-- and a consistent heap's state has it
pub consistent_fitting : (unit : ℕ → ℕ) (s : List ℕ) (k : Accounts) → consistent unit s k ≡ true → Fitting unit (state_of s k)
unfolding objects_of
consistent_fitting unit s k e =
    record {
      units = member_all (in_units unit) (objects_of s) (consistent_fits unit s k e);
      permitted = consistent_permissible unit s k e;
      kinded = (consistent_kinds unit s k e, consistent_range unit s k e);
    }

-- a release that is possible in a good state
module _ (q : ℕ) (h o : Handle) (t : State) (g : Good t) (p : Possible q h o t) where
  -- its object is there
  pub possible_there : Memᴰ o (objects t.blocks)
  possible_there = (first_some (names h) (objects t.blocks) o p.names).0

  -- the state stays good
  pub possible_good : Good (released q o t)
  possible_good = released_good q o t g possible_there p.recorded

  -- its objects were there before
  possible_kept : (x : Handle) → Memᴰ x (objects (released q o t).blocks) → Memᴰ x (objects t.blocks)
  possible_kept x m = ((keep_exactly _ (objects t.blocks) x).0 (rw (released_objects q o t g possible_there p.recorded) at m)).0

  module _ (unit : ℕ → ℕ) (f : Fitting unit t) where
    -- so they fit their units, and a release leaves the permissions
    pub possible_fitting : Fitting unit (released q o t)
    possible_fitting =
        record {
          units =
              member_all (in_units unit) (objects (released q o t).blocks)
              (λ x m. all_member (in_units unit) (objects t.blocks) f.units x (possible_kept x m));
          permitted = ap (all permissible) (released_permissions q o t) ∙ f.permitted;
          kinded = released_kinds q o t f.kinded;
        }

    found_here : lookup h (render t.blocks) ≡ Some o
    unfolding lookup
    found_here = rw (good_heap t g).objects p.names

    no_line : first_refusal (release_lines unit (render t.blocks) t.accounts q h) ≡ 0
    unfolding row_lines first_refusal line_1 line_2 line_3 line_5 line_6 found or_else is_none
    no_line = rw ((good_heap t g).allowed, good_consistent unit t g f, lt-leb _ _ p.exists, found_here, p.recorded)

    -- it is accepted, and does what its definition says
    pub does : release unit (render t.blocks) t.accounts q h ≡ leaves (released q o t) (amount_of (given_back q o t.accounts))
    unfolding release unless found or_else
    does = rw (no_line, found_here, (good_heap t g).blocks)

-- a release that is accepted: its state is consistent, and it is possible there
module _ (unit : ℕ → ℕ) (s : List ℕ) (k : Accounts) (q : ℕ) (h : Handle) (e : (release unit s k q h).values.refusal ≡ 0) where
  none_holds : any line_holds (release_lines unit s k q h) ≡ false
  unfolding step
  none_holds = (call_accepted_exactly unit (Release q h) s k).0 e

  checked : (allowed (length s) ≡ true) × (consistent unit s k ≡ true)
  unfolding row_lines any line_1 line_2
  checked =
      let x = or_neither (not (allowed (length s))) _ none_holds in
      let y = or_neither (not (consistent unit s k)) _ x.1 in
      (not-false (allowed (length s)) x.0, not-false (consistent unit s k) y.0)

  pub did_accounted : accounted s k ≡ true
  did_accounted = consistent_accounted unit s k checked.1

  pub did_fitting : Fitting unit (state_of s k)
  did_fitting = consistent_fitting unit s k checked.1

  pub did_good : Octets s → length k.quotas ≡ QUOTAS → ((j : ℕ) → (get_or k.quotas j zero_quota).grant < 2 ^ 32) → Good (state_of s k)
  did_good o l n = heap_good s k checked.0 o did_accounted l n (range_serial k (consistent_range unit s k checked.1))

  pub did : (o : Handle) × Possible q h o (state_of s k)
  unfolding lookup objects_of found or_else
  did =
      let r = release_passed unit s k q h none_holds in
      (r.object, record { exists = r.exists; names = r.names; recorded = rw r.names at r.recorded })
