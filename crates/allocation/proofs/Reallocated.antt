-- Reallocate is allocate, a copy and a release: behind lines 5 and 6 its lines are allocate's, so what allocate refuses it refuses; and where allocate
-- grants an object, the heap with the old object's bytes copied is that of a good state. There the old handle still names its object, and the
-- quota still has its record, so that release is accepted and gives what the definition says.
use Rattle.std.specs.Prelude.{Some, Result, Ok, Err}
use Prim.Native.Nat.{ℕ, suc, min}
use mathlib.Core.Path.{◌≡◌, refl, ap, sym, ◌∙◌}
use mathlib.Core.List.{List, [], ◌∷◌, Memᴰ}
use mathlib.Core.Bool.{Bool, true, false, not, false≢true}
use Rattle.accounts.specs.declared.Accounts.{Accounts}
use Rattle.accounts.specs.declared.Hold.{Hold}
use Rattle.accounts.specs.Accounts.{permissible, permissions, used, unused, is_for, first_from, find_hold}
use Rattle.accounts.proofs.Laws.{for_another}
use Rattle.rounding.specs.Rounding.{Units}
use Rattle.layout.specs.Bytes.{Octets, copy_part}
use Rattle.layout.specs.Blocks.{Block, render}
use Rattle.model.specs.Answers.{given, handle_values}
use Rattle.lists.specs.Lists.{all, or_else, change_first}
use Rattle.model.specs.Holds.{take_record}
use Rattle.model.specs.Objects.{blocks_of, objects, objects_of, lookup, lookup_whole, found}
use mathlib.Core.Logic.{⊎_elim}
use Rattle.model.specs.Consistent.{has_record, in_units, consistent as is_consistent}
use Rattle.lists.proofs.Lists.{member_all}
use Rattle.model.specs.Refusals.{Line, first_refusal, line_5, line_6, release_lines, allocate_lines, reallocate_lines, row_lines}
use Rattle.model.specs.Calls.{Outcome, State, unless, leaves, state_of, allocated, copied, released, new_object, allocate, release, reallocate}
use Rattle.model.specs.Step.{step}
use Rattle.model.specs.declared.Handle.{Handle}
use Rattle.model.specs.declared.Refusal.{Refusal}
use Rattle.model.specs.declared.Call.TheVariants.{Allocate}
use Rattle.lists.proofs.Bools.{fails, and_both}
use Rattle.model.proofs.Consistent.{consistent_fits, consistent_permissible, consistent_kinds, consistent_range}
use Rattle.model.proofs.StepFrame.{step_keeps}
use Rattle.model.proofs.Permissions.{allocated_permissions}
use Rattle.model.proofs.Lookup.{lookup_named, lookup_exactly, lookup_whole_exactly}
use Rattle.model.proofs.Refusals.{by_lines, refusal_of_lines, accepted_exactly, unless_refused}
use Rattle.writer.proofs.CopyBytes.{copied_bytes}
use Rattle.invariant.proofs.Good.{Good}
use Rattle.invariant.proofs.Recorded.{Limits}
use Rattle.invariant.proofs.Members.{added_old, added_new, added_cases}
use Rattle.invariant.proofs.Heaps.{heap_good, heap_again, WrittenOut, good_heap}
use Rattle.invariant.proofs.Transitions.{Room, allocated_good, allocated_objects, copied_good, copied_objects}
use Rattle.invariant.proofs.Passed.{Allocatable, allocate_passed}
use Rattle.invariant.proofs.Requested.{requested_room, requested_fresh, still_releasable, new_in_units}
use Rattle.invariant.proofs.Kinded.{Kinded, allocated_kinds, copied_kinds, written_kinds}
use Rattle.results.specs.Results.{HandleResult}
use Rattle.results.specs.Results.{AmountResult}
use Rattle.results.specs.Results.{outcome}
use Rattle.results.specs.Results.{amount_outcome}
use Rattle.results.specs.Results.{handle_outcome}
use Rattle.allocation.specs.Ready.{Checked, Ready}
use Rattle.results.proofs.Lines.{number_some, accepted_is, line_passes}
use Rattle.results.proofs.Lookups.{line_5_passes}
use Rattle.allocation.proofs.Ready.{checked_passes, ready_passes}
use Rattle.allocation.proofs.Granted.{from_8}

-- a record that takes the place of the first unused one, and is not the one that is looked for, changes no place
module _ (serial q : ℕ) (w : Hold) (other : is_for serial q w ≡ false) where
  not_used : (h : Hold) → unused h ≡ true → is_for serial q h ≡ false
  unfolding unused is_for
  not_used h e = rw (fails (used h) (λ t. false≢true (rw t at e))) refl

  pub record_kept : (hs : List Hold) (n : ℕ) → first_from (is_for serial q) n (change_first unused (λ _. w) hs) ≡ first_from (is_for serial q) n hs
  unfolding first_from change_first
  record_kept [] n = refl
  record_kept (h ∷ hs) n = go (unused h) refl (record_kept hs (suc n))
    where
      go : (x : Bool) → unused h ≡ x → first_from (is_for serial q) (suc n) (change_first unused (λ _. w) hs) ≡ first_from (is_for serial q) (suc n) hs
          → first_from (is_for serial q) n (change_first unused (λ _. w) (h ∷ hs)) ≡ first_from (is_for serial q) n (h ∷ hs)
      go true e ih = rw (e, other, not_used h e) refl
      go false e ih = rw (e, ih) refl

-- an allocation leaves the edition, so that the release behind it goes by the same table
pub given_edition : (unit : ℕ → ℕ) (s : List ℕ) (k : Accounts) (q n : ℕ) (t : List ℕ) (x : HandleResult) → handle_outcome t x ≡ allocate unit s k q n
    → x.accounts.edition ≡ k.edition
unfolding step
given_edition unit s k q n t x e = ap (λ (y : Outcome). y.accounts.edition) e ∙ (step_keeps unit (Allocate q n) s k).same_edition

-- a handle that is the whole of an object that it names names it to reallocate too
pub whole_named : (h old : Handle) (s : List ℕ) → h ≡ old → lookup h s ≡ Some old → (lookup_whole h s ≡ Some old) × (found (lookup_whole h s) ≡ old)
unfolding found or_else
whole_named h old s is e =
    let w = (lookup_whole_exactly h s old).1 (is, rw is (lookup_named h s old e).1) in
    (w, rw w)

-- line 6 does not hold where the quota has a record
line_6_passes : (k : Accounts) (q : ℕ) (o : Handle) (rest : List Line) → has_record k.holds q o.serial ≡ true
    → first_refusal (line_6 k q o ∷ rest) ≡ first_refusal rest
unfolding line_6
line_6_passes k q o rest e = line_passes 6 (not (has_record k.holds q o.serial)) rest (rw e)

-- what a release of an object that is named and held leaves
module _ (unit : ℕ → ℕ) (s : List ℕ) (k : Accounts) (q : ℕ) (h old : Handle) (c : Checked unit s k q) (named : lookup h s ≡ Some old)
    (held : has_record k.holds q old.serial ≡ true) where
  release_passes : first_refusal (release_lines unit s k q h) ≡ 0
  unfolding row_lines first_refusal found or_else
  release_passes =
      checked_passes unit s k q (line_5 (lookup h s) ∷ line_6 k q (found (lookup h s)) ∷ []) c
      ∙ line_5_passes (lookup h s) old (line_6 k q (found (lookup h s)) ∷ []) named
      ∙ line_6_passes k q (found (lookup h s)) [] (rw named held)

  release_leaves : ((release unit s k q h).heap ≡ render (released q old (state_of s k)).blocks)
      × ((release unit s k q h).accounts ≡ (released q old (state_of s k)).accounts)
  unfolding release unless found or_else
  release_leaves = rw (release_passes, named) (refl, refl)

-- a request that passes lines 1 to 6: h names the object old, and the quota has a record for it
module _ (unit : ℕ → ℕ) (units : Units unit) (s : List ℕ) (k : Accounts) (q : ℕ) (h : Handle) (n : ℕ) (r : Ready unit s k q n) (old : Handle)
    (handle-is : h ≡ old) (named : lookup h s ≡ Some old) (held : has_record k.holds q old.serial ≡ true) where
  -- the lines behind them are allocate's
  same_number : first_refusal (reallocate_lines unit s k q h n) ≡ first_refusal (allocate_lines unit s k q n)
  unfolding row_lines
  same_number =
      let w = whole_named h old s handle-is named in
      let o = found (lookup_whole h s) in
      ready_passes unit s k q n (line_5 (lookup_whole h s) ∷ line_6 k q o ∷ from_8 unit s k q n) r
      ∙ line_5_passes (lookup_whole h s) old (line_6 k q o ∷ from_8 unit s k q n) w.0
      ∙ line_6_passes k q o (from_8 unit s k q n) (rw w.1 held)
      ∙ sym (ready_passes unit s k q n (from_8 unit s k q n) r)

  -- allocate's number, by what it gave
  number_is : (t : List ℕ) (x : HandleResult) → handle_outcome t x ≡ allocate unit s k q n
      → first_refusal (allocate_lines unit s k q n) ≡ (handle_values x.answer).refusal
  unfolding step
  number_is t x e = sym (refusal_of_lines (by_lines unit (Allocate q n) s k)) ∙ sym (ap (λ (y : Outcome). y.values.refusal) e)

  -- what it refuses is refused
  pub refused_too : (t : List ℕ) (x : HandleResult) (f : Refusal) → x.answer ≡ Err f → handle_outcome t x ≡ allocate unit s k q n
      → handle_outcome t x ≡ reallocate unit s k q h n
  unfolding allocate reallocate handle_values
  refused_too t x f a e =
      let m = number_some f in
      let number : first_refusal (allocate_lines unit s k q n) ≡ suc m.0 = number_is t x e
      ∙ ap (λ (y : Result Handle Refusal). (handle_values y).refusal) a ∙ m.1 in
      e ∙ unless_refused _ m.0 s k _ number ∙ sym (unless_refused _ m.0 s k _ (same_number ∙ number))

  -- the state once the new object is made and has the old one's bytes
  module _ (o : Octets s) (l : Limits k) (p : Allocatable unit s k q n) where
    abbrev new : Handle
    new = new_object unit s k n

    abbrev made : State
    made = allocated q new (state_of s k)

    abbrev filled : State
    filled = copied old new made

    start : Good (state_of s k)
    start = heap_good s k r.checked.extent o r.checked.accounted l.quotas l.narrow l.serial

    room : Room q new (state_of s k)
    room = requested_room unit units s k start (heap_again s k o r.checked.accounted) q n p

    made_good : Good made
    made_good = allocated_good q new (state_of s k) start room

    -- the old object is there, and its serial is not the new one
    there : Memᴰ old (objects (blocks_of s))
    unfolding objects_of
    there = (lookup_named h s old named).1

    fresh : old.serial ≡ new.serial → ⊥
    fresh = requested_fresh unit units s k start (heap_again s k o r.checked.accounted) q n p old there

    -- the heap that copying leaves is written of that state
    filled_bytes : render filled.blocks ≡ copy_part old.base new.base (min new.length old.length) (render made.blocks)
    unfolding copied
    filled_bytes =
        let d = allocated_objects q new (state_of s k) start room in
        copied_bytes made.blocks made_good.tests.differ old new (λ e. fresh (sym e))
        (added_old new (objects (blocks_of s)) (objects made.blocks) d old there)
        (added_new new (objects (blocks_of s)) (objects made.blocks) d)

    written : WrittenOut filled
    written = good_heap filled (copied_good old new made made_good)

    filled_permissions : permissions filled.accounts ≡ permissions k
    unfolding copied
    filled_permissions = allocated_permissions q new (state_of s k)

    -- quarantined blocks stand in the second kind only, and the numbers are in range
    filled_kinds : Kinded (state_of (render filled.blocks) filled.accounts)
    filled_kinds =
        let c = r.checked.consistent in
        written_kinds filled (copied_good old new made made_good)
        (copied_kinds old new made (allocated_kinds q new (state_of s k) start room (consistent_kinds unit s k c, consistent_range unit s k c)))

    -- every object of it is in its units: the old ones were, and the new one is. The permissions are as they were
    filled_fits : is_consistent unit (render filled.blocks) filled.accounts ≡ true
    unfolding is_consistent objects_of
    filled_fits =
        let may = ap (all permissible) filled_permissions ∙ consistent_permissible unit s k r.checked.consistent in
        let d = allocated_objects q new (state_of s k) start room in
        and_both _ _ written.passes
        (and_both _ _
        (member_all (in_units unit) (objects_of (render filled.blocks))
        (λ x m. ⊎_elim (λ (e : x ≡ new). rw e (new_in_units unit units s k q n p)) (λ y. consistent_fits unit s k r.checked.consistent x y)
        (added_cases new (objects (blocks_of s)) (objects made.blocks) d x (rw (written.objects, copied_objects old new made made_good) at m))))
        (and_both _ _ may (and_both _ _ filled_kinds.0 filled_kinds.1)))

    filled_checked : Checked unit (render filled.blocks) filled.accounts q
    filled_checked = record { extent = written.allowed; accounted = written.passes; consistent = filled_fits; exists = r.checked.exists }

    -- the old object can be released in it: its handle names it, the quota has its record
    filled_named : lookup h (render filled.blocks) ≡ Some old
    filled_named =
        let x = still_releasable (state_of s k) start q old new room fresh there held in
        (lookup_exactly h (render filled.blocks) old (rw written.objects (copied_good old new made made_good).tests.differ)).1
        ((lookup_named h s old named).0, rw written.objects x.0)

    filled_releases : ((release unit (render filled.blocks) filled.accounts q h).heap ≡ render (released q old filled).blocks)
        × ((release unit (render filled.blocks) filled.accounts q h).accounts ≡ (released q old filled).accounts)
    filled_releases =
        let x = still_releasable (state_of s k) start q old new room fresh there held in
        let t : state_of (render filled.blocks) filled.accounts ≡ filled =
        ap (λ (bs : List Block). record { blocks = bs; accounts = filled.accounts }) written.blocks in
        rw t at (release_leaves unit (render filled.blocks) filled.accounts q h old filled_checked filled_named x.1)

  -- allocate granted an object, and the old one's bytes were copied to it
  module _ (o : Octets s) (l : Limits k) (t : List ℕ) (x : HandleResult) (e : handle_outcome t x ≡ allocate unit s k q n) (new : Handle)
      (a : x.answer ≡ Ok new) (t₂ : List ℕ)
      (c : t₂ ≡ copy_part old.base new.base (min new.length old.length) t) where
    no_refusal : first_refusal (allocate_lines unit s k q n) ≡ 0
    unfolding handle_values
    no_refusal = number_is t x e ∙ ap (λ (y : Result Handle Refusal). (handle_values y).refusal) a

    passed : Allocatable unit s k q n
    passed = allocate_passed unit s k q n ((accepted_exactly (allocate_lines unit s k q n) (by_lines unit (Allocate q n) s k).numbered).0 no_refusal)

    granted_is : handle_outcome t x ≡ leaves (made o l passed) (given (new_object unit s k n))
    unfolding allocate
    granted_is = e ∙ sym (accepted_is (first_refusal (allocate_lines unit s k q n)) s k _ no_refusal)

    new_is : new ≡ new_object unit s k n
    unfolding handle_values
    new_is = sym (ap (λ (y : Result Handle Refusal). (handle_values y).handle) a) ∙ ap (λ (y : Outcome). y.values.handle) granted_is

    accounts_are : x.accounts ≡ (made o l passed).accounts
    accounts_are = ap (λ (y : Outcome). y.accounts) granted_is

    bytes_are : t₂ ≡ render (filled o l passed).blocks
    bytes_are =
        let u : t ≡ render (made o l passed).blocks = ap (λ (y : Outcome). y.heap) granted_is in
        c ∙ (λ i. copy_part old.base (new_is i).base (min (new_is i).length old.length) (u i)) ∙ sym (filled_bytes o l passed)

    -- release may be asked for: the object is named, and the quota's record stands where it stood
    pub copied_named : lookup h t₂ ≡ Some old
    copied_named = rw bytes_are (filled_named o l passed)

    pub copied_place : (i : ℕ) → find_hold old.serial q k ≡ Some i → find_hold old.serial q x.accounts ≡ Some i
    unfolding find_hold allocated take_record
    copied_place i e =
        let w : Hold = record { serial = (new_object unit s k n).serial; quota = q; count = 1 } in
        rw accounts_are (record_kept old.serial q w (for_another old.serial q w (λ z. fresh o l passed (sym z))) k.holds 0 ∙ e)

    pub copied_checked : Checked unit t₂ x.accounts q
    unfolding copied
    copied_checked = rw (bytes_are, accounts_are) (filled_checked o l passed)

    -- what it gives makes up what reallocate gives
    pub given_too : (u : List ℕ) (y : AmountResult) → amount_outcome u y ≡ release unit t₂ x.accounts q h
        → outcome u y.accounts (given new) ≡ reallocate unit s k q h n
    unfolding reallocate copied
    given_too u y f =
        let w = filled_releases o l passed in
        let g : amount_outcome u y ≡ release unit (render (filled o l passed).blocks) (filled o l passed).accounts q h =
        f ∙ (λ i. release unit (bytes_are i) (accounts_are i) q h) in
        let heap_is : u ≡ render (released q old (filled o l passed)).blocks = ap (λ (z : Outcome). z.heap) g ∙ w.0 in
        let left_is : y.accounts ≡ (released q old (filled o l passed)).accounts = ap (λ (z : Outcome). z.accounts) g ∙ w.1 in
        let done = leaves (released q old (filled o l passed)) (given (new_object unit s k n)) in
        (λ i. outcome (heap_is i) (left_is i) (given (new_is i)))
        ∙ accepted_is (first_refusal (reallocate_lines unit s k q h n)) s k done (same_number ∙ no_refusal)
        ∙ ap (λ (z : Handle). unless (first_refusal (reallocate_lines unit s k q h n)) s k
        (leaves (released q z (copied z (new_object unit s k n) (made o l passed))) (given (new_object unit s k n))))
        (sym (whole_named h old s handle-is named).1)
