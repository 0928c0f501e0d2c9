-- Demand 3 (rules 10.3 to 10.11, 22.11 and 22.13), entire: it holds of `step`, for every family of tables of units and both kinds
-- of heaps.
-- Along a history ledger, heap and accounts agree: an opening does, and each call and each write keeps it. What demand 3 says of a history is what
-- agreement says of its end.
use Prim.Native.Nat.{ℕ, ◌<◌}
use native.Mathlib.Omega.{arith}
use mathlib.Core.Path.{◌≡◌, refl, sym, subst, ap, ◌∙◌}
use mathlib.Core.List.{List, [], ◌∷◌, ◌++◌, Memᴰ}
use mathlib.Core.Bool.{Bool, true, false, cond, false≢true}
use lib.ListN.{length, get_or}
use lib.Dec.{eqb}
use Rattle.accounts.specs.declared.Accounts.{Accounts}
use Rattle.accounts.specs.Accounts.{permissions, permissible}
use Rattle.rounding.specs.Rounding.{Units, table}
use Rattle.rounding.proofs.Editions.{table_is}
use Rattle.lists.specs.Lists.{all}
use Rattle.model.specs.Answers.{zero_handle}
use Rattle.model.specs.Calls.{Outcome}
use Rattle.model.specs.Step.{step, own_step}
use Rattle.model.specs.declared.Handle.{Handle}
use Rattle.lists.proofs.Lists.{get_or_member}
use Rattle.model.proofs.Consistent.{serials_exactly, consistent_permissible}
use Rattle.model.proofs.StepFrame.{step_keeps}
use Rattle.model.proofs.Permissions.{step_permissible}
use Rattle.model.specs.Answers.{Values}
use Rattle.model.specs.declared.Call.{Call}
use Rattle.model.specs.declared.Call.TheVariants.{Allocate, AllocateArray, Claim, Release, FreeAll, Reallocate, Lend, Remaining, CanRelease}
use Rattle.model.specs.declared.Call.TheVariants.{ListBlock}
use Rattle.model.specs.declared.Call.TheVariants.{ClearPermissions, Sweep}
use Rattle.ledger.specs.Ledger.{Ledger, Event, Called, Wrote, Saved, Restored, leave, add_object, add_hold, take_hold, take_all}
use Rattle.ledger.specs.Ledger.{record_accepted}
use Rattle.ledger.specs.Ledger.{record_call, record_event, unrestored, ledger_of, read_ledger}
use Rattle.ledger.specs.History.{History, by_own}
use Rattle.ledger.specs.Demand3.{Within, objects_in, HeldIn, AsRecorded, Demand3}
use Rattle.ledger.proofs.Agreement.{Agrees}
use Rattle.ledger.proofs.Opening.{restored_agrees, beginning_agrees, beginning_permissible, beginning_edition}
use Rattle.ledger.proofs.Writing.{written_agrees}
use Rattle.ledger.proofs.Steps.{step_agrees}
use Rattle.ledger.proofs.Fields.{live_once_of, apart_of, off_headers_of, inside_of, record_held_of, hold_recorded_of, records_once_of}
use Rattle.ledger.proofs.Fields.{balanced_of, answered_of}
use Rattle.ledger.proofs.Space.{space_decided}
use Rattle.ledger.proofs.Lasting.{step_lasts}
use Rattle.ledger.proofs.Fitted.{Fitted, restored_fits, beginning_fits, step_fits, consistent_of}
use Rattle.ledger.proofs.Wrong

-- no two objects of the ledger, at two places, share a byte: their serials differ, and each is the object of a live block
apart_places : (l : Ledger) (s : List ℕ) (k : Accounts) → Agrees l s k → (i j : ℕ) → i < j → j < length (objects_in l)
    → (at : ℕ) → Within at (get_or (objects_in l) i zero_handle) → Within at (get_or (objects_in l) j zero_handle) → ⊥
apart_places l s k a i j i<j j<n at u v =
    let os = objects_in l in
    let m = a.matches in
    let x = (m.objects (get_or os i zero_handle)).1 (get_or_member zero_handle os i (omega arith)) in
    let y = (m.objects (get_or os j zero_handle)).1 (get_or_member zero_handle os j j<n) in
    (serials_exactly os).0 m.once i j i<j j<n (ap (λ (o : Handle). o.serial)
    (apart_of l s k a (get_or os i zero_handle) (get_or os j zero_handle) x y at u v))

-- the ledger keeps the kind, the edition and the grants
abbrev Kept : Ledger → Ledger → Type 0
Kept m l = (m.kind ≡ l.kind) × (m.edition ≡ l.edition) × (m.grants ≡ l.grants)

accepted_kept : (c : Call) (v : Values) (l : Ledger) → Kept (record_accepted c v l) l
unfolding record_accepted add_object add_hold take_hold take_all leave
accepted_kept (Allocate q n) v l = (refl, refl, refl)
accepted_kept (AllocateArray q count size) v l = (refl, refl, refl)
accepted_kept (Claim q h) v l = (refl, refl, refl)
accepted_kept (Release q h) v l = (refl, refl, refl)
accepted_kept (FreeAll q) v l = (refl, refl, refl)
accepted_kept Sweep v l = (refl, refl, refl)
accepted_kept (Reallocate q h n) v l = (refl, refl, refl)
accepted_kept (Lend h) v l = (refl, refl, refl)
accepted_kept (Remaining q) v l = (refl, refl, refl)
accepted_kept (CanRelease q h) v l = (refl, refl, refl)
accepted_kept (ListBlock at) v l = (refl, refl, refl)
accepted_kept (ClearPermissions q n) v l = (refl, refl, refl)

recorded_kept : (t : Bool) (c : Call) (v : Values) (l : Ledger) → Kept (cond t (record_accepted c v l) l) l
recorded_kept true c v l = accepted_kept c v l
recorded_kept false c v l = (refl, refl, refl)

-- so they are those of the beginning, where no image was read
pub ledger_kept : (begun : Ledger) (es : List Event) → unrestored es ≡ true → Kept (ledger_of begun es) begun
unfolding ledger_of record_event record_call unrestored
ledger_kept begun [] u = (refl, refl, refl)
ledger_kept begun (Called c v ∷ es) u =
    let a = recorded_kept (eqb v.refusal 0) c v (ledger_of begun es) in
    let b = ledger_kept begun es u in
    (a.0 ∙ b.0, a.1 ∙ b.1, a.2 ∙ b.2)
ledger_kept begun (Wrote ∷ es) u = ledger_kept begun es u
ledger_kept begun (Saved s k ∷ es) u = ledger_kept begun es u
ledger_kept begun (Restored s k ∷ es) u = absurd (false≢true u)

-- a serial is held at every point since the front
abbrev Since : Ledger → List Event → List Event → ℕ → Type 0
Since begun front back serial = (late early : List Event) → back ≡ late ++ early → HeldIn serial (ledger_of begun (early ++ front))

sooner : (begun : Ledger) (front : List Event) (e : Event) (es : List Event) (serial : ℕ) → Since begun front (e ∷ es) serial
    → Since begun front es serial
sooner begun front e es serial f late early q = f (e ∷ late) early (ap (λ (x : List Event). e ∷ x) q)

-- an object of the ledger after the front, whose serial is held ever since, is one of its objects now, where no image was read since
abbrev Lasts : Ledger → List Event → List Event → Type 0
Lasts begun front back =
    unrestored back ≡ true → (o : Handle) → Memᴰ o (objects_in (ledger_of begun front)) → Since begun front back o.serial
    → Memᴰ o (objects_in (ledger_of begun (back ++ front)))

module _ (tables : ℕ → ℕ → ℕ) (units : (e : ℕ) → Units (tables e)) where
  -- along a history ledger, heap and accounts agree
  pub history_agrees : (begun : Ledger) (es : List Event) (s : List ℕ) (k : Accounts) → History tables (by_own tables) begun es s k
      → Agrees (ledger_of begun es) s k
  unfolding ledger_of record_event
  history_agrees begun [] s k h = beginning_agrees tables begun s k h
  history_agrees begun (Called c v ∷ es) s k h =
      subst (λ (t : Outcome). Agrees (record_call c t.values (ledger_of begun es)) t.heap t.accounts) h.3
      (step_agrees (tables h.1.edition) (units h.1.edition) c (ledger_of begun es) h.0 h.1
      (history_agrees begun es h.0 h.1 h.2))
  history_agrees begun (Wrote ∷ es) s k h = written_agrees (ledger_of begun es) h.0 s k (history_agrees begun es h.0 k h.1) h.2
  history_agrees begun (Saved s₀ k₀ ∷ es) s k h = history_agrees begun es s k h.0
  history_agrees begun (Restored s₁ k₁ ∷ es) s k h = rw (← h.5, ← h.6) (restored_agrees (tables k.edition) s k h.4)

  -- along a history the accounts have the ledger's edition
  pub history_edition : (begun : Ledger) (es : List Event) (s : List ℕ) (k : Accounts) → History tables (by_own tables) begun es s k
      → k.edition ≡ (ledger_of begun es).edition
  unfolding ledger_of record_event record_call read_ledger
  history_edition begun [] s k h = beginning_edition tables begun s k h
  history_edition begun (Called c v ∷ es) s k h =
      ap (λ (t : Outcome). t.accounts.edition) (sym h.3) ∙ (step_keeps (tables h.1.edition) c h.0 h.1).same_edition
      ∙ history_edition begun es h.0 h.1 h.2 ∙ sym (recorded_kept (eqb v.refusal 0) c v (ledger_of begun es)).1
  history_edition begun (Wrote ∷ es) s k h = history_edition begun es h.0 k h.1
  history_edition begun (Saved s₀ k₀ ∷ es) s k h = history_edition begun es s k h.0
  history_edition begun (Restored s₁ k₁ ∷ es) s k h = ap (λ (x : Accounts). x.edition) h.6

  -- along a history every object of the ledger fits its unit
  pub history_fits : (begun : Ledger) (es : List Event) (s : List ℕ) (k : Accounts) → History tables (by_own tables) begun es s k
      → Fitted (tables k.edition) (ledger_of begun es)
  unfolding ledger_of record_event
  history_fits begun [] s k h = beginning_fits tables begun s k h
  history_fits begun (Called c v ∷ es) s k h =
      let e = h.1.edition in
      subst (λ (t : Outcome). Fitted (tables t.accounts.edition) (record_call c t.values (ledger_of begun es))) h.3
      (subst (λ (n : ℕ). Fitted (tables n) (record_call c (step (tables e) c h.0 h.1).values (ledger_of begun es)))
      (sym (step_keeps (tables e) c h.0 h.1).same_edition)
      (step_fits (tables e) (units e) c (ledger_of begun es) h.0 h.1 (history_fits begun es h.0 h.1 h.2)))
  history_fits begun (Wrote ∷ es) s k h = history_fits begun es h.0 k h.1
  history_fits begun (Saved s₀ k₀ ∷ es) s k h = history_fits begun es s k h.0
  history_fits begun (Restored s₁ k₁ ∷ es) s k h = rw (← h.5, ← h.6) (restored_fits (tables k.edition) s k h.4)

  -- along a history every quota's number is permissions
  pub history_permissible : (begun : Ledger) (es : List Event) (s : List ℕ) (k : Accounts) → History tables (by_own tables) begun es s k
      → all permissible (permissions k) ≡ true
  history_permissible begun [] s k h = beginning_permissible tables begun s k h
  history_permissible begun (Called c v ∷ es) s k h =
      subst (λ (t : Outcome). all permissible (permissions t.accounts) ≡ true) h.3
      (step_permissible (tables h.1.edition) c h.0 h.1 (history_permissible begun es h.0 h.1 h.2))
  history_permissible begun (Wrote ∷ es) s k h = history_permissible begun es h.0 k h.1
  history_permissible begun (Saved s₀ k₀ ∷ es) s k h = history_permissible begun es s k h.0
  history_permissible begun (Restored s₁ k₁ ∷ es) s k h = consistent_permissible (tables k.edition) s k h.4.consistent

  -- an event takes away no object whose serial is held after it
  history_lasts : (begun : Ledger) (front back : List Event) (s : List ℕ) (k : Accounts) → History tables (by_own tables) begun (back ++ front) s k
      → Lasts begun front back
  unfolding ledger_of record_event unrestored
  history_lasts begun front [] s k h u o m f = m
  history_lasts begun front (Called c v ∷ es) s k h u o m f =
      let l = ledger_of begun (es ++ front) in
      let before = history_lasts begun front es h.0 h.1 h.2 u o m (sooner begun front (Called c v) es o.serial f) in
      subst (λ (t : Outcome). HeldIn o.serial (record_call c t.values l) → Memᴰ o (objects_in (record_call c t.values l))) h.3
      (step_lasts (tables h.1.edition) l h.0 h.1 c (history_agrees begun (es ++ front) h.0 h.1 h.2) o before)
      (f [] (Called c v ∷ es) refl)
  history_lasts begun front (Wrote ∷ es) s k h u o m f = history_lasts begun front es h.0 k h.1 u o m
      (sooner begun front Wrote es o.serial f)
  history_lasts begun front (Saved s₀ k₀ ∷ es) s k h u o m f = history_lasts begun front es s k h.0 u o m
      (sooner begun front (Saved s₀ k₀) es o.serial f)
  history_lasts begun front (Restored s₁ k₁ ∷ es) s k h u o m f = absurd (false≢true u)

  -- what demand 3 says of a ledger and a state is what agreement says
  recorded_of : (l : Ledger) (s : List ℕ) (k : Accounts) → Agrees l s k → Fitted (tables k.edition) l → all permissible (permissions k) ≡ true
      → k.edition ≡ l.edition → AsRecorded (tables k.edition) (by_own tables) l s k
  recorded_of l s k a f p e =
      let unit = tables k.edition in
      record {
        as_defined = λ c. refl;
        live_recorded = λ o. (a.matches.objects o).0;
        recorded_live = λ o. (a.matches.objects o).1;
        live_once = live_once_of l s k a;
        recorded_once = a.matches.once;
        apart = apart_places l s k a;
        off_headers = λ o b m. off_headers_of l s k a o b ((a.matches.objects o).1 m);
        inside = λ o m. inside_of l s k a o ((a.matches.objects o).1 m);
        record_held = record_held_of l s k a;
        hold_recorded = hold_recorded_of l s k a;
        records_once = records_once_of l s k a;
        quarantined_recorded = λ x. (a.waits.both x).0;
        recorded_quarantined = λ x. (a.waits.both x).1;
        quarantined_once = a.waits.once;
        kind_kept = a.kind;
        edition_kept = e;
        grants_kept = a.grants;
        balanced = balanced_of l s k a;
        answered = answered_of l s k a unit (consistent_of unit l s k a f p);
        no_space = λ c r e x. (space_decided unit (units k.edition) s k c r e x).no_space;
        space = λ c r e x. (space_decided unit (units k.edition) s k c r e x).space;
        length_allowed = a.extent;
        kept_consistent = consistent_of unit l s k a f p;
      }

  -- along a history it does so of the ledger of all events
  history_recorded : (begun : Ledger) (es : List Event) (s : List ℕ) (k : Accounts) → History tables (by_own tables) begun es s k
      → AsRecorded (tables k.edition) (by_own tables) (ledger_of begun es) s k
  history_recorded begun es s k h =
      recorded_of (ledger_of begun es) s k (history_agrees begun es s k h) (history_fits begun es s k h) (history_permissible begun es s k h)
      (history_edition begun es s k h)

  -- THE THEOREM
  pub demand_3_of : Demand3 tables (by_own tables)
  demand_3_of =
      record {
        always =
            λ begun front back s k h.
            let a = history_recorded begun (back ++ front) s k h in
            record {
              agrees = a;
              stays = λ u o m f. a.recorded_live o (history_lasts begun front back s k h u o m f);
              kind_begun = λ u. (ledger_kept begun (back ++ front) u).0;
              edition_begun = λ u. (ledger_kept begun (back ++ front) u).1;
              grants_begun = λ u. (ledger_kept begun (back ++ front) u).2;
            };
      }

-- and so of both editions' tables (rules 6.1 and 23.1)
pub demand_3 : Demand3 table own_step
demand_3 = demand_3_of table table_is
