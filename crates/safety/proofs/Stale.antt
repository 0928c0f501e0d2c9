-- A stale handle stays stale. A new object gets the serial after the last one, and the last serial never falls while no image is read; so a serial that was
-- given and that no object has is never that of an object again. Without an object both lookups find nothing, and line 5 holds.
use Rattle.std.specs.Prelude.{Option, Some, None}
use Prim.Native.Nat.{ℕ, zero, suc, ◌≤◌}
use native.Mathlib.Omega.{arith}
use mathlib.Core.Path.{◌≡◌, refl, ap, sym, subst, ◌∙◌}
use mathlib.Core.List.{List, [], ◌∷◌, ◌++◌, Memᴰ}
use mathlib.Core.Bool.{true, false, false≢true, true≢false}
use mathlib.Core.Logic.{⊎_elim}
use lib.ListN.{length}
use lib.Dec.{leb}
use Rattle.accounts.specs.declared.Accounts.{Accounts}
use Rattle.accounts.specs.Accounts.{ALLOCATE, CLAIM}
use Rattle.rounding.specs.Rounding.{Units, table}
use Rattle.rounding.proofs.Editions.{table_is}
use Rattle.lists.specs.Lists.{all, any, is_none}
use Rattle.model.specs.Answers.{Values, refused}
use Rattle.model.specs.Objects.{objects_of, names, lookup, lookup_whole}
use Rattle.model.specs.Consistent.{allowed, consistent}
use Rattle.model.specs.Refusals.{Line, ◌when◌, line_holds, first_refusal, line_1, line_2, line_3, line_4, line_5, line_12, row_lines}
use Rattle.model.specs.Calls.{Outcome, unless, unchanged}
use Rattle.model.specs.Step.{step, own_step}
use Rattle.model.specs.declared.Handle.{Handle}
use Rattle.model.specs.declared.Call.{Call}
use Rattle.model.specs.declared.Call.TheVariants.{Allocate, AllocateArray, Claim, Release, FreeAll, Reallocate, Lend, Remaining, CanRelease, ListBlock}
use Rattle.model.specs.declared.Call.TheVariants.{ClearPermissions, Sweep}
use Rattle.lists.proofs.Bools.{and_right}
use Rattle.lists.proofs.Lists.{first_none, none_exactly}
use Rattle.model.proofs.Refusals.{Numbered, by_lines, unless_refused}
use Rattle.model.proofs.Lookup.{names_exactly, lookup_whole_none}
use Rattle.model.proofs.StepFrame.{step_serial}
use Rattle.model.proofs.Consistent.{accounted_facts}
use Rattle.ledger.specs.Ledger.{Ledger, Event, Called, Wrote, Saved, Restored, record_call, record_event, unrestored, ledger_of}
use Rattle.ledger.specs.History.{History, by_own}
use Rattle.ledger.specs.Demand3.{objects_in}
use Rattle.ledger.proofs.Agreement.{Agrees}
use Rattle.ledger.proofs.Lasting.{step_grown}
use Rattle.ledger.proofs.Theorem.{history_agrees, demand_3_of}
use Rattle.safety.specs.Arguments.{handle_of}
use Rattle.safety.specs.Stale.{HasSerial, lines_before_5, stale_refusal, NamesNothing, StaleForever}
use Rattle.safety.proofs.Wrong

-- lines behind one that holds don't matter
cut_off : (front back : List Line) → first_refusal (front ++ ((5 when true) ∷ back)) ≡ first_refusal (front ++ ((5 when true) ∷ []))
unfolding first_refusal
cut_off [] back = refl
cut_off ((n when true) ∷ front) back = refl
cut_off ((n when false) ∷ front) back = cut_off front back

-- and some refusal is given
some_refusal : (front : List Line) → Numbered front → (m : ℕ) × (first_refusal (front ++ ((5 when true) ∷ [])) ≡ suc m)
unfolding first_refusal all
some_refusal [] e = (4, refl)
some_refusal ((zero when true) ∷ front) e = absurd (false≢true e)
some_refusal ((suc n when true) ∷ front) e = (n, refl)
some_refusal ((n when false) ∷ front) e = some_refusal front (and_right (leb 1 n) _ e)

-- 5 where no line in front holds
none_in_front : (front : List Line) → any line_holds front ≡ false → first_refusal (front ++ ((5 when true) ∷ [])) ≡ 5
unfolding first_refusal any
none_in_front [] e = refl
none_in_front ((n when true) ∷ front) e = absurd (false≢true (sym e))
none_in_front ((n when false) ∷ front) e = none_in_front front e

-- a call over such lines is refused
cut_outcome : (front back : List Line) → Numbered front → (s : List ℕ) (k : Accounts) (done : Outcome)
    → unless (first_refusal (front ++ ((5 when true) ∷ back))) s k done ≡ unchanged s k (refused (first_refusal (front ++ ((5 when true) ∷ []))))
cut_outcome front back e s k done =
    let r = some_refusal front e in
    unless_refused (first_refusal (front ++ ((5 when true) ∷ back))) r.0 s k done (cut_off front back ∙ r.1)
    ∙ ap (λ (n : ℕ). unchanged s k (refused n)) (sym r.1)

not_some : {A : Type 0} {x : A} → None ≡ Some x → ⊥
unfolding is_none
not_some e = true≢false (ap is_none e)

same_handle : (h g : Handle) → Some h ≡ Some g → h ≡ g
same_handle h g e = ap (λ (o : Option Handle). or_first o) e
  where
    or_first : Option Handle → Handle
    or_first None = g
    or_first (Some x) = x

-- in a consistent state of an allowed length without an object of the handle's serial
module _ (unit : ℕ → ℕ) (s : List ℕ) (k : Accounts) (extent : allowed (length s) ≡ true) (fits : consistent unit s k ≡ true) where
  -- lines 1 and 2 don't hold, and 5 does
  reached : (front back : List Line) (o : Option Handle) → o ≡ None
      → first_refusal (line_1 s ∷ line_2 unit s k ∷ (front ++ (line_5 o ∷ back))) ≡ first_refusal (front ++ ((5 when true) ∷ back))
  unfolding first_refusal line_1 line_2 line_5 is_none
  reached front back o e = rw (extent, fits, e)

  refused_there : (front back : List Line) (o : Option Handle) → o ≡ None → Numbered front → (done : Outcome)
      → unless (first_refusal (line_1 s ∷ line_2 unit s k ∷ (front ++ (line_5 o ∷ back)))) s k done
      ≡ unchanged s k (refused (first_refusal (front ++ ((5 when true) ∷ []))))
  refused_there front back o e n done = ap (λ (m : ℕ). unless m s k done) (reached front back o e) ∙ cut_outcome front back n s k done

  module _ (h : Handle) (gone : (o : Handle) → Memᴰ o (objects_of s) → o.serial ≡ h.serial → ⊥) where
    nothing : lookup h s ≡ None
    unfolding lookup
    nothing = (first_none (names h) (objects_of s)).1 ((none_exactly (names h) (objects_of s)).1 (λ o m n. gone o m (sym ((names_exactly h o).0 n).serial)))

    nothing_whole : lookup_whole h s ≡ None
    nothing_whole = (lookup_whole_none h s).1 (λ m. gone h m refl)

    abbrev Answers : Call → Type 0
    Answers c = step unit c s k ≡ unchanged s k (refused (stale_refusal c k))

    module _ (q : ℕ) where
      claims : Answers (Claim q h)
      unfolding row_lines stale_refusal lines_before_5 line_3 line_12 all
      claims = (by_lines unit (Claim q h) s k).outcome ∙ refused_there (line_3 q ∷ line_12 CLAIM k q ∷ []) _ (lookup h s) nothing refl _

      releases : Answers (Release q h)
      unfolding row_lines stale_refusal lines_before_5 line_3 all
      releases = (by_lines unit (Release q h) s k).outcome ∙ refused_there (line_3 q ∷ []) _ (lookup h s) nothing refl _

      can_releases : Answers (CanRelease q h)
      unfolding row_lines stale_refusal lines_before_5 line_3 all
      can_releases = (by_lines unit (CanRelease q h) s k).outcome ∙ refused_there (line_3 q ∷ []) _ (lookup h s) nothing refl _

      reallocates : (n : ℕ) → Answers (Reallocate q h n)
      unfolding row_lines stale_refusal lines_before_5 line_3 line_4 line_12 all
      reallocates n =
          (by_lines unit (Reallocate q h n) s k).outcome
          ∙ refused_there (line_3 q ∷ line_12 ALLOCATE k q ∷ line_4 n ∷ []) _ (lookup_whole h s) nothing_whole refl _

    lends : Answers (Lend h)
    unfolding row_lines stale_refusal lines_before_5 all
    lends = (by_lines unit (Lend h) s k).outcome ∙ refused_there [] [] (lookup h s) nothing refl _

    answers : (c : Call) → handle_of c ≡ Some h → Answers c
    answers (Allocate q n) e = absurd (not_some e)
    answers (AllocateArray q count size) e = absurd (not_some e)
    answers (Claim q g) e = subst (λ (x : Handle). Answers (Claim q x)) (same_handle h g (sym e)) (claims q)
    answers (Release q g) e = subst (λ (x : Handle). Answers (Release q x)) (same_handle h g (sym e)) (releases q)
    answers (FreeAll q) e = absurd (not_some e)
    answers Sweep e = absurd (not_some e)
    answers (Reallocate q g n) e = subst (λ (x : Handle). Answers (Reallocate q x n)) (same_handle h g (sym e)) (reallocates q n)
    answers (Lend g) e = subst (λ (x : Handle). Answers (Lend x)) (same_handle h g (sym e)) lends
    answers (Remaining q) e = absurd (not_some e)
    answers (CanRelease q g) e = subst (λ (x : Handle). Answers (CanRelease q x)) (same_handle h g (sym e)) (can_releases q)
    answers (ListBlock at) e = absurd (not_some e)
    answers (ClearPermissions q n) e = absurd (not_some e)

-- what held at an earlier point of a history since which no image was read
module _ (tables : ℕ → ℕ → ℕ) (begun : Ledger) where
  record Earlier (later es : List Event) (k : Accounts) : Type 0 where
    heap : List ℕ
    accounts : Accounts
    past : History tables (by_own tables) begun es heap accounts
    rises : accounts.last_serial ≤ k.last_serial
    -- an object whose serial had been given was there
    there : (x : Handle) → x.serial ≤ accounts.last_serial → Memᴰ x (objects_in (ledger_of begun (later ++ es)))
        → Memᴰ x (objects_in (ledger_of begun es))

  earlier : (es later : List Event) → unrestored later ≡ true → (s : List ℕ) (k : Accounts) → History tables (by_own tables) begun (later ++ es) s k
      → Earlier later es k
  unfolding ledger_of record_event unrestored
  earlier es [] u s k h = record { heap = s; accounts = k; past = h; rises = omega arith; there = λ x g r. r }
  earlier es (Called c v ∷ later) u s k h =
      let p = earlier es later u h.0 h.1 h.2 in
      let l = ledger_of begun (later ++ es) in
      let unit = tables h.1.edition in
      let a = step_serial unit c h.0 h.1 in
      let b = ap (λ (t : Outcome). t.accounts.last_serial) h.3 in
      let w = ap (λ (t : Outcome). t.values) h.3 in
      record {
        heap = p.heap;
        accounts = p.accounts;
        past = p.past;
        rises = omega (arith, p.rises, a, b);
        there = λ x g r.
            p.there x g
            (⊎_elim (λ n. absurd (omega (arith, p.rises, g, n))) (λ m. m)
            (step_grown unit l h.0 h.1 c x (subst (λ (y : Values). Memᴰ x (objects_in (record_call c y l))) (sym w) r)));
      }
  earlier es (Wrote ∷ later) u s k h =
      let p = earlier es later u h.0 k h.1 in
      record { heap = p.heap; accounts = p.accounts; past = p.past; rises = p.rises; there = p.there }
  earlier es (Saved s₀ k₀ ∷ later) u s k h =
      let p = earlier es later u s k h.0 in
      record { heap = p.heap; accounts = p.accounts; past = p.past; rises = p.rises; there = p.there }
  earlier es (Restored s₁ k₁ ∷ later) u s k h = absurd (false≢true u)

-- an object of the ledger has a serial that was given
serial_given : (l : Ledger) (s : List ℕ) (k : Accounts) → Agrees l s k → (n : ℕ) → HasSerial n l → n ≤ k.last_serial
unfolding objects_of
serial_given l s k a n r = rw (← r.2) ((accounted_facts s k a.passes).given r.0 ((a.matches.objects r.0).1 r.1))

-- THE THEOREM
module _ (tables : ℕ → ℕ → ℕ) (units : (e : ℕ) → Units (tables e)) where
  -- where the ledger has no object with the serial, the handle names nothing
  names_nothing : (begun : Ledger) (es : List Event) (s : List ℕ) (k : Accounts) → History tables (by_own tables) begun es s k → (h : Handle)
      → (HasSerial h.serial (ledger_of begun es) → ⊥) → NamesNothing (by_own tables) s k h
  unfolding stale_refusal
  names_nothing begun es s k past h gone =
      let d = ((demand_3_of tables units).always begun es [] s k past).agrees in
      let f = answers (tables k.edition) s k d.length_allowed d.kept_consistent h (λ o m e. gone (o, d.live_recorded o m, e)) in
      record {
        refuses = f;
        by_5 = λ c e n. f c e ∙ ap (λ (m : ℕ). unchanged s k (refused m)) (none_in_front (lines_before_5 c k) n);
      }

  stale : (begun : Ledger) (front middle back : List Event) (s : List ℕ) (k : Accounts) → History tables (by_own tables) begun (back ++ (middle ++ front)) s k
      → unrestored back ≡ true → unrestored middle ≡ true
      → (h : Handle) → HasSerial h.serial (ledger_of begun front) → (HasSerial h.serial (ledger_of begun (middle ++ front)) → ⊥)
      → NamesNothing (by_own tables) s k h
  stale begun front middle back s k now ub um h was left =
      let p = earlier tables begun (middle ++ front) back ub s k now in
      let q = earlier tables begun front middle um p.heap p.accounts p.past in
      let a = history_agrees tables units begun front q.heap q.accounts q.past in
      let g = serial_given (ledger_of begun front) q.heap q.accounts a h.serial was in
      names_nothing begun (back ++ (middle ++ front)) s k now h
      (λ r. left (r.0, p.there r.0 (omega (arith, q.rises, g, r.2)) r.1, r.2))

  stale_restored : (begun : Ledger) (front back : List Event) (s₁ : List ℕ) (k₁ : Accounts) (s : List ℕ) (k : Accounts)
      → History tables (by_own tables) begun (back ++ (Restored s₁ k₁ ∷ front)) s k → unrestored back ≡ true
      → (h : Handle) → h.serial ≤ k₁.last_serial → ((o : Handle) → Memᴰ o (objects_of s₁) → o.serial ≡ h.serial → ⊥)
      → NamesNothing (by_own tables) s k h
  stale_restored begun front back s₁ k₁ s k now u h given gone =
      let p = earlier tables begun (Restored s₁ k₁ ∷ front) back u s k now in
      let a = history_agrees tables units begun (Restored s₁ k₁ ∷ front) p.heap p.accounts p.past in
      let e : p.accounts.last_serial ≡ k₁.last_serial = ap (λ (x : Accounts). x.last_serial) p.past.6 in
      names_nothing begun (back ++ (Restored s₁ k₁ ∷ front)) s k now h
      (λ r.
      gone r.0
      (subst (λ (x : List ℕ). Memᴰ r.0 (objects_of x)) p.past.5
      ((a.matches.objects r.0).1 (p.there r.0 (omega (arith, given, e, r.2)) r.1)))
      r.2)

  pub stale_forever_of : StaleForever tables (by_own tables)
  stale_forever_of = record { always = stale; restored = stale_restored }

-- and so of both editions' tables
pub stale_forever : StaleForever table own_step
stale_forever = stale_forever_of table table_is
