-- What a quota has is its own. A call pays for and counts for its own quota alone. An object with a hold left stays live, since the objects after a call are
-- old ones or the new one, and no call changes a byte of an object that stays.
use Rattle.std.specs.Prelude.{Some}
use Prim.Native.Nat.{ℕ, ◌*◌, ◌<◌}
use native.Mathlib.Omega.{arith}
use mathlib.Core.Path.{◌≡◌, refl, ap, sym, ◌∙◌}
use mathlib.Core.List.{List, Memᴰ}
use mathlib.Core.Bool.{Bool, true, false, cond, ◌&&◌}
use mathlib.Core.Logic.{⊎_elim}
use lib.Dec.{eqb}
use borrow.Author.Tests.{ne_eqb}
use Rattle.accounts.specs.declared.Accounts.{Accounts}
use Rattle.rounding.specs.Rounding.{Units, table}
use Rattle.rounding.proofs.Editions.{table_is}
use Rattle.model.specs.Objects.{objects_of, lookup, lookup_whole, found}
use Rattle.model.specs.Consistent.{has_record, charges}
use Rattle.model.specs.Holds.{count_of}
use Rattle.model.specs.Refusals.{first_refusal, quota_lines, free_all_lines, lend_lines, release_lines, claim_lines, check_lines, allocate_lines}
use Rattle.model.specs.Refusals.{reallocate_lines}
use Rattle.model.specs.Calls.{Outcome, State, unless, state_of, allocated, claimed, released, freed, copied, new_object, allocate, allocate_array, claim}
use Rattle.model.specs.Calls.{release, free_all, sweep, reallocate, lend, remaining_of, can_release, list_block, clear}
use Rattle.model.specs.Step.{step, own_step}
use Rattle.model.specs.declared.Handle.{Handle}
use Rattle.model.specs.declared.Call.{Call}
use Rattle.model.specs.declared.Call.TheVariants.{Allocate, AllocateArray, Claim, Release, FreeAll, Reallocate, Lend, Remaining, CanRelease, ListBlock}
use Rattle.model.specs.declared.Call.TheVariants.{ClearPermissions, Sweep}
use Rattle.model.proofs.Refusals.{unless_where}
use Rattle.model.proofs.Lookup.{same_serial}
use Rattle.accounts.proofs.Laws.{clear_kept}
use Rattle.model.proofs.StepFrame.{step_keeps, pays}
use Rattle.invariant.proofs.Good.{Good}
use Rattle.invariant.proofs.Heaps.{good_ordered}
use Rattle.invariant.proofs.Counts.{lower_counted, drop_count}
use Rattle.invariant.proofs.Recorded.{good_recorded}
use Rattle.invariant.proofs.Transitions.{allocated_counts, claimed_counts}
use Rattle.invariant.proofs.Requested.{still_releasable}
use Rattle.invariant.proofs.Passed.{Allocatable, allocate_passed, Claimable, claim_passed, release_passed, Reallocatable, reallocate_passed}
use Rattle.ledger.specs.Ledger.{Ledger, record_call, ledger_of}
use Rattle.ledger.specs.History.{by_own}
use Rattle.ledger.specs.Demand3.{objects_in}
use Rattle.ledger.proofs.Agreement.{Agrees}
use Rattle.ledger.proofs.Steps.{good, room, fresh_serial, there, old_there, step_agrees}
use Rattle.ledger.proofs.Bytes.{step_bytes, made, made_good}
use Rattle.ledger.proofs.Fields.{live_once_of}
use Rattle.ledger.proofs.Lasting.{step_grown}
use Rattle.ledger.proofs.Theorem.{history_agrees}
use Rattle.safety.specs.Untouched.{MadeForAnother, Keeps, Untouched}
use Rattle.safety.proofs.Accepted.{none_holds}

-- a call for another quota pays for another
not_its : (p q : ℕ) → (Some p ≡ Some q → ⊥) → eqb p q ≡ false
not_its p q f = ne_eqb p q (λ e. f (ap Some e))

pays_not : (q : ℕ) (c : Call) → MadeForAnother q c → pays c q ≡ false
pays_not q (Allocate p n) f = not_its p q f
pays_not q (AllocateArray p count size) f = not_its p q f
pays_not q (Claim p h) f = not_its p q f
pays_not q (Release p h) f = not_its p q f
pays_not q (FreeAll p) f = not_its p q f
pays_not q Sweep f = refl
pays_not q (Reallocate p h n) f = not_its p q f
pays_not q (Lend h) f = refl
pays_not q (Remaining p) f = refl
pays_not q (CanRelease p h) f = refl
pays_not q (ListBlock at) f = refl
pays_not q (ClearPermissions p n) f = not_its p q f

-- the count of another quota
other_count : (x : Bool) (p q a b : ℕ) → eqb p q ≡ false → cond (x && eqb p q) a b ≡ b
other_count true p q a b e = rw e
other_count false p q a b e = refl

-- the records that each change leaves
released_count : (p : ℕ) (o : Handle) (t : State) → Good t → has_record t.accounts.holds p o.serial ≡ true → (q serial : ℕ) → eqb p q ≡ false
    → count_of serial q (released p o t).accounts.holds ≡ count_of serial q t.accounts.holds
unfolding released
released_count p o t g r q serial e =
    lower_counted t.accounts.holds (good_ordered t g) o.serial p r serial q ∙ other_count (eqb o.serial serial) p q _ _ e

freed_count : (p back : ℕ) (t : State) → Good t → (q serial : ℕ) → eqb p q ≡ false
    → count_of serial q (freed p back t).accounts.holds ≡ count_of serial q t.accounts.holds
unfolding freed
freed_count p back t g q serial e = drop_count t.accounts.holds (good_ordered t g) p serial q ∙ rw e

module _ (unit : ℕ → ℕ) (units : Units unit) (l : Ledger) (s : List ℕ) (k : Accounts) (a : Agrees l s k) (q serial : ℕ) where
  abbrev Same : Accounts → Type 0
  Same j = count_of serial q j.holds ≡ count_of serial q k.holds

  allocate_count : (p n : ℕ) → eqb p q ≡ false → Allocatable unit s k p n → Same (allocated p (new_object unit s k n) (state_of s k)).accounts
  allocate_count p n e r =
      allocated_counts p (new_object unit s k n) (state_of s k) (good l s k a) (room unit units l s k a p n r) serial q
      ∙ other_count (eqb (new_object unit s k n).serial serial) p q _ _ e

  claim_count : (p : ℕ) (h : Handle) → eqb p q ≡ false → Claimable s k p h → Same (claimed p (found (lookup h s)) k)
  claim_count p h e r =
      claimed_counts p (found (lookup h s)) (state_of s k) (good l s k a) (there l s k a p h r.object r.names) r.exists r.pays r.unused serial q
      ∙ other_count (eqb (found (lookup h s)).serial serial) p q _ _ e

  reallocate_count : (p : ℕ) (h : Handle) (n : ℕ) → eqb p q ≡ false → (r : Reallocatable unit s k p h n)
      → Same (released p (found (lookup_whole h s)) (made unit units l s k a p h n r)).accounts
  unfolding copied
  reallocate_count p h n e r =
      let old = found (lookup_whole h s) in
      let new = new_object unit s k n in
      let here = old_there unit units l s k a p h n r.object r.names in
      let x =
      still_releasable (state_of s k) (good l s k a) p old new (room unit units l s k a p n r.new)
      (fresh_serial unit units l s k a p n r.new old here) here r.recorded in
      released_count p old (copied old new (allocated p new (state_of s k))) (made_good unit units l s k a p h n r) x.1 q serial e
      ∙ allocate_count p n e r.new

  accepted_count : (n : ℕ) (done : Outcome) → (n ≡ 0 → Same done.accounts) → Same (unless n s k done).accounts
  accepted_count n done f = unless_where (λ (t : Outcome). Same t.accounts) n s k done f (λ m. refl)

  step_count : (c : Call) → MadeForAnother q c → Same (step unit c s k).accounts
  unfolding step allocate allocate_array claim release free_all sweep reallocate lend remaining_of can_release list_block clear
  step_count (Allocate p n) f =
      accepted_count (first_refusal (allocate_lines unit s k p n)) _
      (λ e. allocate_count p n (not_its p q f) (allocate_passed unit s k p n (none_holds unit (Allocate p n) s k e)))
  step_count (AllocateArray p count size) f =
      accepted_count (first_refusal (allocate_lines unit s k p (count * size))) _
      (λ e. allocate_count p (count * size) (not_its p q f) (allocate_passed unit s k p (count * size) (none_holds unit (AllocateArray p count size) s k e)))
  step_count (Claim p h) f =
      accepted_count (first_refusal (claim_lines unit s k p h)) _
      (λ e. claim_count p h (not_its p q f) (claim_passed unit s k p h (none_holds unit (Claim p h) s k e)))
  step_count (Release p h) f =
      accepted_count (first_refusal (release_lines unit s k p h)) _
      (λ e.
      (let r = release_passed unit s k p h (none_holds unit (Release p h) s k e) in
      released_count p (found (lookup h s)) (state_of s k) (good l s k a) r.recorded q serial (not_its p q f)))
  step_count (FreeAll p) f =
      accepted_count (first_refusal (free_all_lines unit s k p)) _
      (λ e. freed_count p (charges k.holds p (objects_of s)) (state_of s k) (good l s k a) q serial (not_its p q f))
  step_count Sweep f = accepted_count (first_refusal (check_lines unit s k)) _ (λ e. refl)
  step_count (Reallocate p h n) f =
      accepted_count (first_refusal (reallocate_lines unit s k p h n)) _
      (λ e. reallocate_count p h n (not_its p q f) (reallocate_passed unit s k p h n (none_holds unit (Reallocate p h n) s k e)))
  step_count (Lend h) f = accepted_count (first_refusal (lend_lines unit s k h)) _ (λ e. refl)
  step_count (Remaining p) f = accepted_count (first_refusal (quota_lines unit s k p)) _ (λ e. refl)
  step_count (CanRelease p h) f = accepted_count (first_refusal (release_lines unit s k p h)) _ (λ e. refl)
  step_count (ListBlock at) f = accepted_count (first_refusal (check_lines unit s k)) _ (λ e. refl)
  step_count (ClearPermissions p n) f = accepted_count (first_refusal (quota_lines unit s k p)) _ (λ e. rw (clear_kept p n k).same_holds refl)

module _ (unit : ℕ → ℕ) (units : Units unit) (l : Ledger) (s : List ℕ) (k : Accounts) (a : Agrees l s k) (q : ℕ) (c : Call) (f : MadeForAnother q c) where
  -- an object that the quota holds stays
  stays : (o : Handle) → Memᴰ o (objects_of s) → 0 < count_of o.serial q k.holds → Memᴰ o (objects_of (step unit c s k).heap)
  unfolding objects_of
  stays o m p =
      let l₂ = record_call c (step unit c s k).values l in
      let a₂ = step_agrees unit units c l s k a in
      let u = state_of (step unit c s k).heap (step unit c s k).accounts in
      let x =
      (good_recorded u (good l₂ (step unit c s k).heap (step unit c s k).accounts a₂)).live o.serial q
      (rw (step_count unit units l s k a q o.serial c f) p) in
      let g = (good_recorded (state_of s k) (good l s k a)).given o m in
      let y : Memᴰ x.0 (objects_in l) =
      ⊎_elim (λ n. absurd (omega (arith, g, x.2, n))) (λ y. y) (step_grown unit l s k c x.0 ((a₂.matches.objects x.0).0 x.1)) in
      mathlib.Core.List.Memᴰ.cast (sym (same_serial (objects_of s) (live_once_of l s k a) x.0 o ((a.matches.objects x.0).1 y) m x.2)) x.1

  keeps : Keeps q s k (step unit c s k)
  keeps =
      record {
        quota = (step_keeps unit c s k).others q (pays_not q c f);
        holds = λ serial. step_count unit units l s k a q serial c f;
        objects = λ o m p. (let x = stays o m p in (x, step_bytes unit units c l s k a o m x));
      }

-- THE THEOREM
pub untouched_of : (tables : ℕ → ℕ → ℕ) → ((e : ℕ) → Units (tables e)) → Untouched tables (by_own tables)
untouched_of tables units =
    record {
      always = λ begun es s k h q c f.
          keeps (tables k.edition) (units k.edition) (ledger_of begun es) s k (history_agrees tables units begun es s k h) q c f;
    }

-- and so of both editions' tables
pub untouched : Untouched table own_step
untouched = untouched_of table table_is
