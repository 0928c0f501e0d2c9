-- Refusals (rules 7.2 and 7.5): a call is refused by a number exactly if that line of it holds and none in front does; which lines each call has;
-- and a refused call hands back what came in.
-- The search is by induction on the lines. Every call is `unless` over its lines, with an outcome that answers no refusal where none is due,
-- so that what is shown of `unless` once holds of every call.
use mathlib.Core.Path.{◌≡◌, refl, ap, sym, ◌∙◌}
use Prim.Native.Nat.{ℕ, zero, suc}
use native.Mathlib.Omega.{arith}
use mathlib.Core.List.{List, [], ◌∷◌, ◌++◌, map}
use mathlib.Core.Bool.{true, false, true≢false}
use mathlib.Core.Logic.{◌↔◌}
use lib.Dec.{leb}
use borrow.Author.Tests.{leb-true}
use Rattle.accounts.specs.declared.Accounts.{Accounts}
use Rattle.accounts.specs.declared.settings.Settings.{Settings}
use Rattle.accounts.specs.Accounts.{zero_accounts}
use Rattle.lists.specs.Lists.{all, any}
use Rattle.model.specs.Answers.{Values, refused}
use Rattle.model.specs.Refusals.{Line, ◌when◌, line_number, line_holds, first_refusal, line_1, line_2, line_3, line_4, line_5, line_6, line_7, row_lines}
use Rattle.model.specs.Refusals.{line_8}
use Rattle.model.specs.Refusals.{line_9, line_10, line_11, line_12, only_if, open_lines, check_lines, quota_lines, free_all_lines, lend_lines}
use Rattle.model.specs.Refusals.{release_lines, claim_lines, allocate_lines, reallocate_lines}
use Rattle.model.specs.Calls.{Outcome, unless, unchanged, open_heap, allocate, allocate_array, claim, release, free_all, reallocate, lend}
use Rattle.model.specs.Calls.{remaining_of}
use Rattle.model.specs.Calls.{can_release, check, list_block, clear, sweep}
use Rattle.model.specs.Rows.{call_lines}
use Rattle.model.specs.Step.{step}
use Rattle.model.specs.declared.Handle.{Handle}
use Rattle.model.specs.declared.Call.{Call}
use Rattle.model.specs.declared.Call.TheVariants.{Allocate, AllocateArray, Claim, Release, FreeAll, Reallocate, Lend, Remaining, CanRelease}
use Rattle.model.specs.declared.Call.TheVariants.{ListBlock}
use Rattle.model.specs.declared.Call.TheVariants.{ClearPermissions, Sweep}
use Rattle.model.proofs.Rows
use Rattle.lists.proofs.Bools.{and_left, and_right}

-- no line has the number 0, which stands for no refusal
abbrev pub Numbered : List Line → Type 0
Numbered ls = all (leb 1) (map line_number ls) ≡ true

-- the line with number n holds, and no line in front of it does
pub record FirstToHold (ls : List Line) (n : ℕ) : Type 0 where
  pub front : List Line
  pub back : List Line
  pub lines : ls ≡ front ++ ((n when true) ∷ back)
  pub earlier : any line_holds front ≡ false

first_found : (ls : List Line) (n : ℕ) → first_refusal ls ≡ suc n → FirstToHold ls (suc n)
unfolding first_refusal any
first_found [] n e = absurd (omega arith)
first_found ((m when true) ∷ ls) n e = record { front = []; back = ls; lines = rw e; earlier = refl }
first_found ((m when false) ∷ ls) n e =
    let f = first_found ls n e in
    record { front = (m when false) ∷ f.front; back = f.back; lines = ap (λ (l : List Line). (m when false) ∷ l) f.lines; earlier = f.earlier }

found_first : (n : ℕ) (front back : List Line) → any line_holds front ≡ false → first_refusal (front ++ ((n when true) ∷ back)) ≡ n
unfolding first_refusal any
found_first n [] back e = refl
found_first n ((m when true) ∷ front) back e = absurd (true≢false e)
found_first n ((m when false) ∷ front) back e = found_first n front back e

-- a call is refused with a number exactly if the line with that number holds and no earlier one does
pub refused_exactly : (ls : List Line) (n : ℕ) → (first_refusal ls ≡ suc n) ↔ FirstToHold ls (suc n)
refused_exactly ls n = (first_found ls n, λ f. rw f.lines (found_first (suc n) f.front f.back f.earlier))

none_holds : (ls : List Line) → Numbered ls → first_refusal ls ≡ 0 → any line_holds ls ≡ false
unfolding first_refusal any all
none_holds [] p e = refl
none_holds ((m when true) ∷ ls) p e = absurd (omega (arith, leb-true 1 m (and_left (leb 1 m) (all (leb 1) (map line_number ls)) p)))
none_holds ((m when false) ∷ ls) p e = none_holds ls (and_right (leb 1 m) (all (leb 1) (map line_number ls)) p) e

no_refusal : (ls : List Line) → any line_holds ls ≡ false → first_refusal ls ≡ 0
unfolding first_refusal any
no_refusal [] e = refl
no_refusal ((m when true) ∷ ls) e = absurd (true≢false e)
no_refusal ((m when false) ∷ ls) e = no_refusal ls e

-- a call is accepted exactly if none of its lines holds
pub accepted_exactly : (ls : List Line) → Numbered ls → (first_refusal ls ≡ 0) ↔ (any line_holds ls ≡ false)
accepted_exactly ls p = (none_holds ls p, no_refusal ls)

-- the table and each call's lines of it, under one name
unfoldable pub tables : Unit {0}
unfolding line_1 line_2 line_3 line_4 line_5 line_6 line_7 line_8 line_9 line_10 line_11 line_12 only_if
    open_lines row_lines
tables = tt

module _ (unit : ℕ → ℕ) (s : List ℕ) (k : Accounts) (q : ℕ) (h : Handle) (n : ℕ) where
  -- rule 7.2: the lines of each call
  pub columns : (map line_number (open_lines s) ≡ 1 ∷ [])
      × (map line_number (check_lines unit s k) ≡ 1 ∷ 2 ∷ [])
      × (map line_number (quota_lines unit s k q) ≡ 1 ∷ 2 ∷ 3 ∷ [])
      × (map line_number (free_all_lines unit s k q) ≡ 1 ∷ 2 ∷ 3 ∷ 12 ∷ [])
      × (map line_number (allocate_lines unit s k q n) ≡ 1 ∷ 2 ∷ 3 ∷ 12 ∷ 4 ∷ 8 ∷ 9 ∷ 10 ∷ 11 ∷ [])
      × (map line_number (lend_lines unit s k h) ≡ 1 ∷ 2 ∷ 5 ∷ [])
      × (map line_number (release_lines unit s k q h) ≡ 1 ∷ 2 ∷ 3 ∷ 5 ∷ 6 ∷ [])
      × (map line_number (claim_lines unit s k q h) ≡ 1 ∷ 2 ∷ 3 ∷ 12 ∷ 5 ∷ 7 ∷ 8 ∷ 9 ∷ [])
      × (map line_number (reallocate_lines unit s k q h n) ≡ 1 ∷ 2 ∷ 3 ∷ 12 ∷ 4 ∷ 5 ∷ 6 ∷ 8 ∷ 9 ∷ 10 ∷ 11 ∷ [])
  unfolding tables
  columns = (refl, refl, refl, refl, refl, refl, refl, refl, refl)

-- t is what `unless` gives over these lines, of which none has the number 0, with an outcome that answers no refusal
pub record ByLines (ls : List Line) (s : List ℕ) (k : Accounts) (t : Outcome) : Type 0 where
  pub done : Outcome
  pub outcome : t ≡ unless (first_refusal ls) s k done
  pub accepts : done.values.refusal ≡ 0
  pub numbered : Numbered ls

-- every call is given by its lines
pub by_lines : (unit : ℕ → ℕ) (c : Call) (s : List ℕ) (k : Accounts) → ByLines (call_lines unit c s k) s k (step unit c s k)
unfolding all tables step allocate allocate_array claim release free_all sweep reallocate lend remaining_of can_release list_block clear
by_lines unit (Allocate q n) s k = record { done = _; outcome = refl; accepts = refl; numbered = refl }
by_lines unit (AllocateArray q count size) s k = record { done = _; outcome = refl; accepts = refl; numbered = refl }
by_lines unit (Claim q h) s k = record { done = _; outcome = refl; accepts = refl; numbered = refl }
by_lines unit (Release q h) s k = record { done = _; outcome = refl; accepts = refl; numbered = refl }
by_lines unit (FreeAll q) s k = record { done = _; outcome = refl; accepts = refl; numbered = refl }
by_lines unit Sweep s k = record { done = _; outcome = refl; accepts = refl; numbered = refl }
by_lines unit (Reallocate q h n) s k = record { done = _; outcome = refl; accepts = refl; numbered = refl }
by_lines unit (Lend h) s k = record { done = _; outcome = refl; accepts = refl; numbered = refl }
by_lines unit (Remaining q) s k = record { done = _; outcome = refl; accepts = refl; numbered = refl }
by_lines unit (CanRelease q h) s k = record { done = _; outcome = refl; accepts = refl; numbered = refl }
by_lines unit (ListBlock at) s k = record { done = _; outcome = refl; accepts = refl; numbered = refl }
by_lines unit (ClearPermissions q n) s k = record { done = _; outcome = refl; accepts = refl; numbered = refl }

-- so are open, which hands back accounts of zeros, and the check
pub open_by_lines : (g : Settings) (s grants : List ℕ) → ByLines (open_lines s) s zero_accounts (open_heap g s grants)
unfolding all tables open_heap
open_by_lines g s grants = record { done = _; outcome = refl; accepts = refl; numbered = refl }

pub check_by_lines : (unit : ℕ → ℕ) (s : List ℕ) (k : Accounts) → ByLines (check_lines unit s k) s k (check unit s k)
unfolding all tables check
check_by_lines unit s k = record { done = _; outcome = refl; accepts = refl; numbered = refl }

-- what holds of the outcome that is due and of every refusal holds of `unless`
pub unless_has : (P : Outcome → Type 0) (n : ℕ) (s : List ℕ) (k : Accounts) (done : Outcome) → P done
    → ((m : ℕ) → P (unchanged s k (refused (suc m)))) → P (unless n s k done)
unfolding unless
unless_has P zero s k done d r = d
unless_has P (suc n) s k done d r = r n

-- and so does what holds of the outcome where it is due
pub unless_where : (P : Outcome → Type 0) (n : ℕ) (s : List ℕ) (k : Accounts) (done : Outcome) → (n ≡ 0 → P done)
    → ((m : ℕ) → P (unchanged s k (refused (suc m)))) → P (unless n s k done)
unfolding unless
unless_where P zero s k done d r = d refl
unless_where P (suc n) s k done d r = r n

-- a refusal hands back the state with zeros and its number
pub unless_refused : (n m : ℕ) (s : List ℕ) (k : Accounts) (done : Outcome) → n ≡ suc m → unless n s k done ≡ unchanged s k (refused (suc m))
unfolding unless
unless_refused n m s k done e = rw e

module _ {ls : List Line} {s : List ℕ} {k : Accounts} {t : Outcome} (b : ByLines ls s k t) where
  -- what a call answers as its refusal is that of its lines
  pub refusal_of_lines : t.values.refusal ≡ first_refusal ls
  unfolding unless
  refusal_of_lines = rw b.outcome (go (first_refusal ls))
    where
      go : (n : ℕ) → (unless n s k b.done).values.refusal ≡ n
      go zero = b.accepts
      go (suc n) = refl

  -- it answers a refusal exactly if that line holds and no earlier one does
  pub answers_refusal : (n : ℕ) → (t.values.refusal ≡ suc n) ↔ FirstToHold ls (suc n)
  answers_refusal n = rw refusal_of_lines (refused_exactly ls n)

  -- and none exactly if no line holds
  pub answers_none : (t.values.refusal ≡ 0) ↔ (any line_holds ls ≡ false)
  answers_none = rw refusal_of_lines (accepted_exactly ls b.numbered)

  -- a refused call leaves heap and accounts as they came in and answers zeros
  pub refused_unchanged : (n : ℕ) → t.values.refusal ≡ suc n → t ≡ unchanged s k (refused (suc n))
  refused_unchanged n e = b.outcome ∙ unless_refused (first_refusal ls) n s k b.done (sym refusal_of_lines ∙ e)

-- so every call is refused with a number exactly if that line of its own holds and no earlier one does, and accepted exactly if none holds
pub call_refused_exactly : (unit : ℕ → ℕ) (c : Call) (s : List ℕ) (k : Accounts) (n : ℕ) → ((step unit c s k).values.refusal ≡ suc n)
    ↔ FirstToHold (call_lines unit c s k) (suc n)
call_refused_exactly unit c s k = answers_refusal (by_lines unit c s k)

pub call_accepted_exactly : (unit : ℕ → ℕ) (c : Call) (s : List ℕ) (k : Accounts) → ((step unit c s k).values.refusal ≡ 0)
    ↔ (any line_holds (call_lines unit c s k) ≡ false)
call_accepted_exactly unit c s k = answers_none (by_lines unit c s k)

-- a refused call changes nothing, and a refused open leaves the heap and gives accounts of zeros
pub refused_changes_nothing : (unit : ℕ → ℕ) (c : Call) (s : List ℕ) (k : Accounts) (n : ℕ) → (step unit c s k).values.refusal ≡ suc n
    → step unit c s k ≡ unchanged s k (refused (suc n))
refused_changes_nothing unit c s k = refused_unchanged (by_lines unit c s k)

pub refused_open : (g : Settings) (s grants : List ℕ) (n : ℕ) → (open_heap g s grants).values.refusal ≡ suc n → open_heap g s grants
    ≡ unchanged s zero_accounts (refused (suc n))
refused_open g s grants = refused_unchanged (open_by_lines g s grants)

-- heap and accounts are the same as before
abbrev pub Kept : List ℕ → Accounts → Outcome → Type 0
Kept s k t = (t.heap ≡ s) × (t.accounts ≡ k)

module _ (unit : ℕ → ℕ) (s : List ℕ) (k : Accounts) (q : ℕ) (h : Handle) (at : ℕ) where
  -- lend, remaining, can release, the listing and the check change nothing, accepted or not; claim and clearing permissions never change the heap
  pub changes_nothing : Kept s k (lend unit s k h) × Kept s k (remaining_of unit s k q) × Kept s k (can_release unit s k q h)
      × Kept s k (list_block unit s k at) × Kept s k (check unit s k)
      × ((claim unit s k q h).heap ≡ s) × ((clear unit s k q at).heap ≡ s)
  unfolding lend remaining_of can_release list_block check claim clear
  changes_nothing = (kept _ _, kept _ _, kept _ _, kept _ _, kept _ _, same_heap _ _ refl, same_heap _ _ refl)
    where
      same_heap : (n : ℕ) (done : Outcome) → done.heap ≡ s → (unless n s k done).heap ≡ s
      same_heap n done e = unless_has (λ t. t.heap ≡ s) n s k done e (λ m. refl)

      kept : (n : ℕ) (v : Values) → Kept s k (unless n s k (unchanged s k v))
      kept n v = unless_has (Kept s k) n s k (unchanged s k v) (refl, refl) (λ m. (refl, refl))

-- can release gives the refusal that release would give
pub can_release_is_release : (unit : ℕ → ℕ) (s : List ℕ) (k : Accounts) (q : ℕ) (h : Handle) → (can_release unit s k q h).values.refusal
    ≡ (release unit s k q h).values.refusal
unfolding step
can_release_is_release unit s k q h = refusal_of_lines (by_lines unit (CanRelease q h) s k) ∙ sym (refusal_of_lines (by_lines unit (Release q h) s k))
