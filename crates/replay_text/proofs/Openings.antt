-- An opening's verdict decides the run: a refusal is printed, and else the lines are run on a state that a history reaches. A heap that is too long is refused.
use Rattle.std.specs.Prelude.{Result, Ok, Err}
use Rattle.model.specs.declared.Refusal.{Refusal}
use mathlib.Core.Path.{◌≡◌, refl, ap, sym, ◌∙◌}
use mathlib.Core.List.{List, [], ◌∷◌, ◌++◌}
use mathlib.Core.Bool.{Bool, false, cond, ◌&&◌}
use Prim.Native.Nat.{ℕ, zero, suc, ◌%◌, ◌≤◌, ◌<◌}
use native.Mathlib.Omega.{arith}
use native.Mathlib.Nat.{not-suc-le-zero, le_of_suc-le-suc}
use lib.Dec.{leb, eqb}
use borrow.Author.Tests.{lt-leb, ne_eqb}
use lib.ListN.{length, take, replicate, length-replicate}
use Rattle.accounts.specs.declared.Accounts.{Accounts}
use Rattle.model.specs.Answers.{verdict_values, refusal_number}
use Rattle.model.specs.Consistent.{allowed}
use Rattle.model.specs.Refusals.{first_refusal, line_1, open_lines}
use Rattle.accounts.specs.Accounts.{plain}
use Rattle.model.specs.Calls.{Outcome, unless, open_heap}
use Rattle.lists.proofs.Bools.{and_no}
use Rattle.model.proofs.Answers.{refusal_number_is}
use Rattle.ledger.specs.History.{Opening as Begun}
use Rattle.results.specs.Results.{outcome}
use Rattle.replay_model.specs.Replay.{ok_line, no_line, run_lines, run_opened}
use Rattle.replay_model.specs.Events.{Reached, Granted}
use Rattle.replay_text.specs.Clauses.{Zeros}

-- an opening that gave this verdict
module _ (s grants s' : List ℕ) (k : Accounts) (v : Result (Unit {0}) Refusal) (told : outcome s' k (verdict_values v) ≡ open_heap plain s grants) where
  pub opened_refused : (ls : List (List ℕ)) (r : Refusal) → v ≡ Err r → no_line (refusal_number r) ≡ run_opened (open_heap plain s grants) ls
  unfolding run_opened verdict_values
  opened_refused ls r e =
      let p = (refusal_number_is r).1 in
      sym (ap (λ (t : Bool). cond t (ok_line [] ++ run_lines ls s' k) (no_line (refusal_number r))) (ne_eqb (refusal_number r) 0 (λ z. omega arith)))
      ∙ ap (λ (x : Result (Unit {0}) Refusal). run_opened (outcome s' k (verdict_values x)) ls) (sym e)
      ∙ ap (λ (o : Outcome). run_opened o ls) told

  pub opened_runs : (ls : List (List ℕ)) → v ≡ Ok tt → ok_line [] ++ run_lines ls s' k ≡ run_opened (open_heap plain s grants) ls
  unfolding run_opened verdict_values
  opened_runs ls e =
      ap (λ (x : Result (Unit {0}) Refusal). run_opened (outcome s' k (verdict_values x)) ls) (sym e)
      ∙ ap (λ (o : Outcome). run_opened o ls) told

  pub opened_reached : Granted grants → v ≡ Ok tt → Reached s' k
  unfolding verdict_values
  opened_reached g e =
      record {
        grants = grants;
        events = [];
        history =
            Begun plain grants refl (record {
              before = s;
              quotas = g.quotas;
              narrow = g.narrow;
              opens = sym told ∙ ap (λ (x : Result (Unit {0}) Refusal). outcome s' k (verdict_values x)) e;
            });
      }

-- a heap of more than 32,768 bytes
too_long : (n : ℕ) → 32768 < n → allowed n ≡ false
unfolding allowed
too_long n h = and_no (eqb (n % 8) 0) (leb 64 n && leb n 32768) (and_no (leb 64 n) (leb n 32768) (lt-leb n 32768 h))

refused_first : (s grants : List ℕ) (ls : List (List ℕ)) → allowed (length s) ≡ false → no_line 1 ≡ run_opened (open_heap plain s grants) ls
unfolding run_opened open_heap unless first_refusal open_lines line_1
refused_first s grants ls e = rw e

pub opening_too_long : (n : ℕ) (grants : List ℕ) (ls : List (List ℕ)) → 32768 < n → no_line 1 ≡ run_opened (open_heap plain (replicate n 0) grants) ls
opening_too_long n grants ls h = refused_first (replicate n 0) grants ls (rw (length-replicate {A = ℕ} n 0) (too_long n h))

-- the first of zeros are zeros
take_zeros : (n m : ℕ) → n ≤ m → ◌≡◌ {A = List ℕ} (take n (replicate m 0)) (replicate n 0)
take_zeros zero m h = refl
take_zeros (suc n) zero h = absurd (not-suc-le-zero h)
take_zeros (suc n) (suc m) h = ap (λ (s : List ℕ). 0 ∷ s) (take_zeros n m (le_of_suc-le-suc h))

pub zeros_front : (n m : ℕ) (s : List ℕ) → n ≤ m → Zeros m s → take n s ≡ replicate n 0
zeros_front n m s h z = ap (take n) z.zeros ∙ take_zeros n m h
