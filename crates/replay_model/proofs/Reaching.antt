-- States that a history reaches: demand 3 speaks of them, so the check accepts them, and a call leads to another.
use mathlib.Core.Path.{◌≡◌, sym}
use mathlib.Core.List.{List, [], ◌∷◌}
use mathlib.Core.Bool.{◌&&◌}
use Prim.Native.Nat.{ℕ, ◌%◌, ◌≤◌}
use lib.Dec.{leb, eqb}
use lib.ListN.{length}
use borrow.Author.Tests.{leb-true}
use Rattle.accounts.specs.declared.Accounts.{Accounts}
use Rattle.accounts.specs.Accounts.{plain}
use Rattle.rounding.specs.Rounding.{table}
use Rattle.model.specs.Answers.{Values}
use Rattle.model.specs.Consistent.{allowed}
use Rattle.model.specs.Refusals.{first_refusal, line_1, line_2, check_lines, row_lines}
use Rattle.model.specs.Step.{own_step}
use Rattle.model.specs.declared.Call.{Call}
use Rattle.lists.proofs.Bools.{and_right}
use Rattle.ledger.specs.Ledger.{Called, empty, ledger_of}
use Rattle.ledger.specs.Demand3.{AsRecorded}
use Rattle.ledger.proofs.Theorem.{demand_3}
use Rattle.replay_model.specs.Events.{Reached}

-- what demand 3 says of a state that a history leads to: the check accepts it, and its length is allowed
module _ (s : List ℕ) (k : Accounts) (r : Reached s k) where
  reached_agrees : AsRecorded (table k.edition) own_step (ledger_of (empty plain r.grants) r.events) s k
  reached_agrees = (demand_3.always (empty plain r.grants) r.events [] s k r.history).agrees

  pub reached_checked : first_refusal (check_lines (table k.edition) s k) ≡ 0
  unfolding first_refusal row_lines line_1 line_2
  reached_checked = rw (reached_agrees.length_allowed, reached_agrees.kept_consistent)

  pub reached_length : length s ≤ 32768
  unfolding allowed
  reached_length =
      leb-true (length s) 32768 (and_right (leb 64 (length s)) (leb (length s) 32768)
      (and_right (eqb (length s % 8) 0) (leb 64 (length s) && leb (length s) 32768) reached_agrees.length_allowed))

-- a call's state is reached from the state before it
pub reached_next : (s : List ℕ) (k : Accounts) (c : Call) (s' : List ℕ) (k' : Accounts) (v : Values) → Reached s k
    → record { heap = s'; accounts = k'; values = v } ≡ own_step c s k → Reached s' k'
reached_next s k c s' k' v r o = record { grants = r.grants; events = Called c v ∷ r.events; history = (s, k, r.history, sym o) }
