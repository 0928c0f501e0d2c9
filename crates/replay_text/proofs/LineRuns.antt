-- The run of the lines from a place on, by where the next line ends: the end of the input, another kind of line, or a call and the lines behind it.
use Rattle.std.specs.Prelude.{Some, None}
use mathlib.Core.Path.{◌≡◌, refl, ap, sym, ◌∙◌}
use mathlib.Core.List.{List, [], ◌∷◌, ◌++◌}
use Prim.Native.Nat.{ℕ, ◌≤◌, ◌<◌}
use native.Mathlib.Omega.{arith}
use lib.ListN.{length}
use Rattle.accounts.specs.declared.Accounts.{Accounts}
use Rattle.model.specs.Answers.{Values}
use Rattle.model.specs.Step.{own_step}
use Rattle.model.specs.declared.Call.{Call}
use Rattle.replay_model.specs.Text.{LINE_FEED}
use Rattle.replay_model.specs.Lines.{split, lines}
use Rattle.replay_model.specs.Commands.{line_call}
use Rattle.replay_model.specs.Replay.{bad_line, answer_line, heap_lines, ending, on_call, run_lines}
use Rattle.replay_text.specs.Clauses.{Cut}
use Rattle.replay_text.proofs.Cuts.{split_some}

-- the end of an input, where nothing is left and where something is
pub ending_list : (rest s : List ℕ) → length rest ≤ 0 → heap_lines s ≡ ending rest s
unfolding ending
ending_list [] s h = refl
ending_list (b ∷ rest) s h = absurd (omega arith)

pub ending_bad : (rest s : List ℕ) → 0 < length rest → bad_line ≡ ending rest s
unfolding ending
ending_bad [] s h = absurd (omega arith)
ending_bad (b ∷ rest) s h = refl

-- a line that has others behind it
run_first : (l : List ℕ) (ls : List (List ℕ)) (s : List ℕ) (k : Accounts) → (q : List ℕ) × (qs : List (List ℕ)) × (ls ≡ q ∷ qs)
    → run_lines (l ∷ ls) s k ≡ on_call (line_call l)
    (λ c. answer_line c (own_step c s k).values ++ run_lines ls (own_step c s k).heap (own_step c s k).accounts)
unfolding run_lines
run_first l ls s k x = rw x.2

-- the lines of an input, where no line ends, and where one does
module _ (input : List ℕ) (s : List ℕ) (k : Accounts) where
  pub run_ends : split LINE_FEED input ≡ input ∷ [] → run_lines (lines input) s k ≡ ending input s
  unfolding run_lines
  run_ends e = rw e

  module _ (line rest : List ℕ) (m : Cut LINE_FEED input line rest) where
    next : run_lines (lines input) s k
        ≡ on_call (line_call line)
        (λ c. answer_line c (own_step c s k).values ++ run_lines (lines rest) (own_step c s k).heap (own_step c s k).accounts)
    next = ap (λ (ls : List (List ℕ)). run_lines ls s k) m.parts ∙ run_first line (lines rest) s k (split_some LINE_FEED rest)

    pub run_bad : line_call line ≡ None → run_lines (lines input) s k ≡ bad_line
    unfolding on_call
    run_bad e = next ∙ rw e

    -- a call, which gives an outcome
    pub run_next : (c : Call) (s' : List ℕ) (k' : Accounts) (v : Values) → line_call line ≡ Some c
        → record { heap = s'; accounts = k'; values = v } ≡ own_step c s k
        → run_lines (lines input) s k ≡ answer_line c v ++ run_lines (lines rest) s' k'
    unfolding on_call
    run_next c s' k' v e o =
        next ∙ rw e
        (λ i. answer_line c (sym o i).values ++ run_lines (lines rest) (sym o i).heap (sym o i).accounts)
