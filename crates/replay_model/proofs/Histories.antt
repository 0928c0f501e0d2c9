-- Every replay whose opening is accepted is a history: its events are the calls of its lines with what each answers, and what it prints are their answers.
-- So demand 3 holds of it, at every split of its events.
use Rattle.std.specs.Prelude.{Option, Some, None}
use mathlib.Core.Path.{◌≡◌, refl, ap, sym, subst, ◌∙◌}
use mathlib.Core.List.{List, [], ◌∷◌, ◌++◌, append_assoc}
use mathlib.Core.Bool.{Bool, cond}
use Prim.Native.Nat.{ℕ, ◌≤◌}
use borrow.Author.Tests.{le-ltb, eq-eqb}
use lib.ListN.{length, replicate}
use Rattle.accounts.specs.declared.Accounts.{Accounts}
use Rattle.rounding.specs.Rounding.{table}
use Rattle.accounts.specs.Accounts.{plain}
use Rattle.model.specs.Calls.{Outcome, open_heap}
use Rattle.model.specs.Step.{own_step}
use Rattle.model.specs.declared.Call.{Call}
use Rattle.ledger.specs.Ledger.{Event, Called, empty}
use Rattle.ledger.specs.History.{History}
use Rattle.ledger.proofs.Theorem.{demand_3}
use Rattle.replay_model.specs.Lines.{lines}
use Rattle.replay_model.specs.Commands.{Opening, line_call, line_opening}
use Rattle.replay_model.specs.Replay.{LONGEST, ok_line, bad_line, answer_line, on_call, run_lines, run_opened, run_opening, run_input, replay}
use Rattle.replay_model.specs.Events.{Ran, ran_call, ran_lines, answer_lines, Historical}
use Rattle.replay_model.proofs.Openings.{opening_granted, begins}

-- the lines of a history lead to a history
module _ (grants : List ℕ) where
  ran_history : (ls : List (List ℕ)) (s : List ℕ) (k : Accounts) (es : List Event) → History table own_step (empty plain grants) es s k
      → History table own_step (empty plain grants) (ran_lines ls s k es).events (ran_lines ls s k es).heap (ran_lines ls s k es).accounts
  unfolding ran_lines ran_call
  ran_history [] s k es h = h
  ran_history (l ∷ []) s k es h = h
  ran_history (l ∷ (m ∷ ls)) s k es h = go (line_call l) (λ s' k' es'. ran_history (m ∷ ls) s' k' es')
    where
      after : Call → Ran
      after c = ran_lines (m ∷ ls) (own_step c s k).heap (own_step c s k).accounts (Called c (own_step c s k).values ∷ es)

      stopped : Ran
      stopped = record { heap = s; accounts = k; events = es; last = bad_line }

      go : (o : Option Call)
          → ((s' : List ℕ) (k' : Accounts) (es' : List Event) → History table own_step (empty plain grants) es' s' k'
          → History table own_step (empty plain grants) (ran_lines (m ∷ ls) s' k' es').events (ran_lines (m ∷ ls) s' k' es').heap
          (ran_lines (m ∷ ls) s' k' es').accounts)
          → History table own_step (empty plain grants) (ran_call o stopped after).events (ran_call o stopped after).heap
          (ran_call o stopped after).accounts
      go None ih = h
      go (Some c) ih =
          let t = own_step c s k in
          ih t.heap t.accounts (Called c t.values ∷ es) (s, k, h, refl)

-- what is printed are the answers of the events, and the end
ran_printed : (ls : List (List ℕ)) (s : List ℕ) (k : Accounts) (es : List Event)
    → answer_lines es ++ run_lines ls s k ≡ answer_lines (ran_lines ls s k es).events ++ (ran_lines ls s k es).last
unfolding ran_lines ran_call run_lines on_call answer_lines
ran_printed [] s k es = refl
ran_printed (l ∷ []) s k es = refl
ran_printed (l ∷ (m ∷ ls)) s k es = go (line_call l) (λ s' k' es'. ran_printed (m ∷ ls) s' k' es')
  where
    after : Call → Ran
    after c = ran_lines (m ∷ ls) (own_step c s k).heap (own_step c s k).accounts (Called c (own_step c s k).values ∷ es)

    stopped : Ran
    stopped = record { heap = s; accounts = k; events = es; last = bad_line }

    go : (o : Option Call)
        → ((s' : List ℕ) (k' : Accounts) (es' : List Event) → answer_lines es' ++ run_lines (m ∷ ls) s' k'
        ≡ answer_lines (ran_lines (m ∷ ls) s' k' es').events ++ (ran_lines (m ∷ ls) s' k' es').last)
        → answer_lines es ++ on_call o (λ c. answer_line c (own_step c s k).values
        ++ run_lines (m ∷ ls) (own_step c s k).heap (own_step c s k).accounts)
        ≡ answer_lines (ran_call o stopped after).events ++ (ran_call o stopped after).last
    go None ih = refl
    go (Some c) ih =
        let t = own_step c s k in
        sym (append_assoc (answer_lines es) (answer_line c t.values) (run_lines (m ∷ ls) t.heap t.accounts))
        ∙ ih t.heap t.accounts (Called c t.values ∷ es)

-- a whole input
begun_printed : (o : Outcome) (ls : List (List ℕ)) → o.values.refusal ≡ 0 → run_opened o ls ≡ ok_line [] ++ run_lines ls o.heap o.accounts
unfolding run_opened
begun_printed o ls z = rw (eq-eqb o.values.refusal 0 z)

whole_printed : (s l m : List ℕ) (ls : List (List ℕ)) (o : Opening) → length s ≤ LONGEST → lines s ≡ l ∷ (m ∷ ls) → line_opening l ≡ Some o
    → replay s ≡ run_opened (open_heap plain (replicate o.heap 0) o.grants) (m ∷ ls)
unfolding replay run_input run_opening
whole_printed s l m ls o h e q =
    ap (λ (t : Bool). cond t bad_line (run_input (lines s))) (le-ltb LONGEST (length s) h)
    ∙ ap run_input e
    ∙ ap (λ (p : Option Opening). run_opening p (m ∷ ls)) q

-- THE THEOREM
pub replay_history : (s l m : List ℕ) (ls : List (List ℕ)) (o : Opening) → length s ≤ LONGEST → lines s ≡ l ∷ (m ∷ ls) → line_opening l ≡ Some o
    → (open_heap plain (replicate o.heap 0) o.grants).values.refusal ≡ 0
    → Historical s o.grants
    (ran_lines (m ∷ ls) (open_heap plain (replicate o.heap 0) o.grants).heap (open_heap plain (replicate o.heap 0) o.grants).accounts
    [])
unfolding answer_lines
replay_history s l m ls o h e q z =
    let b = open_heap plain (replicate o.heap 0) o.grants in
    let r = ran_lines (m ∷ ls) b.heap b.accounts [] in
    let leads = ran_history o.grants (m ∷ ls) b.heap b.accounts [] (begins (replicate o.heap 0) o.grants (opening_granted l o q) z) in
    record {
      printed = whole_printed s l m ls o h e q ∙ begun_printed b (m ∷ ls) z
          ∙ ap (λ (x : List ℕ). ok_line [] ++ x) (ran_printed (m ∷ ls) b.heap b.accounts []);
      history = leads;
      holds =
          λ front back d.
          demand_3.always (empty plain o.grants) front back r.heap r.accounts
          (subst (λ (es : List Event). History table own_step (empty plain o.grants) es r.heap r.accounts) d leads);
    }
