use mathlib.Core.Path.{◌≡◌, refl, sym, subst, ◌∙◌}
use mathlib.Core.List.{List, ◌++◌}
use Prim.Native.Nat.{ℕ}
use Rattle.rounding.specs.Rounding.{table}
use Rattle.model.specs.Answers.{answer_values}
use Rattle.model.specs.Step.{own_step}
use Rattle.model.proofs.Answers.{performed_step}
use Rattle.results.specs.Results.{outcome}
use Rattle.replay_model.specs.Lines.{lines}
use Rattle.replay_model.specs.Replay.{bad_line, answer_line, ending, run_lines}
use Rattle.replay_text.proofs.Puts.{room_first}
use Rattle.replay_text.proofs.Running.{Running, run_start, run_room, run_more, run_last}
use Rattle.replay_text.proofs.LineRuns.{run_ends, run_bad, run_next}
use Rattle.replay_model.proofs.Reaching.{reached_next}
use Rattle.replay_text.proofs.run.run_calls.Goals as goal
use Rattle.replay_text.proofs.run.run_calls.Goals.{After-perform-done, At-loop-line, In_default-read_call, In_default}

-- all that is to be written, and that this of it is left
abbrev whole : At-loop-line → List ℕ
whole l = run_lines (lines l.args.input.now) l.args.heap.now l.args.accounts

abbrev so_far : At-loop-line → List ℕ → Type 0
so_far l = Running (whole l) l.args.output.now l.loop-line.output

-- another kind of line
not-a-call : (c : In_default-read_call) → run_lines (lines c.loop-line.left.now) c.loop-line.heap c.loop-line.current ≡ bad_line
not-a-call c =
    let l = c.loop-line in
    run_bad l.left.now l.heap l.current c.in-Some.line.now c.in-Some.rest.now c.in-Some.ensures (sym c.read_call.ensures ∙ c.in_default-read_call.is)

-- no line ends: what is left is the end of the input
ended : (c : In_default) → run_lines (lines c.loop-line.left.now) c.loop-line.heap c.loop-line.current ≡ ending c.loop-line.left.now c.loop-line.heap
ended c =
    let l = c.loop-line in
    run_ends l.left.now l.heap l.current c.in_default.ensures

-- a call that was made, as a step
stepped : (c : After-perform-done) → outcome c.perform-done.new.heap c.perform-done.result.accounts (answer_values c.perform-done.result.answer)
    ≡ own_step c.in-Some-read_call.call c.loop-line.heap c.loop-line.current
stepped c =
    let l = c.loop-line in
    performed_step (table l.current.edition) c.in-Some-read_call.call l.heap l.current _ c.perform-done.ensures

-- its answer and the run of the lines behind it are what is left
answer_of : After-perform-done → List ℕ
answer_of c = answer_line c.in-Some-read_call.call (answer_values c.perform-done.result.answer)

behind : After-perform-done → List ℕ
behind c = run_lines (lines c.in-Some.rest.now) c.perform-done.new.heap c.perform-done.result.accounts

made : (c : After-perform-done) → run_lines (lines c.loop-line.left.now) c.loop-line.heap c.loop-line.current ≡ answer_of c ++ behind c
unfolding answer_of behind
made c =
    let l = c.loop-line in
    run_next l.left.now l.heap l.current c.in-Some.line.now c.in-Some.rest.now c.in-Some.ensures c.in-Some-read_call.call
    c.perform-done.new.heap c.perform-done.result.accounts (answer_values c.perform-done.result.answer)
    (sym c.read_call.ensures ∙ c.in-Some-read_call.is) (stepped c)

pub loop-line-init : goal.loop-line-init
loop-line-init c =
    let a = c.args in
    (refl, c.requires.0, run_start (run_lines (lines a.input.now) a.heap.now a.accounts) a.output.now)

pub put_bad-requires : goal.put_bad-requires
put_bad-requires c =
    let w = goal.at.put_bad-requires c in
    run_room (whole w.At-loop-line) c.args.output.now c.loop-line.output bad_line c.requires.1
    (subst (so_far w.At-loop-line) (not-a-call w.In_default-read_call) c.loop-line.invariant.2)

pub returns-in_default-read_call : goal.returns-in_default-read_call
returns-in_default-read_call c =
    let w = goal.at.returns-in_default-read_call c in
    run_last (whole w.At-loop-line) c.args.output.now c.loop-line.output c.put_bad.new.output bad_line c.requires.1
    (subst (so_far w.At-loop-line) (not-a-call w.In_default-read_call) c.loop-line.invariant.2) c.put_bad.ensures

pub put_answer-requires : goal.put_answer-requires
unfolding answer_of
put_answer-requires c =
    let w = goal.at.put_answer-requires c in
    let p = w.After-perform-done in
    room_first (answer_of p) (behind p) c.loop-line.output
    (run_room (whole w.At-loop-line) c.args.output.now c.loop-line.output (answer_of p ++ behind p) c.requires.1
    (subst (so_far w.At-loop-line) (made p) c.loop-line.invariant.2))

pub loop-line-preserved : goal.loop-line-preserved
unfolding answer_of behind
loop-line-preserved c =
    let w = goal.at.loop-line-preserved c in
    let p = w.After-perform-done in
    let l = c.loop-line in (
      c.perform-done.auto.heap ∙ l.invariant.0,
      reached_next l.heap l.current c.in-Some-read_call.call c.perform-done.new.heap c.perform-done.result.accounts
          (answer_values c.perform-done.result.answer) l.invariant.1 (stepped p),
      run_more (whole w.At-loop-line) c.args.output.now l.output c.put_answer.new.output (answer_of p) (behind p) c.requires.1
          (subst (so_far w.At-loop-line) (made p) l.invariant.2) c.put_answer.ensures,
    )

pub put_ending-requires : goal.put_ending-requires
put_ending-requires c =
    let w = goal.at.put_ending-requires c in
    let l = c.loop-line in (
      l.invariant.1,
      run_room (whole w.At-loop-line) c.args.output.now l.output (ending l.left.now l.heap) c.requires.1
          (subst (so_far w.At-loop-line) (ended w.In_default) l.invariant.2),
    )

pub returns : goal.returns
returns c =
    let w = goal.at.returns c in
    let l = c.loop-line in
    run_last (whole w.At-loop-line) c.args.output.now l.output c.put_ending.new.output (ending l.left.now l.heap) c.requires.1
    (subst (so_far w.At-loop-line) (ended w.In_default) l.invariant.2) c.put_ending.ensures
