-- A refused opening's line is its refusal. An accepted one is answered, and the lines behind it are run on a state that a history reaches.
use Prim.Native.Nat.{ℕ}
use mathlib.Core.Path.{sym, subst}
use mathlib.Core.List.{List, []}
use Rattle.replay_model.specs.Lines.{lines}
use Rattle.replay_model.specs.Replay.{ok_line, run_lines}
use Rattle.replay_text.specs.Clauses.{Room, Put}
use Rattle.replay_text.proofs.Puts.{room_first, room_next, put_two}
use Rattle.replay_text.proofs.Openings.{opened_refused, opened_runs, opened_reached}
use Rattle.replay_text.proofs.run.run_opened.Goals as goal

pub put_refusal-requires : goal.put_refusal-requires
put_refusal-requires c =
    let a = c.args in
    let o = c.open_plain-opened in
    subst (λ (x : List ℕ). Room x a.output.now)
    (sym (opened_refused a.heap.now a.grants o.new.heap o.result.accounts o.result.verdict o.ensures (lines a.input.now) c.in-Err.refusal c.in-Err.is))
    c.requires.1

pub returns-in-Err : goal.returns-in-Err
returns-in-Err c =
    let a = c.args in
    let o = c.open_plain-opened in
    subst (λ (x : List ℕ). Put x a.output.now c.put_refusal.new.output)
    (opened_refused a.heap.now a.grants o.new.heap o.result.accounts o.result.verdict o.ensures (lines a.input.now) c.in-Err.refusal c.in-Err.is)
    c.put_refusal.ensures

-- an accepted opening's line, and the run of the others, are all that is to be written
pub put_line-requires : goal.put_line-requires
unfolding ok_line
put_line-requires c =
    let a = c.args in
    let o = c.open_plain-opened in
    let ls = lines a.input.now in
    let runs = opened_runs a.heap.now a.grants o.new.heap o.result.accounts o.result.verdict o.ensures ls c.in_default.is in
    room_first (ok_line []) (run_lines ls o.new.heap o.result.accounts) a.output.now (subst (λ (x : List ℕ). Room x a.output.now) (sym runs) c.requires.1)

pub run_calls-requires : goal.run_calls-requires
unfolding ok_line
run_calls-requires c =
    let a = c.args in
    let o = c.open_plain-opened in
    let ls = lines a.input.now in
    let runs = opened_runs a.heap.now a.grants o.new.heap o.result.accounts o.result.verdict o.ensures ls c.in_default.is in (
      opened_reached a.heap.now a.grants o.new.heap o.result.accounts o.result.verdict o.ensures c.requires.0 c.in_default.is,
      room_next (ok_line []) (run_lines ls o.new.heap o.result.accounts) a.output.now c.put_line.new.self
          (subst (λ (x : List ℕ). Room x a.output.now) (sym runs) c.requires.1) c.put_line.ensures,
    )

pub returns : goal.returns
unfolding ok_line
returns c =
    let a = c.args in
    let o = c.open_plain-opened in
    let ls = lines a.input.now in
    let runs = opened_runs a.heap.now a.grants o.new.heap o.result.accounts o.result.verdict o.ensures ls c.in_default.is in
    subst (λ (x : List ℕ). Put x a.output.now c.run_calls.new.output) runs
    (put_two (ok_line []) (run_lines ls o.new.heap o.result.accounts) a.output.now c.put_line.new.self c.run_calls.new.output
    (subst (λ (x : List ℕ). Room x a.output.now) (sym runs) c.requires.1) c.put_line.ensures c.run_calls.ensures)
