-- A refused call's line has its refusal, and an accepted one's the numbers that the call answers.
use mathlib.Core.Path.{sym, subst}
use mathlib.Core.List.{List}
use Prim.Native.Nat.{ℕ}
use Rattle.model.specs.Answers.{answer_values}
use Rattle.replay_model.specs.Replay.{ok_line, handle_numbers}
use Rattle.replay_text.specs.Clauses.{Room, Put}
use Rattle.replay_text.proofs.Answering.{line_refused, line_handle, line_amount}
use Rattle.replay_text.proofs.answers.put_answer.Goals as goal

pub put_refusal-requires : goal.put_refusal-requires
put_refusal-requires c =
    let a = c.args in
    let e = line_refused a.call (answer_values a.answer) c.in-Err.refusal c.in-Err.ensures in
    subst (λ (x : List ℕ). Room x a.output.now) (sym e) c.requires

pub returns-in-Err : goal.returns-in-Err
returns-in-Err c =
    let a = c.args in
    let e = line_refused a.call (answer_values a.answer) c.in-Err.refusal c.in-Err.ensures in
    subst (λ (x : List ℕ). Put x a.output.now c.put_refusal.new.output) e c.put_refusal.ensures

pub put_line-requires : goal.put_line-requires
unfolding ok_line handle_numbers
put_line-requires c =
    let a = c.args in
    let t = c.in-Ok.ensures in
    let e = line_handle a.call (answer_values a.answer) t.0 (sym c.if-answers_handle.ensures) c.in-Ok.handle t.1 in
    subst (λ (x : List ℕ). Room x a.output.now) (sym e) c.requires

pub returns-in-Ok : goal.returns-in-Ok
unfolding ok_line handle_numbers
returns-in-Ok c =
    let a = c.args in
    let t = c.in-Ok.ensures in
    let e = line_handle a.call (answer_values a.answer) t.0 (sym c.if-answers_handle.ensures) c.in-Ok.handle t.1 in
    subst (λ (x : List ℕ). Put x a.output.now c.put_line.new.self) e c.put_line.ensures

pub put_line-requires-in-Ok-2 : goal.put_line-requires-in-Ok-2
unfolding ok_line
put_line-requires-in-Ok-2 c =
    let a = c.args in
    let t = c.in-Ok.ensures in
    let e = line_amount a.call (answer_values a.answer) t.0 (sym c.if-answers_handle.ensures) c.in-Ok.field-0-1 t.2 in
    subst (λ (x : List ℕ). Room x a.output.now) (sym e) c.requires

pub returns-in-Ok-2 : goal.returns-in-Ok-2
unfolding ok_line
returns-in-Ok-2 c =
    let a = c.args in
    let t = c.in-Ok.ensures in
    let e = line_amount a.call (answer_values a.answer) t.0 (sym c.if-answers_handle.ensures) c.in-Ok.field-0-1 t.2 in
    subst (λ (x : List ℕ). Put x a.output.now c.put_line-in-Ok-2.new.self) e c.put_line-in-Ok-2.ensures
