-- Too long a heap is refused. Another is the front of 32,768 zeros, which is as many zeros as the heap is long.
use borrow.Author.Rules.{rules}
use Prim.Native.Nat.{ℕ}
use mathlib.Core.Path.{sym, subst}
use mathlib.Core.List.{List}
use Rattle.replay_model.specs.Lines.{lines}
use Rattle.accounts.specs.Accounts.{plain}
use Rattle.model.specs.Calls.{open_heap}
use Rattle.replay_model.specs.Replay.{run_opened}
use Rattle.replay_text.specs.Clauses.{Room, Put}
use Rattle.replay_text.proofs.Openings.{opening_too_long, zeros_front}
use Rattle.replay_text.proofs.run.run_opening.Goals as goal

pub put_refusal-requires : goal.put_refusal-requires
put_refusal-requires c =
    let a = c.args in
    subst (λ (x : List ℕ). Room x a.output.now)
    (sym (opening_too_long a.opening.heap a.opening.grants (lines a.input.now) c.if-len-gt-GREATEST_HEAP.true)) c.requires.1

pub returns-then-len-gt-GREATEST_HEAP : goal.returns-then-len-gt-GREATEST_HEAP
returns-then-len-gt-GREATEST_HEAP c =
    let a = c.args in
    subst (λ (x : List ℕ). Put x a.output.now c.put_refusal.new.output)
    (opening_too_long a.opening.heap a.opening.grants (lines a.input.now) c.if-len-gt-GREATEST_HEAP.true) c.put_refusal.ensures

pub run_opened-requires : goal.run_opened-requires
run_opened-requires c =
    let a = c.args in
    let front = zeros_front a.opening.heap 32768 c.zero_bytes-store.result (search rules) c.zero_bytes-store.ensures in
    (c.requires.0, subst (λ (s : List ℕ). Room (run_opened (open_heap plain s a.opening.grants) (lines a.input.now)) a.output.now) (sym front) c.requires.1)

pub returns : goal.returns
returns c =
    let a = c.args in
    let front = zeros_front a.opening.heap 32768 c.zero_bytes-store.result (search rules) c.zero_bytes-store.ensures in
    subst (λ (s : List ℕ). Put (run_opened (open_heap plain s a.opening.grants) (lines a.input.now)) a.output.now c.run_opened.new.output) front
    c.run_opened.ensures
