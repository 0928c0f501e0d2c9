-- Nothing is left: the list. Something is left: another kind of line.
use native.Mathlib.Omega.{arith}
use Prim.Native.Nat.{ℕ}
use mathlib.Core.Path.{sym, subst}
use mathlib.Core.List.{List}
use borrow.Author.Tests.{eqb-true, eqb-false}
use lib.ListN.{length}
use Rattle.replay_text.specs.Clauses.{Room, Put}
use Rattle.replay_text.proofs.LineRuns.{ending_list, ending_bad}
use Rattle.replay_text.proofs.run.put_ending.Goals as goal

pub put_blocks-requires : goal.put_blocks-requires
put_blocks-requires c =
    let a = c.args in
    let z = eqb-true (length a.rest.now) 0 (sym c.if-is_empty.ensures) in
    (c.requires.0, subst (λ (x : List ℕ). Room x a.output.now) (sym (ending_list a.rest.now a.heap.now (omega arith))) c.requires.1)

pub returns-then-is_empty : goal.returns-then-is_empty
returns-then-is_empty c =
    let a = c.args in
    let z = eqb-true (length a.rest.now) 0 (sym c.if-is_empty.ensures) in
    subst (λ (x : List ℕ). Put x a.output.now c.put_blocks.new.output) (ending_list a.rest.now a.heap.now (omega arith)) c.put_blocks.ensures

pub put_bad-requires : goal.put_bad-requires
put_bad-requires c =
    let a = c.args in
    let n = eqb-false (length a.rest.now) 0 (sym c.if-is_empty.ensures) in
    subst (λ (x : List ℕ). Room x a.output.now) (sym (ending_bad a.rest.now a.heap.now (omega arith))) c.requires.1

pub returns-else-is_empty : goal.returns-else-is_empty
returns-else-is_empty c =
    let a = c.args in
    let n = eqb-false (length a.rest.now) 0 (sym c.if-is_empty.ensures) in
    subst (λ (x : List ℕ). Put x a.output.now c.put_bad.new.output) (ending_bad a.rest.now a.heap.now (omega arith)) c.put_bad.ensures
