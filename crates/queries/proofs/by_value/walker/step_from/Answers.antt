-- `queries::by_value::step_from` meets its contract: the block that the listing gives ends in the heap, and where none is given the place stays.
use Rattle.std.specs.Prelude.{Option, Some, Result, Ok}
use mathlib.Core.Path.{◌≡◌, ap, subst, sym, ◌∙◌}
use Prim.Native.Nat.{◌+◌, ◌≤◌}
use native.Mathlib.Omega.{arith}
use lib.ListN.{length}
use Rattle.rounding.specs.Rounding.{table}
use Rattle.model.specs.declared.ListedBlock.{ListedBlock}
use Rattle.model.specs.declared.Refusal.{Refusal}
use Rattle.model.specs.Answers.{block_values}
use Rattle.queries.specs.Listing.{Stepped}
use Rattle.queries.proofs.Listed.{after_some, after_none}
use Rattle.queries.proofs.by_value.walker.step_from.Goals as goal
use Rattle.queries.proofs.by_value.walker.step_from.Goals.{In-Ok-Some}

-- the answer that lists a block
listed : (c : In-Ok-Some) → c.block_from-answer.result ≡ Ok (Some c.in-Ok-Some.block)
listed c = let f = rw c.in-Ok-Some.is at c.in-Ok-Some.field-0-is in c.in-Ok-Some.is ∙ ap Ok f

-- the block ends in the heap, and the place behind it is the next
given : (c : In-Ok-Some)
    → let a = c.args in
    let b = c.in-Ok-Some.block in
    (b.offset + b.size ≤ length a.heap.now) × Stepped (table a.accounts.edition) a.heap.now a.accounts a.at (Ok (Some b)) (b.offset + b.size)
given c =
    let a = c.args in
    let g = c.block_from-answer in
    after_some (table a.accounts.edition) a.heap.now a.accounts a.at g.result g.ensures c.in-Ok-Some.block (listed c)

pub overflow_add-result : goal.overflow_add-result
overflow_add-result c = let l = (given (goal.at.overflow_add-result c).In-Ok-Some).0 in omega arith

pub returns-in-Ok-Some : goal.returns-in-Ok-Some
returns-in-Ok-Some c =
    let a = c.args in
    let b = c.in-Ok-Some.block in
    subst (λ (r : Result (Option ListedBlock) Refusal). Stepped (table a.accounts.edition) a.heap.now a.accounts a.at r (b.offset + b.size))
    (sym (listed (goal.at.returns-in-Ok-Some c).In-Ok-Some)) (given (goal.at.returns-in-Ok-Some c).In-Ok-Some).1

pub returns-in-Ok-None : goal.returns-in-Ok-None
unfolding block_values
returns-in-Ok-None c =
    let a = c.args in
    let g = c.block_from-answer in
    let f = rw c.in-Ok-None.is at c.in-Ok-None.field-0-is in
    after_none (table a.accounts.edition) a.heap.now a.accounts a.at g.result g.ensures
    (ap (λ (r : Result (Option ListedBlock) Refusal). (block_values r).block) (c.in-Ok-None.is ∙ ap Ok f))

pub returns-in-Err : goal.returns-in-Err
unfolding block_values
returns-in-Err c =
    let a = c.args in
    let g = c.block_from-answer in
    after_none (table a.accounts.edition) a.heap.now a.accounts a.at g.result g.ensures
    (ap (λ (r : Result (Option ListedBlock) Refusal). (block_values r).block) c.in-Err.is)
