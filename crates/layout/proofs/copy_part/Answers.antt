-- Where one part is not inside, or they meet, the heap stays (`copy_from`, `copy_to`, `copy_met`); else `copy_within` copies (`copied`).
use native.Mathlib.Omega.{arith}
use mathlib.Core.Path.{sym, ◌∙◌}
use Prim.Native.Nat.{◌+◌, ◌≤◌}
use lib.ListN.{length}
use borrow.Author.Tests.{not-true, not-false}
use Rattle.layout.proofs.Parts.{copy_from, copy_to, copy_met, copied}
use Rattle.layout.proofs.copy_part.Goals as goal
use Rattle.layout.proofs.copy_part.Goals.{Else-not-ends_by}

pub returns-then-not-ends_by : goal.returns-then-not-ends_by
returns-then-not-ends_by c =
    let a = c.args in
    let l = c.ends_by.ensures.no (not-true _ c.if-not-ends_by.true-raw) in
    sym (copy_from a.from a.to a.count a.heap.now (omega arith))

-- past the first test, the bytes to be copied are in the heap
source : (c : Else-not-ends_by) → c.args.from + c.args.count ≤ length
    c.args.heap.now
source c = let l = c.ends_by.ensures.yes (not-false _ c.if-not-ends_by.false-raw) in omega arith

pub returns-then-not-ends_by-2 : goal.returns-then-not-ends_by-2
returns-then-not-ends_by-2 c =
    let a = c.args in
    let f = source (goal.at.returns-then-not-ends_by-2 c).Else-not-ends_by in
    let t = c.ends_by-2.ensures.no (not-true _ c.if-not-ends_by-2.true-raw) in
    sym (copy_to a.from a.to a.count a.heap.now (omega arith) (omega arith))

pub returns-then-apart : goal.returns-then-apart
returns-then-apart c =
    let a = c.args in
    let f = source (goal.at.returns-then-apart c).Else-not-ends_by in
    let t = c.ends_by-2.ensures.yes (not-false _ c.if-not-ends_by-2.false-raw) in
    c.copy_within.ensures.after ∙ copied a.from a.to a.count a.heap.now (sym c.apart.ensures ∙ c.if-apart.true) (omega arith) (omega arith)

pub returns-else-apart : goal.returns-else-apart
returns-else-apart c =
    let a = c.args in
    sym (copy_met a.from a.to a.count a.heap.now (sym c.apart.ensures ∙ c.if-apart.false))
