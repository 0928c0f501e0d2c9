-- Where eight bytes fit, the size, the back size and the serial are written side by side (`write_three`); where they do not, nothing is.
use native.Mathlib.Omega.{arith}
use mathlib.Core.Path.{ap, sym, ◌∙◌}
use Prim.Native.Nat.{◌+◌, ◌≤◌}
use lib.ListN.{length}
use borrow.Author.Tests.{not-true, not-false}
use Rattle.layout.specs.Bytes.{write_number}
use Rattle.layout.proofs.Fields.{write_three, write_header_not}
use Rattle.layout.proofs.write_header.Goals as goal
use Rattle.layout.proofs.write_header.Goals.{Else-not-ends_by}

pub returns-then-not-ends_by : goal.returns-then-not-ends_by
returns-then-not-ends_by c =
    let a = c.args in
    let l = c.ends_by.ensures.no (not-true _ c.if-not-ends_by.true-raw) in
    sym (write_header_not a.at a.header a.heap.now (omega arith))

-- past the test, eight bytes fit
room : (c : Else-not-ends_by) → c.args.at + 8 ≤ length c.args.heap.now
room c = let l = c.ends_by.ensures.yes (not-false _ c.if-not-ends_by.false-raw) in omega arith

pub returns : goal.returns
returns c =
    let third = c in
    let second = third in
    let first = second in
    let test = first in
    let a = test.args in
    let h = a.header in
    let l = room (goal.at.returns c).Else-not-ends_by in
    third.write_inside-3.ensures
    ∙ ap (write_number 4 (a.at + 4) h.serial) (second.write_inside-2.ensures ∙ ap (write_number 2 (a.at + 2) h.back) first.write_inside.ensures)
    ∙ write_three a.at h a.heap.now (omega arith)
