-- A block starts where the size that is read is not 0, and so many units are left: the two tests, each of which decides the definition where it
-- fails (`start_no`), and which together make it (`start_header`).
use native.Mathlib.Omega.{arith}
use mathlib.Core.Path.{sym}
use borrow.Author.Tests.{not-false}
use Rattle.layout.proofs.Starts.{start_header}
use Rattle.layout.proofs.start_at.Goals as goal

pub returns : goal.returns
returns c =
    let r = c in
    let a = r.args in
    let l = c.ends_by.ensures.yes (not-false _ c.if-not-ends_by.false-raw) in
    sym (start_header a.at a.heap.now (sym r.header_at-header.ensures.0) (omega arith) (omega arith))
