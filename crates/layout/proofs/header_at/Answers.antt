-- Where eight bytes are left, `read_header` reads them (`header_fits`); where they are not, the header is of zeros (`header_not`).
use native.Mathlib.Omega.{arith}
use mathlib.Core.Path.{sym, ◌∙◌}
use borrow.Author.Tests.{not-true, not-false}
use Rattle.layout.proofs.Fields.{header_fits, header_not}
use Rattle.layout.proofs.header_at.Goals as goal

pub returns-then-not-ends_by : goal.returns-then-not-ends_by
returns-then-not-ends_by c =
    let a = c.args in
    let l = c.ends_by.ensures.no (not-true _ c.if-not-ends_by.true-raw) in
    (sym (header_not a.at a.heap.now l), omega arith)

pub returns : goal.returns
returns c =
    let a = c.args in
    let l = c.ends_by.ensures.yes (not-false _ c.if-not-ends_by.false-raw) in
    (c.read_header.ensures.0 ∙ sym (header_fits a.at a.heap.now l), c.read_header.ensures.1)
