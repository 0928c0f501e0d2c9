-- Where the bytes do not all fit, the number is 0 (`read_not`).
use mathlib.Core.Path.{sym}
use Rattle.layout.proofs.Fields.{read_not}
use Rattle.layout.proofs.read.Goals as goal

pub returns-then-not-ends_by : goal.returns-then-not-ends_by
returns-then-not-ends_by g c =
    let a = c.args in
    sym (read_not g.row.N a.at a.bytes.now (c.ends_by.ensures.no search))
