-- Where the bytes do not all fit, nothing is written (`write_not`).
use mathlib.Core.Path.{sym}
use Rattle.layout.proofs.Fields.{write_not}
use Rattle.layout.proofs.write.Goals as goal

pub returns-else-ends_by : goal.returns-else-ends_by
returns-else-ends_by g c =
    let a = c.args in
    sym (write_not g.row.N a.at a.bytes.now a.value (c.ends_by.ensures.no c.if-ends_by.false))
