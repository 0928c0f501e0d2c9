-- `writer::carving::write_rest` meets its contract: the header is written where bytes are left, and else nothing is.
use Rattle.writer.proofs.Writes.{rest_some, rest_none}
use mathlib.Core.Path.{◌∙◌}
use Rattle.writer.proofs.carving.write_rest.Goals as goal

pub returns-then-count-gt0 : goal.returns-then-count-gt0
returns-then-count-gt0 c =
    let a = c.args in
    c.write_header.ensures ∙ rest_some a.at a.count a.back a.heap.now c.if-count-gt0.true

pub returns-else-count-gt0 : goal.returns-else-count-gt0
returns-else-count-gt0 c =
    let a = c.args in
    rest_none a.at a.count a.back a.heap.now c.if-count-gt0.false
