-- `writer::writing::put_next` meets its contract: the back size is written where a block starts, and else nothing is.
use Rattle.writer.proofs.Writes.{next_some, next_none}
use mathlib.Core.Path.{◌∙◌}
use Rattle.writer.proofs.writing.put_next.Goals as goal

pub returns-then-at-heap : goal.returns-then-at-heap
returns-then-at-heap c =
    let a = c.args in
    c.write_u16.ensures ∙ next_some a.at a.back a.heap.now c.if-at-heap.true

pub returns-else-at-heap : goal.returns-else-at-heap
returns-else-at-heap c =
    let a = c.args in
    next_none a.at a.back a.heap.now c.if-at-heap.false
