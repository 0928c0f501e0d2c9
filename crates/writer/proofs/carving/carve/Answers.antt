-- `writer::carving::carve` meets its contract: where the test holds there is room for the cut, and where it does not nothing is written.
use mathlib.Core.Path.{sym, ◌∙◌}
use Rattle.writer.proofs.Guards.{room_of_test, carves, carves_nothing}
use Rattle.writer.proofs.carving.carve.Goals as goal

pub cut-requires : goal.cut-requires
cut-requires c = room_of_test _ _ _ (sym c.has_room.ensures ∙ c.if-has_room.true)

pub returns-then-has_room : goal.returns-then-has_room
returns-then-has_room c =
    let a = c.args in
    c.cut.ensures ∙ carves a.block a.base a.length a.serial a.heap.now (sym c.has_room.ensures ∙ c.if-has_room.true)

pub returns-else-has_room : goal.returns-else-has_room
returns-else-has_room c =
    let a = c.args in
    carves_nothing a.block a.base a.length a.serial a.heap.now (sym c.has_room.ensures ∙ c.if-has_room.false)
