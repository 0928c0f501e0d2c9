-- `writer::writing::put_object` meets its contract: the two writes are the definition's, in its order.
use mathlib.Core.Path.{ap, ◌∙◌}
use Prim.Native.Nat.{◌+◌, ◌-◌, ◌/◌}
use Rattle.layout.specs.Blocks.{write_header}
use Rattle.writer.specs.Writes.{write_object}
use Rattle.writer.proofs.writing.put_object.Goals as goal

pub returns : goal.returns
unfolding write_object
returns c =
    let a = c.args in
    c.write_header.ensures
    ∙ ap (write_header (a.base - 8) (record { size = (a.length + 8) / 8; back = a.back; serial = a.serial })) c.zero_part.ensures
