-- `survey::walking::is_roomy` meets its contract: a free block has room where the gap in front of the lowest base and
-- the object's bytes do.
use Rattle.std.proofs.Common.{◌-◌, sym, arith}
use Rattle.survey.proofs.Routes.{room_occupied, room_small, room_gap}
use Rattle.survey.proofs.walking.is_roomy.Goals as goal

pub returns-then-serial-ne0 : goal.returns-then-serial-ne0
returns-then-serial-ne0 c =
    let a = c.args in
    sym (room_occupied a.unit.bytes a.need (record { at = a.end - a.size; size = a.size; back = 0; serial = a.serial }) c.if-serial-ne0.true)

pub returns-then-size-need : goal.returns-then-size-need
returns-then-size-need c =
    let s = c in
    let a = s.args in
    sym (room_small a.unit.bytes a.need (record { at = a.end - a.size; size = a.size; back = 0; serial = a.serial }) a.unit.some c.if-size-need.true)

pub returns : goal.returns
returns c =
    let s = c in
    let a = s.args in
    room_gap a.unit.bytes a.need (record { at = a.end - a.size; size = a.size; back = 0; serial = a.serial }) a.unit.some c.if-serial-ne0.false s.requires.0
    (omega (arith, s.requires.0, s.requires.1))
