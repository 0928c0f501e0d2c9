-- `statistics::tallying::room_in` meets its contract: the base is the lowest multiple behind the header, and what lies behind it is the room.
use Rattle.lookup.specs.Walk.{multiple_from}
use Rattle.statistics.specs.Tallies.{room_in}
use Rattle.statistics.proofs.tallying.room_in.Goals as goal

pub returns : goal.returns
unfolding room_in multiple_from
returns c = c.saturating_sub.ensures
