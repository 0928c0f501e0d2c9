-- `tried::replaying::short_room` meets its contract: a list of one number has its length.
use Rattle.tried.proofs.Lengths.{repeated_long}
use Rattle.tried.proofs.replaying.short_room.Goals as goal

pub returns : goal.returns
returns c = repeated_long 589823 170
