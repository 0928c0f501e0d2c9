-- `tried::replaying::room` meets its contract: a list of one number has its length.
use Rattle.tried.proofs.Lengths.{repeated_long}
use Rattle.tried.proofs.replaying.room.Goals as goal

pub returns : goal.returns
returns c = repeated_long 589824 170
