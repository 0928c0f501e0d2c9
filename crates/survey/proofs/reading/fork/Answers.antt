-- `survey::reading::fork` meets its contract.
use Rattle.std.proofs.Common.{refl}
use Rattle.survey.specs.Index.{fork}
use Rattle.survey.proofs.Paths.{fork_small}
use Rattle.survey.proofs.reading.fork.Goals as goal

pub returns : goal.returns
unfolding fork
returns c = (refl, fork_small c.args.bits)
