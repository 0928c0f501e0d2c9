-- `survey::block_at` meets its contract.
use Rattle.std.proofs.Common.{ap}
use Rattle.lookup.specs.Walk.{headed}
use Rattle.survey.specs.Survey.{block_at}
use Rattle.survey.proofs.block_at.Goals as goal

pub returns : goal.returns
unfolding block_at
returns c = ap (headed c.args.at) c.header_at-header.ensures.0
