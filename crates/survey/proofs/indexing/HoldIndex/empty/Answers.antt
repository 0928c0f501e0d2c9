-- `survey::indexing::HoldIndex::empty` meets its contract.
use Rattle.survey.proofs.Building.{built_none}
use Rattle.survey.proofs.indexing.HoldIndex.empty.Goals as goal

pub returns : goal.returns
returns c = built_none
