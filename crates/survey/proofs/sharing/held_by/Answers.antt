-- `survey::sharing::held_by` meets its contract: the index tells whether every record is well-formed, and where they
-- are, the counts are the definition's.
use Rattle.survey.specs.Shares.{holdings}
use Rattle.survey.proofs.sharing.held_by.Goals as goal

pub enter_all-requires : goal.enter_all-requires
enter_all-requires c = (c.used_top-top.ensures.0, c.used_top-top.ensures.1, c.empty-index.ensures c.args.words.now)

pub returns-in_default : goal.returns-in_default
unfolding holdings
returns-in_default c = rw c.in_default.ensures

pub returns : goal.returns
unfolding holdings
returns c = rw c.in-Some.ensures.well c.held_in.ensures
