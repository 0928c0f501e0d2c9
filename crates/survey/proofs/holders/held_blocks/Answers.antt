-- `survey::holders::held_blocks` meets its contract: the index is what the walk asks for.
use Rattle.survey.proofs.holders.held_blocks.Goals as goal

pub enter_all-low-requires : goal.enter_all-low-requires
enter_all-low-requires c = (c.used_top-top.ensures.0, c.used_top-top.ensures.1, c.empty-index.ensures c.args.words.now)
