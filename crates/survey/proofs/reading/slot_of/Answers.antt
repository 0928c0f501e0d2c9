-- `survey::reading::slot_of` meets its contract.
use Rattle.std.proofs.Common.{refl}
use Rattle.survey.specs.Index.{slot}
use Rattle.survey.proofs.Paths.{slot_small}
use Rattle.survey.proofs.reading.slot_of.Goals as goal

pub returns : goal.returns
unfolding slot
returns c = (refl, slot_small c.args.serial)
