-- `words::clear` meets its contract.
use Rattle.words.proofs.Padding.{blank_unpadded}
use Rattle.words.proofs.Openings.{blank_zero}
use Rattle.words.proofs.opening.clear.Goals as goal

pub returns : goal.returns
returns c = record {
  holds = blank_zero _ c.wipe.ensures;
  pads = blank_unpadded c.wipe.ensures;
}
