-- An opening without grants.
use Rattle.image_model.specs.declared.Form.{Form}
use Rattle.image_model.specs.Stream.{blank}
use Rattle.image.proofs.in_place.reading.put_blank.Goals as goal

pub returns : goal.returns
unfolding blank
returns c = record {
  holds = λ (f : Form). c.open.ensures.holds;
  pads = c.open.ensures.pads;
}
