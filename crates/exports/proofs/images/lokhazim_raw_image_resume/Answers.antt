-- The number makes, with the heap and the words at exit, what the answer makes.
use mathlib.Core.Path.{◌∙◌}
use Rattle.words.specs.Words.{accounts_of}
use Rattle.exports.proofs.ImageReplies.{number_says}
use Rattle.exports.proofs.images.lokhazim_raw_image_resume.Goals as goal

pub returns : goal.returns
returns c =
    let w = c in
    record {
      holds = number_says w.read_image.new.heap (accounts_of w.read_image.new.words) _ _ c.number_of.ensures ∙ w.read_image.ensures.holds;
      pads = w.read_image.ensures.pads;
    }
