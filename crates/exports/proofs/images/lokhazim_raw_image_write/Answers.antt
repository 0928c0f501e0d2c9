-- The reply makes, with the image at exit, what the answer makes.
use mathlib.Core.Path.{◌∙◌}
use Rattle.exports.proofs.images.lokhazim_raw_image_write.Goals as goal

pub returns : goal.returns
returns c = let w = c in c.reply_of_write.ensures w.write_image.new.image ∙ w.write_image.ensures
