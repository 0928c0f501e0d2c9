-- The reply makes, with the image at exit, what the answer makes.
use mathlib.Core.Path.{◌∙◌}
use Rattle.exports.proofs.images.lokhazim_raw_image_write_form_1.Goals as goal

pub returns : goal.returns
returns c = let w = c in c.reply_of_write.ensures w.write_form_1.new.image ∙ w.write_form_1.ensures
