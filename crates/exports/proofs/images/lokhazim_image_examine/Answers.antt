-- The reply is of the parts that the image has.
use mathlib.Core.Path.{ap, ◌∙◌}
use Rattle.image.specs.Parsing.{parts_in}
use Rattle.exports.specs.ImageReplies.{examine_reply}
use Rattle.exports.proofs.images.lokhazim_image_examine.Goals as goal

pub returns : goal.returns
returns c =
    let s = c in
    c.reply_of_shape.ensures (parts_in s.args.image.now).accounts ∙ ap examine_reply s.shape_of.ensures
