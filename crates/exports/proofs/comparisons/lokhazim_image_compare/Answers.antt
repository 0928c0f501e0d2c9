-- The reply is of the answer, and the answer of both images.
use mathlib.Core.Path.{ap, ◌∙◌}
use Rattle.exports.specs.ComparisonReplies.{compare_reply}
use Rattle.exports.proofs.comparisons.lokhazim_image_compare.Goals as goal

pub returns : goal.returns
returns c = c.reply_of_compare.ensures ∙ ap compare_reply c.compare.ensures
