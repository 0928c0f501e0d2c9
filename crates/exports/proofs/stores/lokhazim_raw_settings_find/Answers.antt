-- The reply is of the answer.
use mathlib.Core.Path.{ap, ◌∙◌}
use Rattle.exports.specs.StoreReplies.{find_reply}
use Rattle.exports.proofs.stores.lokhazim_raw_settings_find.Goals as goal

pub returns : goal.returns
returns c = c.reply_of_find.ensures ∙ ap find_reply c.find.ensures
