-- The reply is of the answer, and the store is what adding leaves.
use mathlib.Core.Path.{ap, ◌∙◌}
use Rattle.settings.proofs.Told.{added_to_injective}
use Rattle.exports.specs.StoreReplies.{add_reply}
use Rattle.exports.proofs.stores.lokhazim_raw_settings_add.Goals as goal

pub returns : goal.returns
returns c =
    let w = c in
    let e = w.add.ensures in
    record {
      answers = c.reply_of_add.ensures w.add.new.store ∙ ap add_reply e;
      writes = (added_to_injective _ _ _ _ e).0;
    }
