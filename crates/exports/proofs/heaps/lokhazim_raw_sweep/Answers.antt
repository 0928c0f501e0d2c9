-- The numbers are those of the call's answer, and no word changes.
use mathlib.Core.Path.{ap, ◌∙◌}
use Rattle.exports.specs.HeapReplies.{left}
use Rattle.exports.proofs.heaps.lokhazim_raw_sweep.Goals as goal

pub returns : goal.returns
returns c =
    let o = c.sweep in
    let w = c.args.words.now in
    ap (left o.new.heap w) c.reply_of_amount.ensures ∙ o.ensures
