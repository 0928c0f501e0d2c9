-- The numbers are those of the call's answer, and no word changes.
use mathlib.Core.Path.{ap, ◌∙◌}
use Rattle.exports.specs.HeapReplies.{left}
use Rattle.exports.proofs.HeapReplies.{number_says}
use Rattle.exports.proofs.heaps.lokhazim_raw_write.Goals as goal

pub returns : goal.returns
returns c =
    let o = c.write_object in
    let w = c.args.words.now in
    ap (left o.new.heap w) (number_says _ _ c.number_of.ensures) ∙ o.ensures
