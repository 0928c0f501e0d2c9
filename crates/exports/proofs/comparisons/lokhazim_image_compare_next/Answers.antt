-- The reply is of the answer from the position that the numbers mean.
use mathlib.Core.Path.{ap, ◌∙◌}
use Rattle.comparison.specs.Compare.{advance_of}
use Rattle.comparison.specs.declared.Position.{Position}
use Rattle.exports.specs.ComparisonReplies.{next_reply}
use Rattle.exports.proofs.comparisons.lokhazim_image_compare_next.Goals as goal

pub returns : goal.returns
returns c =
    let d = c in
    let p = d in
    let a = p.args in
    c.reply_of_next.ensures
    ∙ ap next_reply
    (d.next_difference.ensures
    ∙ ap (λ (x : Position). advance_of a.first.now a.second.now x) p.position_of.ensures)
