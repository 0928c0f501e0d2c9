-- 0 and the range, or the number of the refusal and zeros.
use mathlib.Core.Path.{ap, sym, ◌∙◌}
use Rattle.model.specs.Answers.{refused, range_values}
use Rattle.exports.proofs.replies.reply_of_range.Goals as goal

pub returns-in-Ok : goal.returns-in-Ok
unfolding range_values
returns-in-Ok c = sym (ap range_values c.in-Ok.is)

pub returns-in-Err : goal.returns-in-Err
unfolding range_values
returns-in-Err c = ap refused c.number.ensures ∙ sym (ap range_values c.in-Err.is)
