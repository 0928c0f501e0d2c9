-- 0 and the amount, or the number of the refusal and 0.
use mathlib.Core.Path.{ap, sym, ◌∙◌}
use Rattle.model.specs.Answers.{refused, amount_values}
use Rattle.exports.proofs.replies.reply_of_amount.Goals as goal

pub returns-in-Ok : goal.returns-in-Ok
unfolding amount_values
returns-in-Ok c = sym (ap amount_values c.in-Ok.is)

pub returns-in-Err : goal.returns-in-Err
unfolding amount_values
returns-in-Err c = ap refused c.number.ensures ∙ sym (ap amount_values c.in-Err.is)
