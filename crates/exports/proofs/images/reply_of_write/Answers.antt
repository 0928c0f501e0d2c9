-- 0 and the length, or the number of the refusal and 0.
use mathlib.Core.Path.{ap, sym, ◌∙◌}
use Rattle.image_model.specs.Answers.{imaged}
use Rattle.exports.proofs.images.reply_of_write.Goals as goal

pub returns-in-Ok : goal.returns-in-Ok
unfolding imaged
returns-in-Ok c o = ap (imaged o) (sym c.in-Ok.is)

pub returns-in-Err : goal.returns-in-Err
unfolding imaged
returns-in-Err c o = (λ i. record { image = o; refusal = c.number.ensures i; length = 0 }) ∙ ap (imaged o) (sym c.in-Err.is)
