-- Form 1 is moved up, form 2 down.
use borrow.Author.Rules.{rules}
use Rattle.image_model.specs.Stream.{form_1, form_2}
use Rattle.conversion.proofs.moving.number_from.Goals as goal

pub returns-in-Up : goal.returns-in-Up
unfolding form_1
returns-in-Up c = search rules

pub returns-in-Down : goal.returns-in-Down
unfolding form_2
returns-in-Down c = search rules
