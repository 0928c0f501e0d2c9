-- The literal is the form.
use mathlib.Core.Path.{refl}
use Rattle.image_model.specs.Stream.{form_2}
use Rattle.image.proofs.forms.form_2.Goals as goal

pub returns : goal.returns
unfolding form_2
returns c = refl
