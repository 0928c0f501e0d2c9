-- The literal is the form.
use mathlib.Core.Path.{refl}
use Rattle.image_model.specs.Stream.{form_1}
use Rattle.image.proofs.forms.form_1.Goals as goal

pub returns : goal.returns
unfolding form_1
returns c = refl
