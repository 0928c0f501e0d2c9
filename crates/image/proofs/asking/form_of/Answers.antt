-- The form with the number of the first two stream bytes, or form 1 (`Examined`).
use mathlib.Core.Path.{ap, ◌∙◌}
use Rattle.std.specs.Prelude.{unwrap_or}
use Rattle.image_model.specs.Stream.{form_numbered}
use Rattle.image.proofs.Examined.{form_read}
use Rattle.image.proofs.asking.form_of.Goals as goal

pub returns : goal.returns
returns c =
    c.unwrap_or.ensures ∙ ap (unwrap_or c.form_numbered.result) c.form_1.ensures
    ∙ form_read c.args.image.now c.form_numbered.result (c.form_numbered.ensures ∙ ap form_numbered c.read_pair.ensures.0)
