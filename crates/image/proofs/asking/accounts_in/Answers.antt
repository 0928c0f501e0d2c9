-- The accounts of the form that the image is read as.
use mathlib.Core.Path.{ap, ◌∙◌}
use Rattle.framing.specs.Frames.{stream_of}
use Rattle.image_model.specs.declared.Form.{Form}
use Rattle.image_model.specs.Reading.{accounts_of, accounts_in}
use Rattle.image.proofs.Parses.{form_of_fits}
use Rattle.image.proofs.asking.accounts_in.Goals as goal

pub read_accounts-requires : goal.read_accounts-requires
read_accounts-requires c = rw c.form_of.ensures (form_of_fits c.args.image.now)

pub returns : goal.returns
unfolding accounts_in
returns c =
    c.read_accounts.ensures
    ∙ ap (λ (f : Form). accounts_of f (stream_of c.args.image.now)) c.form_of.ensures
