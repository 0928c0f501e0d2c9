-- The length in form 2.
use Rattle.image.proofs.Parses.{form_2_fits}
use Rattle.image.proofs.writing.image_length.Goals as goal

pub length_in-requires : goal.length_in-requires
length_in-requires c = form_2_fits c.form_2.result c.form_2.ensures
