-- The length in form 1.
use Rattle.image.proofs.Parses.{form_1_fits}
use Rattle.image.proofs.writing.form_1_length.Goals as goal

pub length_in-requires : goal.length_in-requires
length_in-requires c = form_1_fits c.form_1.result c.form_1.ensures
