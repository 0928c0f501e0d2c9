-- What examining the image says (`Compared`).
use mathlib.Core.Path.{refl}
use Rattle.comparison.proofs.Compared.{examined_image, examined_number}
use Rattle.comparison.proofs.pairing.accepted.Goals as goal

pub returns-in-Ok : goal.returns-in-Ok
returns-in-Ok c = examined_image c.args.image.now c.examine.result c.examine.ensures _ _ c.in-Ok.is

pub returns-in-Err : goal.returns-in-Err
returns-in-Err c = (examined_number c.args.image.now c.examine.result c.examine.ensures c.in-Err.refusal c.in-Err.is, refl)
