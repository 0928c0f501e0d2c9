-- A byte that is stored is a number of one byte.
use native.Mathlib.Omega.{arith}
use Rattle.image.proofs.Heads.{one_byte}
use Rattle.image.proofs.records.write_byte.Goals as goal

pub returns : goal.returns
returns c = let a = c.args in one_byte a.at a.byte a.head.now (omega arith) c.requires
