-- One byte at a place that has room for it.
use native.Mathlib.Omega.{arith}
use mathlib.Core.Path.{refl}
use Rattle.layout.proofs.Overwrite.{overwrite_one}
use Rattle.replay_text.proofs.output.Output.put_byte.Goals as goal

pub returns : goal.returns
returns c =
    let o = c.args.self.now in
    let f = c.requires.fits in
    record { bytes = overwrite_one o.written c.args.byte o.bytes.now (omega arith); next = refl; same_reference = refl }
