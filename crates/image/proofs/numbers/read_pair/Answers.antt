-- The two bytes are the number, the lowest first (`pair_at`).
use native.Mathlib.Omega.{arith}
use Rattle.framing.specs.Frames.{stream_of}
use Rattle.image.proofs.Decoding.{pair_at}
use Rattle.image.proofs.numbers.read_pair.Goals as goal

pub returns : goal.returns
returns c =
    let a = c.args in
    let p = pair_at a.at (stream_of a.image.now) in
    (omega arith, omega arith)
