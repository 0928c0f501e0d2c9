-- Two numbers of two bytes are the number of four (`quad_at`).
use native.Mathlib.Omega.{arith}
use Rattle.framing.specs.Frames.{stream_of}
use Rattle.image.proofs.Decoding.{quad_at}
use Rattle.image.proofs.numbers.read_quad.Goals as goal

pub returns : goal.returns
returns c =
    let a = c.args in
    let p = quad_at a.at (stream_of a.image.now) in
    omega arith
