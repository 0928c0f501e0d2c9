use Rattle.std.proofs.Common.{arith}
use Rattle.framing.proofs.Places.{stream_inside, stream_past}
use Rattle.framing.proofs.stream_at.Goals as goal

pub returns-then-image-frame : goal.returns-then-image-frame
returns-then-image-frame c = let a = c.args in stream_past a.image.now a.at c.if-image-frame.true

pub returns : goal.returns
returns c = let a = c.args in stream_inside a.image.now a.at (omega arith)
