use Rattle.std.proofs.Common.{◌≡◌, drop}
use Rattle.layout.specs.Bytes.{overwrite}
use Rattle.framing.specs.Frames.{padded, stream_of}
use Rattle.framing.proofs.copy_stream.Given as goal

abbrev pub invariant-loop-i : goal.invariant-loop-i
invariant-loop-i l = (l.start ≡ l.from) × (l.out ≡ overwrite 0 (padded l.i (drop l.from (stream_of l.image))) l.initial.out)
