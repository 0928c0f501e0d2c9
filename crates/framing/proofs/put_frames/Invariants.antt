use Rattle.std.proofs.Common.{◌≡◌, ◌++◌}
use Rattle.layout.specs.Bytes.{overwrite}
use Rattle.framing.specs.Frames.{cut_from}
use Rattle.framing.proofs.put_frames.Given as goal

abbrev pub invariant-loop-b : goal.invariant-loop-b
invariant-loop-b l = l.image ≡ overwrite 0 (cut_from l.b 0 l.count (l.head ++ l.body)) l.initial.image
