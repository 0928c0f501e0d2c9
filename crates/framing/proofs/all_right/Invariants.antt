use Rattle.std.proofs.Common.{◌≡◌, ◌/◌, length}
use Rattle.framing.specs.Frames.{frames_right}
use Rattle.framing.proofs.Right.{right_from}
use Rattle.framing.proofs.all_right.Given as goal

abbrev pub invariant-loop-b : goal.invariant-loop-b
invariant-loop-b l = (l.count ≡ length l.image / 512) × (right_from l.b l.count l.image ≡ frames_right l.count 0 l.count l.image)
