use Rattle.std.proofs.Common.{◌≡◌, ◌%◌, ◌^◌, drop}
use Rattle.framing.specs.Frames.{word_sum}
use Rattle.framing.proofs.check_at.Given as goal

abbrev pub invariant-loop-i : goal.invariant-loop-i
invariant-loop-i l = l.sum ≡ word_sum l.i (drop l.at l.image) % 2 ^ 32
