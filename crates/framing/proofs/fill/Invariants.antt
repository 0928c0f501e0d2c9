use Rattle.std.proofs.Common.{◌≡◌, ◌++◌, drop}
use Rattle.layout.specs.Bytes.{overwrite}
use Rattle.framing.specs.Frames.{padded}
use Rattle.framing.proofs.fill.Given as goal

abbrev pub invariant-loop-i : goal.invariant-loop-i
invariant-loop-i l = l.image ≡ overwrite l.to (padded l.i (drop l.from (l.head ++ l.body))) l.initial.image
