use Rattle.std.proofs.Common.{arith}
use Rattle.survey.proofs.Courses.{touring_start, touring_on}
use Rattle.survey.proofs.parts.walk_parts.Goals as goal

pub loop-walked-init : goal.loop-walked-init
loop-walked-init c = let p = c.requires in touring_start p.1 p.0

pub loop-walked-preserved : goal.loop-walked-preserved
loop-walked-preserved c =
    let g = c.loop-walked.invariant in
    let w = c.in_ok-walked.ensures in
    touring_on g w.0 (w.1 g.reaches) (omega (arith, c.if-edge-le8.false))
