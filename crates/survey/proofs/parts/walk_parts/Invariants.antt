-- `survey::parts::walk_parts` meets its contract. The loop's invariant is `Touring`: what is judged from the start
-- on is judged from the place on. The measure is
-- the edge.
use Rattle.std.proofs.Common.{drop}
use Rattle.rounding.specs.Rounding.{table}
use Rattle.layout.specs.Blocks.{cut}
use Rattle.survey.specs.Index.{keys_left}
use Rattle.survey.specs.Clauses.{judged}
use Rattle.survey.proofs.Courses.{Touring}
use Rattle.survey.proofs.parts.walk_parts.Given as goal

abbrev pub invariant-loop-walked : goal.invariant-loop-walked
invariant-loop-walked l =
    Touring (table l.numbers.edition) l.numbers.kind l.numbers.last l.heap l.words
    (judged (table l.numbers.edition) l.numbers.kind l.numbers.last 0 (cut 0 (drop 0 l.heap)) 1 (keys_left l.words l.initial.unsettled.index.heads
    l.initial.unsettled.index.links) l.initial.unsettled.owed)
    l.first l.unit.bytes l.sought l.unsettled.index.heads l.unsettled.index.links l.unsettled.owed l.unsettled.index.left l.edge l.end.at
    l.end.back l.end.before l.end.fit l.end.need

abbrev pub decreases-loop-walked : goal.decreases-loop-walked
decreases-loop-walked l = l.edge
