-- `survey::framed::walk_frames` meets its contract. The loop's invariant is `Walking` over the heap's rest from the
-- place on, as in the survey's own walk. The measure is what is left of the size: a block that was visited has a size.
use Rattle.std.specs.Prelude.{Some}
use Rattle.std.proofs.Common.{◌-◌, ◌≤◌, drop}
use Rattle.rounding.specs.Rounding.{table}
use Rattle.layout.specs.Blocks.{cut}
use Rattle.audit.specs.Audit.{behind, audit_parsed}
use Rattle.audit.specs.Fitting.{fitting}
use Rattle.survey.specs.Index.{keys_left}
use Rattle.survey.specs.Clauses.{heap_in}
use Rattle.survey.proofs.Walks.{Walking}
use Rattle.survey.proofs.framed.walk_frames.Given as goal

abbrev pub invariant-loop-at : goal.invariant-loop-at
invariant-loop-at l =
    let s = heap_in l.from l.size l.image in
    (l.at ≤ l.size)
    × Walking (table l.numbers.edition) l.numbers.kind l.numbers.last s l.words (audit_parsed l.numbers.last (cut 0 (drop 0 s))
    (Some (behind 1 (keys_left l.words l.initial.unsettled.index.heads l.initial.unsettled.index.links) l.initial.unsettled.owed)))
    (fitting (table l.numbers.edition) l.numbers.kind 0 (cut 0 (drop 0 s))) l.unsettled.index.heads l.unsettled.index.links
    l.unsettled.owed l.unsettled.index.left l.before l.back (drop l.at s)

abbrev pub decreases-loop-at : goal.decreases-loop-at
decreases-loop-at l = l.size - l.at
