-- `survey::walking::walk` meets its contract. The loop's invariant is `Walking`: the audit of the blocks from the start
-- on is that of the blocks in the rest, with what is left of keys and debts. The measure is the length of the rest: a
-- block that was visited has a size.
use Rattle.std.specs.Prelude.{Some}
use Rattle.std.proofs.Common.{◌≡◌, ℕ, ◌-◌, Bool, List, length, drop}
use Rattle.rounding.specs.Rounding.{table}
use Rattle.layout.specs.Blocks.{cut}
use Rattle.audit.specs.Audit.{behind, audit_parsed}
use Rattle.audit.specs.Fitting.{fitting}
use Rattle.survey.specs.Index.{keys_left}
use Rattle.survey.proofs.Walks.{Walking}
use Rattle.survey.specs.Route.{Reaches, Passed}
use Rattle.survey.proofs.walking.walk.Given as goal

-- the audit from the start on, and whether the objects there fit
abbrev pub Whole : List ℕ → ℕ → ℕ → ℕ → ℕ → List ℕ → List ℕ → Bool
Whole heap last at units before keys owed = audit_parsed last (cut units (drop at heap)) (Some (behind before keys owed))

abbrev pub invariant-loop-rest : goal.invariant-loop-rest
invariant-loop-rest l =
    Walking (table l.numbers.edition) l.numbers.kind l.numbers.last l.heap l.words (Whole l.heap l.numbers.last l.fn.from.at l.fn.from.back
    l.fn.from.before (keys_left l.words l.initial.unsettled.index.heads l.initial.unsettled.index.links)
    l.initial.unsettled.owed)
    (fitting (table l.numbers.edition) l.numbers.kind l.fn.from.at (cut l.fn.from.back (drop l.fn.from.at l.heap))) l.unsettled.index.heads
    l.unsettled.index.links l.unsettled.owed
    l.unsettled.index.left l.before l.back l.rest
    × (l.rest ≡ drop (length l.heap - length l.rest) l.heap)
    × (Reaches l.heap l.fn.from.at → Passed l.heap l.edge l.unit.bytes l.fn.from.at l.fn.from.fit l.fn.from.need (length l.heap - length l.rest)
    l.back l.before l.fit l.need)

abbrev pub decreases-loop-rest : goal.decreases-loop-rest
decreases-loop-rest l = length l.rest
