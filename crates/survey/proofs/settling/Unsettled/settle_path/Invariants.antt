-- `survey::settling::Unsettled::settle_path` meets its contract. The loop's invariant is `Goes`: what is left to strike
-- and to pay is what the keys from `at` on come to. Links go up, so what is left of the table is the measure.
use Rattle.std.proofs.Common.{◌≡◌, ◌-◌}
use Rattle.accounts.specs.Accounts.{HOLDS}
use Rattle.survey.proofs.Trees.{Goes}
use Rattle.survey.proofs.settling.Unsettled.settle_path.Given as goal

abbrev pub invariant-loop-at : goal.invariant-loop-at
invariant-loop-at l =
    Goes l.words l.initial.self.index.heads l.initial.self.index.links l.initial.self.owed l.serial l.charge l.self.index.links l.self.owed l.self.index.left
    l.seen l.found l.at l.bits
    × (l.self.index.heads ≡ l.initial.self.index.heads)

abbrev pub decreases-loop-at : goal.decreases-loop-at
decreases-loop-at l = HOLDS - l.at
