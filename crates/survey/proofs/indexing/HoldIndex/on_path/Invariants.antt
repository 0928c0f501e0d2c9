-- `survey::indexing::HoldIndex::on_path` meets its contract. The loop's invariant is `Tracing`: the path from `at` on
-- leads to each record that is sought, whatever the test is. Links go up, so what is left of the table is the measure.
use Rattle.std.proofs.Common.{◌-◌, ℕ, Bool}
use Rattle.accounts.specs.Accounts.{HOLDS}
use Rattle.survey.specs.Clauses.{Tests}
use Rattle.survey.proofs.Tracing.{Tracing}
use Rattle.survey.proofs.indexing.HoldIndex.on_path.Given as goal

abbrev pub invariant-loop-at : goal.invariant-loop-at
invariant-loop-at g l = (test : ℕ → Bool) → Tests (goal.F-post g l.passes) test → Tracing l.words l.self.links test l.serial l.bits l.at

abbrev pub decreases-loop-at : goal.decreases-loop-at
decreases-loop-at g l = HOLDS - l.at
