-- `survey::indexing::HoldIndex::hang` meets its contract. The loop's invariant: the path leads to `at`, over links that
-- are not empty; or `link` is the empty one at its end. Links go up, so what is left of the table is the measure.
use Rattle.std.proofs.Common.{◌-◌, ◌<◌, ◌≤◌}
use Rattle.accounts.specs.Accounts.{HOLDS}
use Rattle.survey.specs.Index.{bits_of}
use Rattle.survey.proofs.Paths.{Way, End}
use Rattle.survey.proofs.indexing.HoldIndex.hang.Given as goal

abbrev pub invariant-loop-at : goal.invariant-loop-at
invariant-loop-at l =
    (l.at < HOLDS → (l.at < l.i) × Way l.self.links (bits_of l.serial) l.root l.bits l.at) ×
    (HOLDS ≤ l.at → End l.self.links (bits_of l.serial) l.root l.i l.link)

abbrev pub decreases-loop-at : goal.decreases-loop-at
decreases-loop-at l = HOLDS - l.at
