-- `survey::indexing::used_top` meets its contract. The loop's invariant: the records from `top` on are blank.
use Rattle.std.proofs.Common.{◌≤◌}
use Rattle.accounts.specs.Accounts.{HOLDS}
use Rattle.survey.specs.Clauses.{Blank}
use Rattle.survey.proofs.indexing.used_top.Given as goal

abbrev pub invariant-loop-step : goal.invariant-loop-step
invariant-loop-step l = (l.top ≤ HOLDS) × Blank l.words l.top
