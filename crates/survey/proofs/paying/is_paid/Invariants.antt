-- `survey::paying::is_paid` meets its contract. The loop's invariant: every debt is 0 exactly if no bit was found and
-- every debt that is left is 0.
use Rattle.std.proofs.Common.{◌≡◌, ◌&&◌, eqb, drop}
use Rattle.audit.specs.Audit.{all_zero}
use Rattle.survey.proofs.paying.is_paid.Given as goal

abbrev pub invariant-loop-due : goal.invariant-loop-due
invariant-loop-due l = all_zero l.owed ≡ (eqb l.bits 0 && all_zero (drop l.due-index l.owed))
