-- The invariant: the first `i` lines are read (`Importing`). A turn reads one more (`import_more`), or ends at a bad line (`import_bad`) or at one too
-- many (`import_over`).
use Prim.Native.Nat.{◌≤◌}
use Rattle.accounts.specs.Accounts.{QUOTAS}
use Rattle.report.proofs.Imports.{Importing}
use Rattle.report.proofs.importing.import_grants.Given as goal

abbrev pub invariant-loop-i : goal.invariant-loop-i
invariant-loop-i l = (l.i ≤ QUOTAS) × Importing l.text l.grants l.i
