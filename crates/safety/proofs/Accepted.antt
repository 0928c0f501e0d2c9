-- No line of an accepted call holds.
use Prim.Native.Nat.{ℕ}
use mathlib.Core.Path.{◌≡◌}
use mathlib.Core.List.{List}
use mathlib.Core.Bool.{false}
use Rattle.accounts.specs.declared.Accounts.{Accounts}
use Rattle.lists.specs.Lists.{any}
use Rattle.model.specs.Refusals.{line_holds, first_refusal}
use Rattle.model.specs.declared.Call.{Call}
use Rattle.model.specs.Rows.{call_lines}
use Rattle.model.proofs.Refusals.{accepted_exactly, by_lines}
use Rattle.safety.proofs.Wrong

pub none_holds : (unit : ℕ → ℕ) (c : Call) (s : List ℕ) (k : Accounts) → first_refusal (call_lines unit c s k) ≡ 0
    → any line_holds (call_lines unit c s k) ≡ false
none_holds unit c s k = (accepted_exactly (call_lines unit c s k) (by_lines unit c s k).numbered).0
