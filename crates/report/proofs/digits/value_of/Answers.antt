-- The value of each kind of character (`value_decimal`, `value_letter`, and 16 for the others).
use native.Mathlib.Omega.{arith}
use mathlib.Core.Path.{ap, sym, ◌∙◌}
use Prim.Native.Nat.{ℕ, ◌-◌}
use Rattle.report.proofs.Hex.{value_low, value_decimal, value_between, value_letter, value_high}
use Rattle.report.proofs.digits.value_of.Goals as goal

pub returns-in-48-to-57 : goal.returns-in-48-to-57
returns-in-48-to-57 c =
    ap (λ (n : ℕ). n - 48) c.from-c.ensures ∙ sym (value_decimal c.args.character (omega arith) (omega arith))

pub returns-in-97-to-102 : goal.returns-in-97-to-102
returns-in-97-to-102 c =
    ap (λ (n : ℕ). n - 87) c.from-c.ensures ∙ sym (value_letter c.args.character (omega arith) (omega arith))

pub returns-in_default : goal.returns-in_default
returns-in_default c = sym (value_low c.args.character (omega arith))

pub returns-in_default-2 : goal.returns-in_default-2
returns-in_default-2 c = sym (value_between c.args.character (omega arith) (omega arith))

pub returns-in_default-3 : goal.returns-in_default-3
returns-in_default-3 c = sym (value_high c.args.character (omega arith))
