-- The invariant: the digits that are left, behind the number that was read, give what all digits give. Each turn reads one (`digit_more`).
use mathlib.Core.Path.{◌≡◌}
use lib.ListN.{drop}
use Rattle.replay_model.specs.Text.{read_on}
use Rattle.replay_text.proofs.digits.read_digits.Given as goal

abbrev pub invariant-loop-byte : goal.invariant-loop-byte
invariant-loop-byte l = read_on l.value (drop l.byte-index l.word) ≡ read_on 0 l.word
