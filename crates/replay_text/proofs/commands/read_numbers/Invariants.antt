-- The invariant: the numbers that were read and those of the words that are left are all numbers of the text (`Gathering`). Each turn reads a word.
use mathlib.Core.Path.{◌≡◌}
use lib.ListN.{length}
use Rattle.replay_model.specs.Text.{SPACE}
use Rattle.replay_model.specs.Lines.{words}
use Rattle.replay_text.specs.Clauses.{parts_left}
use Rattle.replay_text.proofs.Gathering.{Gathering}
use Rattle.replay_text.proofs.commands.read_numbers.Given as goal

abbrev pub invariant-loop-value : goal.invariant-loop-value
invariant-loop-value g l = record {
  long : length l.value-items ≡ g.row.N;
  gathered : Gathering (words l.text) l.value-items l.value-index (parts_left SPACE l.left);
}
