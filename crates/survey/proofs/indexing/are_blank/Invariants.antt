-- `survey::indexing::are_blank` meets its contract. The loop's invariant: where no bit was met, the words that were read
-- are 0.
use Rattle.std.proofs.Common.{◌≡◌, ℕ, ◌<◌, get_or}
use Rattle.survey.proofs.indexing.are_blank.Given as goal

abbrev pub invariant-loop-word : goal.invariant-loop-word
invariant-loop-word l = l.bits ≡ 0 → (j : ℕ) → j < l.word-index → get_or l.word-items j 0 ≡ 0
