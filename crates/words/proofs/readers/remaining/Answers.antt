-- `words::remaining` meets its contract.
use mathlib.Core.Path.{◌∙◌}
use Rattle.words.proofs.Readings.{remaining_is, remaining_none}
use Rattle.words.proofs.readers.remaining.Goals as goal

pub returns-then-q-ge-QUOTAS : goal.returns-then-q-ge-QUOTAS
returns-then-q-ge-QUOTAS c = let a = c.args in remaining_none a.words.now a.quota c.if-q-ge-QUOTAS.true

pub returns : goal.returns
returns c = let a = c.args in c.word_at.ensures ∙ remaining_is a.words.now a.quota c.if-q-ge-QUOTAS.false
