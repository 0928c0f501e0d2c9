-- `words::quota_at` meets its contract.
use mathlib.Core.Path.{◌∙◌}
use Rattle.words.proofs.Readings.{quota_is, quota_none}
use Rattle.words.proofs.readers.quota_at.Goals as goal

pub returns-then-q-ge-QUOTAS : goal.returns-then-q-ge-QUOTAS
returns-then-q-ge-QUOTAS c = let a = c.args in quota_none a.words.now a.q c.if-q-ge-QUOTAS.true

pub returns : goal.returns
returns c = let a = c.args in c.entry_in.ensures ∙ quota_is a.words.now a.q c.if-q-ge-QUOTAS.false
