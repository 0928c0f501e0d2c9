-- `words::permissions` meets its contract.
use Prim.Native.Nat.{ℕ, ◌%◌}
use mathlib.Core.Path.{ap, ◌∙◌}
use Rattle.words.proofs.Readings.{permissions_is, permissions_none}
use Rattle.words.proofs.readers.permissions.Goals as goal

pub returns-then-q-ge-QUOTAS : goal.returns-then-q-ge-QUOTAS
returns-then-q-ge-QUOTAS c = let a = c.args in permissions_none a.words.now a.quota c.if-q-ge-QUOTAS.true

pub returns : goal.returns
returns c = let a = c.args in ap (λ (x : ℕ). x % 256) c.word_at.ensures
    ∙ permissions_is a.words.now a.quota c.if-q-ge-QUOTAS.false
