-- `words::change_remainder` meets its contract: one word changes, or none.
use native.Mathlib.Omega.{arith}
use mathlib.Core.Path.{◌∙◌, ap}
use Rattle.words.proofs.Changes.{remainder_none, remainder_made}
use Rattle.words.proofs.writers.change_remainder.Goals as goal

pub returns-then-q-ge-QUOTAS : goal.returns-then-q-ge-QUOTAS
returns-then-q-ge-QUOTAS g c f made =
    let a = c.args in
    remainder_none a.words.now a.quota f c.if-q-ge-QUOTAS.true

pub returns : goal.returns
returns g c f made =
    let a = c.args in
    let r = c.word_at.result in
    remainder_made a.words.now a.quota f (omega (arith, c.if-q-ge-QUOTAS.false)) c.told-words c.change.result
    (made r c.change.result (omega arith) c.change.ensures ∙ ap f c.word_at.ensures)
