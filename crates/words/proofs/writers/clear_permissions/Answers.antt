-- `words::clear_permissions` meets its contract: the lowest byte of one word changes, or none.
use native.Mathlib.Omega.{arith}
use mathlib.Core.Path.{◌∙◌}
use Rattle.words.proofs.Changes.{clears_none, clears}
use Rattle.words.proofs.writers.clear_permissions.Goals as goal

pub returns-then-q-ge-QUOTAS : goal.returns-then-q-ge-QUOTAS
returns-then-q-ge-QUOTAS c =
    let a = c.args in
    let both = clears_none a.words.now a.quota a.bits c.if-q-ge-QUOTAS.true in record {
      holds = both.0;
      pads = both.1;
    }

pub returns : goal.returns
returns c =
    let w = c in
    let l = w in
    let e = l in
    let k = e in
    let a = k.args in
    record {
      holds =
          rw c.word_at-spare.ensures (clears a.words.now a.quota a.bits (omega (arith, e.if-q-ge-QUOTAS.false)) c.told-words w.from-left.result
          (omega arith)
          (w.from-left.ensures ∙ l.left_permissions.ensures)).0;
      pads =
          rw c.word_at-spare.ensures (clears a.words.now a.quota a.bits (omega (arith, e.if-q-ge-QUOTAS.false)) c.told-words w.from-left.result
          (omega arith)
          (w.from-left.ensures ∙ l.left_permissions.ensures)).1;
    }
