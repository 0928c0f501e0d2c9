-- `words::put_hold` meets its contract: two words change, or none.
use native.Mathlib.Omega.{arith}
use mathlib.Core.Path.{sym}
use Rattle.accounts.proofs.Laws.{put_out}
use Rattle.words.specs.Words.{accounts_of}
use Rattle.words.proofs.Words.{holds_long}
use Rattle.words.proofs.Padding.{padded_same}
use Rattle.words.proofs.Changes.{puts}
use Rattle.words.proofs.writers.put_hold.Goals as goal

pub returns-then-at-ge-HOLDS : goal.returns-then-at-ge-HOLDS
returns-then-at-ge-HOLDS c =
    let a = c.args in
    record {
      holds = sym (put_out a.at a.hold (accounts_of a.words.now) (omega (arith, c.if-at-ge-HOLDS.true, holds_long a.words.now)));
      pads = padded_same a.words.now;
    }

pub returns : goal.returns
returns c =
    let t = c in
    let w = t in
    let e = w in
    let k = e in
    let a = k.args in
    record {
      holds =
          rw c.word_at-rest.ensures (puts a.words.now c.told-words a.at (omega (arith, e.if-at-ge-HOLDS.false)) a.hold t.from-times.result
          w.from-quota.result
          t.from-times.ensures w.from-quota.ensures (omega arith) (omega arith)).0;
      pads =
          rw c.word_at-rest.ensures (puts a.words.now c.told-words a.at (omega (arith, e.if-at-ge-HOLDS.false)) a.hold t.from-times.result
          w.from-quota.result
          t.from-times.ensures w.from-quota.ensures (omega arith) (omega arith)).1;
    }
