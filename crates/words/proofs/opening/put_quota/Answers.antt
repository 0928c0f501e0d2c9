-- `words::put_quota` meets its contract: three words are written, or none.
use native.Mathlib.Omega.{arith}
use Rattle.words.proofs.Openings.{put_quota_is, put_quota_out}
use Rattle.words.proofs.opening.put_quota.Goals as goal

pub returns-then-q-ge-QUOTAS : goal.returns-then-q-ge-QUOTAS
returns-then-q-ge-QUOTAS c = let a = c.args in
    let both = put_quota_out a.words.now a.q a.quota c.if-q-ge-QUOTAS.true in record {
      holds = both.0;
      pads = both.1;
    }

pub returns : goal.returns
returns c =
    let w = c in
    let e = w in
    let k = e in
    let a = k.args in
    record {
      holds =
          rw c.word_at-spare.ensures (put_quota_is a.words.now c.told-words a.q a.quota (omega (arith, e.if-q-ge-QUOTAS.false)) w.from-permissions.result
          w.from-permissions.ensures
          (omega arith)).0;
      pads =
          rw c.word_at-spare.ensures (put_quota_is a.words.now c.told-words a.q a.quota (omega (arith, e.if-q-ge-QUOTAS.false)) w.from-permissions.result
          w.from-permissions.ensures
          (omega arith)).1;
    }
