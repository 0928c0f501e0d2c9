-- `words::put_kinds` meets its contract.
use native.Mathlib.Omega.{arith}
use Rattle.words.proofs.Openings.{put_kinds_is}
use Rattle.words.proofs.opening.put_kinds.Goals as goal

pub returns : goal.returns
returns c =
    let h = c in
    let l = h in
    let k = l in
    let a = k.args in
    record {
      holds = rw c.word_at-spare.ensures (put_kinds_is a.words.now c.told-words a.kind a.edition l.from-low.result h.from-high.result l.from-low.ensures
          h.from-high.ensures (omega arith) (omega arith)).0;
      pads = rw c.word_at-spare.ensures (put_kinds_is a.words.now c.told-words a.kind a.edition l.from-low.result h.from-high.result l.from-low.ensures
          h.from-high.ensures (omega arith) (omega arith)).1;
    }
