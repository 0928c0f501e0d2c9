use native.Mathlib.Omega.{arith}
use Prim.Native.Nat.{◌*◌}
use Rattle.report.proofs.Loops.{tail_is, zero_stops, zero_goes_on, zero_ends, word_digits}
use Rattle.report.proofs.lines.is_rest_zero.Goals as goal

pub read_word-requires : goal.read_word-requires
read_word-requires c =
    let l = c in
    let s = l in
    let a = s.args in
    (omega (arith, s.requires.0), rw (tail_is (9 * l.loop-k.k) a.text.now) (word_digits a.text.now l.loop-k.k s.requires.1 (omega arith)))

pub returns-then-read_word-ne0 : goal.returns-then-read_word-ne0
returns-then-read_word-ne0 c =
    let l = c in
    let a = l.args in
    zero_stops a.text.now l.loop-k.k c.read_word.result (omega arith) l.loop-k.invariant (rw (tail_is (9 * l.loop-k.k) a.text.now) at c.read_word.ensures)
    c.if-read_word-ne0.true

pub loop-k-preserved : goal.loop-k-preserved
loop-k-preserved c =
    let l = c in
    let a = l.args in
    zero_goes_on a.text.now l.loop-k.k c.read_word.result (omega arith) l.loop-k.invariant
    (rw (tail_is (9 * l.loop-k.k) a.text.now) at c.read_word.ensures) c.if-read_word-ne0.false

pub returns : goal.returns
returns c =
    let l = c in
    let a = l.args in
    zero_ends a.text.now l.loop-k.k (omega arith) l.loop-k.invariant
