use native.Mathlib.Omega.{arith}
use mathlib.Core.Path.{ap, sym, ◌∙◌}
use Prim.Native.Nat.{◌*◌}
use borrow.Author.Tests.{not-true, not-false}
use Rattle.report.specs.Words.{word_right}
use Rattle.report.proofs.Loops.{tail_is, right_stops, right_goes_on, right_ends}
use Rattle.report.proofs.lines.is_line.Goals as goal

pub returns-then-not-is_word : goal.returns-then-not-is_word
returns-then-not-is_word c =
    let l = c in
    let a = l.args in
    right_stops a.text.now l.loop-k.k (omega arith) l.loop-k.invariant
    (sym (ap (word_right 32) (tail_is (9 * l.loop-k.k) a.text.now)) ∙ sym c.is_word.ensures ∙ not-true c.is_word.result c.if-not-is_word.true-raw)

pub loop-k-preserved : goal.loop-k-preserved
loop-k-preserved c =
    let l = c in
    let a = l.args in
    right_goes_on a.text.now l.loop-k.k (omega arith) l.loop-k.invariant
    (sym (ap (word_right 32) (tail_is (9 * l.loop-k.k) a.text.now)) ∙ sym c.is_word.ensures ∙ not-false c.is_word.result c.if-not-is_word.false-raw)

pub returns : goal.returns
returns c =
    let l = c in
    let a = l.args in
    c.is_word-2.ensures ∙ ap (word_right 10) (tail_is 45 a.text.now) ∙ right_ends a.text.now l.loop-k.k (omega arith) l.loop-k.invariant
