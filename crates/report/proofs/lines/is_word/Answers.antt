use native.Mathlib.Omega.{arith}
use mathlib.Core.Path.{refl, sym, ◌∙◌}
use borrow.Author.Tests.{not-true, not-false}
use Rattle.report.specs.Words.{all_digits}
use Rattle.report.proofs.Loops.{word_stops, word_goes_on, word_ends}
use Rattle.report.proofs.lines.is_word.Goals as goal

pub loop-i-init : goal.loop-i-init
unfolding all_digits
loop-i-init c = refl

pub returns-then-not-is_digit : goal.returns-then-not-is_digit
returns-then-not-is_digit c =
    let l = c in
    let s = l in
    let a = s.args in
    word_stops a.text.now a.mark s.requires l.loop-i.i (omega arith)
    (sym c.is_digit.ensures ∙ not-true c.is_digit.result c.if-not-is_digit.true-raw)

pub loop-i-preserved : goal.loop-i-preserved
loop-i-preserved c =
    let l = c in
    let s = l in
    let a = s.args in
    word_goes_on a.text.now a.mark s.requires l.loop-i.i (omega arith) l.loop-i.invariant
    (sym c.is_digit.ensures ∙ not-false c.is_digit.result c.if-not-is_digit.false-raw)

pub returns : goal.returns
returns c =
    let l = c in
    let s = l in
    let a = s.args in
    word_ends a.text.now a.mark s.requires l.loop-i.i (omega arith) l.loop-i.invariant
