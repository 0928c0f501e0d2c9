-- The tests in the definition's order (`line_short`, `line_wrong`, `line_reserved`, `line_right`).
use native.Mathlib.Omega.{arith}
use mathlib.Core.Path.{◌≡◌, ap, sym, ◌∙◌}
use mathlib.Core.Bool.{true}
use borrow.Author.Tests.{not-true, not-false}
use Rattle.std.specs.Prelude.{Ok}
use Rattle.report.specs.Words.{words_right}
use Rattle.report.proofs.Words.{words_digits}
use Rattle.report.proofs.Loops.{line_short, line_wrong, line_reserved, line_right}
use Rattle.report.proofs.lines.read_line.Goals as goal
use Rattle.report.proofs.lines.read_line.Goals.{Else-not-is_line}

-- the line is right once the second test is passed, and its words behind the first stand nine characters further on
right : (c : Else-not-is_line) → words_right 6 (c.args.text.now) ≡ true
right c = sym c.is_line.ensures ∙ not-false c.is_line.result c.if-not-is_line.false-raw

pub returns-then-text-lt-LINE_LENGTH : goal.returns-then-text-lt-LINE_LENGTH
returns-then-text-lt-LINE_LENGTH c =
    let a = c.args in
    line_short a.text.now (omega arith)

pub returns-then-not-is_line : goal.returns-then-not-is_line
returns-then-not-is_line c =
    let a = c.args in
    line_wrong a.text.now (sym c.is_line.ensures ∙ not-true c.is_line.result c.if-not-is_line.true-raw)

pub is_rest_zero-requires : goal.is_rest_zero-requires
is_rest_zero-requires c = (omega arith, right c)

pub returns-then-not-is_rest_zero : goal.returns-then-not-is_rest_zero
returns-then-not-is_rest_zero c =
    let e = c in
    let a = e.args in
    line_reserved a.text.now (right (goal.at.returns-then-not-is_rest_zero c).Else-not-is_line)
    (sym c.is_rest_zero.ensures ∙ not-true c.is_rest_zero.result c.if-not-is_rest_zero.true-raw)

pub read_word-requires : goal.read_word-requires
read_word-requires c =
    let e = c in
    let a = e.args in
    (omega arith, words_digits 6 0 a.text.now (right (goal.at.read_word-requires c).Else-not-is_line) (omega arith))

pub returns : goal.returns
returns c =
    let z = c in
    let e = z in
    let a = e.args in
    ap Ok c.read_word.ensures ∙ line_right a.text.now (right (goal.at.returns c).Else-not-is_line)
    (sym z.is_rest_zero.ensures ∙ not-false z.is_rest_zero.result c.if-not-is_rest_zero.false-raw)
