use native.Mathlib.Omega.{arith}
use mathlib.Core.Path.{sym, ◌∙◌}
use Rattle.replay_model.specs.Text.{is_digit}
use Rattle.replay_text.proofs.Reading.{digit_none, digit_large, digit_more, digits_done}
use Rattle.replay_text.proofs.digits.read_digits.Goals as goal

pub loop-byte-preserved : goal.loop-byte-preserved
unfolding is_digit
loop-byte-preserved c =
    let l = c.loop-byte in
    digit_more l.value l.byte-index c.args.word.now c.loop-byte-test.true _ (sym c.if-not-is_ascii_digit.ensures.value) (omega arith) (omega arith)
    ∙ l.invariant

pub returns-then-not-is_ascii_digit : goal.returns-then-not-is_ascii_digit
unfolding is_digit
returns-then-not-is_ascii_digit c =
    let l = c.loop-byte in
    digit_none l.value l.byte-index c.args.word.now c.loop-byte-test.true (sym c.if-not-is_ascii_digit.ensures.value) ∙ l.invariant

pub returns-in_err-checked_mul : goal.returns-in_err-checked_mul
unfolding is_digit
returns-in_err-checked_mul c =
    let l = c.loop-byte in
    c.from_residual.ensures
    ∙ digit_large l.value l.byte-index c.args.word.now c.loop-byte-test.true (sym c.if-not-is_ascii_digit.ensures.value) (omega arith) ∙ l.invariant

pub returns-in_err-value : goal.returns-in_err-value
unfolding is_digit
returns-in_err-value c =
    let l = c.loop-byte in
    c.from_residual-in_err-value.ensures
    ∙ digit_large l.value l.byte-index c.args.word.now c.loop-byte-test.true (sym c.if-not-is_ascii_digit.ensures.value) (omega arith) ∙ l.invariant

pub returns : goal.returns
returns c =
    let l = c.loop-byte in
    digits_done l.value l.byte-index c.args.word.now (omega arith) ∙ l.invariant
