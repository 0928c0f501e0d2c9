-- The tests are the definition's (`Marked`).
use native.Mathlib.Omega.{arith}
use borrow.Author.Tests.{not-true, not-false}
use Rattle.framing.specs.Frames.{stream_of}
use Rattle.image.proofs.Marked.{lean_marks, first_mark_wrong, second_mark}
use Rattle.image.proofs.marks.marks_right.Goals as goal

pub returns-then-not-form : goal.returns-then-not-form
returns-then-not-form c =
    let a = c.args in
    lean_marks (stream_of a.image.now) a.form (not-true _ c.if-not-form.true) c.read_pair.result c.read_pair.ensures.0

pub returns-then-stream_at-ge2 : goal.returns-then-stream_at-ge2
returns-then-stream_at-ge2 c =
    let s = c in
    let a = s.args in
    first_mark_wrong (stream_of a.image.now) a.form (not-false _ s.if-not-form.false) s.stream_at.result s.stream_at.ensures
    (omega (arith, c.if-stream_at-ge2.true))

pub returns : goal.returns
returns c =
    let s = c in
    let a = s.args in
    second_mark (stream_of a.image.now) a.form (not-false _ s.if-not-form.false) s.stream_at.result s.stream_at.ensures
    (omega (arith, c.if-stream_at-ge2.false)) c.stream_at-2.result c.stream_at-2.ensures
