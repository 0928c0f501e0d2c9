use native.Mathlib.Omega.{arith}
use mathlib.Core.Path.{sym, ◌∙◌}
use Rattle.framing.specs.Frames.{stream_of}
use Rattle.framing.proofs.Places.{stream_length}
use Rattle.image.proofs.Zeros.{zeros_stop, zeros_go_on, zeros_end}
use Rattle.image.proofs.parsing.zero_from.Goals as goal

pub returns-then-stream_at-ne0 : goal.returns-then-stream_at-ne0
returns-then-stream_at-ne0 c =
    let r = c in
    let at = r in
    let a = at.args in
    zeros_stop (stream_of a.image.now) a.from at.loop-at.at at.loop-at.invariant (omega (arith, stream_length a.image.now)) (λ e.
    c.if-stream_at-ne0.true (r.stream_at.ensures ∙ e))

pub loop-at-preserved : goal.loop-at-preserved
loop-at-preserved c =
    let r = c in
    let at = r in
    let a = at.args in
    zeros_go_on (stream_of a.image.now) a.from at.loop-at.at at.loop-at.invariant (omega (arith, stream_length a.image.now))
    (sym r.stream_at.ensures ∙ c.if-stream_at-ne0.false)

pub returns : goal.returns
returns c =
    let at = c in
    let a = at.args in
    zeros_end (stream_of a.image.now) a.from at.loop-at.at at.loop-at.invariant (omega (arith, stream_length a.image.now))
