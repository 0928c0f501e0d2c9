use Rattle.std.proofs.Common.{◌/◌, length, refl, ◌∙◌, arith}
use borrow.Author.Tests.{not-true, not-false}
use Rattle.framing.proofs.Right.{right_none, right_stops, right_goes_on}
use Rattle.framing.proofs.all_right.Goals as goal

pub returns-then-not-is_right : goal.returns-then-not-is_right
returns-then-not-is_right c =
    let r = c in
    let at = r in
    let i = at.args.image.now in
    right_stops at.loop-b.b (length i / 512) i r.is_right.result (omega arith) r.is_right.ensures at.loop-b.invariant.1 (not-true _ c.if-not-is_right.true-raw)

pub loop-b-preserved : goal.loop-b-preserved
loop-b-preserved c =
    let r = c in
    let at = r in
    let i = at.args.image.now in (
      refl,
      right_goes_on at.loop-b.b (length i / 512) i r.is_right.result (omega arith) r.is_right.ensures at.loop-b.invariant.1
          (not-false _ c.if-not-is_right.false-raw),
    )

pub returns : goal.returns
returns c =
    let at = c in
    let i = at.args.image.now in
    right_none at.loop-b.b (length i / 512) i (omega arith) ∙ at.loop-b.invariant.1
