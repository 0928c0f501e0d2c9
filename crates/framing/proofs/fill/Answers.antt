use Rattle.std.proofs.Common.{◌≡◌, ◌++◌, length, drop, ap, ◌∙◌, arith}
use Rattle.layout.proofs.Overwrite.{length_overwrite}
use Rattle.framing.specs.Frames.{padded}
use Rattle.framing.proofs.Fills.{fill_none, fill_more}
use Rattle.framing.proofs.fill.Goals as goal
use Rattle.framing.proofs.fill.Goals.{At-loop-i}

-- the length stays
len : (c : At-loop-i) → length c.loop-i.image ≡ length c.args.image.now
len c =
    let a = c.args in
    ap length c.loop-i.invariant ∙ length_overwrite a.to (padded c.loop-i.i (drop a.from (a.head.now ++ a.body.now))) a.image.now

pub loop-i-init : goal.loop-i-init
loop-i-init c = let a = c.args in fill_none a.to (drop a.from (a.head.now ++ a.body.now)) a.image.now

pub loop-i-preserved : goal.loop-i-preserved
loop-i-preserved c =
    let at = c in
    let a = at.args in
    fill_more a.to a.from at.loop-i.i c.stream_byte.result (a.head.now ++ a.body.now) a.image.now at.loop-i.image
    (omega arith) at.loop-i.invariant c.stream_byte.ensures
