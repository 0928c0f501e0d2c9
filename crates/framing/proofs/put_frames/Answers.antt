use Rattle.std.proofs.Common.{◌≡◌, ◌++◌, length, ap, ◌∙◌, arith}
use Rattle.layout.proofs.Overwrite.{length_overwrite}
use Rattle.framing.specs.Frames.{cut_from}
use Rattle.framing.proofs.Cut.{frames_none, frames_more}
use Rattle.framing.proofs.put_frames.Goals as goal
use Rattle.framing.proofs.put_frames.Goals.{At-loop-b}

-- the length stays
len : (c : At-loop-b) → length c.loop-b.image ≡ length c.args.image.now
len c =
    let a = c.args in
    ap length c.loop-b.invariant ∙ length_overwrite 0 (cut_from c.loop-b.b 0 a.count (a.head.now ++ a.body.now)) a.image.now

pub loop-b-init : goal.loop-b-init
loop-b-init c = let a = c.args in frames_none a.count (a.head.now ++ a.body.now) a.image.now

pub loop-b-preserved : goal.loop-b-preserved
loop-b-preserved c =
    let w = c in
    let at = w in
    let start = at in
    let a = start.args in
    frames_more at.loop-b.b a.count a.count (a.head.now ++ a.body.now) a.image.now at.loop-b.image w.write_frame.new.image
    start.requires.0 (omega arith) at.loop-b.invariant w.write_frame.ensures
