-- Each test that fails leaves the image as it is; past them the frames have room (`Room`).
use Rattle.std.proofs.Common.{arith, ◌∙◌}
use Rattle.framing.proofs.Room.{frames_ceil, too_long, too_short, fits}
use Rattle.framing.proofs.write_frames.Goals as goal

pub returns-then-head-gt-LONGEST : goal.returns-then-head-gt-LONGEST
returns-then-head-gt-LONGEST c =
    let a = c.args in
    too_long a.image.now a.head.now a.body.now (omega arith)

pub returns-then-head-body : goal.returns-then-head-body
returns-then-head-body c =
    let a = c.args in
    too_long a.image.now a.head.now a.body.now (omega arith)

pub returns-then-image-count : goal.returns-then-image-count
returns-then-image-count c =
    let a = c.args in
    too_short a.image.now a.head.now a.body.now _ (omega arith) (c.div_ceil-count.ensures ∙ frames_ceil _) (omega arith)

pub returns : goal.returns
returns c =
    let w = c in
    let a = w.args in
    fits a.image.now a.head.now a.body.now _ (omega arith) (c.div_ceil-count.ensures ∙ frames_ceil _) _ (omega arith) w.put_frames.ensures
