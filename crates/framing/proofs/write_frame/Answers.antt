use Rattle.std.proofs.Common.{◌++◌, drop}
use Rattle.framing.proofs.Cut.{frame_written}
use Rattle.framing.proofs.write_frame.Goals as goal

pub returns : goal.returns
returns c =
    let w₄ = c in
    let ck = w₄ in
    let fl = ck in
    let w₂ = fl in
    let w₁ = w₂ in
    let start = w₁ in
    let a = start.args in
    frame_written a.at a.number a.count ck.check_at-check.result (drop a.from (a.head.now ++ a.body.now)) a.image.now
    w₁.write_u16.new.bytes w₂.write_u16-2.new.bytes fl.fill.new.image w₄.write_u32.new.bytes
    start.requires.0 w₁.write_u16.ensures w₂.write_u16-2.ensures fl.fill.ensures ck.check_at-check.ensures w₄.write_u32.ensures
