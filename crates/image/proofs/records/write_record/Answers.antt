-- The four parts are written side by side (`record_written`).
use Rattle.image.proofs.Heads.{record_written}
use Rattle.image.proofs.records.write_record.Goals as goal

pub returns : goal.returns
returns c =
    let w₄ = c in
    let w₃ = w₄ in
    let w₂ = w₃ in
    let w₁ = w₂ in
    let start = w₁ in
    let a = start.args in
    record_written a.at a.head.now w₁.write_u32.new.bytes w₂.write_byte.new.head start.requires w₃.write_byte-2.new.head w₄.write_u16.new.bytes
    a.hold
    w₁.write_u32.ensures w₂.write_byte.ensures w₃.write_byte-2.ensures w₄.write_u16.ensures
