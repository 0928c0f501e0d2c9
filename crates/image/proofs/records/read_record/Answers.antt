-- Serial, quota and count stand at 0, 4 and 5 of a record (`record_read`).
use mathlib.Core.Path.{◌∙◌}
use Rattle.framing.specs.Frames.{stream_of}
use Rattle.image.proofs.Decoding.{record_read}
use Rattle.image.proofs.records.read_record.Goals as goal

pub returns : goal.returns
returns c =
    let a = c.args in
    (λ i. record { serial = c.read_quad.ensures i; quota = c.stream_at.ensures i; count = c.stream_at-2.ensures i })
    ∙ record_read a.at (stream_of a.image.now)
