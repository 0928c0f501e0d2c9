-- Grant and remainder stand at 0 and 4 of an entry, and the permissions at 8 (`entry_read`).
use mathlib.Core.Path.{refl}
use Rattle.framing.specs.Frames.{stream_of}
use Rattle.image.proofs.Decoding.{entry_read}
use Rattle.image.proofs.entries.read_entry.Goals as goal

pub returns : goal.returns
returns c =
    let r = c in
    let a = r.args in
    entry_read a.at (stream_of a.image.now) a.form a.form.full refl _
    (λ i. record { grant = r.read_quad.ensures i; remainder = r.read_quad-2.ensures i; permissions = c.read_permissions.ensures i })
