-- The head and the heap are the stream, and the frames say whether there was room (`put_by_frames`).
use mathlib.Core.Path.{ap, ◌∙◌}
use native.Mathlib.Omega.{arith}
use Rattle.words.specs.Words.{accounts_of}
use Rattle.image_model.specs.Answers.{imaged}
use Rattle.image.proofs.Puts.{put_by_frames}
use Rattle.image.proofs.in_place.writing.put_with.Goals as goal

pub returns : goal.returns
returns c =
    let a = c.args in
    let w = c.write_frames in
    ap (imaged w.new.image) c.ok_or.ensures.value
    ∙ put_by_frames a.form c.requires.1 a.image.now a.heap.now (accounts_of a.words.now) c.requires.0 c.requires.3
    c.write_head.new.head c.write_head.ensures
    (omega (arith, c.requires.2))
    w.new.image w.result w.ensures
