-- An image that its own bytes refuse is refused; of another the rest is `restore`.
use mathlib.Core.Path.{◌∙◌}
use Rattle.framing.specs.Frames.{stream_of}
use Rattle.image_model.specs.Answers.{restored_to}
use Rattle.image_model.specs.Reading.{accounts_of}
use Rattle.image.proofs.Parses.{Found, shape_found, shape_refused, found_allowed, found_fits}
use Rattle.image.proofs.Restores.{read_refused, read_restored}
use Rattle.image.proofs.in_place.reading.read_image.Goals as goal
use Rattle.image.proofs.in_place.reading.read_image.Goals.{In-Ok}

-- what the image was found to be
found : (c : In-Ok)
    → let i = c.args.image.now in
    Found i c.in-Ok.form c.in-Ok.size (accounts_of c.in-Ok.form (stream_of i))
found c =
    let p = c in
    shape_found p.args.image.now p.shape_of.result c.in-Ok.form c.in-Ok.size
    p.shape_of.ensures c.in-Ok.is

pub restore-requires : goal.restore-requires
restore-requires c =
    let s = c in
    (found_fits _ _ _ _ (found (goal.at.restore-requires c).In-Ok), found_allowed _ _ _ _ (found (goal.at.restore-requires c).In-Ok))

pub returns-in-Ok : goal.returns-in-Ok
returns-in-Ok c =
    let r = c in
    let s = r in
    let a = s.args in
    record {
      holds = r.restore.ensures.holds ∙ read_restored a.image.now a.heap.now _ _ _ (found (goal.at.returns-in-Ok c).In-Ok);
      pads = r.restore.ensures.pads;
    }

pub returns-in-Err : goal.returns-in-Err
returns-in-Err c =
    let s = c in
    let p = s in
    let a = p.args in
    let e = c.refused.ensures in
    record {
      holds = (λ i. restored_to a.heap.now (e.holds i) (e.tells i))
          ∙ read_refused a.image.now a.heap.now s.in-Err.refusal
          (shape_refused a.image.now p.shape_of.result s.in-Err.refusal p.shape_of.ensures s.in-Err.is);
      pads = e.pads;
    }
