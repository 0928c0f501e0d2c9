-- What was read is copied, or nothing is (`Restores`).
use mathlib.Core.Path.{ap, sym, ◌∙◌}
use Rattle.std.proofs.lemmas.Result.{err_from_is_err_and}
use Rattle.words.specs.Words.{accounts_of}
use Rattle.image_model.specs.Answers.{restored_to}
use Rattle.image.proofs.Restores.{restored_read, restored_kept, left_read, left_kept}
use Rattle.image.proofs.in_place.restoring.restore_image.Goals as goal

pub returns : goal.returns
returns c =
    let r = c in
    let a = r.args in
    let l = r.read_image.new in
    let e = sym (ap (restored_to l.heap (accounts_of l.words)) c.in_ok-read_image.was)
    ∙ r.read_image.ensures.holds in
    let i = a.image.now in
    let h = a.heap.now in
    let k = accounts_of a.words.now in
    let p = restored_read i h l.heap k (accounts_of l.words) e in
    record {
      holds = p;
      leaves = left_read i h l.heap k (accounts_of l.words) a.words.now l.words p r.read_image.ensures.pads;
    }

pub returns-in_err-read_image : goal.returns-in_err-read_image
returns-in_err-read_image c =
    let a = c.args in
    let l = c.read_image.new in
    let w = c.in_err-read_image in
    let q = err_from_is_err_and c.from_residual.result c.from_residual.ensures.1 in
    let e = sym (ap (restored_to l.heap (accounts_of l.words)) w.was) ∙ c.read_image.ensures.holds in
    let i = a.image.now in
    let h = a.heap.now in
    let k = accounts_of a.words.now in
    let p = restored_kept i h l.heap k (accounts_of l.words) w.field-0.0 e in
    record {
      holds = rw (q.1, q.2) p;
      leaves = left_kept i h l.heap k (accounts_of l.words) a.words.now w.field-0.0 p;
    }
