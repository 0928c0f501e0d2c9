-- The tests are the lines, in their order; what they leave is the shape (`Parses`).
use mathlib.Core.Path.{◌≡◌, ap, sym, ◌∙◌}
use lib.ListN.{take}
use borrow.Author.Tests.{not-true, not-false}
use Rattle.std.specs.Prelude.{None, ok_or, Some}
use Rattle.std.specs.Result.{result_ok}
use Rattle.std.proofs.lemmas.Result.{err_from_is_err_and}
use Rattle.layout.specs.Bytes.{number}
use Rattle.framing.specs.Frames.{stream_of}
use Rattle.image_model.specs.declared.ImageRefusal.TheVariants.{ImageLength, FrameWrong, FormNumber, Contents}
use Rattle.image_model.specs.Stream.{form_numbered}
use Rattle.image_model.specs.Reading.{form_of, size_in}
use Rattle.image.specs.Parsing.{FormFits, known_form}
use Rattle.image.proofs.Parses.{form_fits, refused_empty, refused_part, refused_frames, refused_number, form_is, refused_marks, refused_contents}
use Rattle.image.proofs.Parses.{refused_none, refused_shape, found_shape}
use Rattle.image.proofs.parsing.shape_of.Goals as goal
use Rattle.image.proofs.parsing.shape_of.Goals.{In_ok-form}

-- past the tests of length and frames, the number of the form
known : (c : In_ok-form)
    → form_numbered (number (take 2 (stream_of c.args.image.now))) ≡ Some
    c.in_ok-form.form
known c =
    sym (ap form_numbered c.read_pair.ensures.0) ∙ sym c.form_numbered.ensures
    ∙ ap known_form (c.ok_or.ensures.ok_part ∙ ap result_ok c.in_ok-form.was)

-- the form is the image's
form_found : (c : In_ok-form)
    → c.in_ok-form.form ≡ form_of c.args.image.now
form_found c =
    let r = c in
    form_is r.args.image.now r.if-image-eq0.false r.if-image-ne0.false r.all_right.result
    r.all_right.ensures (not-false _ c.if-not-all_right.false-raw) c.in_ok-form.form (known c)

fits : (c : In_ok-form) → FormFits c.in_ok-form.form
fits c =
    form_fits (number (take 2 (stream_of c.args.image.now)))
    c.in_ok-form.form (known c)

pub returns-then-image-eq0 : goal.returns-then-image-eq0
returns-then-image-eq0 c =
    let i = c.args.image.now in
    refused_shape i ImageLength (refused_empty i c.if-image-eq0.true)

pub returns-then-image-ne0 : goal.returns-then-image-ne0
returns-then-image-ne0 c =
    let i = c.args.image.now in
    refused_shape i ImageLength (refused_part i c.if-image-eq0.false c.if-image-ne0.true)

pub returns-then-not-all_right : goal.returns-then-not-all_right
returns-then-not-all_right c =
    let r = c in
    let i = r.args.image.now in
    refused_shape i FrameWrong
    (refused_frames i r.if-image-eq0.false r.if-image-ne0.false r.all_right.result r.all_right.ensures (not-true _ c.if-not-all_right.true-raw))

pub returns-in_err-form : goal.returns-in_err-form
returns-in_err-form c =
    let i = c.args.image.now in
    let p = err_from_is_err_and c.from_residual.result c.from_residual.ensures.1 in
    let none : c.form_numbered.result ≡ None = c.ok_or.ensures.ok_part ∙ ap result_ok c.in_err-form.was in
    let told = sym c.in_err-form.was ∙ c.ok_or.ensures.value ∙ ap (λ o. ok_or o FormNumber) none in
    let wrong : c.in_err-form.field-0.0 ≡ FormNumber = cc in
    rw (p.1, p.2, wrong)
    (refused_shape i FormNumber
    (refused_number i c.if-image-eq0.false c.if-image-ne0.false c.all_right.result c.all_right.ensures
    (not-false _ c.if-not-all_right.false-raw)
    (sym (ap form_numbered c.read_pair.ensures.0) ∙ sym c.form_numbered.ensures ∙ ap known_form none)))

pub returns-then-not-marks_right : goal.returns-then-not-marks_right
returns-then-not-marks_right c =
    let m = c in
    let f = m in
    let r = f in
    let i = r.args.image.now in
    refused_shape i FormNumber
    (refused_marks i r.if-image-eq0.false r.if-image-ne0.false r.all_right.result r.all_right.ensures
    (not-false _ f.if-not-all_right.false-raw) f.in_ok-form.form (known (goal.at.returns-then-not-marks_right c).In_ok-form)
    m.marks_right.result (m.marks_right.ensures) (not-true _ c.if-not-marks_right.true-raw))

pub contents_right-requires : goal.contents_right-requires
contents_right-requires c =
    let f = c in
    (fits (goal.at.contents_right-requires c).In_ok-form, form_found (goal.at.contents_right-requires c).In_ok-form, c.read_quad-size.ensures)

pub returns-then-not-contents_right : goal.returns-then-not-contents_right
returns-then-not-contents_right c =
    let q = c in
    let m = q in
    let f = m in
    let r = f in
    let i = r.args.image.now in
    refused_shape i Contents
    (refused_contents i r.if-image-eq0.false r.if-image-ne0.false r.all_right.result r.all_right.ensures
    (not-false _ f.if-not-all_right.false-raw) f.in_ok-form.form (known (goal.at.returns-then-not-contents_right c).In_ok-form)
    m.marks_right.result (m.marks_right.ensures) (not-false _ q.if-not-marks_right.false-raw)
    q.contents_right.result q.contents_right.ensures
    (not-true _ c.if-not-contents_right.true-raw))

pub returns : goal.returns
unfolding size_in
returns c =
    let q = c in
    let m = q in
    let f = m in
    let r = f in
    let i = r.args.image.now in
    found_shape i f.in_ok-form.form q.read_quad-size.result
    (refused_none i r.if-image-eq0.false r.if-image-ne0.false r.all_right.result r.all_right.ensures
    (not-false _ f.if-not-all_right.false-raw) f.in_ok-form.form (known (goal.at.returns c).In_ok-form)
    m.marks_right.result (m.marks_right.ensures) (not-false _ q.if-not-marks_right.false-raw)
    q.contents_right.result q.contents_right.ensures
    (not-false _ c.if-not-contents_right.false-raw))
    (form_found (goal.at.returns c).In_ok-form) q.read_quad-size.ensures
