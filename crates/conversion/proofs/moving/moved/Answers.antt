-- An image of the other form, one that its own bytes refuse, and one whose state is written (`Steps`).
use mathlib.Core.Path.{◌≡◌, ap, sym, ◌∙◌}
use borrow.Author.Rules.{rules}
use Rattle.std.specs.Prelude.{Err}
use Rattle.image_model.specs.declared.Form.{Form}
use Rattle.image_model.specs.Answers.{imaged}
use Rattle.image_model.specs.Reading.{form_of}
use Rattle.image.proofs.Parses.{Found, image_found, refused_found, found_allowed}
use Rattle.conversion.specs.Steps.{form_from, form_to, other_form}
use Rattle.conversion.proofs.Steps.{own_refusal, move_other, move_refused, move_rewritten}
use Rattle.conversion.proofs.moving.moved.Goals as goal
use Rattle.conversion.proofs.moving.moved.Goals.{Else-form-number_from, In_ok-size}

pub returns-then-form-number_from : goal.returns-then-form-number_from
returns-then-form-number_from c =
    let t = c in
    let n = t in
    let f = n in
    let p = f in
    let a = p.args in
    move_other (form_from a.way) (form_to a.way) a.image.now a.out.now
    (λ q. t.if-form-number_from.true (ap (λ (x : Form). x.number) f.form_of-form.ensures ∙ q ∙ sym n.number_from.ensures)) c.other_form.result
    (c.other_form.ensures p.parse_image-parsed.result.accounts
    ∙ ap other_form (own_refusal a.image.now p.parse_image-parsed.result p.parse_image-parsed.ensures))

-- the image is of the form to move from
of-form : (c : Else-form-number_from)
    → (form_of c.args.image.now).number
    ≡ (form_from c.args.way).number
of-form c =
    let n = c in
    sym (ap (λ (x : Form). x.number) n.form_of-form.ensures) ∙ c.if-form-number_from.false ∙ n.number_from.ensures

-- what the image was found to be
found : (c : In_ok-size)
    → Found c.args.image.now c.in_ok-size.field-0-0 c.in_ok-size.size c.parse_image-parsed.result.accounts
found c =
    image_found c.args.image.now c.parse_image-parsed.result c.in_ok-size.field-0-0 c.in_ok-size.size
    c.parse_image-parsed.ensures c.in_ok-size.was

pub rewrite-requires : goal.rewrite-requires
rewrite-requires c = found_allowed _ _ _ _ (found (goal.at.rewrite-requires c).In_ok-size)

pub returns : goal.returns
returns c =
    let a = c.args in
    c.rewrite.ensures ∙ move_rewritten (form_from a.way) (form_to a.way) a.image.now a.out.now (of-form (goal.at.returns c).Else-form-number_from) _ _ _
    (found (goal.at.returns c).In_ok-size)

pub returns-in_err-size : goal.returns-in_err-size
returns-in_err-size c =
    let a = c.args in
    let r = c.in_err-size.field-0.0 in
    let e : c.from_residual.result ≡ Err r = search rules in
    ap (imaged a.out.now) e ∙ move_refused (form_from a.way) (form_to a.way) a.image.now a.out.now
    (of-form (goal.at.returns-in_err-size c).Else-form-number_from) r
    (refused_found a.image.now c.parse_image-parsed.result r c.parse_image-parsed.ensures c.in_err-size.was)
