-- 21 and 22 stay, all else is 23 (`Steps`).
use mathlib.Core.Path.{ap, sym, ◌∙◌}
use Rattle.image_model.specs.Answers.{image_refusal_number}
use Rattle.image_model.proofs.Answers.{image_refusal_is}
use Prim.Native.Nat.{ℕ}
use Rattle.std.specs.Prelude.{Result}
use Rattle.image_model.specs.declared.Form.{Form}
use Rattle.image_model.specs.declared.ImageRefusal.{ImageRefusal}
use Rattle.image.specs.Parsing.{shape_parts}
use Rattle.conversion.specs.Steps.{other_form}
use Rattle.conversion.proofs.Steps.{other_behind, other_before, number_before, number_behind}
use Rattle.conversion.proofs.moving.other_form.Goals as goal

pub returns-in_default : goal.returns-in_default
unfolding shape_parts other_form
returns-in_default c k = sym (ap (λ (x : Result (Form × ℕ) ImageRefusal). other_form (shape_parts x k).refusal) c.in_default.is)

pub returns-in-Call : goal.returns-in-Call
unfolding shape_parts
returns-in-Call c k =
    let r = c.in-Err.refusal in
    other_before (image_refusal_number r) (image_refusal_is r).1 (number_before r c.in-Call.is)
    ∙ sym (ap (λ (x : Result (Form × ℕ) ImageRefusal). other_form (shape_parts x k).refusal) c.in-Err.is)

pub returns-in_default-refusal : goal.returns-in_default-refusal
unfolding shape_parts
returns-in_default-refusal c k =
    let r = c.in-Err.refusal in
    let n = c.in_default-refusal in
    other_behind (image_refusal_number r) (number_behind r n.not-Call n.not-ImageLength n.not-FrameWrong)
    ∙ sym (ap (λ (x : Result (Form × ℕ) ImageRefusal). other_form (shape_parts x k).refusal) c.in-Err.is)
