-- The numbers of the form and the heap, or the number of the refusal and zeros.
use mathlib.Core.Path.{ap, sym, ◌∙◌}
use Rattle.accounts.specs.declared.Accounts.{Accounts}
use Rattle.image_model.specs.Stream.{form_1}
use Rattle.image_model.specs.Answers.{image_refusal_number}
use Rattle.image_model.proofs.Answers.{image_refusal_is}
use Prim.Native.Nat.{ℕ}
use Rattle.std.specs.Prelude.{Result}
use Rattle.image_model.specs.declared.Form.{Form}
use Rattle.image_model.specs.declared.ImageRefusal.{ImageRefusal}
use Rattle.image.specs.Parsing.{shape_parts}
use Rattle.exports.specs.ImageReplies.{numbers_unless, examine_reply}
use Rattle.exports.proofs.ImageReplies.{numbers_refused}
use Rattle.exports.proofs.images.reply_of_shape.Goals as goal

pub returns-in-Ok : goal.returns-in-Ok
unfolding shape_parts numbers_unless
returns-in-Ok c = λ (k : Accounts). ap (λ (x : Result (Form × ℕ) ImageRefusal). examine_reply (shape_parts x k)) (sym c.in-Ok.is)

pub returns-in-Err : goal.returns-in-Err
unfolding shape_parts
returns-in-Err c = λ (k : Accounts).
    let s = c in
    let r = s.in-Err.refusal in
    (λ i. record { refusal = c.number.ensures i; form = 0; heap_length = 0 })
    ∙ numbers_refused (image_refusal_number r) form_1.number 0 (image_refusal_is r).1
    ∙ ap (λ (x : Result (Form × ℕ) ImageRefusal). examine_reply (shape_parts x k)) (sym s.in-Err.is)
