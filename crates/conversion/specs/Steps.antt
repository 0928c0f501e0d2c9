-- A move in the steps of its code: which forms it is between, why an image of the other form is refused, and what is left once an image's own bytes are right.
use Rattle.std.specs.Prelude.{ℕ, zero, suc, List, [], ◌∷◌, not, cond, ltb}
use Rattle.accounts.specs.declared.Accounts.{Accounts}
use Rattle.model.specs.Refusals.{◌when◌, first_refusal}
use Rattle.image_model.specs.declared.Form.{Form}
use Rattle.image_model.specs.Stream.{form_1, form_2}
use Rattle.image_model.specs.Answers.{Imaged}
use Rattle.image_model.specs.Images.{own_consistent, unless_written}
use Rattle.image.specs.Parsing.{put_image}
use Rattle.conversion.specs.declared.Direction.{Direction}
use Rattle.conversion.specs.declared.Direction.TheVariants.{Up, Down}

-- the form that is moved from and the one that is moved to, up or down
abbrev pub form_from : Direction → Form
form_from Up = form_1
form_from Down = form_2

abbrev pub form_to : Direction → Form
form_to Up = form_2
form_to Down = form_1

-- the refusal of an image that is not of the form to move from, by the one that its own bytes give, 0 for none: 21 and 22 come before 23
unfoldable pub other_form : ℕ → ℕ
other_form zero = 23
other_form (suc n) = cond (ltb 22 (suc n)) 23 (suc n)

-- a state to be written into o: 26, or what is left of writing
unfoldable pub rewritten : Form → List ℕ → List ℕ → Accounts → Imaged
rewritten to o s k = unless_written (first_refusal ((26 when not (own_consistent s k)) ∷ [])) o (put_image to o s k)
