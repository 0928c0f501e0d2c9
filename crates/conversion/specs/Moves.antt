-- Moving an image to the other form (rules 17.1 to 17.4): the lines in the rule's order, and what a move leaves and answers.
use Rattle.std.specs.Prelude.{ℕ, List, ◌∷◌, not, length, eqb}
use Rattle.layout.specs.Bytes.{overwrite}
use Rattle.model.specs.Refusals.{Line, ◌when◌, first_refusal}
use Rattle.image_model.specs.declared.Form.{Form}
use Rattle.image_model.specs.Stream.{form_1, form_2, image_of, image_length}
use Rattle.image_model.specs.Reading.{form_of, heap_in, accounts_in}
use Rattle.image_model.specs.Answers.{Imaged}
use Rattle.image_model.specs.Images.{line_21, line_22, line_23, line_24, line_26, put_lines, unless_written}

-- 23 for the other form: the image is not of the form that it is to be moved from
unfoldable pub line_from : Form → List ℕ → Line
line_from from i = 23 when not (eqb (form_of i).number from.number)

module _ (from to : Form) (i o : List ℕ) where
  -- the reader's lines but 25, then the writer's of the state read, for the form that it is moved to
  unfoldable pub move_lines : List Line
  move_lines = line_21 i ∷ line_22 i ∷ line_23 i ∷ line_from from i ∷ line_24 i ∷ line_26 i ∷ put_lines to o (heap_in i) (accounts_in i)

  -- what i says, as an image of the form to, at the front of the lent bytes o, of which the others stay; the answer is how many bytes it has
  unfoldable pub moved : Imaged
  moved =
      let s = heap_in i in
      let k = accounts_in i in
      let done : Imaged = record { image = overwrite 0 (image_of to s k) o; refusal = 0; length = image_length to (length s) } in
      unless_written (first_refusal move_lines) o done

-- up is from form 1 to form 2, down is back
abbrev pub up_lines : List ℕ → List ℕ → List Line
up_lines i o = move_lines form_1 form_2 i o

abbrev pub down_lines : List ℕ → List ℕ → List Line
down_lines i o = move_lines form_2 form_1 i o

abbrev pub move_up : List ℕ → List ℕ → Imaged
move_up i o = moved form_1 form_2 i o

abbrev pub move_down : List ℕ → List ℕ → Imaged
move_down i o = moved form_2 form_1 i o
