-- The refusals of a move (rule 17.2): the number answered is that of the first line that holds, the lines stand in the rule's order, and a refusal
-- leaves the lent bytes as they were.
use mathlib.Core.Path.{◌≡◌, refl, sym, ◌∙◌}
use mathlib.Core.List.{List, [], ◌∷◌, ◌++◌, map}
use mathlib.Core.Bool.{true, false}
use mathlib.Core.Logic.{◌↔◌}
use Prim.Native.Nat.{ℕ, zero, suc}
use lib.ListN.{length}
use borrow.Author.Tests.{eq-eqb}
use Rattle.layout.specs.Bytes.{overwrite}
use Rattle.lists.specs.Lists.{all, any}
use Rattle.model.specs.Refusals.{Line, ◌when◌, line_number, line_holds, first_refusal}
use Rattle.model.proofs.Refusals.{Numbered, FirstToHold, refused_exactly, accepted_exactly}
use Rattle.image_model.specs.declared.Form.{Form}
use Rattle.image_model.specs.Stream.{image_of, image_length}
use Rattle.image_model.specs.Reading.{form_of, heap_in, accounts_in}
use Rattle.image_model.specs.Images.{line_21, line_22, line_23, line_24, line_26, line_28, put_lines, shape_lines, unless_written}
use Rattle.conversion.specs.Moves.{line_from, move_lines, moved, up_lines, down_lines}
use Rattle.conversion.proofs.Rows

-- the lines, in this order
lines : Unit {0}
unfolding line_21 line_22 line_23 line_from line_24 line_26 line_28 put_lines move_lines
lines = tt

pub columns : (i o : List ℕ)
    → (map line_number (up_lines i o) ≡ 21 ∷ 22 ∷ 23 ∷ 23 ∷ 24 ∷ 26 ∷ 28 ∷ 25 ∷ [])
    × (map line_number (down_lines i o) ≡ 21 ∷ 22 ∷ 23 ∷ 23 ∷ 24 ∷ 26 ∷ 28 ∷ 25 ∷ [])
unfolding lines
columns i o = (refl, refl)

third_passed : (x y z : Line) (ls : List Line) → first_refusal (x ∷ y ∷ z ∷ (23 when false) ∷ ls) ≡ first_refusal (x ∷ y ∷ z ∷ ls)
unfolding first_refusal
third_passed (l when true) y z ls = refl
third_passed (l when false) (m when true) z ls = refl
third_passed (l when false) (m when false) (n when true) ls = refl
third_passed (l when false) (m when false) (n when false) ls = refl

module _ (from to : Form) (i o : List ℕ) where
  -- an image of the form to move from has the reader's lines, then the writer's
  pub of_the_form : (form_of i).number ≡ from.number
      → first_refusal (move_lines from to i o) ≡ first_refusal (shape_lines i ++ (line_26 i ∷ put_lines to o (heap_in i) (accounts_in i)))
  unfolding move_lines shape_lines line_from
  of_the_form e =
      rw (eq-eqb (form_of i).number from.number e)
      (third_passed (line_21 i) (line_22 i) (line_23 i) (line_24 i ∷ line_26 i ∷ put_lines to o (heap_in i) (accounts_in i)))

  numbered : Numbered (move_lines from to i o)
  unfolding all lines
  numbered = refl

  pub move_refusal : (moved from to i o).refusal ≡ first_refusal (move_lines from to i o)
  unfolding moved unless_written
  move_refusal = go (first_refusal (move_lines from to i o))
    where
      go : (n : ℕ)
          → (unless_written n o (record {
            image = overwrite 0 (image_of to (heap_in i) (accounts_in i)) o;
            refusal = 0;
            length = image_length to (length (heap_in i));
          })).refusal
          ≡ n
      go zero = refl
      go (suc n) = refl

  pub move_refused_exactly : (n : ℕ) → ((moved from to i o).refusal ≡ suc n) ↔ FirstToHold (move_lines from to i o) (suc n)
  move_refused_exactly n = rw move_refusal (refused_exactly (move_lines from to i o) n)

  pub move_accepted_exactly : ((moved from to i o).refusal ≡ 0) ↔ (any line_holds (move_lines from to i o) ≡ false)
  move_accepted_exactly = rw move_refusal (accepted_exactly (move_lines from to i o) numbered)

  -- refused: the lent bytes as they were, and no byte is answered
  pub refused_move : (n : ℕ) → (moved from to i o).refusal ≡ suc n → moved from to i o ≡ record { image = o; refusal = suc n; length = 0 }
  unfolding moved unless_written
  refused_move n e = let w = sym move_refusal ∙ e in rw w
