-- When a move is accepted (rules 17.2, 17.6, 17.7): exactly if the reader accepts the image, it is of the form to move from, the other form carries the
-- accounts read and there is room. Of an image that the reader accepts, a move is what the writer of the other form makes of the state read; so going up
-- asks for nothing but room, and 28 is given down wherever form 1's writer gives it, and nowhere else.
use mathlib.Core.Path.{◌≡◌, refl, ap, sym, ◌∙◌}
use mathlib.Core.List.{List}
use mathlib.Core.Bool.{true, false, not}
use mathlib.Core.Logic.{◌↔◌}
use Prim.Native.Nat.{ℕ, ◌≤◌}
use lib.ListN.{length, drop}
use lib.Dec.{ltb, eqb}
use borrow.Author.Tests.{eqb-true, eq-eqb, ltb-false, le-ltb, not-false}
use Rattle.lists.specs.Lists.{all, any}
use Rattle.model.specs.Consistent.{allowed}
use Rattle.model.specs.Refusals.{line_holds, first_refusal, line_1, line_2}
use Rattle.lists.proofs.Bools.{and_left, or_neither}
use Rattle.model.proofs.Refusals.{Numbered}
use Rattle.framing.specs.Frames.{stream_of}
use Rattle.framing.proofs.Padding.{length_padded}
use Rattle.image_model.specs.declared.Form.{Form}
use Rattle.image_model.specs.Stream.{form_1, form_2, carries, head_length, image_length}
use Rattle.image_model.specs.Reading.{length_in, form_of, size_in, accounts_in, heap_of, heap_in, contents_right}
use Rattle.image_model.specs.Answers.{Imaged}
use Rattle.image_model.specs.Images.{line_21, line_22, line_23, line_24, line_25, line_26, line_28, put_lines, write_lines, shape_lines, read_lines}
use Rattle.image_model.specs.Images.{examine_lines, write_image, read_image}
use Rattle.image_model.proofs.Places.{full_carries}
use Rattle.image_model.proofs.Refusals.{read_accepted_exactly, examined_read}
use Rattle.image_model.proofs.Read.{accepted_right}
use Rattle.image.proofs.Restores.{first_passed}
use Rattle.conversion.specs.Moves.{line_from, move_lines, moved, move_up, move_down}
use Rattle.conversion.proofs.Lines.{of_the_form, move_refusal, move_accepted_exactly}

-- the heap that an image says has the length that it says
pub heap_length : (i : List ℕ) → length (heap_in i) ≡ size_in i
unfolding heap_in heap_of size_in
heap_length i = length_padded (length_in (stream_of i)) (drop (head_length (form_of i)) (stream_of i))

examine_numbered : (i : List ℕ) → Numbered (examine_lines i)
unfolding all examine_lines shape_lines line_21 line_22 line_23 line_24 line_26
examine_numbered i = refl

-- an image that the reader accepts, into a heap of its length
module _ (from to : Form) (i o h : List ℕ) (read : (read_image i h).refusal ≡ 0) (form : (form_of i).number ≡ from.number) where
  -- only the writer's lines are left
  pub only_puts : first_refusal (move_lines from to i o) ≡ first_refusal (put_lines to o (heap_in i) (accounts_in i))
  unfolding examine_lines shape_lines
  only_puts =
      let x = examined_read i h (accepted_right i h read).room ∙ read in
      of_the_form from to i o form ∙ first_passed (examine_lines i) (put_lines to o (heap_in i) (accounts_in i)) (examine_numbered i) x

  is_allowed : allowed (length (heap_in i)) ≡ true
  unfolding contents_right
  is_allowed = ap allowed (heap_length i) ∙ and_left (allowed (size_in i)) _ (accepted_right i h read).contents

  -- and they are those that the writer has of the state read
  pub moved_writes : moved from to i o ≡ write_image to o (heap_in i) (accounts_in i)
  unfolding moved write_image write_lines line_1 line_2 first_refusal
  moved_writes = rw (only_puts, is_allowed, (accepted_right i h read).consistent)

-- what an accepted move is of
pub record Movable (from to : Form) (i o : List ℕ) : Type 0 where
  pub reads : (read_image i (heap_in i)).refusal ≡ 0
  pub form : (form_of i).number ≡ from.number
  pub carried : carries to (accounts_in i) ≡ true
  pub room : image_length to (length (heap_in i)) ≤ length o

module _ (from to : Form) (i o : List ℕ) where
  reads_by : line_holds (line_21 i) ≡ false → line_holds (line_22 i) ≡ false → line_holds (line_23 i) ≡ false → line_holds (line_24 i) ≡ false
      → line_holds (line_26 i) ≡ false → (read_image i (heap_in i)).refusal ≡ 0
  unfolding any read_lines shape_lines line_25
  reads_by a b c d e =
      let l : eqb (length (heap_in i)) (size_in i) ≡ true = eq-eqb (length (heap_in i)) (size_in i) (heap_length i) in
      (read_accepted_exactly i (heap_in i)).1 (rw (a, b, c, d, l, e))

  movable : any line_holds (move_lines from to i o) ≡ false → Movable from to i o
  unfolding any move_lines line_from put_lines line_28
  movable e =
      let x₁ = or_neither (line_holds (line_21 i)) _ e in
      let x₂ = or_neither (line_holds (line_22 i)) _ x₁.1 in
      let x₃ = or_neither (line_holds (line_23 i)) _ x₂.1 in
      let x₄ = or_neither (not (eqb (form_of i).number from.number)) _ x₃.1 in
      let x₅ = or_neither (line_holds (line_24 i)) _ x₄.1 in
      let x₆ = or_neither (line_holds (line_26 i)) _ x₅.1 in
      let x₇ = or_neither (not (carries to (accounts_in i))) _ x₆.1 in
      let x₈ = or_neither (ltb (length o) (image_length to (length (heap_in i)))) false x₇.1 in
      record {
        reads = reads_by x₁.0 x₂.0 x₃.0 x₅.0 x₆.0;
        form = eqb-true (form_of i).number from.number (not-false (eqb (form_of i).number from.number) x₄.0);
        carried = not-false (carries to (accounts_in i)) x₇.0;
        room = ltb-false (length o) (image_length to (length (heap_in i))) x₈.0;
      }

  -- no line of the writer holds where the form carries the accounts and there is room
  none_put : carries to (accounts_in i) ≡ true → image_length to (length (heap_in i)) ≤ length o
      → first_refusal (put_lines to o (heap_in i) (accounts_in i)) ≡ 0
  unfolding put_lines line_28 first_refusal
  none_put c l = rw (c, le-ltb (length o) (image_length to (length (heap_in i))) l)

  pub moves_exactly : ((moved from to i o).refusal ≡ 0) ↔ Movable from to i o
  moves_exactly = (
    λ e. movable ((move_accepted_exactly from to i o).0 e),
    λ m. move_refusal from to i o ∙ only_puts from to i o (heap_in i) m.reads m.form ∙ none_put m.carried m.room,
  )

-- an accepted image of form 1 is moved up wherever there is room
pub up_always : (i h o : List ℕ) → (read_image i h).refusal ≡ 0 → form_of i ≡ form_1 → image_length form_2 (length h) ≤ length o → (move_up i o).refusal ≡ 0
unfolding form_2
up_always i h o e f l =
    let n : length h ≡ length (heap_in i) = (accepted_right i h e).room ∙ sym (heap_length i) in
    move_refusal form_1 form_2 i o ∙ only_puts form_1 form_2 i o h e (ap (λ (x : Form). x.number) f)
    ∙ none_put form_1 form_2 i o (full_carries form_2 (accounts_in i) refl) (rw n at l)

-- an accepted image of form 2 is refused by 28 exactly if form 1's writer refuses its state so, which is where form 1 does not carry its accounts
module _ (i h o : List ℕ) (read : (read_image i h).refusal ≡ 0) (form : form_of i ≡ form_2) where
  pub down_28 : ((move_down i o).refusal ≡ 28) ↔ ((write_image form_1 o (heap_in i) (accounts_in i)).refusal ≡ 28)
  down_28 =
      let w = ap (λ (x : Imaged). x.refusal) (moved_writes form_2 form_1 i o h read (ap (λ (x : Form). x.number) form)) in
      (λ e. sym w ∙ e, λ e. w ∙ e)
