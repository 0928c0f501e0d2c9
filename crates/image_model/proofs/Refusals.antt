-- The refusals of the writer and the reader: the number answered is that of the first line that holds, the lines stand in the papers' order,
-- and a refusal leaves what was lent as it was and hands back accounts of zeros.
-- The search over lines is model's; what is shown here is that both outcomes follow it.
use mathlib.Core.Path.{◌≡◌, refl, sym, ◌∙◌}
use mathlib.Core.List.{List, [], ◌∷◌, ◌++◌, map}
use mathlib.Core.Bool.{true, false}
use mathlib.Core.Logic.{◌↔◌}
use Prim.Native.Nat.{ℕ, zero, suc}
use lib.ListN.{length}
use lib.Dec.{eqb}
use borrow.Author.Tests.{eq-eqb}
use Rattle.accounts.specs.declared.Accounts.{Accounts}
use Rattle.accounts.specs.Accounts.{zero_accounts}
use Rattle.layout.specs.Bytes.{overwrite}
use Rattle.lists.specs.Lists.{all, any}
use Rattle.model.specs.Refusals.{Line, ◌when◌, line_number, line_holds, first_refusal, line_1, line_2}
use Rattle.model.proofs.Refusals.{Numbered, FirstToHold, refused_exactly, accepted_exactly}
use Rattle.image_model.specs.Stream.{image_of, image_length}
use Rattle.image_model.specs.Reading.{size_in, heap_in, accounts_in}
use Rattle.image_model.specs.Images.{line_28, put_lines, write_lines, line_21, line_22, line_23, line_24, line_25, line_26, shape_lines, read_lines}
use Rattle.image_model.specs.Images.{examine_lines}
use Rattle.image_model.specs.Images.{unless_written, unless_read, write_image, read_image}
use Rattle.image_model.specs.declared.Form.{Form}

-- the lines, in this order
lines : Unit {0}
unfolding line_1 line_2 line_28 put_lines write_lines line_21 line_22 line_23 line_24 line_25 line_26 shape_lines read_lines examine_lines
lines = tt

pub columns : (f : Form) (o s : List ℕ) (k : Accounts) (i h : List ℕ)
    → (map line_number (write_lines f o s k) ≡ 1 ∷ 2 ∷ 28 ∷ 25 ∷ []) × (map line_number (read_lines i h) ≡ 21 ∷ 22 ∷ 23 ∷ 24 ∷ 25 ∷ 26 ∷ [])
unfolding lines
columns f o s k i h = (refl, refl)

pub examine_columns : (i : List ℕ) → map line_number (examine_lines i) ≡ 21 ∷ 22 ∷ 23 ∷ 24 ∷ 26 ∷ []
unfolding lines
examine_columns i = refl

-- the writer
module _ (f : Form) (o s : List ℕ) (k : Accounts) where
  write_numbered : Numbered (write_lines f o s k)
  unfolding all lines
  write_numbered = refl

  pub write_refusal : (write_image f o s k).refusal ≡ first_refusal (write_lines f o s k)
  unfolding write_image unless_written
  write_refusal = go (first_refusal (write_lines f o s k))
    where
      go : (n : ℕ) → (unless_written n o (record { image = overwrite 0 (image_of f s k) o; refusal = 0; length = image_length f (length s) })).refusal ≡ n
      go zero = refl
      go (suc n) = refl

  pub write_refused_exactly : (n : ℕ) → ((write_image f o s k).refusal ≡ suc n) ↔ FirstToHold (write_lines f o s k) (suc n)
  write_refused_exactly n = rw write_refusal (refused_exactly (write_lines f o s k) n)

  pub write_accepted_exactly : ((write_image f o s k).refusal ≡ 0) ↔ (any line_holds (write_lines f o s k) ≡ false)
  write_accepted_exactly = rw write_refusal (accepted_exactly (write_lines f o s k) write_numbered)

  -- refused: the lent image as it was, and no byte is written
  pub refused_write : (n : ℕ) → (write_image f o s k).refusal ≡ suc n → write_image f o s k ≡ record { image = o; refusal = suc n; length = 0 }
  unfolding write_image unless_written
  refused_write n e = let w = sym write_refusal ∙ e in rw w

  -- accepted: the image at the front of the lent one, and its length
  pub accepted_write : (write_image f o s k).refusal ≡ 0
      → write_image f o s k ≡ record { image = overwrite 0 (image_of f s k) o; refusal = 0; length = image_length f (length s) }
  unfolding write_image unless_written
  accepted_write e = let w = sym write_refusal ∙ e in rw w

-- the reader
module _ (i h : List ℕ) where
  read_numbered : Numbered (read_lines i h)
  unfolding all lines
  read_numbered = refl

  pub read_refusal : (read_image i h).refusal ≡ first_refusal (read_lines i h)
  unfolding read_image unless_read
  read_refusal = go (first_refusal (read_lines i h))
    where
      go : (n : ℕ) → (unless_read n h (record { heap = heap_in i; accounts = accounts_in i; refusal = 0 })).refusal ≡ n
      go zero = refl
      go (suc n) = refl

  pub read_refused_exactly : (n : ℕ) → ((read_image i h).refusal ≡ suc n) ↔ FirstToHold (read_lines i h) (suc n)
  read_refused_exactly n = rw read_refusal (refused_exactly (read_lines i h) n)

  pub read_accepted_exactly : ((read_image i h).refusal ≡ 0) ↔ (any line_holds (read_lines i h) ≡ false)
  read_accepted_exactly = rw read_refusal (accepted_exactly (read_lines i h) read_numbered)

  -- refused: the lent heap as it was, and accounts of zeros
  pub refused_read : (n : ℕ) → (read_image i h).refusal ≡ suc n → read_image i h ≡ record { heap = h; accounts = zero_accounts; refusal = suc n }
  unfolding read_image unless_read
  refused_read n e = let w = sym read_refusal ∙ e in rw w

  -- accepted: the heap and the accounts that the image says
  pub accepted_read : (read_image i h).refusal ≡ 0 → read_image i h ≡ record { heap = heap_in i; accounts = accounts_in i; refusal = 0 }
  unfolding read_image unless_read
  accepted_read e = let w = sym read_refusal ∙ e in rw w

-- an image alone is refused as the reader refuses it into a heap of the right length, where 25 does not arise
pass_line : (n : ℕ) (xs ys : List Line) → first_refusal (xs ++ ((n when false) ∷ ys)) ≡ first_refusal (xs ++ ys)
unfolding first_refusal
pass_line n [] ys = refl
pass_line n ((m when true) ∷ xs) ys = refl
pass_line n ((m when false) ∷ xs) ys = pass_line n xs ys

pub examined_read : (i h : List ℕ) → length h ≡ size_in i → first_refusal (examine_lines i) ≡ (read_image i h).refusal
unfolding read_lines examine_lines line_25
examined_read i h l =
    let t : eqb (length h) (size_in i) ≡ true = eq-eqb (length h) (size_in i) l in
    sym (read_refusal i h ∙ (rw t (pass_line 25 (shape_lines i) (line_26 i ∷ []))))
