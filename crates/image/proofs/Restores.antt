-- The reader: whether an image's heap is consistent, what is left of reading once its shape is known, and what a
-- restore leaves.
use mathlib.Core.Path.{◌≡◌, refl, ap, sym, ◌∙◌, subst}
use mathlib.Core.List.{List, [], ◌∷◌, ◌++◌}
use mathlib.Core.Bool.{Bool, true, false, not}
use Prim.Native.Nat.{ℕ, zero, suc, ◌≤◌}
use native.Mathlib.Omega.{arith}
use lib.ListN.{length, drop}
use lib.Dec.{leb}
use borrow.Author.Tests.{eq-eqb, ne_eqb, leb-true}
use Rattle.rounding.specs.Rounding.{table}
use Rattle.accounts.specs.declared.Accounts.{Accounts}
use Rattle.accounts.specs.Accounts.{zero_accounts}
use Rattle.words.specs.Words.{Unpadded}
use Rattle.model.specs.declared.Refusal.{Refusal}
use Rattle.model.specs.Answers.{verdict_values}
use Rattle.lists.specs.Lists.{all}
use Rattle.model.specs.Consistent.{allowed}
use Rattle.model.specs.Refusals.{Line, ◌when◌, first_refusal, line_1, line_2}
use Rattle.model.specs.Calls.{check}
use Rattle.lists.proofs.Bools.{and_left, and_right}
use Rattle.model.proofs.Refusals.{Numbered}
use Rattle.results.proofs.Lines.{check_refuses, check_accounted, number_some}
use Rattle.framing.specs.Frames.{padded, stream_of}
use Rattle.image_model.specs.declared.Form.{Form}
use Rattle.image_model.specs.declared.ImageRefusal.{ImageRefusal}
use Rattle.image_model.specs.declared.ImageRefusal.TheVariants.{Room, Unsound}
use Rattle.std.specs.Prelude.{Ok, Err, Result}
use Rattle.std.specs.Result.{is_ok}
use Rattle.image_model.specs.Stream.{head_length}
use Rattle.image_model.specs.Reading.{size_in, heap_of, heap_in}
use Rattle.image_model.specs.Answers.{RestoredTo, restored_to, image_refusal_number}
use Rattle.image_model.specs.Images.{own_consistent, line_25, line_26, shape_lines, read_lines, unless_read, read_image}
use Rattle.image_model.specs.Images.{kept_unless, restore_image}
use Rattle.image_model.proofs.Answers.{image_refusal_is}
use Rattle.image.specs.Parsing.{restore}
use Rattle.image.specs.Restoring.{Left}
use Rattle.image.proofs.Parses.{Found, shape_numbered}

-- an allowed heap is consistent exactly if the check accepts it
module _ (s r : List ℕ) (k : Accounts) (v : Result (Unit {0}) Refusal) (told : verdict_values v ≡ (check (table k.edition) s k).values) (is : s ≡ r) where
  pub check_consistent : v ≡ Ok tt → true ≡ own_consistent r k
  check_consistent e = sym (check_accounted (table k.edition) s k v told e).2 ∙ ap (λ (x : List ℕ). own_consistent x k) is

  pub check_unsound : allowed (length s) ≡ true → (x : Refusal) → v ≡ Err x → false ≡ own_consistent r k
  unfolding line_1 line_2 first_refusal
  check_unsound a x e =
      let n = number_some x in
      let g : first_refusal (line_1 s ∷ line_2 (table k.edition) s k ∷ []) ≡ suc n.0 = check_refuses (table k.edition) s k v told [] x e ∙ n.1 in
      second (own_consistent s k) n.0 (rw a at g) ∙ ap (λ (y : List ℕ). own_consistent y k) is
    where
      second : (b : Bool) (n : ℕ) → first_refusal ((2 when not b) ∷ []) ≡ suc n → false ≡ b
      second true n g = absurd (omega arith)
      second false n g = refl

  pub check_answers : allowed (length s) ≡ true → is_ok v ≡ own_consistent r k
  check_answers a = by_answer v refl
    where
      by_answer : (w : Result Unit Refusal) → v ≡ w → is_ok w ≡ own_consistent r k
      by_answer (Ok tt) e = check_consistent e
      by_answer (Err x) e = check_unsound a x e

-- what is left of reading: 25, 26, or the heap
module _ (f : Form) (n : ℕ) (t h : List ℕ) (k : Accounts) where
  pub restore_room : (length h ≡ n → ⊥) → restored_to h zero_accounts (Err Room) ≡ restore f n t h k
  unfolding restore restored_to unless_read first_refusal
  restore_room e = rw (ne_eqb (length h) n e)

  module _ (room : length h ≡ n) (at : ℕ) (is : at ≡ head_length f) where
    pub restore_unsound : (r : Bool) → r ≡ own_consistent (padded n (drop at t)) k → r ≡ false
        → restored_to h zero_accounts (Err Unsound) ≡ restore f n t h k
    unfolding restore restored_to unless_read first_refusal
    restore_unsound r e g = rw (eq-eqb (length h) n room, ← is, sym e ∙ g)

    pub restore_done : (r : Bool) (h' : List ℕ) → r ≡ own_consistent (padded n (drop at t)) k → r ≡ true → h' ≡ padded (length h) (drop at t)
        → restored_to h' k (Ok tt) ≡ restore f n t h k
    unfolding restore restored_to unless_read first_refusal
    restore_done r h' e g w = rw (eq-eqb (length h) n room, ← is, sym e ∙ g, w, room)

-- lines in front of others
pub first_kept : (xs ys : List Line) (n : ℕ) → first_refusal xs ≡ suc n → first_refusal (xs ++ ys) ≡ suc n
unfolding first_refusal
first_kept [] ys n e = absurd (omega arith)
first_kept ((m when true) ∷ xs) ys n e = e
first_kept ((m when false) ∷ xs) ys n e = first_kept xs ys n e

pub first_passed : (xs ys : List Line) → Numbered xs → first_refusal xs ≡ 0 → first_refusal (xs ++ ys) ≡ first_refusal ys
unfolding first_refusal all
first_passed [] ys d e = refl
first_passed ((m when true) ∷ xs) ys d e = absurd (omega (arith, leb-true 1 m (and_left (leb 1 m) _ d)))
first_passed ((m when false) ∷ xs) ys d e = first_passed xs ys (and_right (leb 1 m) _ d) e

refused_by : (i h : List ℕ) (m : ℕ) → 1 ≤ m → first_refusal (shape_lines i) ≡ m → record { heap = h; accounts = zero_accounts; refusal = m } ≡ read_image i h
unfolding read_image read_lines unless_read
refused_by i h zero l e = absurd (omega arith)
refused_by i h (suc m) l e = rw (first_kept (shape_lines i) (line_25 i h ∷ line_26 i ∷ []) m e)

-- an image that its own bytes refuse, and one that they do not
pub read_refused : (i h : List ℕ) (r : ImageRefusal) → first_refusal (shape_lines i) ≡ image_refusal_number r
    → restored_to h zero_accounts (Err r) ≡ read_image i h
unfolding restored_to
read_refused i h r e = refused_by i h (image_refusal_number r) (image_refusal_is r).1 e

pub read_restored : (i h : List ℕ) (f : Form) (n : ℕ) (k : Accounts) → Found i f n k → restore f n (stream_of i) h k ≡ read_image i h
unfolding restore read_image read_lines line_25 line_26 heap_in heap_of size_in
read_restored i h f n k w =
    let g = first_passed (shape_lines i) (line_25 i h ∷ line_26 i ∷ []) (shape_numbered i) w.lines in
    rw (g, w.form, w.size, w.accounts)

-- what a restore leaves where heap and accounts are in use, from what a read into other words leaves
module _ (i h s : List ℕ) (k read : Accounts) where
  -- accepted: the accounts read take the place of those before
  pub restored_read : restored_to s read (Ok tt) ≡ read_image i h → restored_to s read (Ok tt) ≡ restore_image i h k
  unfolding restored_to restore_image kept_unless
  restored_read e = rw (sym e)

  keeps : (n : ℕ) → 1 ≤ n → k ≡ kept_unless n k read
  unfolding kept_unless
  keeps zero l = absurd (omega arith)
  keeps (suc n) l = refl

  -- refused: the accounts from before stay
  pub restored_kept : (r : ImageRefusal) → restored_to s read (Err r) ≡ read_image i h
      → restored_to s k (Err r) ≡ restore_image i h k
  unfolding restored_to restore_image
  restored_kept r e =
      let n = image_refusal_number r in
      rw (sym e) (λ j. record { heap = s; accounts = keeps n (image_refusal_is r).1 j; refusal = n })

  -- and the words, with and without padding
  pub left_read : (w v : List ℕ) → restored_to s read (Ok tt) ≡ restore_image i h k → Unpadded v
      → Left (restore_image i h k).refusal w v
  unfolding restored_to
  left_read w v e u = subst (λ (n : ℕ). Left n w v) (ap (λ (r : RestoredTo). r.refusal) e) u

  pub left_kept : (w : List ℕ) (r : ImageRefusal) → restored_to s k (Err r) ≡ restore_image i h k
      → Left (restore_image i h k).refusal w w
  unfolding restored_to
  left_kept w r e =
      subst (λ (n : ℕ). Left n w w) (ap (λ (x : RestoredTo). x.refusal) e)
      (same (image_refusal_number r) (image_refusal_is r).1)
    where
      same : (n : ℕ) → 1 ≤ n → Left n w w
      same zero l = absurd (omega arith)
      same (suc n) l = refl
