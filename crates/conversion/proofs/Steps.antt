-- A move in the steps of its code is the move: 23 for the other form, the refusals of the image's own bytes, and the writer on the state read, whose 2
-- is 26 here.
use mathlib.Core.Path.{◌≡◌, refl, ap, sym, ◌∙◌}
use mathlib.Core.List.{List, [], ◌∷◌}
use mathlib.Core.Bool.{Bool, true, false, not}
use Prim.Native.Nat.{ℕ, zero, suc, ◌≤◌, ◌<◌}
use native.Mathlib.Omega.{arith}
use lib.ListN.{length, drop}
use borrow.Author.Tests.{ne_eqb, lt-ltb, le-ltb}
use Rattle.accounts.specs.declared.Accounts.{Accounts}
use Rattle.model.specs.Consistent.{allowed}
use Rattle.model.specs.Refusals.{Line, ◌when◌, first_refusal, line_1, line_2}
use Rattle.framing.specs.Frames.{padded, stream_of}
use Rattle.image_model.specs.declared.Form.{Form}
use Rattle.image_model.specs.declared.ImageRefusal.{ImageRefusal}
use Rattle.image_model.specs.declared.ImageRefusal.TheVariants.{Call, ImageLength, FrameWrong, FormNumber, Contents, Room, Unsound, HeapLengths, NotCarried}
use Rattle.image_model.specs.declared.ImageRefusal.TheVariants.{FormsDiffer}
use Rattle.model.specs.declared.Refusal.{Refusal}
use Rattle.model.proofs.Answers.{refusal_number_is}
use mathlib.Core.Logic.{◌⊎◌, inl, inr}
use Rattle.std.specs.Prelude.{Result, Ok, Err}
use Rattle.image_model.specs.Stream.{head_length}
use Rattle.image_model.specs.Reading.{form_of, size_in, accounts_in, heap_of, heap_in}
use Rattle.image_model.specs.Answers.{Imaged, imaged, image_refusal_number}
use Rattle.image_model.specs.Images.{line_21, line_22, line_23, line_24, line_26, line_28, put_lines, write_lines, shape_lines, unless_written, write_image}
use Rattle.image_model.specs.Images.{own_consistent}
use Rattle.image_model.proofs.Answers.{image_refusal_is}
use Rattle.image.specs.declared.Parsed.{Parsed}
use Rattle.image.specs.Parsing.{Parts, parts_of, unless_parts, parts_in, put_image}
use Rattle.image.proofs.Parses.{Found, shape_numbered}
use Rattle.image.proofs.Restores.{first_kept, first_passed}
use Rattle.conversion.specs.Moves.{line_from, move_lines, moved}
use Rattle.conversion.specs.Steps.{other_form, rewritten}
use Rattle.conversion.proofs.Lines.{of_the_form}

-- the refusal that an image's own bytes give
refusal_is : (m : ℕ) (x : Parts) → x.refusal ≡ 0 → (unless_parts m x).refusal ≡ m
unfolding unless_parts
refusal_is zero x e = e
refusal_is (suc m) x e = refl

pub own_refusal : (i : List ℕ) (p : Parsed) → parts_of p ≡ parts_in i → (parts_of p).refusal ≡ first_refusal (shape_lines i)
unfolding parts_in
own_refusal i p told =
    ap (λ (x : Parts). x.refusal) told
    ∙ refusal_is (first_refusal (shape_lines i)) (record { refusal = 0; form = form_of i; size = size_in i; accounts = accounts_in i }) refl

-- 21 and 22 come before 23, and 24 behind it
first_other : (a b c d : Bool) (ls : List Line)
    → first_refusal ((21 when a) ∷ (22 when b) ∷ (23 when c) ∷ (23 when true) ∷ ls)
    ≡ other_form (first_refusal ((21 when a) ∷ (22 when b) ∷ (23 when c) ∷ (24 when d) ∷ []))
unfolding first_refusal other_form
first_other true b c d ls = refl
first_other false true c d ls = refl
first_other false false true d ls = refl
first_other false false false true ls = refl
first_other false false false false ls = refl

pub other_behind : (n : ℕ) → 22 < n → 23 ≡ other_form n
unfolding other_form
other_behind zero h = absurd (omega arith)
other_behind (suc n) h = rw (lt-ltb 22 (suc n) h)

pub other_before : (n : ℕ) → 1 ≤ n → n ≤ 22 → n ≡ other_form n
unfolding other_form
other_before zero l h = absurd (omega arith)
other_before (suc n) l h = rw (le-ltb 22 (suc n) h)

-- the numbers up to 22 are those of a call's refusals, of the length and of the frames
pub number_before : (r : ImageRefusal) → ((x : Refusal) × (r ≡ Call x)) ⊎ ((r ≡ ImageLength) ⊎ (r ≡ FrameWrong)) → image_refusal_number r ≤ 22
number_before r (inl (x, e)) = omega (arith, ap image_refusal_number e, (refusal_number_is x).2)
number_before r (inr (inl e)) = omega (arith, ap image_refusal_number e)
number_before r (inr (inr e)) = omega (arith, ap image_refusal_number e)

pub number_behind : (r : ImageRefusal) → ((x : Refusal) → r ≡ Call x → ⊥) → (r ≡ ImageLength → ⊥) → (r ≡ FrameWrong → ⊥) → 22 < image_refusal_number r
number_behind (Call x) c l f = absurd (c x refl)
number_behind ImageLength c l f = absurd (l refl)
number_behind FrameWrong c l f = absurd (f refl)
number_behind FormNumber c l f = omega arith
number_behind Contents c l f = omega arith
number_behind Room c l f = omega arith
number_behind Unsound c l f = omega arith
number_behind HeapLengths c l f = omega arith
number_behind NotCarried c l f = omega arith
number_behind FormsDiffer c l f = omega arith

-- a refusal's number is not 0
unless_some : (m : ℕ) (o : List ℕ) (x : Imaged) → 1 ≤ m → record { image = o; refusal = m; length = 0 } ≡ unless_written m o x
unfolding unless_written
unless_some zero o x l = absurd (omega arith)
unless_some (suc m) o x l = refl

-- 26, then what is left of writing
in_two : (b : Bool) (o : List ℕ) (ls : List Line) (x : Imaged)
    → unless_written (first_refusal ((26 when not b) ∷ [])) o (unless_written (first_refusal ls) o x)
    ≡ unless_written (first_refusal ((26 when not b) ∷ ls)) o x
unfolding unless_written first_refusal
in_two true o ls x = refl
in_two false o ls x = refl

module _ (from to : Form) (i o : List ℕ) where
  refused_as : (r : ImageRefusal) → first_refusal (move_lines from to i o) ≡ image_refusal_number r → imaged o (Err r) ≡ moved from to i o
  unfolding imaged moved
  refused_as r e = rw e (unless_some (image_refusal_number r) o _ (image_refusal_is r).1)

  -- an image that is not of the form to move from
  pub move_other : ((form_of i).number ≡ from.number → ⊥) → (r : ImageRefusal) → image_refusal_number r ≡ other_form (first_refusal (shape_lines i))
      → imaged o (Err r) ≡ moved from to i o
  unfolding move_lines shape_lines line_21 line_22 line_23 line_from line_24
  move_other h r e = refused_as r (rw (ne_eqb (form_of i).number from.number h) (first_other _ _ _ _ _ ∙ sym e))

  module _ (form : (form_of i).number ≡ from.number) where
    -- one that is, and that its own bytes refuse
    kept : (m : ℕ) → 1 ≤ m → first_refusal (shape_lines i) ≡ m → first_refusal (move_lines from to i o) ≡ m
    kept zero l e = absurd (omega arith)
    kept (suc m) l e = of_the_form from to i o form ∙ first_kept (shape_lines i) _ m e

    pub move_refused : (r : ImageRefusal) → first_refusal (shape_lines i) ≡ image_refusal_number r → imaged o (Err r) ≡ moved from to i o
    move_refused r e = refused_as r (kept (image_refusal_number r) (image_refusal_is r).1 e)

    -- one that they do not refuse
    state_moved : first_refusal (shape_lines i) ≡ 0 → rewritten to o (heap_in i) (accounts_in i) ≡ moved from to i o
    unfolding rewritten put_image moved line_26
    state_moved e =
        let l = of_the_form from to i o form ∙ first_passed (shape_lines i) _ (shape_numbered i) e in
        in_two (own_consistent (heap_in i) (accounts_in i)) o (put_lines to o (heap_in i) (accounts_in i)) _ ∙ sym (rw l)

    pub move_rewritten : (f : Form) (n : ℕ) (k : Accounts) → Found i f n k
        → rewritten to o (padded n (drop (head_length (form_of i)) (stream_of i))) k ≡ moved from to i o
    unfolding heap_in heap_of size_in
    move_rewritten f n k w =
        (λ j. rewritten to o (padded (w.size j) (drop (head_length (form_of i)) (stream_of i))) (w.accounts j)) ∙ state_moved w.lines

-- the writer on a state whose heap has a length that is allowed
module _ (to : Form) (o o' s : List ℕ) (k : Accounts) (a : Result ℕ ImageRefusal) (extent : allowed (length s) ≡ true) (told : imaged o' a
    ≡ write_image to o s k) where
  by_state : (b : Bool) → own_consistent s k ≡ b → write_image to o s k ≡ unless_written (first_refusal ((2 when not b) ∷ [])) o (put_image to o s k)
  unfolding write_image write_lines line_1 line_2 put_image unless_written first_refusal
  by_state true e = rw (extent, e)
  by_state false e = rw (extent, e)

  as_26 : (b : Bool) → own_consistent s k ≡ b → unless_written (first_refusal ((26 when not b) ∷ [])) o (put_image to o s k) ≡ rewritten to o s k
  unfolding rewritten
  as_26 b e = rw e

  -- what is left of writing gives no 2
  not_2 : (b c : Bool) (x : Imaged) → x.refusal ≡ 0 → (unless_written (first_refusal ((28 when b) ∷ (25 when c) ∷ [])) o x).refusal ≡ 2 → ⊥
  unfolding unless_written first_refusal
  not_2 true c x z e = absurd (omega arith)
  not_2 false true x z e = absurd (omega arith)
  not_2 false false x z e = absurd (omega arith)

  put_not_2 : (put_image to o s k).refusal ≡ 2 → ⊥
  unfolding put_image put_lines line_28
  put_not_2 e = not_2 _ _ _ refl e

  consistent_kept : (b : Bool) → own_consistent s k ≡ b → ((imaged o' a).refusal ≡ 2 → ⊥) → imaged o' a ≡ rewritten to o s k
  unfolding unless_written first_refusal
  consistent_kept true e n = told ∙ by_state true e ∙ as_26 true e
  consistent_kept false e n = absurd (n (ap (λ (x : Imaged). x.refusal) (told ∙ by_state false e)))

  unsound_told : (b : Bool) → own_consistent s k ≡ b → (imaged o' a).refusal ≡ 2
      → record { image = (imaged o' a).image; refusal = 26; length = 0 } ≡ rewritten to o s k
  unfolding unless_written first_refusal
  unsound_told true e n = absurd (put_not_2 (sym (ap (λ (x : Imaged). x.refusal) (told ∙ by_state true e)) ∙ n))
  unsound_told false e n =
      let w = ap (λ (x : Imaged). x.image) (told ∙ by_state false e) in
      (λ j. record { image = w j; refusal = 26; length = 0 }) ∙ as_26 false e

  -- a length, a refusal that is not 2, and 2
  pub rewrite_written : (n : ℕ) → a ≡ Ok n → imaged o' a ≡ rewritten to o s k
  unfolding imaged
  rewrite_written n e =
      consistent_kept (own_consistent s k) refl (λ t. let z : 0 ≡ 2 = sym (ap (λ (x : Result ℕ ImageRefusal). (imaged o' x).refusal) e)
      ∙ t in absurd (omega (arith, z)))

  pub rewrite_refused : (r : ImageRefusal) → a ≡ Err r → (image_refusal_number r ≡ 2 → ⊥) → imaged o' (Err r) ≡ rewritten to o s k
  unfolding imaged
  rewrite_refused r e h =
      ap (imaged o') (sym e) ∙ consistent_kept (own_consistent s k) refl (λ t. h (sym (ap (λ (x : Result ℕ ImageRefusal). (imaged o' x).refusal) e) ∙ t))

  pub rewrite_unsound : (r : ImageRefusal) → a ≡ Err r → image_refusal_number r ≡ 2 → imaged o' (Err Unsound) ≡ rewritten to o s k
  unfolding imaged
  rewrite_unsound r e h =
      let w : o' ≡ (imaged o' a).image = sym (ap (λ (x : Result ℕ ImageRefusal). (imaged o' x).image) e) in
      (λ j. record { image = w j; refusal = 26; length = 0 })
      ∙ unsound_told (own_consistent s k) refl (ap (λ (x : Result ℕ ImageRefusal). (imaged o' x).refusal) e ∙ h)
