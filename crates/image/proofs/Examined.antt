-- What an image says with no heap lent: the form that it is read as, and its parts where the state has to be consistent too.
use mathlib.Core.Path.{◌≡◌, ap, sym, ◌∙◌}
use mathlib.Core.List.{List, [], ◌∷◌}
use mathlib.Core.Bool.{Bool, true, false}
use Prim.Native.Nat.{ℕ, zero, suc, ◌≤◌}
use native.Mathlib.Omega.{arith}
use lib.ListN.{take, drop}
use Rattle.accounts.specs.declared.Accounts.{Accounts}
use Rattle.accounts.specs.Accounts.{zero_accounts}
use Rattle.layout.specs.Bytes.{number}
use Rattle.lists.specs.Lists.{or_else}
use Rattle.model.specs.Refusals.{first_refusal}
use Rattle.framing.specs.Frames.{padded, stream_of}
use Rattle.image_model.specs.declared.Form.{Form}
use Rattle.image_model.specs.declared.ImageRefusal.{ImageRefusal}
use Rattle.image_model.specs.declared.ImageRefusal.TheVariants.{Unsound}
use Rattle.image_model.specs.Stream.{form_1, form_numbered, head_length}
use Rattle.image_model.specs.Reading.{form_in, form_of, size_in, accounts_in, heap_of, heap_in}
use Rattle.image_model.specs.Answers.{image_refusal_number}
use Rattle.image_model.specs.Images.{own_consistent, line_26, shape_lines, examine_lines}
use Rattle.image_model.proofs.Answers.{image_refusal_is}
use Rattle.std.specs.Prelude.{Err, Option, Some, None, unwrap_or}
use Rattle.image.specs.declared.Parsed.{Parsed}
use Rattle.image.specs.Parsing.{Parts, known_form, parts_of, unless_parts, parts_in, examined_in}
use Rattle.image.proofs.Parses.{Found, shape_numbered, refused_by, refused_found}
use Rattle.image.proofs.Restores.{first_kept, first_passed}

-- the form with the image's number, form 1 where there is none
module _ (i : List ℕ) where
  pub form_read : (o : Option Form) → known_form o ≡ form_numbered (number (take 2 (stream_of i))) → unwrap_or o form_1 ≡ form_of i
  unfolding form_of form_in or_else
  form_read (Some f) e = rw (sym e)
  form_read None e = rw (sym e)

-- an image that its own bytes refuse
kept : (i : List ℕ) (m : ℕ) → 1 ≤ m → first_refusal (shape_lines i) ≡ m → first_refusal (shape_lines i) ≡ first_refusal (examine_lines i)
unfolding examine_lines
kept i zero l e = absurd (omega arith)
kept i (suc m) l e = e ∙ sym (first_kept (shape_lines i) (line_26 i ∷ []) m e)

examined_as : (i : List ℕ) (p : Parsed) → parts_of p ≡ parts_in i → first_refusal (shape_lines i) ≡ first_refusal (examine_lines i) → parts_of p ≡ examined_in i
unfolding parts_in examined_in
examined_as i p told e =
    let x : Parts = record { refusal = 0; form = form_of i; size = size_in i; accounts = accounts_in i } in
    told ∙ ap (λ (m : ℕ). unless_parts m x) e

pub examined_refused : (i : List ℕ) (p : Parsed) (r : ImageRefusal) → parts_of p ≡ parts_in i → p.shape ≡ Err r → parts_of p ≡ examined_in i
examined_refused i p r told e =
    examined_as i p told (kept i (image_refusal_number r) (image_refusal_is r).1 (refused_found i p r told e))

-- one that they do not refuse: what the test of its state finds
module _ (i : List ℕ) (f : Form) (n : ℕ) (k : Accounts) (w : Found i f n k) (at : ℕ) (is : at ≡ head_length f) where
  module _ (r : Bool) (told : r ≡ own_consistent (padded n (drop at (stream_of i))) k) where
    state_is : r ≡ own_consistent (heap_in i) (accounts_in i)
    unfolding heap_in heap_of size_in
    state_is =
        let start : at ≡ head_length (form_of i) = is ∙ ap head_length w.form in
        told ∙ (λ j. own_consistent (padded (w.size j) (drop (start j) (stream_of i))) (w.accounts j))

    passed : first_refusal (examine_lines i) ≡ first_refusal (line_26 i ∷ [])
    unfolding examine_lines
    passed = first_passed (shape_lines i) (line_26 i ∷ []) (shape_numbered i) w.lines

    pub examined_unsound : r ≡ false → (p : Parsed) → p ≡ record { accounts = zero_accounts; shape = Err Unsound } → parts_of p ≡ examined_in i
    unfolding examined_in line_26 first_refusal
    examined_unsound e p q =
        refused_by (examine_lines i) p Unsound (record { refusal = 0; form = form_of i; size = size_in i; accounts = accounts_in i }) q
        (passed ∙ (rw (sym state_is ∙ e)))

    pub examined_consistent : r ≡ true → (p : Parsed) → parts_of p ≡ parts_in i → parts_of p ≡ examined_in i
    unfolding line_26 first_refusal
    examined_consistent e p q = examined_as i p q (w.lines ∙ sym (passed ∙ (rw (sym state_is ∙ e))))
