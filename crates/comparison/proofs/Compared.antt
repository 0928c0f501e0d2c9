-- What compare and the next difference answer, from what examining both images says and from the list of differences.
use mathlib.Core.Path.{◌≡◌, refl, ap, sym, ◌∙◌}
use mathlib.Core.List.{List}
use Prim.Native.Nat.{ℕ, zero, suc, ◌≤◌}
use native.Mathlib.Omega.{arith}
use borrow.Author.Tests.{eq-eqb, ne_eqb}
use Rattle.accounts.specs.declared.Accounts.{Accounts}
use Rattle.model.specs.Refusals.{first_refusal}
use Rattle.image_model.specs.declared.Form.{Form}
use Rattle.image_model.specs.declared.ImageRefusal.{ImageRefusal}
use Rattle.image_model.specs.declared.ImageRefusal.TheVariants.{HeapLengths, FormsDiffer}
use Rattle.image_model.specs.Reading.{form_of, size_in, accounts_in}
use Rattle.image_model.specs.Answers.{image_refusal_number}
use Rattle.image_model.specs.Images.{examine_lines}
use Rattle.image_model.proofs.Answers.{image_refusal_is}
use Rattle.std.specs.Prelude.{Some, None, Result, Ok, Err, slice_get}
use Rattle.image.specs.declared.Parsed.{Parsed}
use Rattle.image.specs.Parsing.{Parts, shape_parts, parts_of, unless_parts, examined_in}
use Rattle.comparison.specs.Differences.{state_in, differences}
use Rattle.comparison.specs.Positions.{next_of}
use Rattle.comparison.specs.Compare.{Why, paired, line_29, line_27, pair_lines, first_why, why_both, why_second}
use Rattle.comparison.specs.Compare.{why_not}
use Rattle.comparison.specs.Compare.{unless_refused, compared, nth_of, compare_of, stepped, advanced, advance_of}
use Rattle.comparison.specs.declared.Difference.{Difference}
use Rattle.comparison.specs.declared.Which.{Which}
use Rattle.comparison.specs.declared.Which.TheVariants.{First, Second, Neither}
use Rattle.comparison.specs.declared.Position.{Position}

-- what examining an image says of its lines
module _ (i : List ℕ) (p : Parsed) (told : parts_of p ≡ examined_in i) where
  abbrev said : Parts
  said = record { refusal = 0; form = form_of i; size = size_in i; accounts = accounts_in i }

  by_shape : (s : Result (Form × ℕ) ImageRefusal) → p.shape ≡ s → shape_parts s p.accounts ≡ unless_parts (first_refusal (examine_lines i)) said
  unfolding examined_in
  by_shape s e = ap (λ (x : Result (Form × ℕ) ImageRefusal). shape_parts x p.accounts) (sym e) ∙ told

  image_from : (m : ℕ) (f : Form) (n : ℕ) (k : Accounts)
      → record { refusal = 0; form = f; size = n; accounts = k } ≡ unless_parts m said → m ≡ 0
  unfolding unless_parts
  image_from zero f n k e = refl
  image_from (suc m) f n k e = let z : 0 ≡ suc m = ap (λ (x : Parts). x.refusal) e in absurd (omega arith)

  pub examined_image : (f : Form) (n : ℕ) → p.shape ≡ Ok (f, n) → first_refusal (examine_lines i) ≡ 0
  unfolding shape_parts
  examined_image f n e = image_from (first_refusal (examine_lines i)) f n p.accounts (by_shape (Ok (f, n)) e)

  number_from : (m r : ℕ) → 1 ≤ r → r ≡ (unless_parts m said).refusal → m ≡ r
  unfolding unless_parts
  number_from zero r l e = absurd (omega arith)
  number_from (suc m) r l e = sym e

  pub examined_number : (r : ImageRefusal) → p.shape ≡ Err r → first_refusal (examine_lines i) ≡ image_refusal_number r
  unfolding shape_parts
  examined_number r e =
      number_from (first_refusal (examine_lines i)) (image_refusal_number r) (image_refusal_is r).1 (ap (λ (x : Parts). x.refusal) (by_shape (Err r) e))

-- a refusal of one image
refuses : (m : ℕ) (w : Which) (later : Why) → 1 ≤ m → record { refusal = m; which = w } ≡ first_why m w later
unfolding first_why
refuses zero w later l = absurd (omega arith)
refuses (suc m) w later l = refl

refused_as : (m : ℕ) (r : ImageRefusal) (w : Which) (later : Why) → m ≡ image_refusal_number r
    → paired (Err (r, w)) ≡ first_why m w later
unfolding paired
refused_as m r w later e = rw e (refuses (image_refusal_number r) w later (image_refusal_is r).1)

module _ (i j : List ℕ) where
  -- both images together
  pub other_form : ((form_of i).number ≡ (form_of j).number → ⊥)
      → paired (Err (FormsDiffer, Neither)) ≡ why_both i j
  unfolding paired why_both line_29 pair_lines first_refusal
  other_form f = rw (ne_eqb (form_of i).number (form_of j).number f)

  module _ (form : (form_of i).number ≡ (form_of j).number) where
    pub other_length : (size_in i ≡ size_in j → ⊥) → paired (Err (HeapLengths, Neither)) ≡ why_both i j
    unfolding paired why_both line_29 line_27 pair_lines first_refusal
    other_length f = rw (eq-eqb (form_of i).number (form_of j).number form, ne_eqb (size_in i) (size_in j) f)

    pub both_good : size_in i ≡ size_in j → paired (Ok tt) ≡ why_both i j
    unfolding paired why_both line_29 line_27 pair_lines first_refusal
    both_good e = rw (eq-eqb (form_of i).number (form_of j).number form, eq-eqb (size_in i) (size_in j) e)

  -- the second image
  pub second_bad : (r : ImageRefusal) → first_refusal (examine_lines j) ≡ image_refusal_number r
      → paired (Err (r, Second)) ≡ why_second i j
  unfolding why_second
  second_bad r e = refused_as (first_refusal (examine_lines j)) r Second _ e

  pub second_good : first_refusal (examine_lines j) ≡ 0 → why_both i j ≡ why_second i j
  unfolding why_second first_why
  second_good e = rw e

  -- the first image
  pub first_bad : (r : ImageRefusal) → first_refusal (examine_lines i) ≡ image_refusal_number r
      → paired (Err (r, First)) ≡ why_not i j
  unfolding why_not
  first_bad r e = refused_as (first_refusal (examine_lines i)) r First _ e

  pub first_good : first_refusal (examine_lines i) ≡ 0 → why_second i j ≡ why_not i j
  unfolding why_not first_why
  first_good e = rw e

  -- the difference that was asked for, or none
  pub none_given : (n : ℕ) → slice_get (differences (state_in i) (state_in j)) n ≡ None → compared (Ok None) ≡ nth_of i j n
  unfolding compared nth_of
  none_given n e = rw e

  pub one_given : (n : ℕ) (d : Difference) → slice_get (differences (state_in i) (state_in j)) n ≡ Some d
      → compared (Ok (Some d)) ≡ nth_of i j n
  unfolding compared nth_of
  one_given n d e = rw e

-- what stands for nothing is given where there is a refusal
nothing_found : {A : Type 0} (m : ℕ) (nothing found : A) → 1 ≤ m → nothing ≡ unless_refused m nothing found
unfolding unless_refused
nothing_found zero nothing found l = absurd (omega arith)
nothing_found (suc m) nothing found l = refl

module _ (i j : List ℕ) where
  -- two images that are compared
  module _ (good : paired (Ok tt) ≡ why_not i j) where
    pub compared_nth : (n : ℕ) → nth_of i j n ≡ compare_of i j n
    unfolding paired nth_of compare_of unless_refused
    compared_nth n = rw (sym good)

    pub advanced_step : (p : Position) → stepped (next_of p (state_in i) (state_in j)) ≡ advance_of i j p
    unfolding paired stepped advance_of unless_refused
    advanced_step p = rw (sym good)

  -- and two that are not
  module _ (r : ImageRefusal) (w : Which) (bad : paired (Err (r, w)) ≡ why_not i j) where
    pub compared_refused : (n : ℕ) → compared (Err (r, w)) ≡ compare_of i j n
    unfolding paired compared compare_of
    compared_refused n =
        let m = image_refusal_number r in
        let e = nothing_found m None (nth_of i j n).found (image_refusal_is r).1 in
        rw (sym bad) (λ k. record { refusal = m; which = w; found = e k })

    pub advanced_refused : (p : Position) → advanced (Err (r, w)) ≡ advance_of i j p
    unfolding paired advanced advance_of
    advanced_refused p =
        let m = image_refusal_number r in
        let e = nothing_found m None (next_of p (state_in i) (state_in j)) (image_refusal_is r).1 in
        rw (sym bad) (λ k. record { refusal = m; which = w; step = e k })
