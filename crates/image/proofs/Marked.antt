-- The two bytes behind a form's number, as one number and one by one.
use mathlib.Core.Path.{◌≡◌, refl, ap, sym, ◌∙◌}
use mathlib.Core.List.{List, ◌++◌}
use mathlib.Core.Bool.{Bool, true, false}
use Prim.Native.Nat.{ℕ, ◌+◌, ◌*◌, ◌≤◌, ◌<◌}
use native.Mathlib.Nat.{mod-eq_of_lt}
use native.Mathlib.Omega.{arith}
use lib.Arith.{digits_div, digits_mod}
use lib.ListN.{get_or}
use lib.Dec.{eqb, ltb}
use borrow.Author.Tests.{eqb-true, eqb-false, lt-ltb, le-ltb}
use Rattle.accounts.specs.declared.Accounts.{Accounts}
use Rattle.layout.specs.Bytes.{bytes, number}
use Rattle.layout.proofs.Numbers.{number_fits}
use Rattle.image_model.specs.declared.Form.{Form}
use Rattle.image_model.specs.Items.{all_zero}
use Rattle.image_model.specs.Stream.{form_2, marks_of, marks_right}
use Rattle.image_model.specs.Reading.{marks_in}
use Rattle.image.proofs.Zeros.{zeros_number, number_zeros}
use Rattle.image.proofs.Decoding.{byte_part}

-- as they are written
pub two_bytes : (x y : ℕ) → x < 256 → bytes 2 (x + 256 * y) ≡ bytes 1 x ++ bytes 1 y
unfolding bytes
two_bytes x y h =
    let e : x + 256 * y ≡ y * 256 + x = omega arith in
    rw (e, digits_mod y h, digits_div y h, mod-eq_of_lt h)

-- two bytes are zero exactly if their number is
two_zeros : (n : ℕ) → n < 65536 → eqb n 0 ≡ all_zero (bytes 2 n)
two_zeros n h = go (eqb n 0) refl
  where
    go : (x : Bool) → eqb n 0 ≡ x → x ≡ all_zero (bytes 2 n)
    go true e = sym (zeros_number (bytes 2 n) (number_fits 2 n h ∙ eqb-true n 0 e))
    go false e = sym (number_zeros (bytes 2 n) (λ z. eqb-false n 0 e (sym (number_fits 2 n h) ∙ z)))

-- whether form 2 would have zeros there
pub marks_zero : (k : Accounts) (n : ℕ) → bytes 2 n ≡ bytes 1 k.edition ++ bytes 1 k.kind → n < 65536 → eqb n 0 ≡ all_zero (marks_of form_2 k)
unfolding form_2 marks_of
marks_zero k n e h = two_zeros n h ∙ ap all_zero e

-- as they are tested and read in a stream
module _ (t : List ℕ) where
  pub mark_at : (j : ℕ) → j < 2 → get_or (marks_in t) j 0 ≡ get_or t (2 + j) 0
  mark_at j h = byte_part 2 t j 2 h

  module _ (f : Form) where
    pub lean_marks : f.full ≡ false → (n : ℕ) → n ≡ number (marks_in t) → eqb n 0 ≡ marks_right f (marks_in t)
    unfolding marks_right
    lean_marks e n is = rw e (go (eqb n 0) refl)
      where
        go : (x : Bool) → eqb n 0 ≡ x → x ≡ all_zero (marks_in t)
        go true z = sym (zeros_number (marks_in t) (sym is ∙ eqb-true n 0 z))
        go false z = sym (number_zeros (marks_in t) (λ y. eqb-false n 0 z (is ∙ y)))

    module _ (full : f.full ≡ true) (a : ℕ) (first : a ≡ get_or t 2 0) where
      pub first_mark_wrong : 2 ≤ a → false ≡ marks_right f (marks_in t)
      unfolding marks_right
      first_mark_wrong z = sym (rw (full, mark_at 0 (omega arith), ← first, le-ltb a 2 z))

      pub second_mark : a < 2 → (b : ℕ) → b ≡ get_or t 3 0 → ltb b 2 ≡ marks_right f (marks_in t)
      unfolding marks_right
      second_mark z b second = sym (rw (full, mark_at 0 (omega arith), mark_at 1 (omega arith), ← first, ← second, lt-ltb a 2 z))
