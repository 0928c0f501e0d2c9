-- Comparing two images: the cases of the answer, that the answers are told apart, and that nothing differs exactly between equal images.
use mathlib.Core.Path.{◌≡◌, refl, ap, sym, ◌∙◌}
use mathlib.Core.List.{List, [], ◌∷◌}
use mathlib.Core.Bool.{Bool, true, false}
use mathlib.Core.Logic.{◌↔◌, ◌≢◌}
use Prim.Native.Nat.{ℕ, zero, suc, ◌≤◌}
use native.Mathlib.Omega.{arith}
use lib.ListN.{length}
use lib.Dec.{eqb}
use borrow.Author.Tests.{eqb-true, eqb-false, eq-eqb, ne_eqb}
use Rattle.std.proofs.lemmas.Option.{none-some}
use Rattle.layout.specs.Bytes.{Octets}
use Rattle.model.specs.Refusals.{first_refusal}
use Rattle.framing.specs.Frames.{frames_for}
use Rattle.framing.proofs.Padding.{length_padded}
use Rattle.image_model.specs.declared.ImageRefusal.{ImageRefusal}
use Rattle.image_model.specs.Stream.{image_of, image_length}
use Rattle.image_model.specs.Reading.{form_of, size_in, heap_of, heap_in, accounts_in}
use Rattle.image_model.specs.Answers.{image_refusal_number}
use Rattle.image_model.specs.Images.{examine_lines, Accepts}
use Rattle.image_model.proofs.Places.{same_number}
use Rattle.image_model.proofs.Refusals.{examined_read}
use Rattle.image_model.proofs.Read.{read_written}
use Rattle.image_model.proofs.Written.{image_has_length}
use Rattle.image_model.proofs.Answers.{image_refusal_at, image_refusal_is}
use Rattle.comparison.specs.Differences.{state_in, differences}
use Rattle.comparison.specs.Compare.{line_29, line_27, pair_lines, first_why, why_both, why_second, why_not}
use Rattle.comparison.specs.Compare.{unless_refused, Compared, compared, nth_of, compare_of, Advanced, stepped}
use Rattle.comparison.specs.Compare.{advanced}
use Rattle.comparison.specs.Listing.{OneSize}
use Rattle.comparison.specs.declared.Difference.{Difference}
use Rattle.comparison.specs.declared.Which.{Which}
use Rattle.comparison.specs.declared.Which.TheVariants.{First, Second, Neither}
use Rattle.std.specs.Prelude.{Option, Some, None, Result, Ok, Err, slice_get}
use Rattle.comparison.specs.declared.Position.{Position}
use Rattle.comparison.proofs.Differences.{differences_self, differences_empty}

-- an image that is accepted alone
abbrev pub Accepted : List ℕ → Type 0
Accepted i = first_refusal (examine_lines i) ≡ 0

module _ (i j : List ℕ) (n : ℕ) where
  -- a bad first image decides, whatever the second is
  pub first_refused : (r : ℕ) → first_refusal (examine_lines i) ≡ suc r → compare_of i j n ≡ record { refusal = suc r; which = First; found = None }
  unfolding compare_of why_not why_second why_both first_why nth_of unless_refused
  first_refused r e = rw e

  pub second_refused : Accepted i → (r : ℕ) → first_refusal (examine_lines j) ≡ suc r
      → compare_of i j n ≡ record { refusal = suc r; which = Second; found = None }
  unfolding compare_of why_not why_second why_both first_why nth_of unless_refused
  second_refused a r e = rw (a, e)

  module _ (a : Accepted i) (b : Accepted j) where
    -- then the forms
    pub forms_refused : (form_of i).number ≢ (form_of j).number → compare_of i j n ≡ record { refusal = 29; which = Neither; found = None }
    unfolding compare_of why_not why_second why_both first_why nth_of unless_refused line_29 pair_lines first_refusal
    forms_refused d = let t = ne_eqb (form_of i).number (form_of j).number d in rw (a, b, t)

    module _ (form : (form_of i).number ≡ (form_of j).number) where
      -- then the heaps' lengths
      pub lengths_refused : size_in i ≢ size_in j → compare_of i j n ≡ record { refusal = 27; which = Neither; found = None }
      unfolding compare_of why_not why_second why_both first_why nth_of unless_refused
          line_29 line_27 pair_lines first_refusal
      lengths_refused d =
          let f = eq-eqb (form_of i).number (form_of j).number form in
          let t = ne_eqb (size_in i) (size_in j) d in
          rw (a, b, f, t)

      -- else the n-th is given, or none
      pub nth_given : size_in i ≡ size_in j
          → compare_of i j n ≡ record { refusal = 0; which = Neither; found = slice_get (differences (state_in i) (state_in j)) n }
      unfolding compare_of why_not why_second why_both first_why nth_of unless_refused
          line_29 line_27 pair_lines first_refusal
      nth_given e =
          let f = eq-eqb (form_of i).number (form_of j).number form in
          let t = eq-eqb (size_in i) (size_in j) e in
          rw (a, b, f, t)

-- no two answers come to the same: from what an answer comes to, the answer
found_answer : Option Difference → Option Difference
found_answer None = None
found_answer (Some d) = Some d

answer_from : ℕ → Which → Option Difference → Result (Option Difference) (ImageRefusal × Which)
answer_from zero w o = Ok (found_answer o)
answer_from (suc n) w o = Err (image_refusal_at (suc n), w)

abbrev answer_of : Compared → Result (Option Difference) (ImageRefusal × Which)
answer_of c = answer_from c.refusal c.which c.found

refused_back : (n : ℕ) (r : ImageRefusal) (w : Which) → image_refusal_number r ≡ n → 1 ≤ n → image_refusal_at n ≡ r → answer_from n w None ≡ Err (r, w)
unfolding answer_from
refused_back zero r w e l q = absurd (omega arith)
refused_back (suc n) r w e l q = ap (λ (t : ImageRefusal). Err (t, w)) q

answer_back : (a : Result (Option Difference) (ImageRefusal × Which)) → answer_of (compared a) ≡ a
unfolding compared answer_from found_answer
answer_back (Ok (Some d)) = refl
answer_back (Ok None) = refl
answer_back (Err (r, w)) = let q = image_refusal_is r in refused_back (image_refusal_number r) r w refl q.1 q.0

pub compared_injective : (a b : Result (Option Difference) (ImageRefusal × Which)) → compared a ≡ compared b → a ≡ b
compared_injective a b e = sym (answer_back a) ∙ ap answer_of e ∙ answer_back b

-- nor two answers of the next difference
next_from : ℕ → Which → Option (Difference × Position) → Result (Option (Difference × Position)) (ImageRefusal × Which)
next_from zero w s = Ok s
next_from (suc n) w s = Err (image_refusal_at (suc n), w)

abbrev next_answer_of : Advanced → Result (Option (Difference × Position)) (ImageRefusal × Which)
next_answer_of c = next_from c.refusal c.which c.step

next_refused_back : (n : ℕ) (r : ImageRefusal) (w : Which) → 1 ≤ n → image_refusal_at n ≡ r
    → next_from n w None ≡ Err (r, w)
unfolding next_from
next_refused_back zero r w l q = absurd (omega arith)
next_refused_back (suc n) r w l q = ap (λ (t : ImageRefusal). Err (t, w)) q

next_back : (a : Result (Option (Difference × Position)) (ImageRefusal × Which)) → next_answer_of (advanced a) ≡ a
unfolding advanced stepped next_from
next_back (Ok s) = refl
next_back (Err (r, w)) = let q = image_refusal_is r in next_refused_back (image_refusal_number r) r w q.1 q.0

pub advanced_injective : (a b : Result (Option (Difference × Position)) (ImageRefusal × Which)) → advanced a ≡ advanced b → a ≡ b
advanced_injective a b e = sym (next_back a) ∙ ap next_answer_of e ∙ next_back b

-- an accepted image is the image of what it says
pub heap_length : (i : List ℕ) → length (heap_in i) ≡ size_in i
unfolding heap_in heap_of size_in
heap_length i = length_padded (size_in i) _

says : (i : List ℕ) → Octets i → Accepted i → Accepts (form_of i) (heap_in i) (accounts_in i) × (image_of (form_of i) (heap_in i) (accounts_in i) ≡ i)
says i o a = let w = read_written i (heap_in i) o (sym (examined_read i (heap_in i) (heap_length i)) ∙ a) in (w.0, w.1)

-- so its heap is no longer than the image, and the time of comparing goes by the images' lengths
pub heap_within : (i : List ℕ) → Octets i → Accepted i → size_in i ≤ length i
unfolding image_length frames_for
heap_within i o a =
    let w = says i o a in
    let l : length i ≡ image_length (form_of i) (size_in i) =
    ap length (sym w.1) ∙ image_has_length (form_of i) (heap_in i) (accounts_in i) w.0.known w.0.typed
    ∙ ap (image_length (form_of i)) (heap_length i) in
    omega arith

module _ (i j : List ℕ) (o : Octets i) (p : Octets j) (a : Accepted i) (b : Accepted j)
    (form : (form_of i).number ≡ (form_of j).number) (e : size_in i ≡ size_in j) where
  pub one_size : OneSize (state_in i) (state_in j)
  unfolding state_in
  one_size =
      let v = (says i o a).0.typed in
      let w = (says j p b).0.typed in
      record { heap = heap_length i ∙ e ∙ sym (heap_length j); quotas = v.quotas ∙ sym w.quotas; holds = v.holds ∙ sym w.holds }

  -- nothing differs exactly if the images are equal, byte for byte
  pub images_alike : (differences (state_in i) (state_in j) ≡ []) ↔ (i ≡ j)
  unfolding state_in
  images_alike = (there, λ q. rw q (differences_self (state_in j)))
    where
      there : differences (state_in i) (state_in j) ≡ [] → i ≡ j
      there z =
          let q = (differences_empty (state_in i) (state_in j) one_size).0 z in
          let f = same_number (form_of i) (form_of j) (says i o a).0.known (says j p b).0.known form in
          sym (says i o a).1 ∙ (λ k. image_of (f k) (q k).heap (q k).accounts) ∙ (says j p b).1

-- what is compared: both images are accepted, of one form, and the heaps have one length
pub compared_exactly : (i j : List ℕ) (n : ℕ)
    → ((compare_of i j n).refusal ≡ 0) ↔ (Accepted i × Accepted j × ((form_of i).number ≡ (form_of j).number) × (size_in i ≡ size_in j))
compared_exactly i j n = (there, λ w. ap refusal_of (nth_given i j n w.0 w.1 w.2 w.3))
  where
    refusal_of : Compared → ℕ
    refusal_of c = c.refusal

    first : (compare_of i j n).refusal ≡ 0 → (r : ℕ) → first_refusal (examine_lines i) ≡ r → Accepted i
    first e zero q = q
    first e (suc r) q = absurd (omega (arith, ap refusal_of (first_refused i j n r q), e))

    second : (compare_of i j n).refusal ≡ 0 → Accepted i → (r : ℕ) → first_refusal (examine_lines j) ≡ r → Accepted j
    second e a zero q = q
    second e a (suc r) q = absurd (omega (arith, ap refusal_of (second_refused i j n a r q), e))

    third : (compare_of i j n).refusal ≡ 0 → Accepted i → Accepted j → (x : Bool) → eqb (form_of i).number (form_of j).number ≡ x
        → (form_of i).number ≡ (form_of j).number
    third e a b true q = eqb-true (form_of i).number (form_of j).number q
    third e a b false q = absurd (omega (arith, ap refusal_of (forms_refused i j n a b (eqb-false (form_of i).number (form_of j).number q)), e))

    fourth : (compare_of i j n).refusal ≡ 0 → Accepted i → Accepted j → (form_of i).number ≡ (form_of j).number → (x : Bool)
        → eqb (size_in i) (size_in j) ≡ x → size_in i ≡ size_in j
    fourth e a b f true q = eqb-true (size_in i) (size_in j) q
    fourth e a b f false q = absurd (omega (arith, ap refusal_of (lengths_refused i j n a b f (eqb-false (size_in i) (size_in j) q)), e))

    there : (compare_of i j n).refusal ≡ 0 → Accepted i × Accepted j × ((form_of i).number ≡ (form_of j).number) × (size_in i ≡ size_in j)
    there e =
        let a = first e (first_refusal (examine_lines i)) refl in
        let b = second e a (first_refusal (examine_lines j)) refl in
        let f = third e a b (eqb (form_of i).number (form_of j).number) refl in
        (a, b, f, fourth e a b f (eqb (size_in i) (size_in j)) refl)

-- asked for the first difference of two images, the answer is that there is none exactly if the first is accepted and the second is the same bytes
pub nothing_exactly : (i j : List ℕ) → Octets i → Octets j → (compare_of i j 0 ≡ compared (Ok None)) ↔ (Accepted i × (i ≡ j))
unfolding compared
nothing_exactly i j o p = (there, back)
  where
    empty : (xs : List Difference) → slice_get xs 0 ≡ None → xs ≡ []
    empty [] e = refl
    empty (x ∷ xs) e = absurd (none-some x (sym e))

    there : compare_of i j 0 ≡ record { refusal = 0; which = Neither; found = None } → Accepted i × (i ≡ j)
    there e =
        let w = (compared_exactly i j 0).0 (ap (λ (c : Compared). c.refusal) e) in
        let g = ap (λ (c : Compared). c.found) (sym (nth_given i j 0 w.0 w.1 w.2 w.3) ∙ e) in
        (w.0, (images_alike i j o p w.0 w.1 w.2 w.3).0 (empty (differences (state_in i) (state_in j)) g))

    back : Accepted i × (i ≡ j) → compare_of i j 0 ≡ record { refusal = 0; which = Neither; found = None }
    back w =
        let b : Accepted j = rw w.1 at w.0 in
        nth_given i j 0 w.0 b (ap (λ (x : List ℕ). (form_of x).number) w.1) (ap size_in w.1) ∙ (rw (w.1, differences_self (state_in j)))
