-- What an image says by its own bytes: the contents test by test, the lines, and the parts that are found.
use mathlib.Core.Path.{◌≡◌, refl, ap, sym, ◌∙◌}
use mathlib.Core.List.{List}
use mathlib.Core.Bool.{Bool, true, false, ◌&&◌}
use Prim.Native.Nat.{ℕ, zero, suc, ◌+◌, ◌/◌, ◌%◌, ◌≤◌}
use native.Mathlib.Omega.{arith}
use lib.ListN.{length, take, drop}
use lib.Dec.{eqb}
use borrow.Author.Tests.{eq-eqb, ne_eqb, not-false}
use Rattle.accounts.specs.declared.Accounts.{Accounts}
use Rattle.accounts.specs.Accounts.{zero_accounts}
use Rattle.layout.specs.Bytes.{number}
use Rattle.lists.specs.Lists.{all, any, is_none, or_else}
use Rattle.model.specs.Consistent.{allowed}
use Rattle.model.specs.Refusals.{Line, line_holds, first_refusal}
use Rattle.lists.proofs.Bools.{and_left, or_neither}
use Rattle.model.proofs.Refusals.{Numbered, accepted_exactly}
use Rattle.framing.specs.Frames.{stream_of, frames_for, frames_right}
use Rattle.image_model.specs.declared.Form.{Form}
use Rattle.image_model.specs.declared.ImageRefusal.{ImageRefusal}
use Rattle.image_model.specs.Items.{every, all_zero}
use Rattle.image_model.specs.Stream.{form_1, form_2, form_numbered, marks_right, entries_at, entry_width, record_width, records_at, head_length}
use Rattle.image_model.specs.Reading.{entry_right, record_right, marks_in, length_in, form_in, form_of, size_in, accounts_of, accounts_in, items_right}
use Rattle.image_model.specs.Reading.{contents_right}
use Rattle.image_model.specs.Answers.{image_refusal_number}
use Rattle.image_model.specs.Images.{line_21, line_22, line_23, line_24, shape_lines}
use Rattle.image_model.proofs.Places.{form_is_known, known_shaped}
use Rattle.image_model.proofs.Answers.{image_refusal_is, image_answer, image_answer_refused}
use Rattle.std.specs.Prelude.{Result, Ok, Err, Option, Some, None}
use Rattle.image.specs.declared.Parsed.{Parsed}
use Rattle.image.specs.Parsing.{FormFits, Parts, shape_parts, parts_of, unless_parts, parts_in}

-- a form with a number fits
pub form_fits : (n : ℕ) (f : Form) → form_numbered n ≡ Some f → FormFits f
form_fits n f e =
    let s = known_shaped f (form_is_known n f e) in
    record { quotas = s.quotas; records = s.records }

fits_1 : FormFits form_1
unfolding form_numbered
fits_1 = form_fits 1 form_1 refl

pub form_1_fits : (f : Form) → f ≡ form_1 → FormFits f
form_1_fits f e = rw e fits_1

pub form_2_fits : (f : Form) → f ≡ form_2 → FormFits f
unfolding form_numbered
form_2_fits f e = rw e (form_fits 2 form_2 refl)

either_fits : (o : Option Form) → ((f : Form) → o ≡ Some f → FormFits f) → FormFits (or_else form_1 o)
unfolding or_else
either_fits None h = fits_1
either_fits (Some f) h = h f refl

pub form_of_fits : (i : List ℕ) → FormFits (form_of i)
unfolding form_of form_in
form_of_fits i = either_fits (form_in i) (form_fits (number (take 2 (stream_of i))))

-- the contents of an image that is read as form f, test by test; e is where its padding begins
module _ (i : List ℕ) (f : Form) (n : ℕ) (ef : f ≡ form_of i) (en : n ≡ length_in (stream_of i)) where
  tests : (allowed n
      && (eqb (length i / 512) (frames_for (head_length f + n))
      && (all_zero (drop (head_length f + n) (stream_of i))
      && items_right f (stream_of i)))) ≡ contents_right i
  unfolding contents_right size_in
  tests = rw (ef, en)

  pub not_allowed : allowed n ≡ false → false ≡ contents_right i
  not_allowed a = rw a at tests

  module _ (a : allowed n ≡ true) (e : ℕ) (is : e ≡ head_length f + n) where
    pub other_count : (length i / 512 ≡ (e + 503) / 504 → ⊥) → false ≡ contents_right i
    unfolding frames_for
    other_count c = rw (a, ← is, ne_eqb (length i / 512) ((e + 503) / 504) c) at tests

    module _ (c : length i / 512 ≡ (e + 503) / 504) (z : Bool) (ze : z ≡ all_zero (drop e (stream_of i))) where
      pub not_padded : z ≡ false → false ≡ contents_right i
      unfolding frames_for
      not_padded g = rw (a, ← is, eq-eqb (length i / 512) ((e + 503) / 504) c, sym ze ∙ g) at tests

      module _ (padded : z ≡ true) (t : Bool) (te : t ≡ every (entry_right f) (entry_width f) f.quotas (drop entries_at (stream_of i))) where
        by_items : items_right f (stream_of i) ≡ contents_right i
        unfolding frames_for
        by_items = rw (a, ← is, eq-eqb (length i / 512) ((e + 503) / 504) c, sym ze ∙ padded) at tests

        pub wrong_entries : t ≡ false → false ≡ contents_right i
        unfolding items_right
        wrong_entries g = sym (rw (sym te ∙ g)) ∙ by_items

        pub by_spares : t ≡ true → (r : Bool) (at : ℕ) → at ≡ records_at f
            → r ≡ every record_right record_width f.records (drop at (stream_of i)) → r ≡ contents_right i
        unfolding items_right
        by_spares g r at l s =
            s ∙ ap (λ (x : ℕ). every record_right record_width f.records (drop x (stream_of i))) l ∙ sym (rw (sym te ∙ g)) ∙ by_items

-- the first line that holds, as the tests find it
module _ (i : List ℕ) where
  pub refused_empty : length i ≡ 0 → first_refusal (shape_lines i) ≡ 21
  unfolding shape_lines line_21 first_refusal
  refused_empty e = rw (eq-eqb (length i) 0 e)

  module _ (some_bytes : length i ≡ 0 → ⊥) where
    pub refused_part : (length i % 512 ≡ 0 → ⊥) → first_refusal (shape_lines i) ≡ 21
    unfolding shape_lines line_21 first_refusal
    refused_part e = rw (ne_eqb (length i) 0 some_bytes, ne_eqb (length i % 512) 0 e)

    module _ (whole : length i % 512 ≡ 0) (r : Bool) (told : r ≡ frames_right (length i / 512) 0 (length i / 512) i) where
      pub refused_frames : r ≡ false → first_refusal (shape_lines i) ≡ 22
      unfolding shape_lines line_21 line_22 first_refusal
      refused_frames e = rw (ne_eqb (length i) 0 some_bytes, eq-eqb (length i % 512) 0 whole, sym told ∙ e)

      module _ (frames : r ≡ true) where
        pub refused_number : form_numbered (number (take 2 (stream_of i))) ≡ None → first_refusal (shape_lines i) ≡ 23
        unfolding shape_lines line_21 line_22 line_23 first_refusal form_in is_none
        refused_number e = rw (ne_eqb (length i) 0 some_bytes, eq-eqb (length i % 512) 0 whole, sym told ∙ frames, e)

        module _ (f : Form) (known : form_numbered (number (take 2 (stream_of i))) ≡ Some f) where
          pub form_is : f ≡ form_of i
          unfolding form_of form_in or_else
          form_is = rw known

          module _ (m : Bool) (me : m ≡ marks_right f (marks_in (stream_of i))) where
            marks_are : (x : Bool) → m ≡ x → marks_right (form_of i) (marks_in (stream_of i)) ≡ x
            marks_are x e = ap (λ (g : Form). marks_right g (marks_in (stream_of i))) (sym form_is) ∙ sym me ∙ e

            pub refused_marks : m ≡ false → first_refusal (shape_lines i) ≡ 23
            unfolding shape_lines line_21 line_22 line_23 first_refusal form_in is_none
            refused_marks e =
                rw (ne_eqb (length i) 0 some_bytes, eq-eqb (length i % 512) 0 whole, sym told ∙ frames, known, marks_are false e)

            module _ (marks : m ≡ true) (c : Bool) (is : c ≡ contents_right i) where
              pub refused_contents : c ≡ false → first_refusal (shape_lines i) ≡ 24
              unfolding shape_lines line_21 line_22 line_23 line_24 first_refusal form_in is_none
              refused_contents e =
                  rw (
                    ne_eqb (length i) 0 some_bytes,
                    eq-eqb (length i % 512) 0 whole,
                    sym told ∙ frames,
                    known,
                    marks_are true marks,
                    sym is ∙ e,
                  )

              pub refused_none : c ≡ true → first_refusal (shape_lines i) ≡ 0
              unfolding shape_lines line_21 line_22 line_23 line_24 first_refusal form_in is_none
              refused_none e =
                  rw (
                    ne_eqb (length i) 0 some_bytes,
                    eq-eqb (length i % 512) 0 whole,
                    sym told ∙ frames,
                    known,
                    marks_are true marks,
                    sym is ∙ e,
                  )

-- the parts that are found, from the first line that holds
unless_some : (m : ℕ) (x : Parts) → 1 ≤ m → record { refusal = m; form = form_1; size = 0; accounts = zero_accounts } ≡ unless_parts m x
unfolding unless_parts
unless_some zero x h = absurd (omega arith)
unless_some (suc m) x h = refl

pub refused_by : (ls : List Line) (p : Parsed) (r : ImageRefusal) (x : Parts) → p ≡ record { accounts = zero_accounts; shape = Err r }
    → first_refusal ls ≡ image_refusal_number r → parts_of p ≡ unless_parts (first_refusal ls) x
unfolding shape_parts
refused_by ls p r x e l =
    ap parts_of e ∙ unless_some (image_refusal_number r) x (image_refusal_is r).1 ∙ ap (λ (m : ℕ). unless_parts m x) (sym l)

pub refused_parts : (i : List ℕ) (p : Parsed) (r : ImageRefusal) → p ≡ record { accounts = zero_accounts; shape = Err r }
    → first_refusal (shape_lines i) ≡ image_refusal_number r → parts_of p ≡ parts_in i
unfolding parts_in
refused_parts i p r e l = refused_by (shape_lines i) p r (record { refusal = 0; form = form_of i; size = size_in i; accounts = accounts_in i }) e l

-- what was found of an image
pub record Found (i : List ℕ) (f : Form) (n : ℕ) (k : Accounts) : Type 0 where
  pub lines : first_refusal (shape_lines i) ≡ 0
  pub form : f ≡ form_of i
  pub size : n ≡ size_in i
  pub accounts : k ≡ accounts_in i

pub found_parts : (i : List ℕ) (f : Form) (n : ℕ) (k : Accounts) → Found i f n k → record { refusal = 0; form = f; size = n; accounts = k } ≡ parts_in i
unfolding parts_in unless_parts
found_parts i f n k w = rw (w.lines, w.form, w.size, w.accounts)

found_from : (i : List ℕ) (f : Form) (n m : ℕ) (k : Accounts) → first_refusal (shape_lines i) ≡ m
    → record { refusal = 0; form = f; size = n; accounts = k }
    ≡ unless_parts m (record { refusal = 0; form = form_of i; size = size_in i; accounts = accounts_in i }) → Found i f n k
unfolding unless_parts
found_from i f n zero k l e =
    record { lines = l; form = ap (λ (x : Parts). x.form) e; size = ap (λ (x : Parts). x.size) e; accounts = ap (λ (x : Parts). x.accounts) e }
found_from i f n (suc m) k l e = let z : 0 ≡ suc m = ap (λ (x : Parts). x.refusal) e in absurd (omega arith)

pub image_found : (i : List ℕ) (p : Parsed) (f : Form) (n : ℕ) → parts_of p ≡ parts_in i → p.shape ≡ Ok (f, n) → Found i f n p.accounts
unfolding shape_parts parts_in
image_found i p f n told e =
    found_from i f n (first_refusal (shape_lines i)) p.accounts refl (ap (λ (x : Result (Form × ℕ) ImageRefusal). shape_parts x p.accounts) (sym e) ∙ told)

number_from : (m r : ℕ) (x : Parts) → 1 ≤ r → x.refusal ≡ 0 → r ≡ (unless_parts m x).refusal → m ≡ r
unfolding unless_parts
number_from zero r x h z e = absurd (omega arith)
number_from (suc m) r x h z e = sym e

pub refused_found : (i : List ℕ) (p : Parsed) (r : ImageRefusal) → parts_of p ≡ parts_in i → p.shape ≡ Err r
    → (first_refusal (shape_lines i) ≡ image_refusal_number r)
unfolding shape_parts parts_in
refused_found i p r told e =
    let x : Parts = record { refusal = 0; form = form_of i; size = size_in i; accounts = accounts_in i } in
    number_from (first_refusal (shape_lines i)) (image_refusal_number r) x (image_refusal_is r).1 refl
    (ap (λ (y : Parts). y.refusal) (ap (λ (y : Result (Form × ℕ) ImageRefusal). shape_parts y p.accounts) (sym e) ∙ told))

-- no line has the number 0
pub shape_numbered : (i : List ℕ) → Numbered (shape_lines i)
unfolding shape_lines line_21 line_22 line_23 line_24 all
shape_numbered i = refl

-- an image that passes the tests has a heap length that is allowed
pub found_allowed : (i : List ℕ) (f : Form) (n : ℕ) (k : Accounts) → Found i f n k → allowed n ≡ true
unfolding shape_lines line_21 line_22 line_23 line_24 any contents_right
found_allowed i f n k w =
    let z = (accepted_exactly (shape_lines i) (shape_numbered i)).0 w.lines in
    let a = or_neither (line_holds (line_21 i)) _ z in
    let b = or_neither (line_holds (line_22 i)) _ a.1 in
    let c = or_neither (line_holds (line_23 i)) _ b.1 in
    let d = or_neither (line_holds (line_24 i)) false c.1 in
    ap allowed w.size ∙ and_left (allowed (size_in i)) _ (not-false (contents_right i) d.0)

pub found_fits : (i : List ℕ) (f : Form) (n : ℕ) (k : Accounts) → Found i f n k → FormFits f
found_fits i f n k w = rw w.form (form_of_fits i)

-- no two answers come to the same parts
shape_from : Parts → Result (Form × ℕ) ImageRefusal
shape_from x = image_answer (Ok (x.form, x.size)) Err x.refusal

shape_back : (s : Result (Form × ℕ) ImageRefusal) (k : Accounts) → shape_from (shape_parts s k) ≡ s
unfolding shape_from shape_parts
shape_back (Ok (f, n)) k = refl
shape_back (Err r) k = image_answer_refused (Ok (form_1, 0)) Err r

accounts_back : (s : Result (Form × ℕ) ImageRefusal) (k : Accounts) → (shape_parts s k).accounts ≡ k
unfolding shape_parts
accounts_back (Ok (f, n)) k = refl
accounts_back (Err r) k = refl

pub parts_of_injective : (p q : Parsed) → parts_of p ≡ parts_of q → p ≡ q
parts_of_injective p q e =
    let s = sym (shape_back p.shape p.accounts) ∙ ap shape_from e ∙ shape_back q.shape q.accounts in
    let k = sym (accounts_back p.shape p.accounts) ∙ ap (λ (x : Parts). x.accounts) e ∙ accounts_back q.shape q.accounts in
    λ i. record { accounts = k i; shape = s i }

-- a shape stands with the accounts that the image has
own_accounts : (i : List ℕ) (s : Result (Form × ℕ) ImageRefusal) (k : Accounts) → shape_parts s k ≡ parts_in i
    → shape_parts s (parts_in i).accounts ≡ parts_in i
own_accounts i s k e = ap (shape_parts s) (sym (ap (λ (x : Parts). x.accounts) e) ∙ accounts_back s k) ∙ e

pub refused_shape : (i : List ℕ) (r : ImageRefusal) → first_refusal (shape_lines i) ≡ image_refusal_number r
    → shape_parts (Err r) (parts_in i).accounts ≡ parts_in i
refused_shape i r l = own_accounts i (Err r) zero_accounts (refused_parts i (record { accounts = zero_accounts; shape = Err r }) r refl l)

pub found_shape : (i : List ℕ) (f : Form) (n : ℕ) → first_refusal (shape_lines i) ≡ 0 → f ≡ form_of i → n ≡ size_in i
    → shape_parts (Ok (f, n)) (parts_in i).accounts ≡ parts_in i
unfolding shape_parts
found_shape i f n l e g =
    own_accounts i (Ok (f, n)) (accounts_in i) (found_parts i f n (accounts_in i) (record { lines = l; form = e; size = g; accounts = refl }))

-- what was found by a shape: the accounts are those that a stream of its form says
pub shape_found : (i : List ℕ) (s : Result (Form × ℕ) ImageRefusal) (f : Form) (n : ℕ) → shape_parts s (parts_in i).accounts ≡ parts_in i → s ≡ Ok (f, n)
    → Found i f n (accounts_of f (stream_of i))
unfolding accounts_in
shape_found i s f n told e =
    let w = image_found i (record { accounts = (parts_in i).accounts; shape = s }) f n told e in
    record { lines = w.lines; form = w.form; size = w.size; accounts = ap (λ (x : Form). accounts_of x (stream_of i)) w.form }

pub shape_refused : (i : List ℕ) (s : Result (Form × ℕ) ImageRefusal) (r : ImageRefusal) → shape_parts s (parts_in i).accounts ≡ parts_in i → s ≡ Err r
    → first_refusal (shape_lines i) ≡ image_refusal_number r
shape_refused i s r told e = refused_found i (record { accounts = (parts_in i).accounts; shape = s }) r told e
