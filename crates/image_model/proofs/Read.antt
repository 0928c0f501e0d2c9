-- What was read is written: an image that the reader accepts is the very image that the writer makes of the heap and the accounts given back.
-- That none of the reader's lines holds says what the image's parts are; cutting them again gives the image.
use Rattle.std.specs.Prelude.{Option, Some, None}
use mathlib.Core.Path.{◌≡◌, refl, ap, sym, ◌∙◌}
use mathlib.Core.List.{List, ◌++◌}
use mathlib.Core.Bool.{true, false, not, ◌||◌, true≢false}
use Prim.Native.Nat.{ℕ, ◌+◌, ◌*◌, ◌-◌, ◌/◌, ◌%◌, ◌≤◌}
use native.Mathlib.Omega.{arith}
use lib.ListN.{length, take, drop, length-drop}
use lib.Dec.{eqb}
use borrow.Author.Tests.{eqb-true, not-false}
use Rattle.layout.specs.Bytes.{Octets, number}
use Rattle.layout.proofs.Numbers.{octets_drop}
use Rattle.lists.specs.Lists.{any, is_none, or_else}
use Rattle.model.specs.Consistent.{allowed}
use Rattle.model.specs.Refusals.{line_holds}
use Rattle.lists.proofs.Bools.{and_left, and_right, or_neither}
use Rattle.framing.specs.Frames.{padded, frames_for, cut_from, cut, stream_of, frames_right}
use Rattle.framing.proofs.Padding.{length_padded, padded_whole}
use Rattle.framing.proofs.Cut.{cut_uncut}
use Rattle.image_model.specs.Items.{all_zero}
use Rattle.image_model.specs.Stream.{form_1, marks_right, head_length, stream, image_of}
use Rattle.image_model.specs.Reading.{marks_in, length_in, form_in, form_of, size_in, accounts_in, heap_in, contents_right, heap_of, items_right}
use Rattle.image_model.specs.Images.{own_consistent, line_21, line_22, line_23, line_24, line_25, line_26, shape_lines, read_lines, read_image, Accepts}
use Rattle.image_model.specs.declared.Form.{Form}
use Rattle.image_model.proofs.Refusals.{read_accepted_exactly}
use Rattle.image_model.proofs.Items.{zeros_are}
use Rattle.image_model.proofs.Places.{Known, form_has_number, form_is_known}
use Rattle.image_model.proofs.Cuts.{padded_octets, cut_padded, uncut_length, uncut_octets}
use Rattle.image_model.proofs.Heads.{stream_length}
use Rattle.image_model.proofs.Again.{typed_read, carried_read, stream_again}

-- what an image is of which no line holds
pub record Right (i h : List ℕ) : Type 0 where
  pub whole : length i ≡ 512 * (length i / 512)
  pub frames : frames_right (length i / 512) 0 (length i / 512) i ≡ true
  pub form : form_in i ≡ Some (form_of i)
  pub marks : marks_right (form_of i) (marks_in (stream_of i)) ≡ true
  pub contents : contents_right i ≡ true
  pub room : length h ≡ size_in i
  pub consistent : own_consistent (heap_in i) (accounts_in i) ≡ true

some_form : (x : Option Form) → is_none x ≡ false → x ≡ Some (or_else form_1 x)
unfolding is_none or_else
some_form None e = absurd (true≢false e)
some_form (Some f) e = refl

pub none_right : (i h : List ℕ) → any line_holds (read_lines i h) ≡ false → Right i h
unfolding any read_lines shape_lines line_21 line_22 line_23 line_24 line_25 line_26 form_of
none_right i h e =
    let n = length i / 512 in
    let x₁ = or_neither (eqb (length i) 0 || not (eqb (length i % 512) 0)) _ e in
    let x₂ = or_neither (not (frames_right n 0 n i)) _ x₁.1 in
    let x₃ = or_neither (is_none (form_in i) || not (marks_right (or_else form_1 (form_in i)) (marks_in (stream_of i)))) _ x₂.1 in
    let x₄ = or_neither (not (contents_right i)) _ x₃.1 in
    let x₅ = or_neither (not (eqb (length h) (size_in i))) _ x₄.1 in
    let x₆ = or_neither (not (own_consistent (heap_in i) (accounts_in i))) _ x₅.1 in
    let l = or_neither (eqb (length i) 0) (not (eqb (length i % 512) 0)) x₁.0 in
    let m = or_neither (is_none (form_in i)) (not (marks_right (or_else form_1 (form_in i)) (marks_in (stream_of i)))) x₃.0 in
    let z = eqb-true (length i % 512) 0 (not-false (eqb (length i % 512) 0) l.1) in
    record {
      whole = omega arith;
      frames = not-false (frames_right n 0 n i) x₂.0;
      form = some_form (form_in i) m.0;
      marks = not-false (marks_right (or_else form_1 (form_in i)) (marks_in (stream_of i))) m.1;
      contents = not-false (contents_right i) x₄.0;
      room = eqb-true (length h) (size_in i) (not-false (eqb (length h) (size_in i)) x₅.0);
      consistent = not-false (own_consistent (heap_in i) (accounts_in i)) x₆.0;
    }

module _ (i h : List ℕ) (o : Octets i) (r : Right i h) where
  f : Form
  f = form_of i

  t : List ℕ
  t = stream_of i

  n : ℕ
  n = length i / 512

  L : ℕ
  L = head_length f + size_in i

  is_known : Known f
  unfolding f form_in
  is_known = form_is_known (number (take 2 (stream_of i))) (form_of i) r.form

  has_number : number (take 2 t) ≡ f.number
  unfolding f t form_in
  has_number = sym (form_has_number (number (take 2 (stream_of i))) (form_of i) r.form)

  stream_is : length t ≡ 504 * n
  unfolding t n stream_of
  stream_is = uncut_length (length i / 512) i r.whole

  stream_octets : Octets t
  unfolding t stream_of
  stream_octets = uncut_octets (length i / 512) i o

  -- the parts of line 24
  parts : (allowed (size_in i) ≡ true) × (n ≡ frames_for L) × (all_zero (drop L t) ≡ true) × (items_right f t ≡ true)
  unfolding f t n L contents_right
  parts =
      let a = r.contents in
      let b = and_right (allowed (size_in i)) _ a in
      let c = and_right (eqb n (frames_for L)) _ b in
      let d = eqb-true n (frames_for L) (and_left (eqb n (frames_for L)) _ b) in
      (and_left (allowed (size_in i)) _ a, d, and_left (all_zero (drop L t)) _ c, and_right (all_zero (drop L t)) _ c)

  fits : L ≤ length t
  unfolding frames_for
  fits =
      let a = parts.1 in
      let b = stream_is in
      omega arith

  heap_length : length (heap_in i) ≡ size_in i
  unfolding heap_in heap_of size_in
  heap_length = length_padded (length_in (stream_of i)) (drop (head_length (form_of i)) (stream_of i))

  accepts : Accepts f (heap_in i) (accounts_in i)
  unfolding f t accounts_in heap_in heap_of
  accepts =
      record {
        known = is_known;
        extent = rw heap_length parts.0;
        octets = padded_octets (length_in t) (drop (head_length f) t) (octets_drop (head_length f) t stream_octets);
        consistent = r.consistent;
        typed = typed_read f t is_known stream_octets;
        carried = carried_read f t stream_octets;
      }

  -- the stream that would be written, with zeros behind it, is the stream that was read
  written : List ℕ
  written = stream f (heap_in i) (accounts_in i)

  written_length : length written ≡ L
  unfolding written L
  written_length = stream_length f is_known (accounts_in i) accepts.typed (heap_in i) ∙ ap (λ (m : ℕ). head_length f + m) heap_length

  padded_again : padded (504 * n) written ≡ t
  unfolding written L f t size_in accounts_in heap_in
  padded_again =
      let l = written_length in
      let b = stream_is in
      let c = fits in
      let z = zeros_are (drop L t) parts.2 in
      let m : length (drop L t) ≡ 504 * n - length written = simp length-drop (omega arith) in
      padded_whole (504 * n) written (omega arith)
      ∙ ap (λ (x : List ℕ). written ++ x) (sym (rw m at z))
      ∙ stream_again f is_known t stream_octets c parts.3 has_number r.marks

  -- and so is the image
  image_again : image_of f (heap_in i) (accounts_in i) ≡ i
  unfolding image_of cut written stream_of t n
  image_again =
      let e : frames_for (length written) ≡ n = ap frames_for written_length ∙ sym parts.1 in
      rw e (sym (cut_padded n 0 n written) ∙ ap (cut_from n 0 n) padded_again ∙ cut_uncut n 0 n i o r.whole r.frames)

-- no line of the reader holds
pub accepted_right : (i h : List ℕ) → (read_image i h).refusal ≡ 0 → Right i h
accepted_right i h e = none_right i h ((read_accepted_exactly i h).0 e)

-- what the reader accepts is written: the heap and the accounts can be written in the image's form, and their image is the one that was read
pub read_written : (i h : List ℕ) → Octets i → (read_image i h).refusal ≡ 0
    → Accepts (form_of i) (heap_in i) (accounts_in i) × (image_of (form_of i) (heap_in i) (accounts_in i) ≡ i) × (length h ≡ length (heap_in i))
unfolding f
read_written i h o e =
    let r = accepted_right i h e in
    (accepts i h o r, image_again i h o r, r.room ∙ sym (heap_length i h o r))
