-- What was written is read: no line of the reader holds of an image that the writer made of consistent accounts, and it gives back the heap and
-- the accounts that were written.
use Rattle.std.specs.Prelude.{Some}
use mathlib.Core.Path.{◌≡◌, ap, ◌∙◌}
use mathlib.Core.List.{List, ◌++◌}
use mathlib.Core.Bool.{true, false, ◌&&◌}
use Prim.Native.Nat.{ℕ, ◌+◌, ◌*◌, ◌-◌, ◌/◌, ◌%◌, ◌≤◌, ◌<◌, ◌^◌}
use native.Mathlib.Omega.{arith}
use lib.ListN.{length, drop, replicate}
use lib.Dec.{leb, eqb}
use borrow.Author.Tests.{leb-true, eq-eqb, ne_eqb}
use Rattle.rounding.specs.Rounding.{table}
use Rattle.accounts.specs.declared.Accounts.{Accounts}
use Rattle.lists.specs.Lists.{is_none, or_else}
use Rattle.model.specs.Consistent.{allowed}
use Rattle.model.specs.Refusals.{◌when◌, first_refusal}
use Rattle.lists.proofs.Bools.{and_right}
use Rattle.model.proofs.Consistent.{consistent_range, range_kind, range_edition}
use Rattle.framing.specs.Frames.{frames_for, cut, stream_of, frames_right}
use Rattle.framing.proofs.Cut.{cut_right}
use Rattle.image_model.specs.Items.{all_zero}
use Rattle.image_model.specs.Stream.{form_numbered, marks_right, head_length, stream, image_of, image_length, Typed}
use Rattle.image_model.specs.Reading.{marks_in, form_in, form_of, size_in, accounts_in, heap_in, contents_right}
use Rattle.image_model.specs.Images.{line_21, line_22, line_23, line_24, line_25, line_26, shape_lines, read_lines, unless_read, read_image, Accepts}
use Rattle.image_model.specs.declared.Form.{Form}
use Rattle.image_model.proofs.Items.{are_zeros}
use Rattle.image_model.proofs.Places.{Known, known_shaped, marks_tested}
use Rattle.image_model.proofs.Solvent.{quotas_consistent}
use Rattle.image_model.proofs.Cuts.{cut_length, cut_stream}
use Rattle.image_model.proofs.Heads.{stream_length, at_end, number_read, marks_read, length_read, accounts_read, heap_read, items_tested}

-- an allowed length is at most 32,768
pub allowed_most : (H : ℕ) → allowed H ≡ true → H ≤ 32768
unfolding allowed
allowed_most H e = leb-true H 32768 (and_right (leb 64 H) (leb H 32768) (and_right (eqb (H % 8) 0) (leb 64 H && leb H 32768) e))

-- an image has as many bytes as its length says
pub image_has_length : (f : Form) (s : List ℕ) (k : Accounts) → Known f → Typed k → length (image_of f s k) ≡ image_length f (length s)
unfolding image_of image_length
image_has_length f s k e y = cut_length (stream f s k) ∙ ap (λ (n : ℕ). 512 * frames_for n) (stream_length f e k y s)

module _ (f : Form) (s : List ℕ) (k : Accounts) (a : Accepts f s k) where
  L : ℕ
  L = head_length f + length s

  n : ℕ
  n = frames_for L

  -- the image and its stream
  i : List ℕ
  i = image_of f s k

  zeros : List ℕ
  zeros = replicate (504 * n - L) 0

  bounds : (1 ≤ n) × (n < 65536)
  unfolding n L frames_for
  bounds =
      let w = known_shaped f a.known in
      let m = allowed_most (length s) a.extent in
      (omega arith, omega arith)

  whole : stream_of i ≡ stream f s k ++ zeros
  unfolding i zeros n L image_of
  whole = cut_stream (stream f s k) ∙ ap (λ (m : ℕ). stream f s k ++ replicate (504 * frames_for m - m) 0) (stream_length f a.known k a.typed s)

  size : length i ≡ 512 * n
  unfolding i n L image_length
  size = image_has_length f s k a.known a.typed

  count : length i / 512 ≡ n
  count = let l = size in omega arith

  short : length s < 2 ^ 32
  short = let m = allowed_most (length s) a.extent in omega arith

  -- what the image says
  form_found : form_in i ≡ Some f
  unfolding form_in
  form_found = ap form_numbered (number_read f a.known s k a.typed (stream_of i) zeros whole) ∙ a.known

  form_is : form_of i ≡ f
  unfolding form_of or_else
  form_is = rw form_found

  size_is : size_in i ≡ length s
  unfolding size_in
  size_is = length_read f a.known s k a.typed (stream_of i) zeros whole short

  accounts_is : accounts_in i ≡ k
  unfolding accounts_in
  accounts_is = rw form_is (accounts_read f a.known s k a.typed (stream_of i) zeros whole a.carried (quotas_consistent s k a.consistent))

  heap_is : heap_in i ≡ s
  unfolding heap_in
  heap_is = rw form_is (heap_read f a.known s k a.typed (stream_of i) zeros whole short)

  padding : all_zero (drop (head_length f + length s) (stream_of i)) ≡ true
  unfolding zeros
  padding = rw (at_end f a.known s k a.typed (stream_of i) zeros whole) (are_zeros (504 * n - L))

  contents_is : contents_right i ≡ true
  unfolding contents_right n L
  contents_is =
      rw (form_is, size_is, a.extent, eq-eqb (length i / 512) (frames_for (head_length f + length s)) count, padding)
      (items_tested f a.known s k a.typed (stream_of i) zeros whole a.carried (quotas_consistent s k a.consistent))

  frames_are : frames_right n 0 n i ≡ true
  unfolding i image_of cut n L
  frames_are =
      let b = bounds in
      let l = stream_length f a.known k a.typed s in
      rw l (cut_right (frames_for (head_length f + length s)) 0 (frames_for (head_length f + length s)) (stream f s k) (omega arith) (omega arith))

  -- no line holds
  not_21 : line_21 i ≡ (21 when false)
  unfolding line_21
  not_21 =
      let l = size in
      let b = bounds in
      let z : eqb (length i) 0 ≡ false = ne_eqb (length i) 0 (λ x. omega arith) in
      let m : eqb (length i % 512) 0 ≡ true = eq-eqb (length i % 512) 0 (omega arith) in
      rw (z, m)

  not_22 : line_22 i ≡ (22 when false)
  unfolding line_22
  not_22 = rw (count, frames_are)

  not_23 : line_23 i ≡ (23 when false)
  unfolding line_23 is_none
  not_23 =
      let r = consistent_range (table k.edition) s k a.consistent in
      let m : marks_right f (marks_in (stream_of i)) ≡ true = rw (marks_read f a.known s k a.typed (stream_of i) zeros whole)
      (marks_tested f k (range_kind k r) (range_edition k r)) in
      rw (form_found, form_is, m)

  not_24 : line_24 i ≡ (24 when false)
  unfolding line_24
  not_24 = rw contents_is

  not_25 : (h : List ℕ) → length h ≡ length s → line_25 i h ≡ (25 when false)
  unfolding line_25
  not_25 h l = rw (size_is, eq-eqb (length h) (length s) l)

  not_26 : line_26 i ≡ (26 when false)
  unfolding line_26
  not_26 = rw (heap_is, accounts_is, a.consistent)

  none_holds : (h : List ℕ) → length h ≡ length s → first_refusal (read_lines i h) ≡ 0
  unfolding read_lines shape_lines first_refusal
  none_holds h l = rw (not_21, not_22, not_23, not_24, not_25 h l, not_26)

  reads : (h : List ℕ) → length h ≡ length s → read_image i h ≡ record { heap = s; accounts = k; refusal = 0 }
  unfolding read_image unless_read
  reads h l = rw (none_holds h l) (λ j. record { heap = heap_is j; accounts = accounts_is j; refusal = 0 })

-- what the writer writes is read, into any heap of the same length, and gives back the heap and the accounts written
pub written_read : (f : Form) (s : List ℕ) (k : Accounts) → Accepts f s k → (h : List ℕ) → length h ≡ length s
    → read_image (image_of f s k) h ≡ record { heap = s; accounts = k; refusal = 0 }
unfolding i
written_read f s k a h l = reads f s k a h l

-- what an image says is what it was made of
pub image_says : (f : Form) (s : List ℕ) (k : Accounts) → Accepts f s k
    → (form_of (image_of f s k) ≡ f) × (heap_in (image_of f s k) ≡ s) × (accounts_in (image_of f s k) ≡ k)
unfolding i
image_says f s k a = (form_is f s k a, heap_is f s k a, accounts_is f s k a)
