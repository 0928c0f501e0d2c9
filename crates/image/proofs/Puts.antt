-- The writer: what the frames answer is what writing answers, before and behind the check.
use mathlib.Core.Path.{◌≡◌, refl, ap, sym, ◌∙◌}
use mathlib.Core.List.{List, ◌∷◌, ◌++◌}
use mathlib.Core.Bool.{Bool, true, false}
use Prim.Native.Nat.{ℕ, suc, ◌+◌, ◌*◌, ◌/◌, ◌≤◌, ◌<◌}
use native.Mathlib.Omega.{arith}
use lib.ListN.{length, drop, length-append}
use lib.Dec.{ltb, eqb}
use borrow.Author.Tests.{ltb-true, ltb-false, lt-ltb, le-ltb, le-leb, lt-leb}
use Rattle.rounding.specs.Rounding.{table}
use Rattle.accounts.specs.declared.Accounts.{Accounts}
use Rattle.accounts.specs.Accounts.{unused}
use Rattle.layout.specs.Bytes.{bytes}
use Rattle.model.specs.declared.Refusal.{Refusal}
use Rattle.model.specs.Answers.{verdict_values}
use Rattle.model.specs.Refusals.{first_refusal, line_1, line_2}
use Rattle.model.specs.Consistent.{allowed}
use Rattle.lists.specs.Lists.{all}
use Rattle.model.specs.Calls.{check}
use Rattle.results.proofs.Lines.{check_refuses, check_accepts, number_some}
use Rattle.std.specs.Prelude.{Option, Err, ok_or, Result, Ok}
use Rattle.framing.specs.Frames.{frames_for, has_room, Framed, write_frames}
use Rattle.image_model.specs.declared.Form.{Form}
use Rattle.image_model.specs.declared.ImageRefusal.TheVariants.{Call, Room, NotCarried}
use Rattle.image_model.specs.Stream.{no_grant, all_permitted, carries, head_length, head_of, stream, image_of, image_length}
use Rattle.image_model.specs.Answers.{Imaged, imaged}
use Rattle.image_model.specs.Images.{line_28, put_lines, write_lines, unless_written, write_image}
use Rattle.image.specs.Parsing.{FormFits, length_for, put_image}
use Rattle.image_model.proofs.Places.{full_carries}
use Rattle.image.proofs.Heads.{head_short}
use Rattle.image.proofs.Marked.{marks_zero}

-- accounts that the form does not carry are refused
pub put_uncarried : (f : Form) (o s : List ℕ) (k : Accounts) → carries f k ≡ false → imaged o (Err NotCarried) ≡ put_image f o s k
unfolding imaged put_image put_lines line_28 unless_written first_refusal
put_uncarried f o s k c = rw c

module _ (f : Form) (fits : FormFits f) (o s : List ℕ) (k : Accounts) (carried : carries f k ≡ true) (short : length s ≤ 32768)
    (h : List ℕ) (is : h ≡ head_of f (length s) k) (long : length h ≡ head_length f) where
  abbrev count : ℕ
  count = frames_for (head_length f + length s)

  stream_is : h ++ s ≡ stream f s k
  unfolding stream
  stream_is = ap (λ (x : List ℕ). x ++ s) is

  stream_long : length (stream f s k) ≡ head_length f + length s
  stream_long = sym (ap length stream_is) ∙ length-append h s ∙ ap (λ (n : ℕ). n + length s) long

  countable : ltb count 65536 ≡ true
  unfolding frames_for
  countable =
      let e = head_short f fits in
      lt-ltb ((head_length f + length s + 503) / 504) 65536 (omega arith)

  framed : Framed → Imaged
  framed r = imaged r.image (ok_or r.answer Room)

  framed_short : length o < 512 * count → framed (write_frames o (stream f s k)) ≡ put_image f o s k
  unfolding framed write_frames has_room put_image put_lines line_28 image_length unless_written first_refusal imaged
  framed_short l = rw (carried, stream_long, countable, lt-leb (512 * count) (length o) l, lt-ltb (length o) (512 * count) l)

  framed_room : 512 * count ≤ length o → framed (write_frames o (stream f s k)) ≡ put_image f o s k
  unfolding framed write_frames has_room put_image put_lines line_28 image_of image_length unless_written first_refusal imaged
  framed_room l = rw (carried, stream_long, countable, le-leb (512 * count) (length o) l, le-ltb (length o) (512 * count) l)

  framed_put : (x : Bool) → ltb (length o) (512 * count) ≡ x → framed (write_frames o (stream f s k)) ≡ put_image f o s k
  framed_put true e = framed_short (ltb-true (length o) (512 * count) e)
  framed_put false e = framed_room (ltb-false (length o) (512 * count) e)

  pub put_by_frames : (o' : List ℕ) (a : Option ℕ) → record { image = o'; answer = a } ≡ write_frames o (h ++ s)
      → imaged o' (ok_or a Room) ≡ put_image f o s k
  unfolding framed
  put_by_frames o' a w = ap framed (w ∙ ap (write_frames o) stream_is) ∙ framed_put (ltb (length o) (512 * count)) refl

-- behind the check: what it refuses is refused, what it accepts is put
module _ (f : Form) (o s : List ℕ) (k : Accounts) (v : Result (Unit {0}) Refusal) (told : verdict_values v ≡ (check (table k.edition) s k).values) where
  pub write_refused : (r : Refusal) → v ≡ Err r → imaged o (Err (Call r)) ≡ write_image f o s k
  unfolding imaged write_image unless_written write_lines
  write_refused r e =
      let n = number_some r in
      let g : first_refusal (line_1 s ∷ line_2 (table k.edition) s k ∷ put_lines f o s k) ≡ suc n.0 =
      check_refuses (table k.edition) s k v told (put_lines f o s k) r e ∙ n.1 in
      rw (n.1, g)

  pub write_accepted : v ≡ Ok tt → put_image f o s k ≡ write_image f o s k
  unfolding put_image write_image write_lines
  write_accepted e = rw (check_accepts (table k.edition) s k v told (put_lines f o s k) e)

-- the length of an image, where a heap has that length and where none has
pub length_none : (f : Form) (n : ℕ) → allowed n ≡ false → 0 ≡ length_for f n
unfolding length_for
length_none f n a = rw a

pub length_some : (f : Form) (n at : ℕ) → allowed n ≡ true → at ≡ head_length f → 512 * ((at + n + 503) / 504) ≡ length_for f n
unfolding length_for image_length frames_for
length_some f n at a l = rw (a, l)

-- whether the form carries the accounts, test by test
module _ (f : Form) (k : Accounts) where
  pub carried_full : f.full ≡ true → true ≡ carries f k
  carried_full e = sym (full_carries f k e)

  module _ (lean : f.full ≡ false) (g : Bool) (ge : g ≡ all no_grant (drop f.quotas k.quotas)) where
    pub carried_grants : g ≡ false → false ≡ carries f k
    unfolding carries
    carried_grants e = rw (lean, sym ge ∙ e)

    module _ (granted : g ≡ true) (r : Bool) (re : r ≡ all unused (drop f.records k.holds)) where
      pub carried_records : r ≡ false → false ≡ carries f k
      unfolding carries
      carried_records e = rw (lean, sym ge ∙ granted, sym re ∙ e)

      module _ (records : r ≡ true) (p : Bool) (pe : p ≡ all all_permitted k.quotas) where
        pub carried_permissions : p ≡ false → false ≡ carries f k
        unfolding carries
        carried_permissions e = rw (lean, sym ge ∙ granted, sym re ∙ records, sym pe ∙ e)

        pub carried_marks : p ≡ true → (n : ℕ) → bytes 2 n ≡ bytes 1 k.edition ++ bytes 1 k.kind → n < 65536 → eqb n 0 ≡ carries f k
        unfolding carries
        carried_marks e n is h = marks_zero k n is h ∙ sym (rw (lean, sym ge ∙ granted, sym re ∙ records, sym pe ∙ e))
