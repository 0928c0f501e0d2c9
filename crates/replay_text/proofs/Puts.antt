-- Texts written behind each other are one text: room for both is room for each, and the two writes are the write of the whole.
use mathlib.Core.Path.{◌≡◌, refl, ap, sym, ◌∙◌}
use mathlib.Core.List.{List, [], ◌++◌}
use Prim.Native.Nat.{ℕ, ◌+◌, ◌-◌, ◌≤◌}
use native.Mathlib.Omega.{arith}
use lib.ListN.{length, length-append}
use borrow.Rule.Slice.PartMut.{put_mid}
use lib.Seq.{drop-drop}
use Rattle.layout.specs.Bytes.{overwrite}
use Rattle.layout.proofs.Overwrite.{overwrite_nil, overwrite_fits, overwrite_two, length_overwrite}
use Rattle.replay_text.specs.declared.output.Output.{Output}
use Rattle.replay_text.specs.Clauses.{Room, Put}

-- the length stays
pub put_length : (text : List ℕ) (o o' : Output) → Put text o o' → length o'.bytes.now ≡ length o.bytes.now
put_length text o o' p = ap length p.bytes ∙ length_overwrite o.written text o.bytes.now

-- nothing is written
pub put_none : (o : Output) → Put [] o o
put_none o = record { bytes = sym (overwrite_nil o.written o.bytes.now); next = omega arith; same_reference = refl }

-- room for two texts is room for the first, and then for the second
pub room_first : (a b : List ℕ) (o : Output) → Room (a ++ b) o → Room a o
room_first a b o h =
    let f = h.fits in
    record { fits = omega (arith, length-append a b) }

pub room_next : (a b : List ℕ) (o o' : Output) → Room (a ++ b) o → Put a o o' → Room b o'
room_next a b o o' h p =
    let f = h.fits in
    let n = p.next in
    record { fits = omega (arith, length-append a b, put_length a o o' p) }

-- two texts behind each other
pub put_two : (a b : List ℕ) (o o' o'' : Output) → Room (a ++ b) o → Put a o o' → Put b o' o'' → Put (a ++ b) o o''
put_two a b o o' o'' h p q =
    let f = h.fits in
    let n = p.next in
    record {
      bytes =
          q.bytes
          ∙ (λ i. overwrite (p.next i) b (p.bytes i))
          ∙ overwrite_two o.written a b o.bytes.now (omega (arith, length-append a b));
      next = omega (arith, q.next, length-append a b);
      same_reference = q.same_reference ∙ p.same_reference;
    }

-- a text in the part of an output that it fills
pub part_put : (at end : ℕ) (text s new : List ℕ) → at + length text ≤ length s → end ≡ at + length text → new ≡ text
    → put_mid at (end - at) s new ≡ overwrite at text s
part_put at end text s new f n e =
    let k : end - at ≡ length text = omega arith in
    rw (k, e, drop-drop (length text) at s) (sym (overwrite_fits at text s f))
