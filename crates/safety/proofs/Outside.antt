-- In blank blocks a byte that is in no header and in no live object is a byte of a block that is not live, and so it is zero.
use Prim.Native.Nat.{ℕ, ◌+◌, ◌-◌, ◌≤◌, ◌<◌}
use native.Mathlib.Omega.{arith}
use mathlib.Core.Path.{◌≡◌, refl, ap, sym, ◌∙◌}
use mathlib.Core.List.{List, [], ◌∷◌, ◌++◌, Memᴰ}
use mathlib.Core.Bool.{Bool, true, false, ◌&&◌, true≢false}
use lib.ListN.{length, get_or, get_or-append}
use lib.Seq.{get_or-drop, get_or-append-add}
use lib.Dec.{leb, ltb}
use borrow.Author.Tests.{ltb-true, ltb-false, le-leb, lt-ltb}
use Rattle.layout.specs.Blocks.{Block, size, units, live, header_of, header_bytes, render_from, render}
use Rattle.layout.proofs.Fields.{header_length}
use Rattle.layout.proofs.Render.{written_behind}
use Rattle.lists.specs.Lists.{all, any}
use Rattle.model.specs.Objects.{blocks_of, object, objects_from, objects, objects_of}
use Rattle.model.specs.Calls.{listing_from}
use Rattle.model.specs.declared.Handle.{Handle}
use Rattle.model.specs.declared.ListedBlock.{ListedBlock}
use Rattle.lists.proofs.Bools.{and_left, and_right, and_both, or_left, or_neither}
use Rattle.model.proofs.Blocks.{objects_live, objects_free}
use Rattle.ledger.specs.History.{in_object}
use Rattle.safety.specs.Left.{clean_block, is_zero, OffHeaders}
use Rattle.safety.proofs.Clean.{Clean, zero_at, clean_passes}

-- a place is in no header of these blocks, the first of which starts at a place
abbrev Off : ℕ → ℕ → List Block → Type 0
Off i at bs = (x : ListedBlock) → Memᴰ x (listing_from at bs) → x.offset ≤ i → i < x.offset + 8 → ⊥

module _ (at back : ℕ) (b : Block) (bs : List Block) (i : ℕ) where
  in_header : i < 8 → Off (at + i) at (b ∷ bs) → ⊥
  unfolding listing_from
  in_header l f = f (record { offset = at; size = size b; serial = b.serial }) (Memᴰ.head refl) (omega arith) (omega arith)

  in_body : 8 ≤ i → i < size b → live b ≡ true → in_object (at + i) (objects_from at (b ∷ bs)) ≡ true
  unfolding in_object any
  in_body l u e =
      rw (objects_live at b bs e)
      (or_left _ _ (and_both _ _ (le-leb (at + 8) (at + i) (omega arith)) (lt-ltb (at + i) (at + 8 + length b.body) (omega arith))))

  body_zero : 8 ≤ i → i < size b → all is_zero b.body ≡ true → get_or (render_from back (b ∷ bs)) i 0 ≡ 0
  unfolding render_from
  body_zero l u z =
      let h = header_bytes (header_of back b) in
      let e : length h ≡ 8 = header_length (header_of back b) in
      let j : i ≡ length h + (i - 8) = omega arith in
      ap (λ (x : ℕ). get_or (h ++ (b.body ++ render_from (units b) bs)) x 0) j
      ∙ get_or-append-add h (b.body ++ render_from (units b) bs) (i - 8) 0
      ∙ get_or-append b.body (render_from (units b) bs) 0 (i - 8) (omega arith)
      ∙ zero_at b.body (i - 8) z

  behind : size b ≤ i → get_or (render_from back (b ∷ bs)) i 0 ≡ get_or (render_from (units b) bs) (i - size b) 0
  unfolding render_from
  behind g =
      let j : i ≡ size b + (i - size b) = omega arith in
      ap (λ (x : ℕ). get_or (render_from back (b ∷ bs)) x 0) j
      ∙ sym (get_or-drop (size b) (render_from back (b ∷ bs)) (i - size b) 0)
      ∙ ap (λ (l : List ℕ). get_or l (i - size b) 0) (written_behind back b (render_from (units b) bs))

-- what is outside all objects and headers is outside those of the others
abbrev in_one : ℕ → Handle → Bool
in_one i o = leb o.base i && ltb i (o.base + o.length)

later_outside : (at : ℕ) (b : Block) (bs : List Block) (i : ℕ) → in_object i (objects_from at (b ∷ bs)) ≡ false
    → in_object i (objects_from (at + size b) bs) ≡ false
unfolding in_object any
later_outside at b bs i e = go (live b) refl
  where
    go : (t : Bool) → live b ≡ t → in_object i (objects_from (at + size b) bs) ≡ false
    go true t = (or_neither (in_one i (object at b)) (any (in_one i) (objects_from (at + size b) bs)) (rw (objects_live at b bs t) at e)).1
    go false t = rw (objects_free at b bs t) at e

later_off : (i at : ℕ) (b : Block) (bs : List Block) → Off i at (b ∷ bs) → Off i (at + size b) bs
unfolding listing_from
later_off i at b bs f x m = f x (Memᴰ.tail m)

outside_zero : (at back : ℕ) (bs : List Block) → Clean is_zero bs → (i : ℕ) → in_object (at + i) (objects_from at bs) ≡ false → Off (at + i) at bs
    → get_or (render_from back bs) i 0 ≡ 0
unfolding render_from all
outside_zero at back [] z i o f = refl
outside_zero at back (b ∷ bs) z i o f =
    go (ltb i 8) (ltb i (size b)) (live b) refl refl refl (outside_zero (at + size b) (units b) bs (and_right (clean_block is_zero b) _ z) (i - size b))
  where
    go : (x y t : Bool) → ltb i 8 ≡ x → ltb i (size b) ≡ y → live b ≡ t
        → (in_object (at + size b + (i - size b)) (objects_from (at + size b) bs) ≡ false → Off (at + size b + (i - size b)) (at + size b) bs
        → get_or (render_from (units b) bs) (i - size b) 0 ≡ 0)
        → get_or (render_from back (b ∷ bs)) i 0 ≡ 0
    go true y t x e l ih = absurd (in_header at back b bs i (ltb-true i 8 x) f)
    go false true true x e l ih = absurd (true≢false (sym (in_body at back b bs i (ltb-false i 8 x) (ltb-true i (size b) e) l) ∙ o))
    go false true false x e l ih =
        body_zero at back b bs i (ltb-false i 8 x) (ltb-true i (size b) e) (clean_passes is_zero b l (and_left (clean_block is_zero b) _ z))
    go false false t x e l ih =
        let g = ltb-false i (size b) e in
        let j : at + size b + (i - size b) ≡ at + i = omega arith in
        behind at back b bs i g ∙ ih (rw j (later_outside at b bs (at + i) o)) (rw j (later_off (at + i) at b bs f))

-- so it is of a heap
pub byte_zero : (s : List ℕ) → render (blocks_of s) ≡ s → Clean is_zero (blocks_of s) → (i : ℕ) → in_object i (objects_of s) ≡ false → OffHeaders i s
    → get_or s i 0 ≡ 0
unfolding objects_of objects render
byte_zero s again z i o f =
    let j : 0 + i ≡ i = omega arith in
    sym (ap (λ (x : List ℕ). get_or x i 0) again) ∙ outside_zero 0 0 (blocks_of s) z i (rw j o) (rw j f)
