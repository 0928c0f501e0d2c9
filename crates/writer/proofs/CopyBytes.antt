-- Copying into an object, on bytes: the block with the new serial is the only one that changes, and only the first bytes of its body, so its
-- bytes are the old ones with the copied bytes over them. Where what is copied is the body of another block, the two bodies lie in different
-- blocks and do not meet, so copying inside the heap does the same.
-- A serial that is a live block's is no other block's where live serials differ, because no other block has the serial of a live one.
use mathlib.Core.Path.{◌≡◌, refl, ap, sym, ◌∙◌}
use Prim.Native.Nat.{ℕ, ◌+◌, ◌≤◌, min}
use native.Mathlib.Nat.{zero-add}
use native.Mathlib.Omega.{arith}
use mathlib.Core.List.{List, [], ◌∷◌, ◌++◌, append_assoc, Memᴰ}
use mathlib.Core.Bool.{Bool, true, false, not, ◌&&◌, ◌||◌, true≢false}
use mathlib.Core.Logic.{◌⊎◌, inl, inr}
use lib.ListN.{length, take, drop, length-append, length-take, length-drop, take-append-drop}
use lib.Seq.{take_all, take-take}
use lib.Dec.{leb, eqb}
use borrow.Author.Tests.{le-leb, leb-true, leb-false, eqb-false, eq-eqb, ne_eqb, not-true}
use Rattle.layout.specs.Bytes.{overwrite, copy_part}
use Rattle.layout.specs.Blocks.{Block, size, units, QUARANTINED, live, total_size, back_after, header_of, header_bytes, render_from, render}
use Rattle.layout.proofs.Overwrite.{overwrite_at}
use Rattle.layout.proofs.Fields.{header_length}
use Rattle.layout.proofs.Parts.{copy_all}
use Rattle.layout.proofs.Render.{length_render, body_stands}
use Rattle.lists.specs.Lists.{any, total}
use Rattle.model.specs.Objects.{objects_from, objects}
use Rattle.model.specs.Consistent.{has_serial, serials_differ}
use Rattle.model.specs.Space.{body_of, copy_into}
use Rattle.model.specs.declared.Handle.{Handle}
use Rattle.lists.proofs.Bools.{and_left, and_right, or_neither, or_left, or_right}
use Rattle.model.proofs.Blocks.{total_is, objects_live, objects_free, Placed, placed}
use Rattle.lists.proofs.Lists.{total_append}
use Rattle.writer.proofs.FreeBytes.{render_at, place_length}

-- a block with this serial
abbrev pub of_serial : ℕ → Block → Bool
of_serial serial b = eqb b.serial serial

-- a block with these bytes at the beginning of its body, as many as it has room for
abbrev pub filled : List ℕ → Block → Block
filled new b = record { serial = b.serial; body = take (length b.body) new ++ drop (length new) b.body }

-- the serial of a live block
abbrev living : ℕ → Bool
living serial = not (eqb serial 0) && not (eqb serial QUARANTINED)

-- it is that of an object exactly if it is that of a block
serial_any : (serial at : ℕ) (bs : List Block) → living serial ≡ true → any (has_serial serial) (objects_from at bs) ≡ any (of_serial serial) bs
unfolding any objects_from
serial_any serial at [] n = refl
serial_any serial at (b ∷ bs) n = go (live b) refl (serial_any serial (at + size b) bs n)
  where
    go : (x : Bool) → live b ≡ x → any (has_serial serial) (objects_from (at + size b) bs) ≡ any (of_serial serial) bs
        → any (has_serial serial) (objects_from at (b ∷ bs)) ≡ any (of_serial serial) (b ∷ bs)
    go true e ih = rw (e, ih)
    go false e ih =
        let other : of_serial serial b ≡ false = ne_eqb b.serial serial (λ k. true≢false (sym n ∙ sym (ap living k) ∙ e)) in
        rw (e, other) ih

-- a test that holds of no block does not hold of one in the middle
none_there : (p : Block → Bool) (xs : List Block) (b : Block) (ys : List Block) → any p (xs ++ (b ∷ ys)) ≡ false → p b ≡ false
unfolding any
none_there p [] b ys e = (or_neither (p b) (any p ys) e).0
none_there p (x ∷ xs) b ys e = none_there p xs b ys (or_neither (p x) (any p (xs ++ (b ∷ ys))) e).1

-- where live serials differ, a live block's serial is no other block's
pub others_differ : (at : ℕ) (xs : List Block) (b : Block) (ys : List Block) → live b ≡ true → serials_differ (objects_from at (xs ++ (b ∷ ys)))
    ≡ true
    → (any (of_serial b.serial) xs ≡ false) × (any (of_serial b.serial) ys ≡ false)
unfolding any serials_differ
others_differ at [] b ys eb d =
    let os = objects_from (at + size b) ys in
    let n = not-true _ (and_left (not (any (has_serial b.serial) os)) (serials_differ os) (rw (objects_live at b ys eb) at d)) in
    (refl, sym (serial_any b.serial (at + size b) ys eb) ∙ n)
others_differ at (x ∷ xs) b ys eb d = go (live x) refl (others_differ (at + size x) xs b ys eb)
  where
    bs : List Block
    bs = xs ++ (b ∷ ys)

    os : List Handle
    os = objects_from (at + size x) bs

    both : of_serial b.serial x ≡ false → (any (of_serial b.serial) xs ≡ false) × (any (of_serial b.serial) ys ≡ false)
        → (any (of_serial b.serial) (x ∷ xs) ≡ false) × (any (of_serial b.serial) ys ≡ false)
    both e r = (rw (e, r.0), r.1)

    go : (t : Bool) → live x ≡ t → (serials_differ os ≡ true → (any (of_serial b.serial) xs ≡ false) × (any (of_serial b.serial) ys ≡ false))
        → (any (of_serial b.serial) (x ∷ xs) ≡ false) × (any (of_serial b.serial) ys ≡ false)
    go true e ih =
        let d' = rw (objects_live at x bs e) at d in
        let n = not-true _ (and_left (not (any (has_serial x.serial) os)) (serials_differ os) d') in
        let m = none_there (of_serial x.serial) xs b ys (sym (serial_any x.serial (at + size x) bs e) ∙ n) in
        both (ne_eqb x.serial b.serial (λ k. eqb-false b.serial x.serial m (sym k)))
        (ih (and_right (not (any (has_serial x.serial) os)) (serials_differ os) d'))
    go false e ih =
        both (ne_eqb x.serial b.serial (λ k. true≢false (sym eb ∙ sym (ap living k) ∙ e))) (ih (rw (objects_free at x bs e) at d))

-- the body of the first block with a serial
pub body_found : (ws : List Block) (c : Block) (zs : List Block) → any (of_serial c.serial) ws ≡ false → body_of c.serial (ws ++ (c ∷ zs))
    ≡ c.body
unfolding body_of any
body_found [] c zs e = rw (eq-eqb c.serial c.serial refl)
body_found (w ∷ ws) c zs e =
    let n = or_neither (of_serial c.serial w) (any (of_serial c.serial) ws) e in
    rw n.0 (body_found ws c zs n.1)

module _ (serial : ℕ) (new : List ℕ) where
  -- copying leaves blocks of other serials
  pub copy_others : (bs : List Block) → any (of_serial serial) bs ≡ false → copy_into serial new bs ≡ bs
  unfolding copy_into any
  copy_others [] e = refl
  copy_others (b ∷ bs) e =
      let n = or_neither (of_serial serial b) (any (of_serial serial) bs) e in
      rw (n.0, copy_others bs n.1)

-- copying changes the one block with the serial
pub copy_one : (new : List ℕ) (xs : List Block) (b : Block) (ys : List Block) → any (of_serial b.serial) xs ≡ false
    → any (of_serial b.serial) ys ≡ false
    → copy_into b.serial new (xs ++ (b ∷ ys)) ≡ xs ++ (filled new b ∷ ys)
unfolding copy_into any
copy_one new [] b ys ex ey = rw (eq-eqb b.serial b.serial refl, copy_others b.serial new ys ey)
copy_one new (x ∷ xs) b ys ex ey =
    let n = or_neither (of_serial b.serial x) (any (of_serial b.serial) xs) ex in
    rw (n.0, copy_one new xs b ys n.1 ey)

-- bytes at the beginning of a body are bytes over others
pub fill_writes : (new : List ℕ) (xs : List Block) (b : Block) (ys : List Block)
    → render (xs ++ (filled new b ∷ ys)) ≡ overwrite (total size xs + 8) (take (length b.body) new) (render (xs ++ (b ∷ ys)))
fill_writes new xs b ys =
    let u = back_after 0 xs in
    let n = length b.body in
    let g = render_from 0 xs ++ header_bytes (header_of u b) in
    let r = render_from (units b) ys in
    let lg : length g ≡ total size xs + 8 = simp length-append (omega (arith, place_length xs, header_length (header_of u b))) in
    let lo : length (take n new) ≡ length (take (length new) b.body) = simp length-take (omega arith) in
    let lf : length (take n new ++ drop (length new) b.body) ≡ n = simp (length-append, length-take, length-drop) (omega arith) in
    let o = overwrite_at g (take (length new) b.body) (drop (length new) b.body ++ r) (take n new) (total size xs + 8) lg lo in
    let cut : b.body ++ r ≡ take (length new) b.body ++ (drop (length new) b.body ++ r) =
    ap (λ (l : List ℕ). l ++ r) (sym (take-append-drop (length new) b.body))
    ∙ append_assoc (take (length new) b.body) (drop (length new) b.body) r in
    rw (render_at xs (filled new b) ys, lf, render_at xs b ys, cut) (simp append_assoc (sym (simp append_assoc at o)))

-- copying into the block with the serial
pub copy_writes : (new : List ℕ) (xs : List Block) (b : Block) (ys : List Block) → any (of_serial b.serial) xs ≡ false
    → any (of_serial b.serial) ys ≡ false
    → render (copy_into b.serial new (xs ++ (b ∷ ys))) ≡ overwrite (total size xs + 8) (take (length b.body) new) (render (xs ++ (b ∷ ys)))
copy_writes new xs b ys ex ey = rw (copy_one new xs b ys ex ey) (fill_writes new xs b ys)

-- two blocks of different serials lie apart
pub blocks_apart : (xs : List Block) (b : Block) (ys ws : List Block) (c : Block) (zs : List Block) → xs ++ (b ∷ ys) ≡ ws ++ (c ∷ zs)
    → (b.serial ≡ c.serial → ⊥)
    → (total size xs + size b ≤ total size ws) ⊎ (total size ws + size c ≤ total size xs)
unfolding total
blocks_apart [] b ys [] c zs e d = let k : b ≡ c = cc in absurd (d (ap (λ (x : Block). x.serial) k))
blocks_apart [] b ys (w ∷ ws) c zs e d = let k : b ≡ w = cc in inl (rw k (omega arith))
blocks_apart (x ∷ xs) b ys [] c zs e d = let k : x ≡ c = cc in inr (rw k (omega arith))
blocks_apart (x ∷ xs) b ys (w ∷ ws) c zs e d = go (blocks_apart xs b ys ws c zs (cc) d)
  where
    go : (total size xs + size b ≤ total size ws) ⊎ (total size ws + size c ≤ total size xs)
        → (size x + total size xs + size b ≤ size w + total size ws) ⊎ (size w + total size ws + size c ≤ size x + total size xs)
    go (inl h) = let k : x ≡ w = cc in inl (rw k (omega arith))
    go (inr h) = let k : x ≡ w = cc in inr (rw k (omega arith))

-- as many bytes as there are, of so many at most
take_min : (n : ℕ) (l : List ℕ) → take (min n (length l)) l ≡ take n l
take_min n l = go (leb n (length l)) refl
  where
    go : (x : Bool) → leb n (length l) ≡ x → take (min n (length l)) l ≡ take n l
    go true e = let h = leb-true n (length l) e in let k : min n (length l) ≡ n = omega arith in rw k
    go false e =
        let h = leb-false n (length l) e in
        take_all (min n (length l)) l (omega arith) ∙ sym (take_all n l (omega arith))

-- two blocks b and c of different serials among the blocks bs
module _ (bs xs : List Block) (b : Block) (ys ws : List Block) (c : Block) (zs : List Block) (to : bs ≡ xs ++ (b ∷ ys)) (from : bs ≡ ws ++ (c ∷ zs))
    (differ : b.serial ≡ c.serial → ⊥) where
  -- as many bytes as both bodies have lie apart
  bodies_apart : (n : ℕ) → n ≤ length b.body → n ≤ length c.body
      → (leb (total size ws + 8 + n) (total size xs + 8) || leb (total size xs + 8 + n) (total size ws + 8)) ≡ true
  bodies_apart n hb hc = go (blocks_apart xs b ys ws c zs (sym to ∙ from) differ)
    where
      go : (total size xs + size b ≤ total size ws) ⊎ (total size ws + size c ≤ total size xs)
          → (leb (total size ws + 8 + n) (total size xs + 8) || leb (total size xs + 8 + n) (total size ws + 8)) ≡ true
      go (inl h) = or_right (leb (total size ws + 8 + n) (total size xs + 8)) _ (le-leb (total size xs + 8 + n) (total size ws + 8) (omega arith))
      go (inr h) = or_left (leb (total size ws + 8 + n) (total size xs + 8)) _ (le-leb (total size ws + 8 + n) (total size xs + 8) (omega arith))

  -- the first bytes of c's body stand at its place
  body_part : (n : ℕ) → take (min n (length c.body)) (drop (total size ws + 8) (render bs)) ≡ take n c.body
  unfolding render
  body_part n =
      let s = render_from 0 (ws ++ (c ∷ zs)) in
      let stands = rw (total_is ws) at (body_stands 0 ws c zs) in
      rw (from, ← take-take (min n (length c.body)) (length c.body) (drop (total size ws + 8) s) (omega arith), stands) (take_min n c.body)

  -- c's body lies in the heap
  body_fits : total size ws + size c ≤ length (render bs)
  unfolding render total
  body_fits = rw (length_render 0 bs, total_is bs, from) (omega (arith, total_append size ws (c ∷ zs)))

  -- bytes of c's body over those of b's are a copy inside the heap
  pub copy_inside : overwrite (total size xs + 8) (take (length b.body) c.body) (render bs)
      ≡ copy_part (total size ws + 8) (total size xs + 8) (min (length b.body) (length c.body)) (render bs)
  copy_inside =
      let n = min (length b.body) (length c.body) in
      let new = overwrite (total size xs + 8) (take (length b.body) c.body) (render bs) in
      copy_all (total size ws + 8) (total size xs + 8) n (render bs) (bodies_apart n (omega arith) (omega arith)) (omega (arith, body_fits)) new
      (rw (body_part (length b.body)))

  -- so reallocate's copy, from the block c to the block b, is a copy inside the heap
  pub copied_writes : any (of_serial b.serial) xs ≡ false → any (of_serial b.serial) ys ≡ false → any (of_serial c.serial) ws ≡ false
      → render (copy_into b.serial (body_of c.serial bs) bs)
      ≡ copy_part (total size ws + 8) (total size xs + 8) (min (length b.body) (length c.body)) (render bs)
  copied_writes ex ey ew =
      let body : body_of c.serial bs ≡ c.body = rw from (body_found ws c zs ew) in
      let old : render (copy_into b.serial c.body bs) ≡ overwrite (total size xs + 8) (take (length b.body) c.body) (render bs) =
      rw to (copy_writes c.body xs b ys ex ey) in
      rw body (old ∙ copy_inside)

-- so the copy from one object to another is a copy of as many bytes as the shorter has, from base to base
module _ (bs : List Block) (differ : serials_differ (objects bs) ≡ true) (old new : Handle) (apart : new.serial ≡ old.serial → ⊥) where
  copied_placed : Placed 0 old bs → Placed 0 new bs
      → render (copy_into new.serial (body_of old.serial bs) bs)
      ≡ copy_part old.base new.base (min new.length old.length) (render bs)
  unfolding objects
  copied_placed c b =
      let x = others_differ 0 b.front b.block b.back b.alive (rw b.split at differ) in
      let y = others_differ 0 c.front c.block c.back c.alive (rw c.split at differ) in
      let ne : b.block.serial ≡ c.block.serial → ⊥ = λ e. apart (ap (λ (o : Handle). o.serial) b.place ∙ e
      ∙ sym (ap (λ (o : Handle). o.serial) c.place)) in
      rw (b.place, c.place, zero-add (total_size b.front), zero-add (total_size c.front), total_is b.front, total_is c.front)
      (copied_writes bs b.front b.block b.back c.front c.block c.back b.split c.split ne x.0 x.1 y.0)

  pub copied_bytes : Memᴰ old (objects bs) → Memᴰ new (objects bs)
      → render (copy_into new.serial (body_of old.serial bs) bs)
      ≡ copy_part old.base new.base (min new.length old.length) (render bs)
  unfolding objects
  copied_bytes o n = copied_placed (placed 0 bs old o) (placed 0 bs new n)
