-- Carving, on bytes: the bytes of the blocks with the new object are those of the old blocks after five writes, and no other byte changes.
-- The free block that is cut is a header and its body. Cut at the two ends of the new object with its header, its bytes are what is left in
-- front, eight bytes for the header, n for the object, and what is left behind; each write replaces the bytes of one of these parts by as many.
-- The first write leaves the back size and the serial of the header as they were, since what is left in front stands where the free block stood.
use mathlib.Core.Path.{◌≡◌, refl, ap, sym, ◌∙◌}
use Prim.Native.Nat.{ℕ, zero, suc, ◌+◌, ◌-◌, ◌/◌, ◌%◌, ◌≤◌, ◌<◌, min}
use native.Mathlib.Nat.{zero-add}
use native.Mathlib.Omega.{arith}
use mathlib.Core.List.{List, [], ◌∷◌, ◌++◌, append_assoc, append-nil}
use mathlib.Core.Bool.{Bool, false}
use lib.ListN.{length, take, drop, replicate, length-append, length-replicate, length-take, length-drop, take-append-drop}
use lib.Seq.{drop-drop, take-append-add}
use lib.Dec.{ltb, eqb}
use borrow.Author.Tests.{lt-ltb, le-ltb, eqb-true, not-false}
use Rattle.layout.specs.Bytes.{bytes, overwrite, zero_part, write_number}
use Rattle.layout.specs.Blocks.{Block, size, units, occupied, total_size, back_after, header_of, header_bytes, write_header, render_from, render}
use Rattle.layout.proofs.Numbers.{bytes_length}
use Rattle.layout.proofs.Overwrite.{overwrite_at}
use Rattle.layout.proofs.Fields.{header_length, header_behind}
use Rattle.layout.proofs.Render.{length_render, render_append, render_cons}
use Rattle.lists.specs.Lists.{total}
use Rattle.model.specs.Space.{left_over, cut_block}
use Rattle.model.proofs.Touched.{within, carve_touches}
use Rattle.writer.specs.Writes.{write_rest, units_after, write_object, write_next, carve_bytes}
use Rattle.lists.proofs.Bools.{or_neither}
use Rattle.model.proofs.Blocks.{Whole, total_is}
use Rattle.model.proofs.Same.{Same, within_moved, same_refl, same_then, same_wider, same_append, same_header, same_number, same_zero, same_when}
use Rattle.model.proofs.Same.{header_sizes}
use Rattle.model.proofs.Carve.{Carved, new_block, front_rest, back_rest, front_size, back_size, place_whole, block_whole}

-- what is left over, m bytes with the header: how long it is, the units of the last block with it, and that its header is written
left_length : (m u : ℕ) (body : List ℕ) → (0 < m → m ≡ 8 + length body) → length (render_from u (left_over m body)) ≡ m
unfolding left_over render_from total_size
left_length zero u body sized = refl
left_length (suc m) u body sized = omega (arith, length_render u (record { serial = 0; body = body } ∷ []), sized (omega arith))

left_units : (m u : ℕ) (body : List ℕ) → (0 < m → m ≡ 8 + length body) → back_after u (left_over m body) ≡ units_after u m
unfolding left_over back_after units_after
left_units zero u body sized = refl
left_units (suc m) u body sized = rw (lt-ltb 0 (suc m) (omega arith)) (ap (λ (k : ℕ). k / 8) (sym (sized (omega arith))))

rest_written : (p m u : ℕ) (body g w r : List ℕ) → length g ≡ p → length w ≡ m → (0 < m → m ≡ 8 + length body) → (0 < m → drop 8 w ≡ body)
    → write_rest p m u (g ++ (w ++ r)) ≡ g ++ (render_from u (left_over m body) ++ r)
unfolding write_rest write_header left_over render_from
rest_written p zero u body g [] r e l sized d = refl
rest_written p zero u body g (x ∷ w) r e l sized d = absurd (omega arith)
rest_written p (suc m) u body g w r e l sized d =
    let q : suc m ≡ 8 + length body = sized (omega arith) in
    let h = header_bytes (record { size = suc m / 8; back = u; serial = 0 }) in
    let k : length h ≡ length (take 8 w) = header_length (record { size = suc m / 8; back = u; serial = 0 }) ∙ sym (simp length-take (omega arith)) in
    let c : w ++ r ≡ take 8 w ++ (body ++ r) =
    ap (λ (l : List ℕ). l ++ r) (sym (rw (d (omega arith)) at (take-append-drop 8 w))) ∙ append_assoc (take 8 w) body r in
    let o = ap (λ (l : List ℕ). overwrite p h (g ++ l)) c ∙ overwrite_at g (take 8 w) (body ++ r) h p e k in
    rw (lt-ltb 0 (suc m) (omega arith), append-nil, append_assoc, ← q) o

-- bytes that become zero, and an object's header in front of them
pub zero_written : (base n : ℕ) (g y r : List ℕ) → length g ≡ base → length y ≡ n → zero_part base (base + n) (g ++ (y ++ r)) ≡ g
    ++ (replicate n 0 ++ r)
unfolding zero_part
zero_written base n g y r e l =
    let k : base + n - base ≡ n = omega arith in
    rw k (overwrite_at g y r (replicate n 0) base e (length-replicate n 0 ∙ sym l))

pub object_written : (base n u serial : ℕ) (g x y r : List ℕ) → length g + 8 ≡ base → length x ≡ 8 → length y ≡ n
    → write_object base n u serial (g ++ (x ++ (y ++ r))) ≡ g ++ (header_bytes (record { size = (n + 8) / 8; back = u; serial = serial })
    ++ (replicate n 0 ++ r))
unfolding write_object write_header
object_written base n u serial g x y r e lx ly =
    let h = header_bytes (record { size = (n + 8) / 8; back = u; serial = serial }) in
    let lh : length h ≡ length x = header_length (record { size = (n + 8) / 8; back = u; serial = serial }) ∙ sym lx in
    let z = zero_written base n (g ++ x) y r (simp length-append (omega arith)) ly in
    ap (overwrite (base - 8) h) (simp append_assoc at z)
    ∙ overwrite_at g x (replicate n 0 ++ r) h (base - 8) (omega arith) lh

-- the back size of the first of some blocks
pub next_written : (at u v : ℕ) (g : List ℕ) (bs : List Block) → length g ≡ at → write_next at v (g ++ render_from u bs) ≡ g ++ render_from v bs
unfolding write_next write_number render_from header_bytes
next_written at u v g [] e = rw (append-nil, e, le-ltb at at (omega arith))
next_written at u v g (b ∷ bs) e =
    let s = bytes 2 (units b) in
    let r = bytes 4 b.serial ++ (b.body ++ render_from (units b) bs) in
    let l : length (g ++ s) ≡ at + 2 = simp length-append (omega (arith, bytes_length 2 (units b))) in
    let k : at < length (g ++ render_from u (b ∷ bs)) = simp length-append (omega (arith, bytes_length 2 (units b))) in
    let o = overwrite_at (g ++ s) (bytes 2 u) r (bytes 2 v) (at + 2) l (bytes_length 2 v ∙ sym (bytes_length 2 u)) in
    rw (lt-ltb at (length (g ++ render_from u (b ∷ bs))) k) (simp append_assoc (simp append_assoc at o))

-- bytes in four parts
four_parts : (c : List ℕ) (i j k : ℕ) → c ≡ take i c ++ (take j (drop i c) ++ (take k (drop (i + j) c) ++ drop (i + j + k) c))
four_parts c i j k =
    sym (rw (← drop-drop k (i + j) c, take-append-drop k (drop (i + j) c), ← drop-drop j i c, take-append-drop j (drop i c), take-append-drop i c)
    refl)

module _ (base n serial at u : ℕ) (b : Block) (here : at % 8 ≡ 0) (sized : size b % 8 ≡ 0) (aligned : base % 8 ≡ 0) (even : n % 8 ≡ 0)
    (low : at + 8 ≤ base)
    (high : base + n ≤ at + size b) where
  -- behind eight bytes of the part in front, and of the part behind, stand the bytes of the body that are left there
  front_body : 0 < base - 8 - at → drop 8 (take (base - 8 - at) (header_bytes (header_of u b) ++ b.body)) ≡ take (base - 16 - at) b.body
  front_body p =
      let e : base - 8 - at ≡ 8 + (base - 16 - at) = omega arith in
      rw e
      (ap (drop 8) (rw (header_length (header_of u b)) at (take-append-add (header_bytes (header_of u b)) b.body (base - 16 - at)))
      ∙ header_behind (header_of u b) (take (base - 16 - at) b.body))

  back_body : drop 8 (drop (base - 8 - at + 8 + n) (header_bytes (header_of u b) ++ b.body)) ≡ drop (base + n - at) b.body
  back_body =
      let c = header_bytes (header_of u b) ++ b.body in
      let e : base - 8 - at + 8 + n + 8 ≡ 8 + (base + n - at) = omega arith in
      drop-drop 8 (base - 8 - at + 8 + n) c
      ∙ ap (λ (k : ℕ). drop k c) e
      ∙ sym (drop-drop (base + n - at) 8 c)
      ∙ ap (drop (base + n - at)) (header_behind (header_of u b) b.body)

  -- the bytes of the cut block and of the blocks behind it
  cut_render : (bs : List Block) → render_from u (cut_block base n serial at b ++ bs)
      ≡ render_from u (front_rest base n serial at b)
      ++ (header_bytes (record { size = (n + 8) / 8; back = units_after u (base - 8 - at); serial = serial })
      ++ (replicate n 0 ++ (render_from ((n + 8) / 8) (back_rest base n serial at b)
      ++ render_from (units_after ((n + 8) / 8) (at + size b - (base + n))) bs)))
  unfolding cut_block
  cut_render bs =
      let own : units (new_block n serial) ≡ (n + 8) / 8 = rw length-replicate (omega arith) in
      let left = front_size base n serial at b here sized aligned even low high in
      let left' = back_size base n serial at b here sized aligned even low high in
      rw (
        append_assoc (front_rest base n serial at b) (new_block n serial ∷ back_rest base n serial at b) bs,
        render_append u (front_rest base n serial at b) (new_block n serial ∷ (back_rest base n serial at b ++ bs)),
        left_units (base - 8 - at) u (take (base - 16 - at) b.body) left,
        render_cons (units_after u (base - 8 - at)) (new_block n serial) (back_rest base n serial at b ++ bs),
        own,
        render_append ((n + 8) / 8) (back_rest base n serial at b) bs,
        left_units (at + size b - (base + n)) ((n + 8) / 8) (drop (base + n - at) b.body) left',
      )

  -- the writes turn the bytes of the block and of those behind it into those
  cut_written : (f : List ℕ) (bs : List Block) → length f ≡ at
      → carve_bytes at (at + size b) base n u serial (f ++ (header_bytes (header_of u b) ++ (b.body ++ render_from (units b) bs)))
      ≡ f ++ render_from u (cut_block base n serial at b ++ bs)
  unfolding carve_bytes
  cut_written f bs long =
      let left = front_size base n serial at b here sized aligned even low high in
      let left' = back_size base n serial at b here sized aligned even low high in
      let end = at + size b in
      let front = base - 8 - at in
      let behind = end - (base + n) in
      let own = (n + 8) / 8 in
      let before = units_after u front in
      let after = units_after own behind in
      let h = header_bytes (header_of u b) in
      let c = h ++ b.body in
      let w = take front c in
      let x = take 8 (drop front c) in
      let y = take n (drop (front + 8) c) in
      let z = drop (front + 8 + n) c in
      let q = render_from (units b) bs in
      let rest = render_from u (front_rest base n serial at b) in
      let rest' = render_from own (back_rest base n serial at b) in
      let g = f ++ rest in
      let object = header_bytes (record { size = own; back = before; serial = serial }) in
      let g' = g ++ (object ++ replicate n 0) in
      let lc : length c ≡ size b = simp length-append (omega (arith, header_length (header_of u b))) in
      let lw : length w ≡ front = simp length-take (omega arith) in
      let lx : length x ≡ 8 = simp (length-take, length-drop) (omega arith) in
      let ly : length y ≡ n = simp (length-take, length-drop) (omega arith) in
      let lz : length z ≡ behind = simp length-drop (omega arith) in
      let lg : length g ≡ at + front = simp length-append (omega (arith, left_length front u (take (base - 16 - at) b.body) left)) in
      let lg' : length g' ≡ base + n =
      simp (length-append, length-replicate) (omega (
        arith,
        lg,
        length-append f rest,
        header_length
            (record { size = own; back = before; serial = serial }),
      )) in
      let cut : h ++ (b.body ++ q) ≡ w ++ (x ++ (y ++ (z ++ q))) =
      sym (append_assoc h b.body q) ∙ ap (λ (l : List ℕ). l ++ q) (four_parts c front 8 n) ∙ simp append_assoc in
      let first = rest_written at front u (take (base - 16 - at) b.body) f w (x ++ (y ++ (z ++ q))) long lw left front_body in
      let second = object_written base n before serial g x y (z ++ q) (omega arith) lx ly in
      let third = rest_written (base + n) behind own (drop (base + n - at) b.body) g' z q lg' lz left' (λ p. back_body) in
      let fourth = next_written end (units b) after (g' ++ rest') bs
      (omega (arith, length-append g' rest', left_length behind own (drop (base + n - at) b.body) left')) in
      ap (λ (l : List ℕ). write_next end after (write_rest (base + n) behind own
      (write_object base n before serial (write_rest at front u (f ++ l))))) cut
      ∙ ap (λ (l : List ℕ). write_next end after (write_rest (base + n) behind own (write_object base n before serial l)))
      (first ∙ sym (append_assoc f rest (x ++ (y ++ (z ++ q)))))
      ∙ ap (λ (l : List ℕ). write_next end after (write_rest (base + n) behind own l)) (second ∙ simp append_assoc)
      ∙ ap (write_next end after) (third ∙ sym (append_assoc g' rest' q))
      ∙ fourth
      ∙ rw (cut_render bs) (simp append_assoc)

-- a header of what is left over changes only its eight bytes, and none where nothing is left
rest_same : {t : ℕ → Bool} (at m u : ℕ) (s : List ℕ) → (0 < m → (i : ℕ) → t i ≡ false → within at (at + 8) i ≡ false) → Same t (write_rest at m u s) s
unfolding write_rest
rest_same {t} at zero u s f = same_refl t s
rest_same at (suc m) u s f =
    same_when (ltb 0 (suc m)) (same_wider (λ i h e. f (omega arith) i e) (same_header at (record { size = suc m / 8; back = u; serial = 0 }) s))

-- it changes only the size where the header of a free block behind a block of u units stood
front_same : (at m u : ℕ) (b : Block) (f r : List ℕ) → b.serial ≡ 0 → length f ≡ at
    → Same (within at (at + 2)) (write_rest at m u (f ++ (header_bytes (header_of u b) ++ r))) (f ++ (header_bytes (header_of u b) ++ r))
unfolding write_rest write_header
front_same at m u b f r free long =
    let h = header_bytes (record { size = m / 8; back = u; serial = 0 }) in
    let o = overwrite_at f (header_bytes (header_of u b)) r h at long
    (header_length (record { size = m / 8; back = u; serial = 0 }) ∙ sym (header_length (header_of u b))) in
    let k : Same (within 0 2) h (header_bytes (header_of u b)) = rw free (header_sizes (m / 8) (units b) u 0) in
    same_when (ltb 0 m)
    (rw o
    (same_append (same_refl (within at (at + 2)) f)
    (same_wider (λ i l e. within_moved at (at + 2) (length f + i) 0 2 i (omega arith) (omega arith) e)
    (same_append k (same_refl (λ i. within 0 2 (length h + i)) r)))))

-- an object changes only its bytes and its header
object_same : (base n u serial : ℕ) (s : List ℕ) → 8 ≤ base → Same (within (base - 8) (base + n)) (write_object base n u serial s) s
unfolding write_object
object_same base n u serial s h =
    same_then
    (same_wider (λ i l e. within_moved (base - 8) (base + n) i (base - 8) (base - 8 + 8) i (omega arith) (omega arith) e)
    (same_header (base - 8) (record { size = (n + 8) / 8; back = u; serial = serial }) (zero_part base (base + n) s)))
    (same_wider (λ i l e. within_moved (base - 8) (base + n) i base (base + n) i (omega arith) (omega arith) e)
    (same_zero base (base + n) s (omega arith)))

-- and the last write only the back size of the next block
next_same : (at v : ℕ) (s : List ℕ) → Same (within (at + 2) (at + 4)) (write_next at v s) s
unfolding write_next
next_same at v s =
    let e : at + 2 + 2 ≡ at + 4 = omega arith in
    same_when (ltb at (length s)) (rw e at (same_number 2 (at + 2) v s))

-- a byte that carving does not touch is outside of each of the three parts
untouched : (at end base n i : ℕ) → carve_touches at end base n i ≡ false
    → (within at (at + 2) i ≡ false) × (within (base - 8) (min (base + n + 8) end) i ≡ false) × (within (end + 2) (end + 4) i ≡ false)
unfolding carve_touches
untouched at end base n i e =
    let one = or_neither (within at (at + 2) i) _ e in
    let two = or_neither (within (base - 8) (min (base + n + 8) end) i) (within (end + 2) (end + 4) i) one.1 in
    (one.0, two.0, two.1)

-- a free block's serial is 0
pub free_serial : (b : Block) → occupied b ≡ false → b.serial ≡ 0
free_serial b e = eqb-true b.serial 0 (not-false (eqb b.serial 0) e)

-- the bytes of the old blocks, with the block that is cut
carved_old : {base n serial : ℕ} {bs cs : List Block} (c : Carved base n serial 0 bs cs) → render bs
    ≡ render_from 0 c.front ++ (header_bytes (header_of (back_after 0 c.front) c.block)
    ++ (c.block.body ++ render_from (units c.block) c.back))
unfolding render
carved_old c =
    rw c.split (render_append 0 c.front (c.block ∷ c.back) ∙ ap (λ (l : List ℕ). render_from 0 c.front ++ l)
    (render_cons (back_after 0 c.front) c.block c.back))

module _ {base n serial : ℕ} {bs cs : List Block} (c : Carved base n serial 0 bs cs) (whole : Whole bs) (aligned : base % 8 ≡ 0)
    (even : n % 8 ≡ 0) where
  -- the bytes of the blocks with the new object are those of the old blocks after the writes
  pub carve_writes : render cs
      ≡ carve_bytes (total size c.front) (total size c.front + size c.block) base n (back_after 0 c.front) serial (render bs)
  unfolding render
  carve_writes =
      let at = total size c.front in
      let u = back_after 0 c.front in
      let start : 0 + at ≡ at = zero-add at in
      let now = rw start at c.now in
      let w = cut_written base n serial at u c.block (rw start at (place_whole c refl whole aligned even)) (block_whole c refl whole aligned even)
      aligned even
      (rw start at c.low) (rw start at c.high) (render_from 0 c.front) c.back (length_render 0 c.front ∙ total_is c.front) in
      rw now (render_append 0 c.front (cut_block base n serial at c.block ++ c.back))
      ∙ sym (ap (carve_bytes at (at + size c.block) base n u serial) (carved_old c) ∙ w)

  -- every byte that carving does not touch stays
  pub carve_frame : Same (carve_touches (total size c.front) (total size c.front + size c.block) base n) (render cs) (render bs)
  unfolding carve_bytes
  carve_frame =
      let at = total size c.front in
      let end = at + size c.block in
      let u = back_after 0 c.front in
      let front = base - 8 - at in
      let behind = end - (base + n) in
      let own = (n + 8) / 8 in
      let s₁ = write_rest at front u (render bs) in
      let s₂ = write_object base n (units_after u front) serial s₁ in
      let s₃ = write_rest (base + n) behind own s₂ in
      let low : at + 8 ≤ base = omega (arith, c.low) in
      let high : base + n ≤ end = omega (arith, c.high) in
      let whole' : end % 8 ≡ 0 = omega (arith, place_whole c refl whole aligned even, block_whole c refl whole aligned even) in
      let front-stays : Same (within at (at + 2)) s₁ (render bs) =
      rw (carved_old c)
      (front_same at front u c.block (render_from 0 c.front) (c.block.body ++ render_from (units c.block) c.back)
      (free_serial c.block c.free)
      (length_render 0 c.front ∙ total_is c.front)) in
      rw carve_writes
      (same_then (same_wider (λ i l e. (untouched at end base n i e).2) (next_same end (units_after own behind) s₃))
      (same_then
      (rest_same (base + n) behind own s₂
      (λ p i e. within_moved (base - 8) (min (base + n + 8) end) i (base + n) (base + n + 8) i (omega arith) (omega arith)
      (untouched at end base n i e).1))
      (same_then
      (same_wider (λ i l e. within_moved (base - 8) (min (base + n + 8) end) i (base - 8) (base + n) i (omega arith) (omega arith)
      (untouched at end base n i e).1)
      (object_same base n (units_after u front) serial s₁ (omega arith)))
      (same_wider (λ i l e. (untouched at end base n i e).0) front-stays))))
