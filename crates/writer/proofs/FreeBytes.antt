-- Freeing a block, on bytes: the bytes of the blocks with one block vacated and joined to its free neighbours are those of the old blocks after
-- three steps, each a few writes in place. Vacating writes an object of zero bytes with serial 0 where the block's object stood. Joining two
-- blocks that stand side by side turns the header of the second into zeros, gives the first one a header of both sizes, and tells the block
-- behind them, if there is one, of the new size. Freeing is vacating, then joining the block behind, then joining the result to the block in
-- front; where a neighbour is live or missing, that joining is one with no bytes and writes nothing.
use mathlib.Core.Path.{◌≡◌, refl, ap, sym, ◌∙◌}
use Prim.Native.Nat.{ℕ, ◌+◌, ◌-◌, ◌/◌, ◌≤◌}
use native.Mathlib.Omega.{arith}
use mathlib.Core.List.{List, [], ◌∷◌, ◌++◌, append_assoc}
use mathlib.Core.Bool.{Bool, true, false, cond, or-true, and-false}
use mathlib.Core.Logic.{◌⊎◌, inl, inr}
use lib.ListN.{length, replicate, length-append, length-replicate}
use lib.Dec.{ltb, eqb}
use borrow.Author.Tests.{lt-ltb, le-ltb}
use Rattle.layout.specs.Bytes.{overwrite}
use Rattle.layout.specs.Blocks.{Block, size, units, occupied, QUARANTINED, live, back_after, header_of, header_bytes, write_header, render_from}
use Rattle.layout.specs.Blocks.{render}
use Rattle.layout.proofs.Overwrite.{overwrite_at}
use Rattle.layout.proofs.Fields.{header_length}
use Rattle.layout.proofs.Render.{length_render, render_append, render_cons}
use Rattle.lists.specs.Lists.{total}
use Rattle.model.specs.Consistent.{starts_free}
use Rattle.model.specs.Space.{vacate, unquarantine, join_front}
use Rattle.model.specs.Joining.{append_joined, join_neighbours}
use Rattle.model.proofs.Blocks.{total_is, free_not_live}
use Rattle.lists.proofs.Lists.{total_append}
use Rattle.model.proofs.Join.{joined, joined_size, join_apart, join_both}
use Rattle.writer.specs.Writes.{write_object, write_next, join_bytes, free_bytes, unquarantine_bytes}
use Rattle.writer.proofs.CarveBytes.{zero_written, object_written, next_written}

-- the bytes of a block if it is free, else 0; so of the first of some blocks, and of the last
abbrev pub free_size : Block → ℕ
free_size b = cond (occupied b) 0 (size b)

unfoldable pub free_behind : List Block → ℕ
free_behind [] = 0
free_behind (b ∷ bs) = free_size b

unfoldable pub free_in_front : List Block → ℕ
free_in_front [] = 0
free_in_front (x ∷ []) = free_size x
free_in_front (x ∷ (y ∷ xs)) = free_in_front (y ∷ xs)

-- the units of the last block but one of these, which stand behind a block of `back` units
unfoldable pub back_before : ℕ → List Block → ℕ
back_before back [] = back
back_before back (x ∷ []) = back
back_before back (x ∷ (y ∷ xs)) = back_before (units x) (y ∷ xs)

-- the bytes of a block that is live, and of one that is free
pub size_live : (b : Block) → occupied b ≡ true → free_size b ≡ 0
size_live b e = rw e

pub size_free : (b : Block) → occupied b ≡ false → free_size b ≡ size b
size_free b e = rw e

-- some blocks are none, or blocks in front of a last one
pub last_of : (xs : List Block) → (xs ≡ []) ⊎ ((ws : List Block) × (f : Block) × (xs ≡ ws ++ (f ∷ [])))
last_of [] = inl refl
last_of (x ∷ xs) = go (last_of xs)
  where
    go : (xs ≡ []) ⊎ ((ws : List Block) × (f : Block) × (xs ≡ ws ++ (f ∷ [])))
        → (x ∷ xs ≡ []) ⊎ ((ws : List Block) × (f : Block) × (x ∷ xs ≡ ws ++ (f ∷ [])))
    go (inl e) = inr ([], x, ap (λ (l : List Block). x ∷ l) e)
    go (inr r) = inr (x ∷ r.0, r.1, ap (λ (l : List Block). x ∷ l) r.2)

-- no block behind, and a block
pub behind_none : free_behind [] ≡ 0
unfolding free_behind
behind_none = refl

pub behind_first : (d : Block) (ds : List Block) → free_behind (d ∷ ds) ≡ free_size d
unfolding free_behind
behind_first d ds = refl

-- no block in front, and a last block
pub front_none : free_in_front [] ≡ 0
unfolding free_in_front
front_none = refl

pub front_last : (ws : List Block) (f : Block) → free_in_front (ws ++ (f ∷ [])) ≡ free_size f
unfolding free_in_front
front_last [] f = refl
front_last (x ∷ []) f = refl
front_last (x ∷ (y ∷ xs)) f = front_last (y ∷ xs) f

-- the units of the last block, and of the one before it
pub back_last : (back : ℕ) (ws : List Block) (f : Block) → back_after back (ws ++ (f ∷ [])) ≡ units f
unfolding back_after
back_last back [] f = refl
back_last back (x ∷ xs) f = back_last (units x) xs f

pub before_last : (back : ℕ) (ws : List Block) (f : Block) → back_before back (ws ++ (f ∷ [])) ≡ back_after back ws
unfolding back_before back_after
before_last back [] f = refl
before_last back (x ∷ []) f = refl
before_last back (x ∷ (y ∷ xs)) f = before_last (units x) (y ∷ xs) f

-- only the last of some blocks joins what stands behind them
pub appended_last : (ws : List Block) (f : Block) (ys : List Block) → append_joined (ws ++ (f ∷ [])) ys ≡ ws ++ join_front f ys
unfolding append_joined
appended_last [] f ys = refl
appended_last (x ∷ []) f ys = refl
appended_last (x ∷ (y ∷ xs)) f ys = ap (λ (l : List Block). x ∷ l) (appended_last (y ∷ xs) f ys)

-- the bytes of blocks with one behind the first ones, and where that one stands
pub render_at : (xs : List Block) (b : Block) (ys : List Block)
    → render (xs ++ (b ∷ ys)) ≡ render_from 0 xs ++ (header_bytes (header_of (back_after 0 xs) b) ++ (b.body ++ render_from (units b) ys))
unfolding render
render_at xs b ys = render_append 0 xs (b ∷ ys) ∙ ap (λ (l : List ℕ). render_from 0 xs ++ l) (render_cons (back_after 0 xs) b ys)

pub place_length : (xs : List Block) → length (render_from 0 xs) ≡ total size xs
place_length xs = length_render 0 xs ∙ total_is xs

-- a block with another serial whose bytes are zero
abbrev pub cleared : ℕ → Block → Block
cleared serial b = record { serial = serial; body = replicate (length b.body) 0 }

-- vacating a block writes an object of zero bytes with that serial
pub vacate_writes : (serial : ℕ) (xs : List Block) (b : Block) (ys : List Block)
    → render (xs ++ (cleared serial b ∷ ys)) ≡ write_object (total size xs + 8) (length b.body) (back_after 0 xs) serial (render (xs ++ (b ∷ ys)))
vacate_writes serial xs b ys =
    let u = back_after 0 xs in
    let n = length b.body in
    let e : length (render_from 0 xs) + 8 ≡ total size xs + 8 = rw (place_length xs) in
    let w =
    object_written (total size xs + 8) n u serial (render_from 0 xs) (header_bytes (header_of u b)) b.body (render_from (units b) ys) e
    (header_length (header_of u b)) refl in
    let k : (n + 8) / 8 ≡ (8 + n) / 8 = omega arith in
    rw (render_at xs (cleared serial b) ys, render_at xs b ys, w, length-replicate, k)

-- where one of two blocks has no bytes, nothing is written
pub join_none : (start mid stop back : ℕ) (s : List ℕ) → (mid ≤ start) ⊎ (stop ≤ mid) → join_bytes start mid stop back s ≡ s
unfolding join_bytes
join_none start mid stop back s (inl h) = rw (le-ltb start mid h)
join_none start mid stop back s (inr h) = rw (le-ltb mid stop h, and-false (ltb start mid))

-- two blocks side by side become one
pub join_writes : (xs : List Block) (c d : Block) (ys : List Block)
    → render (xs ++ (joined c d ∷ ys))
    ≡ join_bytes (total size xs) (total size xs + size c) (total size xs + size c + size d) (back_after 0 xs) (render (xs ++ (c ∷ d ∷ ys)))
unfolding join_bytes write_header
join_writes xs c d ys =
    let at = total size xs in
    let mid = at + size c in
    let stop = mid + size d in
    let u = back_after 0 xs in
    let n = (stop - at) / 8 in
    let g = render_from 0 xs in
    let lg = place_length xs in
    let hc = header_bytes (header_of u c) in
    let hd = header_bytes (header_of (units c) d) in
    let h = header_bytes (record { size = n; back = u; serial = 0 }) in
    let r = render_from (units d) ys in
    let z : List ℕ = replicate 8 0 in
    let lm : length ((g ++ hc) ++ c.body) ≡ mid = simp length-append (omega (arith, lg, header_length (header_of u c))) in
    let lh : length h ≡ length hc = header_length (record { size = n; back = u; serial = 0 }) ∙ sym (header_length (header_of u c)) in
    let ls : length (g ++ (h ++ (c.body ++ (z ++ d.body)))) ≡ stop =
    simp (length-append, length-replicate) (omega (arith, lg, header_length (record { size = n; back = u; serial = 0 }))) in
    let k : size (joined c d) / 8 ≡ n = rw joined_size (omega arith) in
    let first = zero_written mid 8 ((g ++ hc) ++ c.body) hd (d.body ++ r) lm (header_length (header_of (units c) d)) in
    let second = overwrite_at g hc (c.body ++ (z ++ (d.body ++ r))) h at lg lh in
    let third = next_written stop (units d) n (g ++ (h ++ (c.body ++ (z ++ d.body)))) ys ls in
    rw (
      lt-ltb at mid (omega arith),
      lt-ltb mid stop (omega arith),
      render_at xs (joined c d) ys,
      k,
      render_at xs c (d ∷ ys),
      render_cons (units c) d ys,
    )
    (simp append_assoc
    (sym
    (ap (λ (l : List ℕ). write_next stop n (overwrite at h l)) (simp append_assoc at first)
    ∙ ap (write_next stop n) second
    ∙ (simp append_assoc at third))))

-- a free block joins the one behind it, if that is free
pub behind_writes : (xs : List Block) (v : Block) (ys : List Block) → occupied v ≡ false
    → render (xs ++ join_front v ys)
    ≡ join_bytes (total size xs) (total size xs + size v) (total size xs + size v + free_behind ys) (back_after 0 xs) (render (xs ++ (v ∷ ys)))
unfolding free_behind starts_free
behind_writes xs v [] ev =
    rw (join_apart v [] (or-true (occupied v)))
    (sym (join_none (total size xs) (total size xs + size v) (total size xs + size v + 0) (back_after 0 xs) (render (xs ++ (v ∷ [])))
    (inr (omega arith))))
behind_writes xs v (d ∷ ds) ev = go (occupied d) refl
  where
    go : (x : Bool) → occupied d ≡ x → render (xs ++ join_front v (d ∷ ds))
        ≡ join_bytes (total size xs) (total size xs + size v) (total size xs + size v + free_size d) (back_after 0 xs) (render (xs ++ (v ∷ d ∷ ds)))
    go true e =
        rw (e, join_apart v (d ∷ ds) (rw (e, or-true)))
        (sym (join_none (total size xs) (total size xs + size v) (total size xs + size v + 0) (back_after 0 xs) (render (xs ++ (v ∷ d ∷ ds)))
        (inr (omega arith))))
    go false e = rw (e, join_both v d ds ev e) (join_writes xs v d ds)

-- what the block becomes is a free block still, as long as both
pub behind_joined : (v : Block) (ys : List Block) → occupied v ≡ false
    → (c : Block) × (zs : List Block) × (join_front v ys ≡ c ∷ zs) × (occupied c ≡ false) × (size c ≡ size v + free_behind ys)
unfolding free_behind starts_free
behind_joined v [] ev = (v, [], join_apart v [] (or-true (occupied v)), ev, omega arith)
behind_joined v (d ∷ ds) ev = go (occupied d) refl
  where
    go : (x : Bool) → occupied d ≡ x → (c : Block) × (zs : List Block) × (join_front v (d ∷ ds) ≡ c ∷ zs) × (occupied c ≡ false)
        × (size c ≡ size v + free_size d)
    go true e = (v, d ∷ ds, join_apart v (d ∷ ds) (rw (e, or-true)), ev, rw e (omega arith))
    go false e = (joined v d, ds, join_both v d ds ev e, refl, rw e (joined_size v d))

-- a free block joins the last one in front of it, if that is free
pub front_writes : (xs : List Block) (c : Block) (zs : List Block) → occupied c ≡ false
    → render (append_joined xs (c ∷ zs))
    ≡ join_bytes (total size xs - free_in_front xs) (total size xs) (total size xs + size c) (back_before 0 xs) (render (xs ++ (c ∷ zs)))
unfolding append_joined free_in_front total
front_writes xs c zs ec = go (last_of xs)
  where
    at_last : (ws : List Block) (f : Block) → xs ≡ ws ++ (f ∷ []) → (x : Bool) → occupied f ≡ x
        → render (append_joined xs (c ∷ zs))
        ≡ join_bytes (total size xs - free_in_front xs) (total size xs) (total size xs + size c) (back_before 0 xs) (render (xs ++ (c ∷ zs)))
    at_last ws f e true ef =
        let at = total size (ws ++ (f ∷ [])) in
        rw (e, appended_last ws f (c ∷ zs), join_apart f (c ∷ zs) (rw ef), front_last ws f, ef, append_assoc ws (f ∷ []) (c ∷ zs))
        (sym (join_none (at - 0) at (at + size c) (back_before 0 (ws ++ (f ∷ []))) (render (ws ++ (f ∷ c ∷ zs))) (inl (omega arith))))
    at_last ws f e false ef =
        let t : total size (ws ++ (f ∷ [])) ≡ total size ws + size f = omega (arith, total_append size ws (f ∷ [])) in
        let k : total size ws + size f - size f ≡ total size ws = omega arith in
        rw (e, appended_last ws f (c ∷ zs), join_both f c zs ef ec, front_last ws f, ef, append_assoc ws (f ∷ []) (c ∷ zs), before_last 0 ws f, t, k)
        (join_writes ws f c zs)

    go : (xs ≡ []) ⊎ ((ws : List Block) × (f : Block) × (xs ≡ ws ++ (f ∷ []))) → render (append_joined xs (c ∷ zs))
        ≡ join_bytes (total size xs - free_in_front xs) (total size xs) (total size xs + size c) (back_before 0 xs) (render (xs ++ (c ∷ zs)))
    go (inl e) = rw e (sym (join_none (total size [] - 0) (total size []) (total size [] + size c) (back_before 0 []) (render (c ∷ zs))
        (inl (omega arith))))
    go (inr r) = at_last r.0 r.1 r.2 (occupied r.1) refl

-- a free block joins both: what is left goes from where the last block in front starts, if it is free, up to where the first one behind ends, if it is free
pub joined_writes : (xs : List Block) (v : Block) (ys : List Block) → occupied v ≡ false
    → render (join_neighbours xs v ys)
    ≡ join_bytes (total size xs - free_in_front xs) (total size xs) (total size xs + size v + free_behind ys) (back_before 0 xs)
    (join_bytes (total size xs) (total size xs + size v) (total size xs + size v + free_behind ys) (back_after 0 xs) (render (xs ++ (v ∷ ys))))
unfolding join_neighbours
joined_writes xs v ys ev =
    let at = total size xs in
    let j = behind_joined v ys ev in
    let stop : at + size j.0 ≡ at + size v + free_behind ys = omega (arith, j.4) in
    rw (← behind_writes xs v ys ev, j.2, ← stop) (front_writes xs j.0 j.1 j.3)

-- freeing a block
pub free_writes : (xs : List Block) (b : Block) (ys : List Block)
    → render (join_neighbours xs (cleared 0 b) ys)
    ≡ free_bytes (total size xs + 8) (length b.body) (total size xs - free_in_front xs) (total size xs + size b + free_behind ys) (back_after 0 xs)
    (back_before 0 xs) (render (xs ++ (b ∷ ys)))
unfolding free_bytes
free_writes xs b ys =
    let at = total size xs in
    let v : size (cleared 0 b) ≡ size b = rw length-replicate in
    let start : at + 8 - 8 ≡ at = omega arith in
    let end : at + 8 + length b.body ≡ at + size b = omega arith in
    rw (start, end, ← vacate_writes 0 xs b ys) (rw v at (joined_writes xs (cleared 0 b) ys refl))

-- unquarantining a block writes a header with serial 0
unquarantine_header : (xs : List Block) (b : Block) (ys : List Block)
    → render (xs ++ (unquarantine b ∷ ys)) ≡ write_header (total size xs) (record { size = size b / 8; back = back_after 0 xs; serial = 0 })
    (render (xs ++ (b ∷ ys)))
unfolding write_header
unquarantine_header xs b ys =
    let u = back_after 0 xs in
    let h = header_bytes (header_of u (unquarantine b)) in
    rw (render_at xs (unquarantine b) ys, render_at xs b ys)
    (sym (overwrite_at (render_from 0 xs) (header_bytes (header_of u b)) (b.body ++ render_from (units b) ys) h (total size xs) (place_length xs)
    (header_length (header_of u (unquarantine b)) ∙ sym (header_length (header_of u b)))))

pub unquarantine_writes : (xs : List Block) (b : Block) (ys : List Block)
    → render (join_neighbours xs (unquarantine b) ys)
    ≡ unquarantine_bytes (total size xs) (size b) (total size xs - free_in_front xs) (total size xs + size b + free_behind ys) (back_after 0 xs)
    (back_before 0 xs) (render (xs ++ (b ∷ ys)))
unfolding unquarantine_bytes
unquarantine_writes xs b ys = rw (← unquarantine_header xs b ys) (joined_writes xs (unquarantine b) ys refl)

-- an occupied block joins nothing
append_occupied : (xs : List Block) (v : Block) (ys : List Block) → occupied v ≡ true → append_joined xs (v ∷ ys) ≡ xs ++ (v ∷ ys)
unfolding append_joined starts_free
append_occupied [] v ys e = refl
append_occupied (x ∷ []) v ys e = join_apart x (v ∷ ys) (rw (e, or-true))
append_occupied (x ∷ (y ∷ xs)) v ys e = ap (λ (l : List Block). x ∷ l) (append_occupied (y ∷ xs) v ys e)

pub occupied_alone : (xs : List Block) (v : Block) (ys : List Block) → occupied v ≡ true → join_neighbours xs v ys ≡ xs ++ (v ∷ ys)
unfolding join_neighbours
occupied_alone xs v ys e = ap (append_joined xs) (join_apart v ys (rw e)) ∙ append_occupied xs v ys e

-- what a vacated block becomes with the block behind it, by the kind
unfoldable pub vacant_behind : ℕ → List Block → ℕ
vacant_behind kind ys = cond (eqb kind 0) (free_behind ys) 0

pub behind_vacated : (kind : ℕ) (b : Block) (ys : List Block)
    → (c : Block) × (zs : List Block) × (join_front (vacate kind b) ys ≡ c ∷ zs) × (live c ≡ false) × (size c ≡ size b + vacant_behind kind ys)
unfolding vacate vacant_behind
behind_vacated kind b ys = go (eqb kind 0)
  where
    v : size (cleared 0 b) ≡ size b
    v = rw length-replicate

    go : (t : Bool) → (c : Block) × (zs : List Block) × (join_front (cleared (cond t 0 QUARANTINED) b) ys ≡ c ∷ zs) × (live c ≡ false)
        × (size c ≡ size b + cond t (free_behind ys) 0)
    go true = let j = behind_joined (cleared 0 b) ys refl in (j.0, j.1, j.2, free_not_live j.0 j.3, omega (arith, j.4, v))
    go false = (cleared QUARANTINED b, ys, join_apart (cleared QUARANTINED b) ys refl, refl, omega (arith, v))
