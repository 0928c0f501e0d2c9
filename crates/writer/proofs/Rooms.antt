-- Freeing a block in place is freeing it among the blocks: on the bytes of blocks the headers in front of a block and behind it are those of its
-- neighbours, so the bytes that are written are those of the blocks with this one vacated and joined to its free neighbours.
use Rattle.std.specs.Prelude.{Option, Some, None}
use mathlib.Core.Path.{◌≡◌, refl, ap, sym, ◌∙◌}
use Prim.Native.Nat.{ℕ, ◌+◌, ◌*◌, ◌-◌, ◌/◌, ◌≤◌}
use native.Mathlib.Omega.{arith}
use mathlib.Core.List.{List, [], ◌∷◌, ◌++◌, append_assoc}
use mathlib.Core.Bool.{Bool, true, false, not, cond}
use mathlib.Core.Logic.{◌⊎◌, inl, inr}
use lib.ListN.{length}
use lib.Dec.{eqb, lit<}
use Rattle.layout.specs.Blocks.{Block, size, units, occupied, QUARANTINED, total_size, back_after, header_of, start_at, write_header, render}
use Rattle.layout.specs.Blocks.{Writable}
use Rattle.layout.specs.Blocks.{AllWritable}
use Rattle.layout.specs.declared.Header.{Header}
use Rattle.layout.proofs.Starts.{start_found}
use Rattle.layout.proofs.Render.{start_stands, start_ends, length_render, all_left, all_right, back_small, size_append}
use Rattle.layout.proofs.Parse.{render_is}
use Rattle.model.specs.Space.{vacate, unquarantine}
use Rattle.model.specs.Joining.{join_neighbours}
use Rattle.model.proofs.Blocks.{total_is}
use Rattle.writer.specs.Writes.{write_object}
use Rattle.writer.specs.Writes.{free_bytes, unquarantine_bytes}
use Rattle.writer.proofs.FreeBytes.{free_size, free_behind, free_in_front, back_before, size_live, last_of, front_last, back_last, before_last}
use Rattle.writer.proofs.FreeBytes.{cleared, vacate_writes, free_writes, unquarantine_writes, occupied_alone, vacant_behind}
use Rattle.lookup.specs.declared.Met.{Met}
use Rattle.writer.specs.declared.freeing.Room.{Room}
use Rattle.writer.specs.Freeing.{room_of, room_at, joined_bytes, free_block, free_end, quarantine_block, vacate_block, vacate_end, unquarantine_block, Inside}

-- the room at a place, by what starts there
pub room_nothing : (at : ℕ) (s : List ℕ) → start_at at s ≡ None → room_at at s ≡ record { free = 0; back = 0 }
unfolding room_at
room_nothing at s e = rw e

pub room_starts : (at : ℕ) (s : List ℕ) (h : Header) → start_at at s ≡ Some h → room_at at s ≡ room_of h
unfolding room_at
room_starts at s h e = rw e

picked : (x : Bool) (n : ℕ) → cond x n 0 ≤ n
picked true n = omega arith
picked false n = omega arith

-- it ends in the heap
pub room_ends : (at : ℕ) (s : List ℕ) → at ≤ length s → at + (room_at at s).free ≤ length s
room_ends at s l = go (start_at at s) refl
  where
    go : (x : Option Header) → start_at at s ≡ x → at + (room_at at s).free ≤ length s
    go None e = rw (room_nothing at s e) (omega arith)
    go (Some h) e =
        let i = (start_found at s h e).inside in
        rw (room_starts at s h e) (omega (arith, picked (eqb h.serial 0) (8 * h.size)))

-- the two steps of freeing a block
pub freed_is : (m : Met) (s : List ℕ) → 8 ≤ m.size → (front behind : Room) → front ≡ room_at (m.at - 8 * m.back) s → behind
    ≡ room_at (m.at + m.size) s
    → (s₁ s₂ : List ℕ) → s₁ ≡ write_object (m.at + 8) (m.size - 8) m.back 0 s → s₂ ≡ joined_bytes m front behind.free s₁ → s₂ ≡ free_block m s
unfolding free_block free_bytes
freed_is m s l front behind p q s₁ s₂ e₁ e₂ =
    let start : m.at + 8 - 8 ≡ m.at = omega arith in
    let end : m.at + 8 + (m.size - 8) ≡ m.at + m.size = omega arith in
    rw (start, end, ← p, ← q, ← e₁) e₂

-- and of unquarantining one
pub unquarantined_is : (m : Met) (s : List ℕ) → 8 ≤ m.size → (front behind : Room) → front ≡ room_at (m.at - 8 * m.back) s → behind ≡ room_at
    (m.at + m.size) s
    → (s₁ s₂ : List ℕ) → s₁ ≡ write_header m.at (record { size = m.size / 8; back = m.back; serial = 0 }) s → s₂ ≡ joined_bytes m front behind.free s₁
    → s₂ ≡ unquarantine_block m s
unfolding unquarantine_block unquarantine_bytes
unquarantined_is m s l front behind p q s₁ s₂ e₁ e₂ = rw (← p, ← q, ← e₁) e₂

-- the room of a block among blocks
same_free : (x : Bool) (m n : ℕ) → m ≡ n → cond x m 0 ≡ cond (not x) 0 n
same_free true m n e = e
same_free false m n e = refl

pub room_stands : (xs : List Block) (b : Block) (ys : List Block) → AllWritable (xs ++ (b ∷ ys))
    → room_at (total_size xs) (render (xs ++ (b ∷ ys))) ≡ record { free = free_size b; back = back_after 0 xs }
room_stands xs b ys w =
    let wb = (all_right Writable xs (b ∷ ys) w).0 in
    let e = start_stands 0 xs b ys wb (back_small 0 xs (lit< tt) (all_left Writable xs (b ∷ ys) w)) in
    let f = same_free (eqb b.serial 0) (8 * units b) (size b) wb.whole in
    room_starts (total_size xs) (render (xs ++ (b ∷ ys))) (header_of (back_after 0 xs) b) (rw render_is e)
    ∙ (λ i. record { free = f i; back = back_after 0 xs })

size_last : (xs : List Block) (b : Block) → total_size (xs ++ (b ∷ [])) ≡ total_size xs + size b
unfolding total_size
size_last xs b = size_append xs (b ∷ []) ∙ omega arith

-- the room behind a block is that of the first one behind it
pub room_behind : (xs : List Block) (b : Block) (ys : List Block) → AllWritable (xs ++ (b ∷ ys))
    → (room_at (total_size xs + size b) (render (xs ++ (b ∷ ys)))).free ≡ free_behind ys
unfolding free_behind
room_behind xs b [] w =
    let e = start_ends 0 (xs ++ (b ∷ [])) in
    ap (λ (r : Room). r.free) (rw (size_last xs b) at (room_nothing (total_size (xs ++ (b ∷ []))) (render (xs ++ (b ∷ []))) (rw render_is e)))
room_behind xs b (d ∷ ds) w =
    let e = room_stands (xs ++ (b ∷ [])) d ds (rw (append_assoc xs (b ∷ []) (d ∷ ds)) w) in
    ap (λ (r : Room). r.free) (rw (size_last xs b, append_assoc xs (b ∷ []) (d ∷ ds)) at e)

-- the room in front of a live block is that of the last one in front of it
pub record InFront (xs : List Block) (b : Block) (ys : List Block) : Type 0 where
  pub room : room_at (total_size xs - 8 * back_after 0 xs) (render (xs ++ (b ∷ ys))) ≡ record { free = free_in_front xs; back = back_before 0 xs }
  pub back_fits : 8 * back_after 0 xs ≤ total_size xs
  pub free_fits : free_in_front xs ≤ total_size xs

pub in_front : (xs : List Block) (b : Block) (ys : List Block) → AllWritable (xs ++ (b ∷ ys)) → occupied b ≡ true → InFront xs b ys
unfolding total_size back_after free_in_front back_before
in_front xs b ys w lv = go (last_of xs)
  where
    first : AllWritable (b ∷ ys) → InFront [] b ys
    first v =
        let r = room_stands [] b ys v in
        record { room = rw (size_live b lv) at r; back_fits = omega arith; free_fits = omega arith }

    later : (ws : List Block) (f : Block) → AllWritable ((ws ++ (f ∷ [])) ++ (b ∷ ys)) → InFront (ws ++ (f ∷ [])) b ys
    later ws f v =
        let v' : AllWritable (ws ++ (f ∷ (b ∷ ys))) = rw (append_assoc ws (f ∷ []) (b ∷ ys)) at v in
        let k = (all_right Writable ws (f ∷ (b ∷ ys)) v').0.whole in
        let t = size_last ws f in
        let u = back_last 0 ws f in
        let p : total_size ws + size f - 8 * units f ≡ total_size ws = omega arith in
        record {
          room = rw (u, t, p, append_assoc ws (f ∷ []) (b ∷ ys), front_last ws f, before_last 0 ws f) (room_stands ws f (b ∷ ys) v');
          back_fits = rw (u, t) (omega arith);
          free_fits = rw (front_last ws f, t) (omega (arith, small f (occupied f) refl));
        }
      where
        small : (f : Block) (x : Bool) → occupied f ≡ x → free_size f ≤ size f
        small f true e = rw e (omega arith)
        small f false e = rw e (omega arith)

    go : (xs ≡ []) ⊎ ((ws : List Block) × (f : Block) × (xs ≡ ws ++ (f ∷ []))) → InFront xs b ys
    go (inl e) = rw e (first (rw e at w))
    go (inr r) = rw r.2 (later r.0 r.1 (rw r.2 at w))

-- a live block b behind the blocks xs and in front of ys, met by its place, size and back size
module _ (xs : List Block) (b : Block) (ys : List Block) (w : AllWritable (xs ++ (b ∷ ys))) (lv : occupied b ≡ true) (m : Met)
    (place : m.at ≡ total_size xs) (sized : m.size ≡ size b)
    (back : m.back ≡ back_after 0 xs) where
  -- freeing it in place is freeing it among the blocks
  freed_blocks : free_block m (render (xs ++ (b ∷ ys))) ≡ render (join_neighbours xs (cleared 0 b) ys)
  unfolding free_block
  freed_blocks =
      let f = (in_front xs b ys w lv).room in
      let n : 8 + length b.body - 8 ≡ length b.body = omega arith in
      rw (place, sized, back, f, room_behind xs b ys w, n, total_is xs) (sym (free_writes xs b ys))

  -- in the other kind it is cleared where it stands
  quarantined_blocks : quarantine_block m (render (xs ++ (b ∷ ys))) ≡ render (join_neighbours xs (cleared QUARANTINED b) ys)
  unfolding quarantine_block
  quarantined_blocks =
      let n : 8 + length b.body - 8 ≡ length b.body = omega arith in
      rw (occupied_alone xs (cleared QUARANTINED b) ys refl, place, sized, back, n, total_is xs) (sym (vacate_writes QUARANTINED xs b ys))

  -- so with both kinds
  pub vacated_blocks : (kind : ℕ) → vacate_block kind m (render (xs ++ (b ∷ ys))) ≡ render (join_neighbours xs (vacate kind b) ys)
  unfolding vacate_block vacate
  vacated_blocks kind = go (eqb kind 0)
    where
      go : (t : Bool) → cond t (free_block m (render (xs ++ (b ∷ ys)))) (quarantine_block m (render (xs ++ (b ∷ ys)))) ≡ render
          (join_neighbours xs (cleared (cond t 0 QUARANTINED) b) ys)
      go true = freed_blocks
      go false = quarantined_blocks

  pub vacated_ends : (kind : ℕ) → vacate_end kind m (render (xs ++ (b ∷ ys))) ≡ m.at + size b + vacant_behind kind ys
  unfolding vacate_end vacant_behind free_end
  vacated_ends kind = rw (place, sized, room_behind xs b ys w) (go (eqb kind 0))
    where
      go : (t : Bool) → cond t (total_size xs + size b + free_behind ys) (total_size xs + size b) ≡ total_size xs + size b + cond t (free_behind ys) 0
      go true = refl
      go false = omega arith

  -- unquarantining it in place is unquarantining it among the blocks
  pub unquarantined_blocks : unquarantine_block m (render (xs ++ (b ∷ ys))) ≡ render (join_neighbours xs (unquarantine b) ys)
  unfolding unquarantine_block
  unquarantined_blocks =
      let f = (in_front xs b ys w lv).room in
      rw (place, sized, back, f, room_behind xs b ys w, total_is xs) (sym (unquarantine_writes xs b ys))

  pub unquarantined_ends : free_end m (render (xs ++ (b ∷ ys))) ≡ m.at + size b + free_behind ys
  unfolding free_end
  unquarantined_ends = rw (place, sized, room_behind xs b ys w)

  -- it lies in the heap
  pub freed_inside : length (render (xs ++ (b ∷ ys))) ≤ 32768 → Inside m (render (xs ++ (b ∷ ys)))
  unfolding total_size
  freed_inside l =
      let f = in_front xs b ys w lv in
      let t = size_append xs (b ∷ ys) in
      let n : length (render (xs ++ (b ∷ ys))) ≡ total_size (xs ++ (b ∷ ys)) = rw render_is (length_render 0 (xs ++ (b ∷ ys))) in
      record {
        header = rw sized (omega arith);
        before = rw (back, place) f.back_fits;
        front = rw (place, back, f.room) f.free_fits;
        end = rw (place, sized) (omega arith);
        allowed = l;
      }
