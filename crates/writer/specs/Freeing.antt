-- Freeing a block in place, from what stands on the heap's bytes: its free neighbours are found by the headers in front of it and behind it.
use Rattle.std.specs.Prelude.{ℕ, ◌+◌, ◌*◌, ◌-◌, ◌≤◌, List, Bool, cond, ◌&&◌, leb, eqb, length, Option, Some, None}
use Rattle.layout.specs.Blocks.{start_at, greatest_heap, QUARANTINED}
use Rattle.layout.specs.declared.Header.{Header}
use Rattle.writer.specs.Writes.{write_object, join_bytes, free_bytes, unquarantine_bytes}
use Rattle.lookup.specs.declared.Met.{Met}
use Rattle.writer.specs.declared.freeing.Room.{Room}

-- what a header says: the block's bytes if it is free, else 0, and the units of the block before it
abbrev pub room_of : Header → Room
room_of h = record { free = cond (eqb h.serial 0) (8 * h.size) 0; back = h.back }

abbrev pub room_start : Option Header → Room
room_start None = record { free = 0; back = 0 }
room_start (Some h) = room_of h

-- the room at a place of s; none where no block starts
unfoldable pub room_at : ℕ → List ℕ → Room
room_at at s = room_start (start_at at s)

-- a block that has become free joins a free one in front of it, by the room that stands there, and so many free bytes behind it
abbrev pub joined_bytes : Met → Room → ℕ → List ℕ → List ℕ
joined_bytes m front behind s =
    let stop = m.at + m.size + behind in
    join_bytes (m.at - front.free) m.at stop front.back (join_bytes m.at (m.at + m.size) stop m.back s)

-- the block becomes free and joins its free neighbours
unfoldable pub free_block : Met → List ℕ → List ℕ
free_block m s =
    let front = room_at (m.at - 8 * m.back) s in
    let behind = room_at (m.at + m.size) s in
    free_bytes (m.at + 8) (m.size - 8) (m.at - front.free) (m.at + m.size + behind.free) m.back front.back s

-- a block that lies in a heap of an allowed length, and so does the one before it
pub record Inside (m : Met) (s : List ℕ) : Type 0 where
  pub header : 8 ≤ m.size
  pub before : 8 * m.back ≤ m.at
  pub front : (room_at (m.at - 8 * m.back) s).free ≤ m.at
  pub end : m.at + m.size ≤ length s
  pub allowed : length s ≤ greatest_heap

-- the end of the free block that this makes
unfoldable pub free_end : Met → List ℕ → ℕ
free_end m s = m.at + m.size + (room_at (m.at + m.size) s).free

-- the same as a test; where it fails, nothing is written and the end is 0
unfoldable pub is_inside : Met → List ℕ → Bool
is_inside m s =
    leb 8 m.size
    && (leb (8 * m.back) m.at && (leb (room_at (m.at - 8 * m.back) s).free m.at
    && (leb (m.at + m.size) (length s) && leb (length s) greatest_heap)))

-- in a heap of the second kind the block waits: its object's bytes are zero, and it joins nothing
unfoldable pub quarantine_block : Met → List ℕ → List ℕ
quarantine_block m s = write_object (m.at + 8) (m.size - 8) m.back QUARANTINED s

-- what becomes of a block that nobody holds, by the kind, and the end of the block that this makes
unfoldable pub vacate_block : ℕ → Met → List ℕ → List ℕ
vacate_block kind m s = cond (eqb kind 0) (free_block m s) (quarantine_block m s)

unfoldable pub vacate_end : ℕ → Met → List ℕ → ℕ
vacate_end kind m s = cond (eqb kind 0) (free_end m s) (m.at + m.size)

unfoldable pub vacate_in : ℕ → Met → List ℕ → List ℕ
vacate_in kind m s = cond (is_inside m s) (vacate_block kind m s) s

unfoldable pub vacate_end_in : ℕ → Met → List ℕ → ℕ
vacate_end_in kind m s = cond (is_inside m s) (vacate_end kind m s) 0

-- a quarantined block becomes free with the bytes that it has, and joins its free neighbours
unfoldable pub unquarantine_block : Met → List ℕ → List ℕ
unquarantine_block m s =
    let front = room_at (m.at - 8 * m.back) s in
    let behind = room_at (m.at + m.size) s in
    unquarantine_bytes m.at m.size (m.at - front.free) (m.at + m.size + behind.free) m.back front.back s

unfoldable pub unquarantine_in : Met → List ℕ → List ℕ
unquarantine_in m s = cond (is_inside m s) (unquarantine_block m s) s

unfoldable pub free_end_in : Met → List ℕ → ℕ
free_end_in m s = cond (is_inside m s) (free_end m s) 0
