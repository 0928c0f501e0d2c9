-- The walk over a heap's blocks by their sizes (rule 2.8), on any bytes: what it meets, the object that a
-- handle names among what it meets, and the first free block that has room for a new object.
use Rattle.std.specs.Prelude.{ℕ, zero, suc, ◌+◌, ◌*◌, ◌-◌, ◌/◌, ◌^◌, ◌≤◌, ◌<◌, List, [], ◌∷◌, Bool, not, cond, ◌&&◌, length, leb, eqb, Option, Some, None}
use Rattle.layout.specs.Blocks.{QUARANTINED, start_at}
use Rattle.layout.specs.declared.Header.{Header}
use Rattle.lists.specs.Lists.{first}
use Rattle.model.specs.Objects.{names, whole}
use Rattle.model.specs.declared.Handle.{Handle}
use Rattle.lookup.specs.declared.Met.{Met}

-- the block that a header at a place starts, its size in bytes
abbrev pub headed : ℕ → Header → Met
headed at h = record { at = at; size = 8 * h.size; back = h.back; serial = h.serial }

-- the block by what starts there
abbrev pub met_start : ℕ → Option Header → Option Met
met_start at None = None
met_start at (Some h) = Some (headed at h)

-- the block that starts at a place of s
unfoldable pub met_at : ℕ → List ℕ → Option Met
met_at at s = met_start at (start_at at s)

-- a block has its header, and its end is a place that fits 64 bits
pub record Bounded (m : Met) : Type 0 where
  pub header : 8 ≤ m.size
  pub end : m.at + m.size < 2 ^ 64

-- a block that was met, and what the walk meets behind it; nothing where no block starts
abbrev pub followed : Option Met → (ℕ → List Met) → List Met
followed None later = []
followed (Some m) later = m ∷ later (m.at + m.size)

-- the blocks that start one after the other from a place on, until no block starts; at most `fuel` blocks
unfoldable pub met_from : ℕ → ℕ → List ℕ → List Met
met_from zero at s = []
met_from (suc fuel) at s = followed (met_at at s) (λ next. met_from fuel next s)

-- the blocks that a walk from offset 0 meets: a block has at least eight bytes, so the length is fuel enough
unfoldable pub met : List ℕ → List Met
met s = met_from (length s) 0 s

-- a block that was met is not free, and is live
abbrev pub occupied_met : Met → Bool
occupied_met m = not (eqb m.serial 0)

abbrev pub live_met : Met → Bool
live_met m = occupied_met m && not (eqb m.serial QUARANTINED)

-- its object: what follows the header
abbrev pub object_met : Met → Handle
object_met m = record { base = m.at + 8; length = m.size - 8; serial = m.serial }

-- the handle names the block's object, and the block is live
unfoldable pub holds_named : Handle → Met → Bool
holds_named h m = live_met m && names h (object_met m)

-- a search that found a block, or none
abbrev pub looked_up : Option Met → Option Met
looked_up None = None
looked_up (Some m) = Some m

-- the first block that holds the object that a handle names
unfoldable pub find_object : Handle → List ℕ → Option Met
find_object h s = looked_up (first (holds_named h) (met s))

-- what was met, if it holds the object that the handle names
abbrev pub named_met : Handle → Option Met → Option Met
named_met h None = None
named_met h (Some m) = cond (holds_named h m) (Some m) None

-- what was found, if the handle is the whole of its object
abbrev pub whole_met : Handle → Option Met → Option Met
whole_met h None = None
whole_met h (Some m) = cond (whole h (object_met m)) (Some m) None

unfoldable pub find_whole : Handle → List ℕ → Option Met
find_whole h s = whole_met h (find_object h s)

-- the lowest multiple of a that is at least x
unfoldable pub multiple_from : ℕ → ℕ → ℕ
multiple_from a x = (x + (a - 1)) / a * a

-- the lowest base in a block: a multiple of a, behind the header
abbrev pub base_in : ℕ → Met → ℕ
base_in a m = multiple_from a (m.at + 8)

-- the block is free, and an object of n bytes at its lowest base ends in it
unfoldable pub has_room : ℕ → ℕ → Met → Bool
has_room a n m = not (occupied_met m) && leb (base_in a m + n) (m.at + m.size)

-- the block that was found, with its lowest base
abbrev pub fitted : ℕ → Option Met → Option (Met × ℕ)
fitted a None = None
fitted a (Some m) = Some (m, base_in a m)

-- the lowest base in one block, if the block has room
unfoldable pub fit_in : ℕ → ℕ → Met → Option (Met × ℕ)
fit_in a n m = cond (has_room a n m) (Some (m, base_in a m)) None

-- the same of what the walk meets at a place
abbrev pub fit_met : ℕ → ℕ → Option Met → Option (Met × ℕ)
fit_met a n None = None
fit_met a n (Some m) = fit_in a n m

-- the first block that has room, and its lowest base; alignment 0 has no multiples but 0, and fits nowhere
unfoldable pub find_fit : ℕ → ℕ → List ℕ → Option (Met × ℕ)
find_fit a n s = cond (eqb a 0) None (fitted a (first (has_room a n) (met s)))
