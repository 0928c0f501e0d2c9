-- The objects of a heap, and the handles that name them (rules, section 4).
use Rattle.std.specs.Prelude.{ℕ, ◌+◌, List, [], ◌∷◌, Bool, cond, ◌&&◌, length, leb, eqb, Option}
use Rattle.layout.specs.Blocks.{Block, size, live, parse}
use Rattle.lists.specs.Lists.{first, or_else}
use Rattle.model.specs.Answers.{zero_handle}
use Rattle.model.specs.declared.Handle.{Handle}

-- rule 4.1: the object of a block that starts at a place
abbrev pub object : ℕ → Block → Handle
object at b = record { base = at + 8; length = length b.body; serial = b.serial }

-- the objects of the live blocks, in order, where the first block starts at a place
unfoldable pub objects_from : ℕ → List Block → List Handle
objects_from at [] = []
objects_from at (b ∷ bs) =
    let rest = objects_from (at + size b) bs in
    cond (live b) (object at b ∷ rest) rest

unfoldable pub objects : List Block → List Handle
objects bs = objects_from 0 bs

-- the blocks of a heap, and the objects; none where it is not cut into blocks
unfoldable pub blocks_of : List ℕ → List Block
blocks_of s = or_else [] (parse s)

unfoldable pub objects_of : List ℕ → List Handle
objects_of s = objects (blocks_of s)

-- rule 4.6: a handle is the whole of an object; all three are the same
unfoldable pub whole : Handle → Handle → Bool
whole h o = eqb h.base o.base && (eqb h.length o.length && eqb h.serial o.serial)

-- rule 4.3: a handle names an object; the serial is the same, and the range is not empty and does not leave the object
unfoldable pub names : Handle → Handle → Bool
names h o = eqb h.serial o.serial && (leb 1 h.length && (leb o.base h.base && leb (h.base + h.length) (o.base + o.length)))

-- rule 4.4, the lookup: the object that a handle names; and for reallocate (rule 4.10), the object that it is the whole of
unfoldable pub lookup : Handle → List ℕ → Option Handle
lookup h s = first (names h) (objects_of s)

unfoldable pub lookup_whole : Handle → List ℕ → Option Handle
lookup_whole h s = first (whole h) (objects_of s)

-- what the lookup found
unfoldable pub found : Option Handle → Handle
found o = or_else zero_handle o
