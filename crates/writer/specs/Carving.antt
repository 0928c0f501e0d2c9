-- An object with its header lies in a block that was met, in a heap of an allowed length.
use Rattle.std.specs.Prelude.{ℕ, ◌+◌, ◌≤◌, List, Bool, cond, ◌&&◌, leb}
use Rattle.layout.specs.Blocks.{greatest_heap}
use Rattle.lookup.specs.declared.Met.{Met}
use Rattle.writer.specs.Writes.{carve_bytes}

pub record Room (m : Met) (base n : ℕ) : Type 0 where
  pub low : m.at + 8 ≤ base
  pub high : base + n ≤ m.at + m.size
  pub inside : m.at + m.size ≤ greatest_heap

-- the same as a test
unfoldable pub has_room : Met → ℕ → ℕ → Bool
has_room m base n = leb (m.at + 8) base && (leb (base + n) (m.at + m.size) && leb (m.at + m.size) greatest_heap)

-- the object is cut out of the block where it lies in it; else nothing is written
unfoldable pub carve_in : Met → ℕ → ℕ → ℕ → List ℕ → List ℕ
carve_in m base n serial s = cond (has_room m base n) (carve_bytes m.at (m.at + m.size) base n m.back serial s) s
