-- Whether every object has a base and a length that are multiples of its unit, and quarantined blocks stand in the second kind only, block by block.
use Rattle.std.specs.Prelude.{ℕ, ◌-◌, List, Bool, false, cond, ◌&&◌, ◌||◌, eqb, Option, Some, None}
use Rattle.layout.specs.Blocks.{Block, QUARANTINED}
use Rattle.lists.specs.Lists.{all}
use Rattle.model.specs.Objects.{objects_from}
use Rattle.model.specs.Consistent.{fits_unit, in_units, in_kind}

-- a block with this serial and size that ends at a place is free, or quarantined in a heap of the second kind, or its object is in its units
unfoldable pub fits_block : (ℕ → ℕ) → ℕ → ℕ → ℕ → ℕ → Bool
fits_block unit kind serial size end = eqb serial 0 || cond (eqb serial QUARANTINED) (eqb kind 1) (fits_unit unit (end - (size - 8)) (size - 8))

-- every block is so, where the first starts at a place; a heap that is not cut into blocks fails
unfoldable pub fitting : (ℕ → ℕ) → ℕ → ℕ → Option (List Block) → Bool
fitting unit kind at None = false
fitting unit kind at (Some bs) = all (in_units unit) (objects_from at bs) && all (in_kind kind) bs
