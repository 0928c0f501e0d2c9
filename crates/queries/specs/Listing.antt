-- The listing's walk, on any bytes: the first block that the walk meets at a place.
use Rattle.model.specs.declared.Refusal.{Refusal}
use Rattle.std.specs.Prelude.{ℕ, zero, suc, ◌+◌, ◌≡◌, List, [], ◌∷◌, Bool, eqb, Option, Some, None, Result, Ok}
use Rattle.accounts.specs.declared.Accounts.{Accounts}
use Rattle.lists.specs.Lists.{first}
use Rattle.model.specs.Answers.{block_values}
use Rattle.model.specs.Calls.{list_block}
use Rattle.model.specs.declared.ListedBlock.{ListedBlock}
use Rattle.lookup.specs.declared.Met.{Met}
use Rattle.lookup.specs.Walk.{met}
use Rattle.results.specs.Results.{outcome}

-- a block that was met, as the listing gives it
abbrev pub listed_met : Met → ListedBlock
listed_met m = record { offset = m.at; size = m.size; serial = m.serial }

abbrev pub answered : Option Met → Result (Option ListedBlock) Refusal
answered None = Ok None
answered (Some m) = Ok (Some (listed_met m))

-- a block that was met starts at a place
abbrev pub stands_at : ℕ → Met → Bool
stands_at at m = eqb m.at at

unfoldable pub find_block : ℕ → List ℕ → Result (Option ListedBlock) Refusal
find_block at s = answered (first (stands_at at) (met s))

-- the end of a block that was given; where none was, the place itself
abbrev pub end_of : ℕ → Option ListedBlock → ℕ
end_of at None = at
end_of at (Some b) = b.offset + b.size

-- the place behind the block that the listing gives at a place
unfoldable pub place_after : (ℕ → ℕ) → List ℕ → Accounts → ℕ → ℕ
place_after unit s k at = end_of at (list_block unit s k at).values.block

-- a step from a place gives the listing's answer there, and the place behind
abbrev pub Stepped : (ℕ → ℕ) → List ℕ → Accounts → ℕ → Result (Option ListedBlock) Refusal → ℕ → Type 0
Stepped unit s k at answer after = (outcome s k (block_values answer) ≡ list_block unit s k at) × (after ≡ place_after unit s k at)

-- the answers of a walker's steps from a place on, each from where the last one left it
unfoldable pub Walks : (ℕ → ℕ) → List ℕ → Accounts → ℕ → List (Result (Option ListedBlock) Refusal) → Type 0
Walks unit s k at [] = Unit {0}
Walks unit s k at (a ∷ rest) = (after : ℕ) × Stepped unit s k at a after × Walks unit s k after rest

-- what so many steps give: the blocks in order, and then none
unfoldable pub in_steps : ℕ → List ListedBlock → List (Option ListedBlock)
in_steps zero bs = []
in_steps (suc n) [] = None ∷ in_steps n []
in_steps (suc n) (b ∷ bs) = Some b ∷ in_steps n bs
