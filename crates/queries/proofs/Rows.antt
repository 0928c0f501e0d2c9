-- The listing and its walker on a small heap, computed.
use Rattle.std.specs.Prelude.{Some, None, Ok}
use Prim.Native.Nat.{ℕ, ◌-◌}
use mathlib.Core.Path.{◌≡◌, refl}
use mathlib.Core.List.{List, [], ◌∷◌, ◌++◌}
use lib.ListN.{replicate}
use Rattle.rounding.specs.Rounding.{unit}
use Rattle.accounts.specs.declared.Accounts.{Accounts}
use Rattle.accounts.specs.Accounts.{QUOTAS, HOLDS}
use Rattle.model.specs.Answers.{refused}
use Rattle.model.specs.Calls.{unchanged}
use Rattle.model.specs.Marked.{handle}
use Rattle.model.specs.declared.ListedBlock.{ListedBlock}
use Rattle.model.proofs.Computing.{computing}
use Rattle.layout.specs.Blocks.{start_at}
use Rattle.lookup.specs.Walk.{met_at, met_from, met}
use Rattle.queries.specs.Claimable.{can_claim}
use Rattle.queries.specs.Listing.{find_block, place_after, in_steps}

-- 64 bytes: an object of 16 bytes, and a free block of 40 bytes behind it
pub heap : List ℕ
heap = 3 ∷ 0 ∷ 0 ∷ 0 ∷ 1 ∷ 0 ∷ 0 ∷ 0 ∷ (replicate 16 0 ++ (5 ∷ 0 ∷ 3 ∷ replicate 37 0))

-- its accounts: quota 0 holds the object, and has so much of its 100 bytes left
pub accounts : ℕ → Accounts
accounts left = record {
  quotas = record { grant = 100; remainder = left; permissions = 7 } ∷ replicate (QUOTAS - 1) record { grant = 0; remainder = 0; permissions = 7 };
  last_serial = 1;
  holds = record { serial = 1; quota = 0; count = 1 } ∷ replicate (HOLDS - 1) record { serial = 0; quota = 0; count = 0 };
  kind = 0;
  edition = 0;
}

pub object : ListedBlock
object = record { offset = 0; size = 24; serial = 1 }

pub free : ListedBlock
free = record { offset = 24; size = 40; serial = 0 }

pub found_rows : (find_block 0 heap ≡ Ok (Some object)) × (find_block 24 heap ≡ Ok (Some free)) × (find_block 8 heap ≡ Ok None) × (find_block 64 heap ≡ Ok None)
unfolding computing find_block met met_from met_at start_at heap object free
found_rows = (refl, refl, refl, refl)

-- behind a block; where none is given, and where the accounts are refused, the place itself
pub place_rows : (place_after unit heap (accounts 76) 0 ≡ 24) × (place_after unit heap (accounts 76) 24 ≡ 64) × (place_after unit heap (accounts 76) 64 ≡ 64)
    × (place_after unit heap (accounts 76) 8 ≡ 8) × (place_after unit heap (accounts 75) 0 ≡ 0)
unfolding computing place_after unit heap accounts
place_rows = (refl, refl, refl, refl, refl)

pub step_rows : (in_steps 1 (object ∷ free ∷ []) ≡ Some object ∷ []) × (in_steps 4 (object ∷ free ∷ []) ≡ Some object ∷ Some free ∷ None ∷ None ∷ [])
unfolding in_steps
step_rows = (refl, refl)

-- can claim (rule 8.37): its holder, a quota without a grant, no quota; a range that is too long; accounts that do not agree with the heap. Nothing changes
pub claim_rows : (can_claim unit heap (accounts 76) 0 (handle 8 16 1) ≡ unchanged heap (accounts 76) (refused 0))
    × (can_claim unit heap (accounts 76) 1 (handle 12 4 1) ≡ unchanged heap (accounts 76) (refused 8))
    × ((can_claim unit heap (accounts 76) 32 (handle 8 16 1)).values.refusal ≡ 3) × ((can_claim unit heap (accounts 76) 0 (handle 8 17 1)).values.refusal ≡ 5)
    × ((can_claim unit heap (accounts 75) 0 (handle 8 16 1)).values.refusal ≡ 2)
unfolding computing unit heap accounts
claim_rows = (refl, refl, refl, refl, refl)
