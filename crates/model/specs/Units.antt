-- Which objects fit their units (rule 5.10): states with one object, which quota 0 holds, on both sides of the rule.
-- What the check gives for each is proved by computing.
use Rattle.std.specs.Prelude.{ℕ, ◌+◌, ◌-◌, List, [], ◌∷◌, ◌++◌, cond, leb, replicate}
use Rattle.accounts.specs.declared.Accounts.{Accounts}
use Rattle.accounts.specs.Accounts.{QUOTAS, HOLDS, plain, zero_quota, zero_hold}
use Rattle.layout.specs.Blocks.{Block, render}
use Rattle.rounding.specs.Rounding.{unit}
use Rattle.model.specs.Calls.{open_heap, allocate, check}

-- the base and the length of the object, and the bytes behind it
pub data Placed : Type 0 where
  placed : ℕ → ℕ → ℕ → Placed

-- a free block of so many bytes, none for 0
unfoldable pub gap : ℕ → List Block
gap n = cond (leb 8 n) (record { serial = 0; body = replicate (n - 8) 0 } ∷ []) []

unfoldable pub heap_with : Placed → List ℕ
heap_with (placed base length behind) = render (gap (base - 8) ++ (record { serial = 1; body = replicate length 0 } ∷ gap behind))

unfoldable pub accounts_with : Placed → Accounts
accounts_with (placed base length behind) =
    record {
      quotas = record { grant = length + 8; remainder = 0; permissions = 7 } ∷ replicate (QUOTAS - 1) zero_quota;
      last_serial = 1;
      holds = record { serial = 1; quota = 0; count = 1 } ∷ replicate (HOLDS - 1) zero_hold;
      kind = 0;
      edition = 0;
    }

-- the refusal that the check gives with a table of units
unfoldable pub refusal_with : (ℕ → ℕ) → Placed → ℕ
refusal_with u p = (check u (heap_with p) (accounts_with p)).values.refusal

unfoldable pub fitting : List Placed
fitting =
    placed 8 8184 0 ∷ placed 24 8184 0 ∷ placed 16 8192 0 ∷ placed 16 8208 8 ∷ placed 16 16368 0 ∷ placed 32 16384 0 ∷ placed 64 16384 0
    ∷ placed 32 32736 0 ∷ []

unfoldable pub unfitting : List Placed
unfitting =
    -- the base
    placed 8 8192 0 ∷ placed 24 8192 0 ∷ placed 8 16368 0 ∷ placed 8 16384 0 ∷ placed 16 16384 0 ∷ placed 48 16384 0 ∷ placed 16 32736 0
    -- the length
    ∷ placed 16 8200 0 ∷ placed 16 16376 0 ∷ placed 32 16400 0 ∷ placed 32 16392 0 ∷ placed 8 32760 0 ∷ []

-- with a table of units in which each is 32
unfoldable pub wide_fitting : List Placed
wide_fitting = placed 32 32 0 ∷ placed 64 96 8 ∷ []

unfoldable pub wide_unfitting : List Placed
wide_unfitting = placed 8 32 24 ∷ placed 48 32 0 ∷ placed 32 40 0 ∷ placed 32 8 24 ∷ []

-- the base that a request gets in a fresh heap of H bytes, 0 where it is refused
unfoldable pub base_in : ℕ → ℕ → ℕ
base_in H n =
    let t = open_heap plain (replicate H 0) (100000 ∷ replicate (QUOTAS - 1) 0) in
    (allocate unit t.heap t.accounts 0 n).values.handle.base
