-- What the walk over the blocks finds on its way: the block before the place where it stops, and the first free block
-- with room.
use Rattle.std.specs.Prelude.{◌≡◌, ℕ, ◌+◌, ◌-◌, ◌*◌, ◌<◌, ◌≤◌, Bool, false, cond, ◌⊎◌, List, length, nat_lt, Some}
use Rattle.layout.specs.declared.Header.{Header}
use Rattle.lists.specs.Lists.{first}
use Rattle.lookup.specs.declared.Met.{Met}
use Rattle.lookup.specs.Walk.{headed, met_at, met_from, met, has_room}
use Rattle.survey.specs.Survey.{block_at}

-- more bytes than a block has
abbrev pub TAKEN : ℕ
TAKEN = 8 * 65536

-- a search among the blocks goes on at a place
pub record Searched (p : Met → Bool) (s : List ℕ) (at : ℕ) : Type 0 where
  pub fuel : ℕ
  pub enough : length s ≤ at + fuel
  pub same : first p (met s) ≡ first p (met_from fuel at s)

-- the blocks lead to a place: every search that finds none before it goes on there
abbrev pub Reaches : List ℕ → ℕ → Type 0
Reaches s at = (p : Met → Bool) → ((m : Met) → m.at + m.size ≤ at → p m ≡ false) → Searched p s at

-- the block before a place: `edge` bytes or more were left where it starts
pub record Last (s : List ℕ) (edge at back before : ℕ) : Type 0 where
  pub start : ℕ
  pub place : at ≡ start + 8 * back
  pub far : start + edge ≤ length s
  pub reached : Reaches s start
  pub header : Header
  pub size : header.size ≡ back
  pub serial : header.serial ≡ before
  pub there : met_at start s ≡ Some (headed start header)

-- the search for room for n bytes at a multiple of a: it goes on at a place, or has found a block, and then `need` is
-- more than any block has
pub record Seeking (a n : ℕ) (s : List ℕ) (at fit need : ℕ) : Type 0 where
  pub on : length s ≤ fit → (need ≡ n) × Searched (has_room a n) s at
  pub found : fit < length s → (TAKEN ≤ need) × (first (has_room a n) (met s) ≡ Some (block_at fit s))

-- from one place to another
pub record Passed (s : List ℕ) (edge a from fit need at back before fit' need' : ℕ) : Type 0 where
  pub reaches : Reaches s at
  pub last : (at ≡ from) ⊎ Last s edge at back before
  pub seeks : (n : ℕ) → Seeking a n s from fit need → Seeking a n s at fit' need'

-- the bytes that are left where a block with this base as its object's last one may start; 8 where no object has such a
-- base
unfoldable pub edge_of : ℕ → ℕ → ℕ
edge_of base len = cond (nat_lt base 8) 8 (cond (nat_lt len base) 8 (len - base + 8))

-- that block, by the place behind it, its units and its serial
abbrev pub half_met : ℕ → ℕ → ℕ → Met
half_met at back before = record { at = at - 8 * back; size = 8 * back; back = 0; serial = before }

-- the first part of the walk, to an edge: none where the edge is 8, and else the block before the place where it
-- stopped
abbrev pub Halved : ℕ → List ℕ → ℕ → ℕ → ℕ → Type 0
Halved edge s at back before = ((edge ≡ 8) × (at ≡ 0) × (back ≡ 0)) ⊎ ((8 < edge) × (length s < at + edge) × ((at ≡ 0) ⊎ Last s edge at back before))
