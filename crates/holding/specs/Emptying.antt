-- Free-all's walk over a heap's bytes: the freeing of the blocks that are not kept.
use Rattle.std.specs.Prelude.{ℕ, ◌+◌, ◌<◌, ◌≤◌, ◌≡◌, List, [], ◌∷◌, ◌++◌, Bool, true, false, not, cond, ◌&&◌, ◌||◌, get_or, replicate, eqb}
use Rattle.accounts.specs.declared.Hold.{Hold}
use Rattle.accounts.specs.Accounts.{HOLDS}
use Rattle.layout.specs.Blocks.{Block, live, total_size, render, AllWritable, greatest_heap, QUARANTINED}
use Rattle.lists.specs.Lists.{all}
use Rattle.model.specs.Consistent.{free_apart, held}
use Rattle.model.specs.Space.{settle, stays}
use Rattle.lookup.specs.declared.Met.{Met}
use Rattle.lookup.specs.Walk.{live_met}
use Rattle.survey.specs.Holders.{held_flags, put_flags}
use Rattle.writer.specs.Freeing.{vacate_in, vacate_end_in}

-- how many live blocks a block with a serial is: 1, or 0 where it is free or quarantined
unfoldable pub counted : ℕ → ℕ
counted serial = cond (not (eqb serial 0) && not (eqb serial QUARANTINED)) 1 0

-- the flags of the live blocks in order, as many as there are records: whether a record holds the block
unfoldable pub flags_of : List Hold → List ℕ → List Bool
flags_of hs s = put_flags 0 (held_flags hs s) (replicate HOLDS false)

-- a block that the walk leaves as it is: it is not live, or kept
abbrev pub remains : Bool → Met → Bool
remains kept m = not (live_met m) || kept

-- the bytes once the walk has passed a block, which is vacated unless it remains
unfoldable pub passed : ℕ → Bool → Met → List ℕ → List ℕ
passed kind kept m s = cond (remains kept m) s (vacate_in kind m s)

-- and where the walk goes on: behind the block, or behind what it became
unfoldable pub passed_end : ℕ → Bool → Met → List ℕ → ℕ
passed_end kind kept m s = cond (remains kept m) (m.at + m.size) (vacate_end_in kind m s)

-- from place i on, the flags say of each live block in order whether a record holds it
unfoldable pub Flagged : List Hold → List Bool → ℕ → List Block → Type 0
Flagged hs kept i [] = Unit {0}
Flagged hs kept i (b ∷ bs) =
    (live b ≡ true → (i < HOLDS) × (get_or kept i false ≡ held hs b.serial)) × Flagged hs kept (i + counted b.serial) bs

-- the freeing walk came to a place: the blocks in front of it are settled, and settling all blocks gives what settling bs gives
pub record Emptying (kind : ℕ) (hs : List Hold) (bs : List Block) (kept : List Bool) (i at : ℕ) (s : List ℕ) : Type 0 where
  pub front : List Block
  pub todo : List Block
  pub bytes : s ≡ render (front ++ todo)
  pub place : at ≡ total_size front
  pub writable : AllWritable (front ++ todo)
  pub apart : free_apart (front ++ todo) ≡ true
  pub short : total_size (front ++ todo) ≤ greatest_heap
  pub settled : all (stays hs) front ≡ true
  pub same : settle kind hs (front ++ todo) ≡ settle kind hs bs
  pub flags : Flagged hs kept i todo

-- the walk can start on s
abbrev pub Emptiable : ℕ → List Bool → List ℕ → Type 0
Emptiable kind kept s = (hs : List Hold) × (bs : List Block) × Emptying kind hs bs kept 0 0 s

-- and leaves the settled blocks
abbrev pub Emptied : ℕ → List Bool → List ℕ → List ℕ → Type 0
Emptied kind kept s s' = (hs : List Hold) (bs : List Block) → Emptying kind hs bs kept 0 0 s → s' ≡ render (settle kind hs bs)
