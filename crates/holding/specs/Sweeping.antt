-- The sweep's walk over a heap's bytes: quarantined blocks become free and join their free neighbours, and their sizes are added up.
use Rattle.std.specs.Prelude.{ℕ, ◌+◌, ◌≤◌, ◌≡◌, List, ◌++◌, true, cond, eqb}
use Rattle.layout.specs.Blocks.{Block, size, QUARANTINED, quarantined, total_size, render, AllWritable}
use Rattle.lists.specs.Lists.{all, total, keep}
use Rattle.model.specs.Consistent.{free_apart}
use Rattle.model.specs.Space.{swept, not_quarantined}
use Rattle.lookup.specs.declared.Met.{Met}
use Rattle.writer.specs.Freeing.{unquarantine_in, free_end_in}

-- the bytes of a block that is quarantined, else 0
unfoldable pub quarantined_size : ℕ → ℕ → ℕ
quarantined_size serial size = cond (eqb serial QUARANTINED) size 0

-- the bytes once the walk has passed a block, which is unquarantined if it is quarantined
unfoldable pub swept_bytes : Met → List ℕ → List ℕ
swept_bytes m s = cond (eqb m.serial QUARANTINED) (unquarantine_in m s) s

-- and where the walk goes on: behind the block, or behind the free block that it became
unfoldable pub swept_end : Met → List ℕ → ℕ
swept_end m s = cond (eqb m.serial QUARANTINED) (free_end_in m s) (m.at + m.size)

-- the walk came to a place: no block in front of it is quarantined, sweeping all blocks gives what sweeping bs gives, and so does the sum
pub record Sweeping (bs : List Block) (sum at : ℕ) (s : List ℕ) : Type 0 where
  pub front : List Block
  pub todo : List Block
  pub bytes : s ≡ render (front ++ todo)
  pub place : at ≡ total_size front
  pub writable : AllWritable (front ++ todo)
  pub apart : free_apart (front ++ todo) ≡ true
  pub short : total_size (front ++ todo) ≤ 32768
  pub opened : all not_quarantined front ≡ true
  pub same : swept (front ++ todo) ≡ swept bs
  pub adds : sum + total size (keep quarantined todo) ≡ total size (keep quarantined bs)
  pub small : sum + total size (keep quarantined todo) ≤ 32768

-- the walk can start on s
abbrev pub Sweepable : List ℕ → Type 0
Sweepable s = (bs : List Block) × Sweeping bs 0 0 s

-- and leaves the swept blocks, and gives the sum
abbrev pub Swept : List ℕ → List ℕ → ℕ → Type 0
Swept s s' n = (bs : List Block) → Sweeping bs 0 0 s → (s' ≡ render (swept bs)) × (n ≡ total size (keep quarantined bs)) × (n ≤ 32768)
