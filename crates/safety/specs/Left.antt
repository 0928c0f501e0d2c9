-- Nothing is left of what was released (rules 24.4 to 24.6): every byte outside headers and live objects is zero.
use Rattle.std.specs.Prelude.{ℕ, ◌+◌, ◌≤◌, ◌<◌, ◌≡◌, Bool, true, false, ◌||◌, get_or, eqb}
use mathlib.Core.List.{List, Memᴰ}
use Rattle.accounts.specs.declared.Accounts.{Accounts}
use Rattle.layout.specs.Blocks.{Block, live}
use Rattle.lists.specs.Lists.{all}
use Rattle.model.specs.Objects.{blocks_of, objects_of}
use Rattle.model.specs.Calls.{listing_from}
use Rattle.model.specs.declared.ListedBlock.{ListedBlock}
use Rattle.model.specs.declared.Call.{Call}
use Rattle.ledger.specs.Ledger.{Ledger, Event}
use Rattle.ledger.specs.History.{Run, in_object, Written, History}
use Rattle.safety.specs.Images.{AtLastImage}

-- a block that is live, or whose bytes behind the header all pass a test
unfoldable pub clean_block : (ℕ → Bool) → Block → Bool
clean_block p b = live b || all p b.body

-- a heap of such blocks
unfoldable pub clean : (ℕ → Bool) → List ℕ → Bool
clean p s = all (clean_block p) (blocks_of s)

-- the bytes of all blocks that are not live are zero
abbrev pub is_zero : ℕ → Bool
is_zero x = eqb x 0

unfoldable pub blank : List ℕ → Bool
blank s = clean is_zero s

-- a byte of no header of the heap
abbrev pub OffHeaders : ℕ → List ℕ → Type 0
OffHeaders i s = (b : ListedBlock) → Memᴰ b (listing_from 0 (blocks_of s)) → b.offset ≤ i → i < b.offset + 8 → ⊥

pub record NothingLeft (tables : ℕ → ℕ → ℕ) (run : Run) : Type 0 where
  -- from an opening on the heap is blank, and from an image that is
  pub always : (begun : Ledger) (es : List Event) (s : List ℕ) (k : Accounts) (h : History tables run begun es s k)
      → AtLastImage tables run begun (λ s k. blank s ≡ true) es s k h → blank s ≡ true
  -- after every history, whatever its images: a test that 0 passes, and all bytes of blocks that are not live, they still pass after a call and a write. So a
  -- blank heap stays blank, and in any other no byte appears there that was not there before, but 0
  pub called : (begun : Ledger) (es : List Event) (s : List ℕ) (k : Accounts) → History tables run begun es s k → (p : ℕ → Bool) → p 0 ≡ true
      → clean p s ≡ true → (c : Call) → clean p (run c s k).heap ≡ true
  pub wrote : (begun : Ledger) (es : List Event) (s : List ℕ) (k : Accounts) → History tables run begun es s k → (p : ℕ → Bool)
      → clean p s ≡ true → (s' : List ℕ) → Written s s' → clean p s' ≡ true
  -- in a blank heap each byte outside live objects and headers is zero
  pub bytes : (begun : Ledger) (es : List Event) (s : List ℕ) (k : Accounts) → History tables run begun es s k → blank s ≡ true
      → (i : ℕ) → in_object i (objects_of s) ≡ false → OffHeaders i s → get_or s i 0 ≡ 0
