-- Where the objects of blocks lie. A block's object is all of the block behind its header, and the next block starts at its end; so, block after
-- block, every object lies inside the blocks, apart from every other object and from every header.
use Prim.Native.Nat.{ℕ, ◌+◌, ◌≤◌, ◌<◌}
use native.Mathlib.Omega.{arith}
use mathlib.Core.Path.{◌≡◌, sym, ◌∙◌}
use mathlib.Core.List.Memᴰ
use mathlib.Core.List.{List, [], ◌∷◌, Memᴰ}
use mathlib.Core.Bool.{Bool, true, false, cond}
use mathlib.Core.Logic.{◌⊎◌, inl, inr}
use lib.ListN.{length}
use Rattle.layout.specs.Blocks.{Block, size, live, total_size}
use Rattle.model.specs.Objects.{object, objects_from}
use Rattle.model.specs.Calls.{listing_from}
use Rattle.model.specs.declared.Handle.{Handle}
use Rattle.model.specs.declared.ListedBlock.{ListedBlock}
use Rattle.model.proofs.Listing.{listed_at}
use Rattle.model.proofs.Listing.{starts_behind}
use Rattle.ledger.specs.Demand3.{Within}

-- an object is that of the first block, or one of the others
pub objects_cases : (at : ℕ) (b : Block) (bs : List Block) (o : Handle) → Memᴰ o (objects_from at (b ∷ bs))
    → (o ≡ object at b) ⊎ Memᴰ o (objects_from (at + size b) bs)
unfolding objects_from
objects_cases at b bs o m = go (live b) m
  where
    go : (t : Bool) → Memᴰ o (cond t (object at b ∷ objects_from (at + size b) bs) (objects_from (at + size b) bs))
        → (o ≡ object at b) ⊎ Memᴰ o (objects_from (at + size b) bs)
    go true m = Memᴰ.cases_cons m
    go false m = inr m

-- the bytes of an object lie inside the blocks, behind the first header
pub record Lies (at end : ℕ) (o : Handle) : Type 0 where
  pub low : at + 8 ≤ o.base
  pub high : o.base + o.length ≤ end

pub objects_lie : (at : ℕ) (bs : List Block) (o : Handle) → Memᴰ o (objects_from at bs) → Lies at (at + total_size bs) o
unfolding objects_from total_size
objects_lie at [] o m = absurd (Memᴰ.not-nil m)
objects_lie at (b ∷ bs) o m = go (objects_cases at b bs o m) (objects_lie (at + size b) bs o)
  where
    go : (o ≡ object at b) ⊎ Memᴰ o (objects_from (at + size b) bs)
        → (Memᴰ o (objects_from (at + size b) bs) → Lies (at + size b) (at + size b + total_size bs) o)
        → Lies at (at + (size b + total_size bs)) o
    go (inl e) ih = rw e (record { low = omega arith; high = omega arith })
    go (inr m) ih = let r = ih m in record { low = omega arith; high = omega arith }

-- two objects with a common byte are the same
pub objects_apart : (at : ℕ) (bs : List Block) (o p : Handle) → Memᴰ o (objects_from at bs) → Memᴰ p (objects_from at bs) → (i : ℕ)
    → Within i o → Within i p → o ≡ p
unfolding objects_from
objects_apart at [] o p m n i w v = absurd (Memᴰ.not-nil m)
objects_apart at (b ∷ bs) o p m n i w v = go (objects_cases at b bs o m) (objects_cases at b bs p n)
    (λ m n. objects_apart (at + size b) bs o p m n i w v)
  where
    behind : (x y : Handle) → x ≡ object at b → Memᴰ y (objects_from (at + size b) bs) → Within i x → Within i y → o ≡ p
    behind x y e m w v =
        let r = objects_lie (at + size b) bs y m in
        let s : x.base + x.length ≡ at + 8 + length b.body = rw e in
        absurd (omega arith)

    go : (o ≡ object at b) ⊎ Memᴰ o (objects_from (at + size b) bs) → (p ≡ object at b) ⊎ Memᴰ p (objects_from (at + size b) bs)
        → (Memᴰ o (objects_from (at + size b) bs) → Memᴰ p (objects_from (at + size b) bs) → o ≡ p) → o ≡ p
    go (inl e) (inl f) ih = e ∙ sym f
    go (inl e) (inr n) ih = behind o p e n w v
    go (inr m) (inl f) ih = behind p o f m v w
    go (inr m) (inr n) ih = ih m n

-- no byte of an object is one of a header
pub headers_apart : (at : ℕ) (bs : List Block) (o : Handle) (l : ListedBlock) → Memᴰ o (objects_from at bs) → Memᴰ l (listing_from at bs)
    → (i : ℕ) → Within i o → l.offset ≤ i → i < l.offset + 8 → ⊥
unfolding objects_from listing_from
headers_apart at [] o l m n i w low high = Memᴰ.not-nil m
headers_apart at (b ∷ bs) o l m n i w low high =
    go (objects_cases at b bs o m) (Memᴰ.cases_cons n) (λ m n. headers_apart (at + size b) bs o l m n i w low high)
  where
    go : (o ≡ object at b) ⊎ Memᴰ o (objects_from (at + size b) bs) → (l ≡ listed_at at b) ⊎ Memᴰ l (listing_from (at + size b) bs)
        → (Memᴰ o (objects_from (at + size b) bs) → Memᴰ l (listing_from (at + size b) bs) → ⊥) → ⊥
    go (inl e) (inl f) ih =
        let x : o.base ≡ at + 8 = rw e in
        let y : l.offset ≡ at = rw f in
        omega arith
    go (inl e) (inr n) ih =
        let x : o.base + o.length ≡ at + 8 + length b.body = rw e in
        let y = starts_behind (at + size b) bs l n in
        omega arith
    go (inr m) (inl f) ih =
        let x = objects_lie (at + size b) bs o m in
        let y : l.offset ≡ at = rw f in
        omega arith
    go (inr m) (inr n) ih = ih m n
