-- The listing's law (rules 8.32 to 8.34): a step gives the block that starts at a place and none elsewhere;
-- the steps from 0 on, each to the end of the block before, are all the blocks in order, and then none.
-- Every block has at least its header's eight bytes, so that each starts behind all before it and no two start at one place.
use Rattle.std.specs.Prelude.{Option, Some, None}
use mathlib.Core.Path.{◌≡◌, refl, ap, sym, ◌∙◌}
use Prim.Native.Nat.{ℕ, zero, suc, ◌+◌, ◌≤◌}
use native.Mathlib.Nat.{not-suc-le-zero, le_of_suc-le-suc}
use native.Mathlib.Omega.{arith}
use mathlib.Core.List.Memᴰ
use mathlib.Core.List.{List, [], ◌∷◌, ◌++◌, append-nil, Memᴰ}
use mathlib.Core.Bool.{Bool, true, false, not}
use mathlib.Core.Logic.{◌⊎◌, inl, inr, ◌↔◌}
use lib.ListN.{length}
use lib.Seq.{append_snoc}
use lib.Dec.{eqb}
use borrow.Author.Tests.{eqb-true, eq-eqb, ne_eqb}
use Rattle.accounts.specs.declared.Accounts.{Accounts}
use Rattle.layout.specs.Blocks.{Block, size}
use Rattle.lists.specs.Lists.{any, total, first}
use Rattle.model.specs.Answers.{listed}
use Rattle.model.specs.Objects.{blocks_of}
use Rattle.model.specs.Refusals.{first_refusal, check_lines}
use Rattle.model.specs.Calls.{unless, unchanged, listing_from, list_block}
use Rattle.model.specs.declared.ListedBlock.{ListedBlock}
use Rattle.model.proofs.Rows
use Rattle.lists.proofs.Bools.{and_both}
use Rattle.lists.proofs.Lists.{member_any, first_some, first_found, first_none, none_exactly, total_append, unrelated, unrelated_same}

-- a block as it is listed at a place
abbrev pub listed_at : ℕ → Block → ListedBlock
listed_at at b = record { offset = at; size = size b; serial = b.serial }

-- a step of the listing: the block that starts at a place, where the first block starts at `from`
abbrev pub block_at_from : ℕ → List Block → ℕ → Option ListedBlock
block_at_from from bs at = first (λ l. eqb l.offset at) (listing_from from bs)

abbrev pub block_at : List Block → ℕ → Option ListedBlock
block_at bs at = block_at_from 0 bs at

-- the listing's call answers such a step
pub list_block_step : (unit : ℕ → ℕ) (s : List ℕ) (k : Accounts) (at : ℕ) → first_refusal (check_lines unit s k) ≡ 0 → list_block unit s k at
    ≡ unchanged s k (listed (block_at (blocks_of s) at))
unfolding list_block unless
list_block_step unit s k at e = rw e

-- behind the blocks xs it gives the block that starts there
step_from : (from : ℕ) (xs : List Block) (b : Block) (ys : List Block) (at : ℕ) → at ≡ from + total size xs → block_at_from from (xs ++ (b ∷ ys)) at
    ≡ Some (listed_at at b)
unfolding total first listing_from
step_from from [] b ys at e =
    let q : from ≡ at = omega arith in
    rw (q, eq-eqb at at refl)
step_from from (x ∷ xs) b ys at e =
    let q : eqb from at ≡ false = ne_eqb from at (λ z. omega arith) in
    rw q (step_from (from + size x) xs b ys at (omega arith))

pub step_at : (xs : List Block) (b : Block) (ys : List Block) → block_at (xs ++ (b ∷ ys)) (total size xs) ≡ Some (listed_at (total size xs) b)
step_at xs b ys = step_from 0 xs b ys (total size xs) (omega arith)

-- the first block starts at 0, and the next one at a block's offset and size together
pub step_first : (b : Block) (bs : List Block) → block_at (b ∷ bs) 0 ≡ Some (listed_at 0 b)
unfolding total
step_first b bs = step_at [] b bs

total_snoc : (xs : List Block) (b : Block) → total size (xs ++ (b ∷ [])) ≡ total size xs + size b
unfolding total
total_snoc xs b = rw total_append (omega arith)

pub step_next : (xs : List Block) (b c : Block) (ys : List Block)
    → block_at (xs ++ (b ∷ c ∷ ys)) (total size xs + size b) ≡ Some (listed_at (total size xs + size b) c)
step_next xs b c ys = rw (total_snoc xs b, append_snoc) at (step_at (xs ++ (b ∷ [])) c ys)

-- and from the last block's end on there is none
step_past : (from : ℕ) (bs : List Block) (at : ℕ) → from + total size bs ≤ at → block_at_from from bs at ≡ None
unfolding total first listing_from
step_past from [] at h = refl
step_past from (b ∷ bs) at h =
    let q : eqb from at ≡ false = ne_eqb from at (λ z. omega arith) in
    rw q (step_past (from + size b) bs at (omega arith))

pub step_end : (bs : List Block) (at : ℕ) → total size bs ≤ at → block_at bs at ≡ None
step_end bs at h = step_past 0 bs at (omega arith)

-- the blocks of a listing start no earlier than it, so no two start at one place
pub starts_behind : (from : ℕ) (bs : List Block) (l : ListedBlock) → Memᴰ l (listing_from from bs) → from ≤ l.offset
unfolding listing_from
starts_behind from [] l m = absurd (Memᴰ.not-nil m)
starts_behind from (b ∷ bs) l m = go (Memᴰ.cases_cons m) (starts_behind (from + size b) bs l)
  where
    go : (l ≡ listed_at from b) ⊎ Memᴰ l (listing_from (from + size b) bs)
        → (Memᴰ l (listing_from (from + size b) bs) → from + size b ≤ l.offset) → from ≤ l.offset
    go (inl e) ih = let q : l.offset ≡ from = ap (λ (l : ListedBlock). l.offset) e in omega arith
    go (inr m) ih = omega (arith, ih m)

abbrev same_offset : ListedBlock → ListedBlock → Bool
same_offset l m = eqb m.offset l.offset

offsets_differ : (from : ℕ) (bs : List Block) → unrelated same_offset (listing_from from bs) ≡ true
unfolding listing_from
offsets_differ from [] = refl
offsets_differ from (b ∷ bs) =
    let ls = listing_from (from + size b) bs in
    let behind : any (same_offset (listed_at from b)) ls ≡ false =
    (none_exactly (same_offset (listed_at from b)) ls).1 (λ l m e. omega (arith, starts_behind (from + size b) bs l m, eqb-true l.offset from e)) in
    and_both _ _ (ap not behind) (offsets_differ (from + size b) bs)

-- a step gives a block exactly if the listing has it and it starts there
pub step_exactly : (bs : List Block) (at : ℕ) (l : ListedBlock) → (block_at bs at ≡ Some l) ↔ ((Memᴰ l (listing_from 0 bs)) × (l.offset ≡ at))
step_exactly bs at l = (there l, back)
  where
    there : (l : ListedBlock) → block_at bs at ≡ Some l → (Memᴰ l (listing_from 0 bs)) × (l.offset ≡ at)
    there l e = let r = first_some (λ l. eqb l.offset at) (listing_from 0 bs) l e in (r.0, eqb-true l.offset at r.1)

    back : (Memᴰ l (listing_from 0 bs)) × (l.offset ≡ at) → block_at bs at ≡ Some l
    back r =
        let p : ListedBlock → Bool = λ l. eqb l.offset at in
        let f = first_found p (listing_from 0 bs) (member_any p (listing_from 0 bs) l r.0 (eq-eqb l.offset at r.1)) in
        let t = there f.0 f.1 in
        let e : f.0.offset ≡ l.offset = t.1 ∙ sym r.1 in
        f.1 ∙ ap Some (unrelated_same same_offset (listing_from 0 bs) (offsets_differ 0 bs) f.0 l t.0 r.0 (eq-eqb _ _ (sym e))
        (eq-eqb _ _ e))

-- and none exactly if no block of the listing starts there
pub step_none_exactly : (bs : List Block) (at : ℕ) → (block_at bs at ≡ None)
    ↔ ((l : ListedBlock) → Memᴰ l (listing_from 0 bs) → l.offset ≡ at → ⊥)
step_none_exactly bs at =
    let p : ListedBlock → Bool = λ l. eqb l.offset at in
    let n = none_exactly p (listing_from 0 bs) in
    let f = first_none p (listing_from 0 bs) in
    (λ e l m q. n.0 (f.0 e) l m (eq-eqb l.offset at q), λ g. f.1 (n.1 (λ l m t. g l m (eqb-true l.offset at t))))

-- the steps from a place on, each from the end of the block that the last one gave, until there is none; at most `fuel` blocks
unfoldable pub walk_on : Option ListedBlock → (ℕ → List ListedBlock) → List ListedBlock
walk_on None rest = []
walk_on (Some l) rest = l ∷ rest (l.offset + l.size)

unfoldable pub walk : ℕ → ℕ → List Block → List ListedBlock
walk zero at bs = []
walk (suc fuel) at bs = walk_on (block_at bs at) (λ next. walk fuel next bs)

walk_behind : (xs ys : List Block) (fuel : ℕ) → length ys ≤ fuel → walk fuel (total size xs) (xs ++ ys) ≡ listing_from (total size xs) ys
unfolding walk walk_on listing_from
walk_behind xs [] zero h = refl
walk_behind xs [] (suc fuel) h = rw (append-nil, step_end xs (total size xs) (omega arith))
walk_behind xs (y ∷ ys) zero h = absurd (not-suc-le-zero h)
walk_behind xs (y ∷ ys) (suc fuel) h =
    let ih = walk_behind (xs ++ (y ∷ [])) ys fuel (le_of_suc-le-suc h) in
    rw (step_at xs y ys) (ap (λ (ls : List ListedBlock). listed_at (total size xs) y ∷ ls) (rw (total_snoc xs y, append_snoc) at ih))

-- the walk from 0 is the listing
pub walk_all : (bs : List Block) (fuel : ℕ) → length bs ≤ fuel → walk fuel 0 bs ≡ listing_from 0 bs
unfolding total
walk_all bs fuel h = walk_behind [] bs fuel h
