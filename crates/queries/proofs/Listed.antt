-- The listing's walk finds what rules 8.32 and 8.33 say: on a heap that is cut into blocks, the block that starts at the place, or none.
-- The walk meets the blocks in the order of the listing, at the same places. So a walker from 0 on gives all the blocks in order, and then none.
use Rattle.model.specs.declared.Refusal.{Refusal}
use Rattle.std.specs.Prelude.{Option, Some, None, Result, Ok}
use mathlib.Core.Path.{◌≡◌, refl, ap, sym, ◌∙◌}
use mathlib.Core.List.{List, [], ◌∷◌, ◌++◌, append-nil, map}
use mathlib.Core.Bool.{Bool, true, false}
use Prim.Native.Nat.{ℕ, zero, suc, ◌+◌, ◌≤◌}
use native.Mathlib.Omega.{arith}
use lib.Dec.{eqb}
use lib.ListN.{length}
use lib.Seq.{append_snoc}
use Rattle.accounts.specs.declared.Accounts.{Accounts}
use Rattle.layout.specs.Blocks.{Block, size, units, total_size, parse}
use Rattle.lists.specs.Lists.{first, or_else, total}
use Rattle.model.specs.Answers.{listed, block_values}
use Rattle.model.specs.Objects.{blocks_of}
use Rattle.model.specs.Refusals.{first_refusal, check_lines}
use Rattle.model.specs.Calls.{Outcome, unless, unchanged, listing_from, list_block}
use Rattle.model.specs.declared.ListedBlock.{ListedBlock}
use Rattle.model.proofs.Consistent.{blocks_parsed}
use Rattle.lists.proofs.Lists.{total_append}
use Rattle.model.proofs.Listing.{listed_at, block_at, block_at_from, list_block_step, step_at, step_end}
use Rattle.lookup.proofs.Parsed.{met_of, met_parsed, total_parsed}
use Rattle.results.specs.Results.{outcome}
use Rattle.queries.specs.Listing.{answered, stands_at, find_block, end_of, place_after, Stepped, Walks, in_steps}

-- among the blocks from a place on
listing_met : (at from back : ℕ) (bs : List Block) → block_values (answered (first (stands_at at) (met_of from back bs))) ≡ listed (block_at_from from bs at)
unfolding first met_of listing_from block_values
listing_met at from back [] = refl
listing_met at from back (b ∷ bs) = go (eqb from at) refl (listing_met at (from + size b) (units b) bs)
  where
    go : (x : Bool) → eqb from at ≡ x
        → block_values (answered (first (stands_at at) (met_of (from + size b) (units b) bs))) ≡ listed (block_at_from (from + size b) bs at)
        → block_values (answered (first (stands_at at) (met_of from back (b ∷ bs)))) ≡ listed (block_at_from from (b ∷ bs) at)
    go true e ih = rw e
    go false e ih = rw e ih

no_blocks : (s : List ℕ) → parse s ≡ None → blocks_of s ≡ []
unfolding blocks_of or_else
no_blocks s e = rw e

nothing_at : (at : ℕ) (b : ListedBlock) → block_at [] at ≡ Some b → ⊥
unfolding first listing_from
nothing_at at b e = let z : ◌≡◌ {A = ℕ} 0 1 = cc in omega arith

-- in a heap that is cut into blocks
pub find_block_is : (s : List ℕ) (at : ℕ) → parse s ≡ Some (blocks_of s) → block_values (find_block at s) ≡ listed (block_at (blocks_of s) at)
unfolding find_block
find_block_is s at e = rw (met_parsed s (blocks_of s) e) (listing_met at 0 0 (blocks_of s))

-- a block of the listing ends where the blocks do, or before
inside_from : (at from : ℕ) (bs : List Block) (b : ListedBlock) → block_at_from from bs at ≡ Some b → b.offset + b.size ≤ from + total_size bs
unfolding first listing_from total_size
inside_from at from [] b e = let z : ◌≡◌ {A = ℕ} 0 1 = cc in absurd (omega arith)
inside_from at from (x ∷ xs) b e = go (eqb from at) refl (inside_from at (from + size x) xs b)
  where
    go : (y : Bool) → eqb from at ≡ y → (block_at_from (from + size x) xs at ≡ Some b → b.offset + b.size ≤ from + size x + total_size xs)
        → b.offset + b.size ≤ from + (size x + total_size xs)
    go true t ih =
        let q : listed_at from x ≡ b = cc in
        let o : from ≡ b.offset = ap (λ (l : ListedBlock). l.offset) q in
        let z : size x ≡ b.size = ap (λ (l : ListedBlock). l.size) q in
        omega arith
    go false t ih = omega (arith, ih (rw t at e))

block_inside : (s : List ℕ) (at : ℕ) (b : ListedBlock) → block_at (blocks_of s) at ≡ Some b → b.offset + b.size ≤ length s
block_inside s at b = go (parse s) refl
  where
    go : (o : Option (List Block)) → parse s ≡ o → block_at (blocks_of s) at ≡ Some b → b.offset + b.size ≤ length s
    go None p e = let q : blocks_of s ≡ [] = no_blocks s p in absurd (nothing_at at b (rw q at e))
    go (Some bs) p e = omega (arith, inside_from at 0 bs b (rw (blocks_parsed s bs p) at e), total_parsed s bs p)

-- so does the block that the call gives
pub given_inside : (unit : ℕ → ℕ) (s : List ℕ) (k : Accounts) (at : ℕ) (b : ListedBlock) → (list_block unit s k at).values.block ≡ Some b
    → b.offset + b.size ≤ length s
unfolding list_block unless
given_inside unit s k at b = go (first_refusal (check_lines unit s k))
  where
    go : (n : ℕ) → (unless n s k (unchanged s k (listed (block_at (blocks_of s) at)))).values.block ≡ Some b → b.offset + b.size ≤ length s
    go zero e = block_inside s at b e
    go (suc n) e = let z : ◌≡◌ {A = ℕ} 0 1 = cc in absurd (omega arith)

-- the place behind a block that was given, and the place itself where none was
module _ (unit : ℕ → ℕ) (s : List ℕ) (k : Accounts) (at : ℕ) (r : Result (Option ListedBlock) Refusal) (told : outcome s k (block_values r)
    ≡ list_block unit s k at) where
  given_block : (list_block unit s k at).values.block ≡ (block_values r).block
  given_block = sym (ap (λ (o : Outcome). o.values.block) told)

  pub after_some : (b : ListedBlock) → r ≡ Ok (Some b) → (b.offset + b.size ≤ length s) × Stepped unit s k at (Ok (Some b)) (b.offset + b.size)
  unfolding block_values place_after
  after_some b e =
      let g : (list_block unit s k at).values.block ≡ Some b = given_block ∙ ap (λ (x : Result (Option ListedBlock) Refusal). (block_values x).block) e in
      (given_inside unit s k at b g, (rw e at told, rw g))

  pub after_none : (block_values r).block ≡ None → Stepped unit s k at r at
  unfolding place_after
  after_none e = (told, rw (given_block, e))

-- the block that an answer gives
abbrev pub given : Result (Option ListedBlock) Refusal → Option ListedBlock
given a = (block_values a).block

module _ (unit : ℕ → ℕ) (s : List ℕ) (k : Accounts) (e : first_refusal (check_lines unit s k) ≡ 0) where
  step_given : (at : ℕ) (a : Result (Option ListedBlock) Refusal) (after : ℕ) → Stepped unit s k at a after → given a ≡ block_at (blocks_of s) at
  step_given at a after t = ap (λ (o : Outcome). o.values.block) (t.0 ∙ list_block_step unit s k at e)

  step_after : (at : ℕ) (a : Result (Option ListedBlock) Refusal) (after : ℕ) (o : Option ListedBlock) → Stepped unit s k at a after
      → block_at (blocks_of s) at ≡ o
      → after ≡ end_of at o
  unfolding place_after
  step_after at a after o t p = t.1 ∙ ap (end_of at) (ap (λ (o : Outcome). o.values.block) (list_block_step unit s k at e) ∙ p)

  both : {x y : Option ListedBlock} {ls ms : List (Option ListedBlock)} → x ≡ y → ls ≡ ms → x ∷ ls ≡ y ∷ ms
  both p q = λ i. p i ∷ q i

  -- the steps from behind the blocks xs
  walks_behind : (xs ys : List Block) → blocks_of s ≡ xs ++ ys → (at : ℕ) → at ≡ total size xs
      → (ws : List (Result (Option ListedBlock) Refusal)) → Walks unit s k at ws → map given ws ≡ in_steps (length ws) (listing_from at ys)
  unfolding Walks in_steps listing_from total
  walks_behind xs ys c at h [] w = refl
  walks_behind xs [] c at h (a ∷ ws) w =
      let p : block_at (blocks_of s) at ≡ None = rw (c, append-nil) (step_end xs at (omega arith)) in
      let n : w.0 ≡ at = step_after at a w.0 None w.1 p in
      both (step_given at a w.0 w.1 ∙ p) (walks_behind xs [] c at h ws (rw n at w.2))
  walks_behind xs (y ∷ ys) c at h (a ∷ ws) w =
      let p : block_at (blocks_of s) at ≡ Some (listed_at at y) = rw (c, h) (step_at xs y ys) in
      let n : w.0 ≡ at + size y = step_after at a w.0 (Some (listed_at at y)) w.1 p in
      both (step_given at a w.0 w.1 ∙ p)
      (walks_behind (xs ++ (y ∷ [])) ys (c ∙ sym (append_snoc xs y ys)) (at + size y) (omega (arith, total_append size xs (y ∷ []))) ws (rw n at w.2))

  -- in a state that the check accepts, a walker from 0 on gives the listing: all the blocks in order, and then none
  pub walker_lists : (ws : List (Result (Option ListedBlock) Refusal)) → Walks unit s k 0 ws
      → map given ws ≡ in_steps (length ws) (listing_from 0 (blocks_of s))
  unfolding total
  walker_lists ws w = walks_behind [] (blocks_of s) refl 0 refl ws w
