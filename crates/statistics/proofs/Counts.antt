-- The tally of the blocks that a walk meets is the definition's of the blocks that the heap is cut into; and the three
-- counts make the whole.
use Rattle.std.specs.Prelude.{Some}
use Prim.Native.Nat.{ℕ, ◌+◌, ◌≤◌}
use native.Mathlib.Omega.{arith}
use mathlib.Core.Path.{◌≡◌, refl, ap}
use mathlib.Core.List.{List, [], ◌∷◌}
use mathlib.Core.Bool.{Bool, true, false}
use borrow.Author.Tests.{eqb-true}
use lib.Dec.{eqb}
use Rattle.layout.specs.Blocks.{Block, size, units, free, quarantined, live, QUARANTINED, parse}
use Rattle.lists.specs.Lists.{total}
use Rattle.lookup.specs.declared.Met.{Met}
use Rattle.lookup.specs.Walk.{met, live_met}
use Rattle.lookup.proofs.Parsed.{met_of, met_parsed, placed}
use Rattle.survey.specs.Shares.{one_if, how_many}
use Rattle.statistics.specs.Statistics.{if_so, most, count_of, largest_free}
use Rattle.statistics.specs.Tallies.{free_met, waiting_met, count_met, tally_of}
use Rattle.statistics.proofs.Joins.{higher_right, higher_left, higher_cases}

-- sums and greatest values over the blocks that are met, and over the blocks
module _ (f : Met → ℕ) (g : Block → ℕ) (same : (at back : ℕ) (b : Block) → f (placed at back b) ≡ g b) where
  total_met : (at back : ℕ) (bs : List Block) → total f (met_of at back bs) ≡ total g bs
  unfolding total met_of
  total_met at back [] = refl
  total_met at back (b ∷ bs) = rw (same at back b, total_met (at + size b) (units b) bs)

  most_met : (at back : ℕ) (bs : List Block) → most f (met_of at back bs) ≡ most g bs
  unfolding most met_of
  most_met at back [] = refl
  most_met at back (b ∷ bs) = rw (same at back b, most_met (at + size b) (units b) bs)

-- a count by the same test on both
count_parsed : (p : Met → Bool) (q : Block → Bool) → ((at back : ℕ) (b : Block) → p (placed at back b) ≡ q b)
    → (bs : List Block) → count_met p (met_of 0 0 bs) ≡ count_of q bs
unfolding count_met count_of how_many
count_parsed p q same bs = λ i. record {
  blocks = total_met (λ m. one_if (p m)) (λ b. one_if (q b)) (λ at back b. ap one_if (same at back b)) 0 0 bs i;
  bytes = total_met (λ m. if_so (p m) m.size) (λ b. if_so (q b) (size b)) (λ at back b. ap (λ (t : Bool). if_so t (size b)) (same at back b)) 0 0 bs i;
}

module _ (s : List ℕ) (bs : List Block) (e : parse s ≡ Some bs) where
  pub free_count : (tally_of (met s)).free ≡ count_of free bs
  unfolding tally_of
  free_count = rw (met_parsed s bs e) (count_parsed free_met free (λ at back b. refl) bs)

  pub live_count : (tally_of (met s)).live ≡ count_of live bs
  unfolding tally_of
  live_count = rw (met_parsed s bs e) (count_parsed live_met live (λ at back b. refl) bs)

  pub quarantined_count : (tally_of (met s)).quarantined ≡ count_of quarantined bs
  unfolding tally_of
  quarantined_count = rw (met_parsed s bs e) (count_parsed waiting_met quarantined (λ at back b. refl) bs)

  pub largest_count : (tally_of (met s)).largest ≡ largest_free bs
  unfolding tally_of largest_free
  largest_count = rw (met_parsed s bs e) (most_met (λ m. if_so (free_met m) m.size) (λ b. if_so (free b) (size b)) (λ at back b. refl) 0 0 bs)

-- the greatest value is no more than the sum
pub most_total : {A : Type 0} (f : A → ℕ) (xs : List A) → most f xs ≤ total f xs
unfolding most total
most_total f [] = omega arith
most_total f (x ∷ xs) =
    let ih = most_total f xs in
    higher_cases (f x) (most f xs)
    (λ h. rw (higher_right (f x) (most f xs) h) (omega arith))
    (λ h. rw (higher_left (f x) (most f xs) h) (omega arith))

-- a block is free, live or quarantined, and one of these only
one_of_three : (b : Block) (n : ℕ) → if_so (free b) n + if_so (live b) n + if_so (quarantined b) n ≡ n
one_of_three b n = go (free b) (quarantined b) refl refl
  where
    go : (x y : Bool) → eqb b.serial 0 ≡ x → eqb b.serial QUARANTINED ≡ y → if_so (free b) n + if_so (live b) n + if_so (quarantined b) n ≡ n
    go true true p q = let a = eqb-true b.serial 0 p in let c = eqb-true b.serial QUARANTINED q in absurd (omega arith)
    go true false p q = rw (p, q) (omega arith)
    go false true p q = rw (p, q) (omega arith)
    go false false p q = rw (p, q) (omega arith)

pub counts_total : (bs : List Block) → (count_of free bs).bytes + (count_of live bs).bytes + (count_of quarantined bs).bytes ≡ total size bs
unfolding count_of total
counts_total [] = refl
counts_total (b ∷ bs) = let ih = counts_total bs in let o = one_of_three b (size b) in omega arith
