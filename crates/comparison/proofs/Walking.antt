-- Asked for the next difference, two images are refused as compare refuses them. Asked from the start, each time from
-- the position behind the answer before, they give compare's list.
use mathlib.Core.Path.{◌≡◌, refl, ap, ◌∙◌}
use mathlib.Core.List.{List, [], ◌∷◌}
use Prim.Native.Nat.{ℕ, zero, suc, ◌≤◌, ◌<◌}
use native.Mathlib.Omega.{arith}
use lib.ListN.{length, take}
use Rattle.comparison.specs.Differences.{state_in, differences}
use Rattle.comparison.specs.Positions.{differences_from, next_of, with_answer, asked}
use Rattle.comparison.specs.Compare.{why_not, unless_refused, nth_of, compare_of, advance_of, walked}
use Rattle.comparison.specs.declared.Position.{Position}
use Rattle.comparison.specs.declared.Position.TheVariants.{Start}
use Rattle.std.specs.Prelude.{None, slice_get}
use Rattle.comparison.proofs.Rows
use Rattle.comparison.proofs.Positions.{asked_take, asked_all}

take_nth : {A : Type 0} (n k : ℕ) (xs : List A) → k < n → slice_get (take n xs) k ≡ slice_get xs k
take_nth zero k xs l = absurd (omega arith)
take_nth (suc n) k [] l = refl
take_nth (suc n) zero (x ∷ xs) l = refl
take_nth (suc n) (suc k) (x ∷ xs) l = take_nth n k xs (omega arith)

module _ (i j : List ℕ) where
  -- rule 14.11: the refusal and the image that it is about are compare's
  pub advance_refuses : (p : Position) (n : ℕ)
      → ((advance_of i j p).refusal ≡ (compare_of i j n).refusal) × ((advance_of i j p).which ≡ (compare_of i j n).which)
  unfolding advance_of compare_of
  advance_refuses p n = (refl, refl)

  -- two images that are not compared give nothing
  refused_step : (m : ℕ) → (why_not i j).refusal ≡ suc m → (p : Position) → (advance_of i j p).step ≡ None
  unfolding advance_of unless_refused
  refused_step m e p = rw e

  refused_walk : (m : ℕ) → (why_not i j).refusal ≡ suc m → (n : ℕ) (p : Position) → walked n p i j ≡ []
  unfolding walked with_answer
  refused_walk m e zero p = refl
  refused_walk m e (suc n) p = rw (refused_step m e p)

  -- two that are compared give what is asked of their states
  module _ (good : (why_not i j).refusal ≡ 0) where
    good_step : (p : Position) → (advance_of i j p).step ≡ next_of p (state_in i) (state_in j)
    unfolding advance_of unless_refused
    good_step p = rw good

    good_walk : (n : ℕ) (p : Position) → walked n p i j ≡ asked n p (state_in i) (state_in j)
    unfolding walked asked
    good_walk zero p = refl
    good_walk (suc n) p = λ k. with_answer (good_step p k) (λ d q. d ∷ good_walk n q k)

    -- as many questions as there are differences give them all
    pub walked_all : (n : ℕ) → length (differences (state_in i) (state_in j)) ≤ n
        → walked n Start i j ≡ differences (state_in i) (state_in j)
    walked_all n l = good_walk n Start ∙ asked_all (state_in i) (state_in j) n l

    good_nth : (n k : ℕ) → k < n → slice_get (walked n Start i j) k ≡ (compare_of i j k).found
    unfolding compare_of nth_of unless_refused differences_from
    good_nth n k l =
        ap (λ ds. slice_get ds k) (good_walk n Start ∙ asked_take (state_in i) (state_in j) n Start)
        ∙ (take_nth n k (differences (state_in i) (state_in j)) l ∙ (rw good))

  -- rule 14.12, of any two images: the answers from the start on are what compare answers to 0, 1, 2 and so on
  pub walked_compared : (n k : ℕ) → k < n → slice_get (walked n Start i j) k ≡ (compare_of i j k).found
  unfolding compare_of unless_refused
  walked_compared n k l = go (why_not i j).refusal refl
    where
      go : (m : ℕ) → (why_not i j).refusal ≡ m → slice_get (walked n Start i j) k ≡ (compare_of i j k).found
      go zero e = good_nth e n k l
      go (suc m) e = rw (refused_walk m e n Start, e)
