-- Padding: its length, one byte more, and what it is of a list that is long enough.
use Rattle.std.proofs.Common.{◌≡◌, ℕ, zero, suc, ◌+◌, ◌-◌, ◌≤◌, List, [], ◌∷◌, ◌++◌, length, get_or, drop, replicate, refl, ap, suc-add, zero-add, arith}
use native.Mathlib.Nat.{suc-sub-suc, sub-zero}
use lib.Seq.{drop-nil}
use Rattle.framing.proofs.Rows
use Rattle.framing.specs.Frames.{padded}

pub length_padded : (k : ℕ) (s : List ℕ) → length (padded k s) ≡ k
unfolding padded
length_padded zero s = refl
length_padded (suc k) [] = ap suc (length_padded k [])
length_padded (suc k) (x ∷ s) = ap suc (length_padded k s)

pub padded_more : (k : ℕ) (s : List ℕ) → padded (suc k) s ≡ padded k s ++ (get_or s k 0 ∷ [])
unfolding padded
padded_more zero [] = refl
padded_more zero (x ∷ s) = refl
padded_more (suc k) [] = ap (λ (l : List ℕ). 0 ∷ l) (padded_more k [])
padded_more (suc k) (x ∷ s) = ap (λ (l : List ℕ). x ∷ l) (padded_more k s)

pub padded_nil : (k : ℕ) → padded k [] ≡ replicate k 0
unfolding padded
padded_nil zero = refl
padded_nil (suc k) = ap (λ (l : List ℕ). 0 ∷ l) (padded_nil k)

-- the padding of more is the padding of a front and of the rest
pub padded_split : (j k : ℕ) (s : List ℕ) → padded (j + k) s ≡ padded j s ++ padded k (drop j s)
unfolding padded
padded_split zero k s = rw (zero-add k)
padded_split (suc j) k [] = rw (suc-add j k, padded_split j k [], drop-nil {A = ℕ} j)
padded_split (suc j) k (x ∷ s) = rw (suc-add j k, padded_split j k s)

-- padded to its own length and more
pub padded_whole : (k : ℕ) (s : List ℕ) → length s ≤ k → padded k s ≡ s ++ replicate (k - length s) 0
unfolding padded
padded_whole k [] h = rw sub-zero (padded_nil k)
padded_whole zero (x ∷ s) h = absurd (omega arith)
padded_whole (suc k) (x ∷ s) h = rw (suc-sub-suc, padded_whole k s (omega arith))
