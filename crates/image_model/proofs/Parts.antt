-- Parts of a list one behind the other: each is found at its place, and parts that stand at their places make the list.
use mathlib.Core.Path.{◌≡◌, ap, sym, ◌∙◌}
use mathlib.Core.List.{List, ◌++◌}
use Prim.Native.Nat.{ℕ, ◌+◌, ◌<◌, ◌≤◌, ◌^◌}
use native.Mathlib.Omega.{arith}
use lib.ListN.{length, take, drop, get_or, take-append-drop}
use lib.Seq.{take_at, drop_at, drop-drop, drop-cons}
use Rattle.layout.specs.Bytes.{bytes, number, Octets}
use Rattle.layout.proofs.Numbers.{bytes_length, number_fits, bytes_at}

module _ (n j : ℕ) (t p q : List ℕ) (e : drop n t ≡ p ++ q) (l : length p ≡ j) where
  -- the part that begins at a place, and what stands behind it
  pub part_here : take j (drop n t) ≡ p
  part_here = ap (take j) e ∙ take_at p q j l

  pub part_behind : drop (n + j) t ≡ q
  part_behind = sym (drop-drop j n t) ∙ ap (drop j) e ∙ drop_at p q j l

-- the number of k bytes at a place
pub number_here : (k n x : ℕ) (t q : List ℕ) → drop n t ≡ bytes k x ++ q → x < 256 ^ k → number (take k (drop n t)) ≡ x
number_here k n x t q e h = ap number (part_here n k t (bytes k x) q e (bytes_length k x)) ∙ number_fits k x h

-- a part in front of what stands behind it
pub split : (n j : ℕ) (t : List ℕ) → take j (drop n t) ++ drop (n + j) t ≡ drop n t
split n j t = rw (← drop-drop j n t) (take-append-drop j (drop n t))

-- k bytes of a number, at the place where the number was read
pub bytes_split_here : (k n : ℕ) (t : List ℕ) → Octets t → n + k ≤ length t → bytes k (number (take k (drop n t))) ++ drop (n + k) t ≡ drop n t
bytes_split_here k n t o h = rw (bytes_at k n t o h) (split n k t)

-- one byte at a place, as a number and as bytes
pub one_at : (n : ℕ) (t : List ℕ) → n < length t → number (take 1 (drop n t)) ≡ get_or t n 0
unfolding number
one_at n t h = rw (drop-cons t n 0 h) (omega arith)
