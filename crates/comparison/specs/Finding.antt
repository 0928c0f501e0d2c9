-- What a search over the bytes of two heaps finds.
use Rattle.std.specs.Prelude.{ℕ, ◌+◌, ◌≤◌, ◌<◌, ◌≡◌, List, Bool, not, get_or, eqb, Option, MatchOption}
use Rattle.framing.specs.Frames.{stream_of}

-- the streams of two images have the same byte at an offset, counted in each from a start of its own
abbrev pub same_byte : List ℕ → List ℕ → ℕ → ℕ → ℕ → Bool
same_byte i j x y k = eqb (get_or (stream_of i) (x + k) 0) (get_or (stream_of j) (y + k) 0)

-- r is the first place from one on, below an end, where the test gives what is wanted; it is not below the end where there is none
pub record Reaches (test : ℕ → Bool) (wanted : Bool) (from end r : ℕ) : Type 0 where
  pub low : from ≤ r
  pub before : (k : ℕ) → from ≤ k → k < r → test k ≡ not wanted
  pub high : from ≤ end → r ≤ end
  pub there : r < end → test r ≡ wanted

-- r is the first place from one on, below an end, where the test gives what is wanted, if there is one
abbrev pub Finds : (ℕ → Bool) → Bool → ℕ → ℕ → Option ℕ → Type 0
Finds test wanted from end r =
    MatchOption r ((k : ℕ) → from ≤ k → k < end → test k ≡ not wanted)
    (λ i. (from ≤ i) × (i < end) × (test i ≡ wanted) × ((k : ℕ) → from ≤ k → k < i → test k ≡ not wanted))
