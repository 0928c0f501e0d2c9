-- Runs and single bytes: each listed run is a longest one, every longest run is listed, every byte that differs is in one, and between two runs there
-- is a byte.
use mathlib.Core.Path.{◌≡◌, refl, sym, ◌∙◌}
use mathlib.Core.List.Memᴰ
use mathlib.Core.List.{List, [], ◌∷◌, map, Memᴰ}
use mathlib.Core.Bool.{Bool, true, false, true≢false}
use mathlib.Core.Logic.{◌⊎◌, inl, inr, ◌↔◌, ◌≢◌}
use Prim.Native.Nat.{ℕ, zero, suc, ◌+◌, ◌≤◌, ◌<◌}
use native.Mathlib.Nat.{lt_of_not-le}
use native.Mathlib.Omega.{arith}
use lib.ListN.{length, get_or, get_or-eq_default}
use lib.Dec.{ltb}
use borrow.Author.Tests.{eqb-true, eqb-false, ne_eqb, ltb-true, ltb-false}
use Rattle.image_model.proofs.Items.{All}
use Rattle.comparison.specs.Differences.{Run, runs, bytes_of, byte_part}
use Rattle.comparison.specs.Listing.{Before, Longest}
use Rattle.comparison.specs.declared.Difference.{Difference}
use Rattle.comparison.specs.declared.Difference.TheVariants.{LastSerial, Kind, Edition, Quota, Record, Bytes}
use Rattle.comparison.proofs.Lists.{all_imply, all_member, all_map, member_map, Sorted}
use Rattle.comparison.proofs.Runs.{equal, end, RunFrom, Split, runs_split}

module _ (s t : List ℕ) where
  -- where the byte at at is equal, or the end is there, the next run starts behind it
  behind_first : (at : ℕ) (r : Run) → RunFrom s t at r → (at < end s t → equal s t at ≡ true) → at < r.offset
  behind_first at r v q = lt_of_not-le far
    where
      far : r.offset ≤ at → ⊥
      far h = true≢false (sym (q (omega (arith, v.low, v.some, v.fits))) ∙ v.inside at h (omega (arith, v.low, v.some)))

  all_behind : (at : ℕ) (rs : List Run) → Split s t at rs → (at < end s t → equal s t at ≡ true) → All (λ (r : Run). at < r.offset) rs
  all_behind at [] w q = tt
  all_behind at (r ∷ rs) w q =
      let l = behind_first at r w.0 q in (
        l,
        all_imply (λ (p : Run). r.offset + r.length < p.offset) (λ (p : Run). at < p.offset) (λ p h. omega arith) rs
            (all_behind (r.offset + r.length) rs w.1 w.0.stop),
      )

  -- so no two runs touch
  pub runs_sorted : (at : ℕ) (rs : List Run) → Split s t at rs → Sorted (map bytes_of rs)
  runs_sorted at [] w = tt
  runs_sorted at (r ∷ rs) w = (
    all_map bytes_of (Before (bytes_of r)) rs
        (all_imply (λ (p : Run). r.offset + r.length < p.offset) (λ (p : Run). Before (bytes_of r) (bytes_of p)) (λ p l. inr (refl, l)) rs
        (all_behind (r.offset + r.length) rs w.1 w.0.stop)),
    runs_sorted (r.offset + r.length) rs w.1,
  )

  -- a byte that differs is in a run
  cover : (at : ℕ) (rs : List Run) → Split s t at rs → (k : ℕ) → at ≤ k → k < end s t → equal s t k ≡ false
      → (r : Run) × Memᴰ r rs × (r.offset ≤ k) × (k < r.offset + r.length)
  cover at [] w k l h e = absurd (true≢false (sym (w k l h) ∙ e))
  cover at (r ∷ rs) w k l h e = go (λ m. cover (r.offset + r.length) rs w.1 k m h e) (ltb k r.offset) refl (ltb k (r.offset + r.length)) refl
    where
      go : (r.offset + r.length ≤ k → (p : Run) × Memᴰ p rs × (p.offset ≤ k) × (k < p.offset + p.length))
          → (x : Bool) → ltb k r.offset ≡ x → (y : Bool) → ltb k (r.offset + r.length) ≡ y
          → (p : Run) × Memᴰ p (r ∷ rs) × (p.offset ≤ k) × (k < p.offset + p.length)
      go later true a y b = absurd (true≢false (sym (w.0.gap k l (ltb-true k r.offset a)) ∙ e))
      go later false a true b = (r, Memᴰ.head refl, ltb-false k r.offset a, ltb-true k (r.offset + r.length) b)
      go later false a false b = let p = later (ltb-false k (r.offset + r.length) b) in (p.0, Memᴰ.tail p.1, p.2, p.3)

  -- from here on the heaps have one length
  module _ (same : length s ≡ length t) where
    longest_first : (at : ℕ) (r : Run) → RunFrom s t at r → (at ≡ 0) ⊎ (at < end s t → equal s t at ≡ true) → Longest s t r.offset r.length
    longest_first at r v edge =
        record {
          some = v.some;
          fits = omega (arith, v.fits);
          inside = λ k l h. eqb-false (get_or s k 0) (get_or t k 0) (v.inside k l h);
          left = λ k e. eqb-true (get_or s k 0) (get_or t k 0) (v.gap k (reaches k e edge) (omega arith));
          right = λ h. eqb-true (get_or s (r.offset + r.length) 0) (get_or t (r.offset + r.length) 0) (v.stop (omega arith));
        }
      where
        reaches : (k : ℕ) → suc k ≡ r.offset → (at ≡ 0) ⊎ (at < end s t → equal s t at ≡ true) → at ≤ k
        reaches k e (inl z) = omega arith
        reaches k e (inr q) = omega (arith, behind_first at r v q)

    all_longest : (at : ℕ) (rs : List Run) → Split s t at rs → (at ≡ 0) ⊎ (at < end s t → equal s t at ≡ true)
        → All (λ (r : Run). Longest s t r.offset r.length) rs
    all_longest at [] w edge = tt
    all_longest at (r ∷ rs) w edge = (longest_first at r w.0 edge, all_longest (r.offset + r.length) rs w.1 (inr w.0.stop))

    -- of a difference that is a run
    abbrev IsLongest : Difference → Type 0
    IsLongest LastSerial = Unit {0}
    IsLongest Kind = Unit {0}
    IsLongest Edition = Unit {0}
    IsLongest (Quota q) = Unit {0}
    IsLongest (Record p) = Unit {0}
    IsLongest (Bytes at n) = Longest s t at n

    pub runs_longest : (at n : ℕ) → Memᴰ (Bytes at n) (byte_part 0 s t) → Longest s t at n
    unfolding byte_part
    runs_longest at n m =
        all_member IsLongest (map bytes_of (runs 0 s t)) (all_map bytes_of IsLongest (runs 0 s t) (all_longest 0 (runs 0 s t) (runs_split s t 0) (inl refl)))
        (Bytes at n) m

    pub runs_cover : (k : ℕ) → get_or s k 0 ≢ get_or t k 0
        → (at : ℕ) × (n : ℕ) × Memᴰ (Bytes at n) (byte_part 0 s t) × (at ≤ k) × (k < at + n)
    unfolding byte_part
    runs_cover k d =
        let w = cover 0 (runs 0 s t) (runs_split s t 0) k (omega arith) (omega (arith, lt_of_not-le outside)) (ne_eqb (get_or s k 0) (get_or t k 0) d) in
        (w.0.offset, w.0.length, member_map bytes_of (runs 0 s t) w.0 w.1, w.2, w.3)
      where
        outside : length s ≤ k → ⊥
        outside l = d (get_or-eq_default s 0 {n = k} l ∙ sym (get_or-eq_default t 0 {n = k} (omega arith)))

    -- two longest runs with a byte in common are one
    not_left : (at n o m k : ℕ) → Longest s t at n → Longest s t o m → at ≤ k → k < at + n → o ≤ k → k < o + m → at ≤ o
    not_left zero n o m k v w a b c d = omega arith
    not_left (suc j) n o m k v w a b c d = lt_of_not-le far
      where
        far : o ≤ j → ⊥
        far h = w.inside j h (omega arith) (v.left j refl)

    not_right : (at n o m k : ℕ) → Longest s t at n → Longest s t o m → at ≤ k → k < at + n → o ≤ k → k < o + m → o + m ≤ at + n
    not_right at n o m k v w a b c d = omega (arith, lt_of_not-le far)
      where
        far : suc (at + n) ≤ o + m → ⊥
        far h = w.inside (at + n) (omega arith) h (v.right (omega (arith, w.fits)))

    one_run : (at n o m k : ℕ) → Longest s t at n → Longest s t o m → at ≤ k → k < at + n → o ≤ k → k < o + m → Bytes at n ≡ Bytes o m
    one_run at n o m k v w a b c d =
        let p = not_left at n o m k v w a b c d in
        let q = not_left o m at n k w v c d a b in
        let x = not_right at n o m k v w a b c d in
        let y = not_right o m at n k w v c d a b in
        let e : at ≡ o = omega arith in
        let f : n ≡ m = omega arith in
        λ i. Bytes (e i) (f i)

    -- listed are exactly the longest runs
    pub runs_exact : (at n : ℕ) → Memᴰ (Bytes at n) (byte_part 0 s t) ↔ Longest s t at n
    runs_exact at n = (runs_longest at n, back)
      where
        back : Longest s t at n → Memᴰ (Bytes at n) (byte_part 0 s t)
        back v =
            let w = runs_cover at (v.inside at (omega arith) (omega (arith, v.some))) in
            let o = w.0 in
            let m = w.1 in
            Memᴰ.cast (one_run at n o m at v (runs_longest o m w.2) (omega arith) (omega (arith, v.some)) w.3 w.4) w.2

    -- and a byte differs exactly if it is in a listed run
    pub bytes_exact : (k : ℕ) → (get_or s k 0 ≢ get_or t k 0) ↔ ((at : ℕ) × (n : ℕ) × Memᴰ (Bytes at n) (byte_part 0 s t) × (at ≤ k) × (k < at + n))
    bytes_exact k = (runs_cover k, λ w. (runs_longest w.0 w.1 w.2).inside k w.3 w.4)
