-- The runs of bytes that differ, told by tests of single bytes: from an offset on, bytes that are equal, a run of bytes that differ, then an equal
-- byte or the end, and so on. There is one list of runs with that property, and `runs` gives it.
use mathlib.Core.Path.{◌≡◌, refl, sym, ◌∙◌}
use mathlib.Core.List.{List, [], ◌∷◌}
use mathlib.Core.Bool.{Bool, true, false, cond, true≢false}
use Prim.Native.Nat.{ℕ, zero, suc, ◌+◌, ◌≤◌, ◌<◌, min}
use native.Mathlib.Nat.{lt_of_not-le}
use native.Mathlib.Omega.{arith}
use lib.ListN.{length, drop, get_or, drop_of_length-le}
use lib.Seq.{drop-cons}
use lib.Dec.{eqb, leb, ltb}
use borrow.Author.Tests.{eqb-true, eqb-false, leb-true, leb-false, ltb-true, ltb-false}
use Rattle.comparison.specs.Differences.{Run, extend, runs}
use Rattle.comparison.proofs.Rows

-- the tests are over two heaps s and t, up to the end of the shorter one
module _ (s t : List ℕ) where
  abbrev pub equal : ℕ → Bool
  equal k = eqb (get_or s k 0) (get_or t k 0)

  abbrev pub end : ℕ
  end = min (length s) (length t)

  -- from at on: equal bytes, then this run, then an equal byte or the end
  pub record RunFrom (at : ℕ) (r : Run) : Type 0 where
    pub low : at ≤ r.offset
    pub gap : (k : ℕ) → at ≤ k → k < r.offset → equal k ≡ true
    pub some : 0 < r.length
    pub fits : r.offset + r.length ≤ end
    pub inside : (k : ℕ) → r.offset ≤ k → k < r.offset + r.length → equal k ≡ false
    pub stop : r.offset + r.length < end → equal (r.offset + r.length) ≡ true

  -- these are the runs from at on, all of them
  abbrev pub Split : ℕ → List Run → Type 0
  Split at [] = (k : ℕ) → at ≤ k → k < end → equal k ≡ true
  Split at (r ∷ rs) = RunFrom at r × Split (r.offset + r.length) rs

  -- an equal byte in front of them
  skip : (at : ℕ) (rs : List Run) → equal at ≡ true → Split (suc at) rs → Split at rs
  skip at [] e w = λ k l h. go k l h (eqb k at) refl
    where
      go : (k : ℕ) → at ≤ k → k < end → (x : Bool) → eqb k at ≡ x → equal k ≡ true
      go k l h true q = rw (eqb-true k at q) e
      go k l h false q = w k (omega (arith, eqb-false k at q)) h
  skip at (r ∷ rs) e w = (
    record {
      low = omega (arith, w.0.low);
      gap = λ k l h. go k l h (eqb k at) refl;
      some = w.0.some;
      fits = w.0.fits;
      inside = w.0.inside;
      stop = w.0.stop;
    },
    w.1,
  )
    where
      go : (k : ℕ) → at ≤ k → k < r.offset → (x : Bool) → eqb k at ≡ x → equal k ≡ true
      go k l h true q = rw (eqb-true k at q) e
      go k l h false q = w.0.gap k (omega (arith, eqb-false k at q)) h

  -- a byte in front of them that differs
  join : (at : ℕ) (r : Run) (rs : List Run) → equal at ≡ false → r.offset ≡ suc at → Split (suc at) (r ∷ rs)
      → Split at (record { offset = at; length = suc r.length } ∷ rs)
  join at r rs e o w =
      let ends : at + suc r.length ≡ r.offset + r.length = omega arith in (
        record {
          low = omega arith;
          gap = λ k l h. absurd (omega arith);
          some = omega arith;
          fits = rw ends w.0.fits;
          inside = λ k l h. go k l (omega arith) (eqb k at) refl;
          stop = rw ends w.0.stop;
        },
        rw ends w.1,
      )
    where
      go : (k : ℕ) → at ≤ k → k < r.offset + r.length → (x : Bool) → eqb k at ≡ x → equal k ≡ false
      go k l h true q = rw (eqb-true k at q) e
      go k l h false q = w.0.inside k (omega (arith, eqb-false k at q)) h

  alone : (at : ℕ) (rs : List Run) → equal at ≡ false → at < end → (suc at < end → equal (suc at) ≡ true) → Split (suc at) rs
      → Split at (record { offset = at; length = 1 } ∷ rs)
  alone at rs e l q w =
      let ends : at + 1 ≡ suc at = omega arith in (
        record {
          low = omega arith;
          gap = λ k l h. absurd (omega arith);
          some = omega arith;
          fits = omega arith;
          inside = λ k l h. let i : k ≡ at = omega arith in rw i e;
          stop = rw ends q;
        },
        rw ends w,
      )

  push : (at : ℕ) (rs : List Run) → equal at ≡ false → at < end → Split (suc at) rs → Split at (extend at rs)
  unfolding extend
  push at [] e l w = alone at [] e l (λ h. w (suc at) (omega arith) h) w
  push at (r ∷ rs) e l w = go (eqb r.offset (suc at)) refl
    where
      go : (x : Bool) → eqb r.offset (suc at) ≡ x
          → Split at (cond x (record { offset = at; length = suc r.length } ∷ rs) (record { offset = at; length = 1 } ∷ r ∷ rs))
      go true q = join at r rs e (eqb-true r.offset (suc at) q) w
      go false q =
          let far = eqb-false r.offset (suc at) q in
          alone at (r ∷ rs) e l (λ h. w.0.gap (suc at) (omega arith) (omega (arith, far, w.0.low))) w

  -- the runs from at on
  abbrev pub from : ℕ → List Run
  from at = runs at (drop at s) (drop at t)

  from_step : (at : ℕ) → at < end → from at ≡ cond (equal at) (from (suc at)) (extend at (from (suc at)))
  unfolding runs
  from_step at l = rw (drop-cons s at 0 (omega arith), drop-cons t at 0 (omega arith))

  runs_nil : (at : ℕ) (xs : List ℕ) → runs at xs [] ≡ []
  unfolding runs
  runs_nil at [] = refl
  runs_nil at (x ∷ xs) = refl

  from_end : (at : ℕ) → end ≤ at → from at ≡ []
  unfolding runs
  from_end at l = go (leb (length s) at) refl
    where
      go : (x : Bool) → leb (length s) at ≡ x → from at ≡ []
      go true q = rw (drop_of_length-le s {i = at} (leb-true (length s) at q))
      go false q =
          let h : length t ≤ at = omega (arith, leb-false (length s) at q) in
          rw (drop_of_length-le t {i = at} h) (runs_nil at (drop at s))

  split_step : (at : ℕ) → at < end → Split (suc at) (from (suc at)) → (x : Bool) → equal at ≡ x
      → Split at (cond x (from (suc at)) (extend at (from (suc at))))
  split_step at l w true e = skip at (from (suc at)) e w
  split_step at l w false e = push at (from (suc at)) e l w

  split_at : (at : ℕ) → (at < end → Split (suc at) (from (suc at))) → Split at (from at)
  split_at at w = go (ltb at end) refl
    where
      go : (x : Bool) → ltb at end ≡ x → Split at (from at)
      go true q = let l = ltb-true at end q in rw (from_step at l) (split_step at l (w l) (equal at) refl)
      go false q = let l = ltb-false at end q in rw (from_end at l) (λ k h m. absurd (omega arith))

  split_by : (n at : ℕ) → end ≤ at + n → Split at (from at)
  split_by zero at l = split_at at (λ h. absurd (omega arith))
  split_by (suc n) at l = split_at at (λ h. split_by n (suc at) (omega arith))

  -- `runs` gives the runs from at on
  pub runs_split : (at : ℕ) → Split at (from at)
  runs_split at = split_by end at (omega arith)

  -- and no other list has them
  starts : (at : ℕ) (r p : Run) → RunFrom at r → RunFrom at p → r.offset ≤ p.offset
  starts at r p v w = omega (arith, lt_of_not-le far)
    where
      far : suc p.offset ≤ r.offset → ⊥
      far h = true≢false (sym (v.gap p.offset w.low h) ∙ w.inside p.offset (omega arith) (omega (arith, w.some)))

  stops : (at : ℕ) (r p : Run) → RunFrom at r → RunFrom at p → r.offset ≡ p.offset → r.length ≤ p.length
  stops at r p v w o = omega (arith, lt_of_not-le far)
    where
      far : suc p.length ≤ r.length → ⊥
      far h =
          true≢false
          (sym (w.stop (omega (arith, v.fits)))
          ∙ v.inside (p.offset + p.length) (omega (arith, w.some)) (omega arith))

  no_run : (at : ℕ) (r : Run) → RunFrom at r → Split at [] → ⊥
  no_run at r v w = true≢false (sym (w r.offset v.low (omega (arith, v.some, v.fits))) ∙ v.inside r.offset (omega arith) (omega (arith, v.some)))

  same_run : (at : ℕ) (r p : Run) → RunFrom at r → RunFrom at p → r ≡ p
  same_run at r p v w =
      let a = starts at r p v w in
      let b = starts at p r w v in
      let o : r.offset ≡ p.offset = omega arith in
      let c = stops at r p v w o in
      let d = stops at p r w v (sym o) in
      let n : r.length ≡ p.length = omega arith in
      λ i. record { offset = o i; length = n i }

  pub split_unique : (at : ℕ) (rs ps : List Run) → Split at rs → Split at ps → rs ≡ ps
  split_unique at [] [] v w = refl
  split_unique at [] (p ∷ ps) v w = absurd (no_run at p w.0 v)
  split_unique at (r ∷ rs) [] v w = absurd (no_run at r v.0 w)
  split_unique at (r ∷ rs) (p ∷ ps) v w =
      let q = same_run at r p v.0 w.0 in
      let behind : Split (r.offset + r.length) ps = rw q w.1 in
      λ i. q i ∷ split_unique (r.offset + r.length) rs ps v.1 behind i

  -- so a run that is found by tests is the first, and the runs from its end on are the others
  pub first_run : (at : ℕ) (r : Run) → RunFrom at r → from at ≡ r ∷ from (r.offset + r.length)
  first_run at r w = split_unique at (from at) (r ∷ from (r.offset + r.length)) (runs_split at) (w, runs_split (r.offset + r.length))

  pub no_runs : (at : ℕ) → ((k : ℕ) → at ≤ k → k < end → equal k ≡ true) → from at ≡ []
  no_runs at w = split_unique at (from at) [] (runs_split at) w

  pub runs_go_on : (at : ℕ) (r : Run) (rs : List Run) → from at ≡ r ∷ rs → from (r.offset + r.length) ≡ rs
  runs_go_on at r rs e =
      let w : Split at (r ∷ rs) = rw e at (runs_split at) in
      split_unique (r.offset + r.length) (from (r.offset + r.length)) rs (runs_split (r.offset + r.length)) w.1
