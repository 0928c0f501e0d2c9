-- Lines and words are found by their marks: what stands in front of the first mark is the first of the parts between marks.
use mathlib.Core.Path.{◌≡◌, refl, ap, sym, ◌∙◌}
use mathlib.Core.List.{List, [], ◌∷◌, ◌++◌}
use mathlib.Core.Bool.{Bool, true, false, cond}
use Prim.Native.Nat.{ℕ, zero, suc, ◌+◌, ◌<◌}
use native.Mathlib.Omega.{arith}
use native.Mathlib.Numerals.{add-one}
use lib.Dec.{eqb, ltb}
use borrow.Author.Tests.{eqb-true, ltb-false}
use lib.ListN.{length, take, drop, get_or}
use Rattle.std.specs.Prelude.{Some, None}
use Rattle.std.specs.List.{position, position_or_len}
use Rattle.std.proofs.lemmas.List.Quantifiers.{position-Some}
use Rattle.std.proofs.lemmas.List.Sums.{fails_before_first}
use Rattle.replay_model.specs.Lines.{onto, split}
use Rattle.replay_text.specs.Clauses.{Cut}

-- a mark at no place: one part
parts_none : (mark : ℕ) (s : List ℕ) → ((i : ℕ) → i < length s → eqb (get_or s i 0) mark ≡ false) → split mark s ≡ s ∷ []
unfolding split onto
parts_none mark [] a = refl
parts_none mark (b ∷ s) a = rw (a 0 (omega arith), parts_none mark s (λ i h. a (suc i) (omega arith)))

-- the first mark at r: the part in front of it, and the parts of what is behind it
parts_at : (mark r : ℕ) (s : List ℕ) → r < length s → eqb (get_or s r 0) mark ≡ true → ((i : ℕ) → i < r → eqb (get_or s i 0) mark ≡ false)
    → split mark s ≡ take r s ∷ split mark (drop (suc r) s)
unfolding split onto
parts_at mark r [] h f a = absurd (omega arith)
parts_at mark zero (b ∷ s) h f a = rw f
parts_at mark (suc r) (b ∷ s) h f a = rw (a 0 (omega arith), parts_at mark r s (omega arith) f (λ i l. a (suc i) (omega arith)))

whole_at : (mark r : ℕ) (s : List ℕ) → r < length s → eqb (get_or s r 0) mark ≡ true → s ≡ take r s ++ (mark ∷ drop (suc r) s)
whole_at mark r [] h f = absurd (omega arith)
whole_at mark zero (b ∷ s) h f = ap (λ (n : ℕ). n ∷ s) (eqb-true b mark f)
whole_at mark (suc r) (b ∷ s) h f = ap (λ (x : List ℕ). b ∷ x) (whole_at mark r s (omega arith) f)

-- by the place that is found
module _ (mark : ℕ) (s : List ℕ) where
  pub uncut : position (λ b. eqb b mark) s ≡ None → split mark s ≡ s ∷ []
  uncut e = go (ltb (position_or_len (λ b. eqb b mark) s) (length s)) refl
    where
      go : (t : Bool) → ltb (position_or_len (λ b. eqb b mark) s) (length s) ≡ t → split mark s ≡ s ∷ []
      go true q =
          let w : Some (position_or_len (λ b. eqb b mark) s) ≡ None = sym (rw q) ∙ e in
          let z : ◌≡◌ {A = ℕ} 0 1 = cc in
          absurd (omega arith)
      go false q =
          parts_none mark s (λ i h. fails_before_first (λ b. eqb b mark) s i 0 (omega (
            arith,
            h,
            ltb-false (position_or_len (λ b. eqb b mark) s) (length s) q,
          )))

  pub cut : (r : ℕ) → position (λ b. eqb b mark) s ≡ Some r → Cut mark s (take r s) (drop (r + 1) s)
  cut r e =
      let f = position-Some (λ b. eqb b mark) s r 0 e in
      rw add-one (record { whole = whole_at mark r s f.0 f.1; parts = parts_at mark r s f.0 f.1 f.2 })

-- there is always a part
onto_some : (b : ℕ) (ps : List (List ℕ)) → (q : List ℕ) × (qs : List (List ℕ)) × (onto b ps ≡ q ∷ qs)
unfolding onto
onto_some b [] = (b ∷ [], [], refl)
onto_some b (p ∷ ps) = (b ∷ p, ps, refl)

pub split_some : (mark : ℕ) (s : List ℕ) → (q : List ℕ) × (qs : List (List ℕ)) × (split mark s ≡ q ∷ qs)
unfolding split
split_some mark [] = ([], [], refl)
split_some mark (b ∷ s) = go (eqb b mark) (onto_some b (split mark s))
  where
    go : (t : Bool) → (q : List ℕ) × (qs : List (List ℕ)) × (onto b (split mark s) ≡ q ∷ qs)
        → (q : List ℕ) × (qs : List (List ℕ)) × (cond t ([] ∷ split mark s) (onto b (split mark s)) ≡ q ∷ qs)
    go true x = ([], split mark s, refl)
    go false x = x
