-- Whether a quota's record for an object is the only one: the object is held without it exactly where another quota has a record.
use Rattle.std.specs.Prelude.{Some}
use Prim.Native.Nat.{ℕ, suc, ◌<◌}
use mathlib.Core.Path.{◌≡◌, refl, ap, sym, ◌∙◌}
use mathlib.Core.List.{List, [], ◌∷◌}
use mathlib.Core.Bool.{Bool, true, false, not, ◌&&◌, and-false}
use native.Mathlib.Omega.{arith}
use borrow.Author.Tests.{eqb-true, eq-eqb, ltb-true, ltb-false}
use lib.Dec.{eqb, ltb}
use lib.ListN.{length, get_or, set, length-set}
use lib.Seq.{get_or-set_same, get_or-set_other}
use Rattle.accounts.specs.declared.Accounts.{Accounts}
use Rattle.accounts.specs.declared.Hold.{Hold}
use Rattle.accounts.specs.Accounts.{zero_hold, used, is_for, find_hold}
use Rattle.accounts.proofs.Laws.{found_first}
use Rattle.lists.specs.Lists.{any}
use Rattle.model.specs.Consistent.{accounted, is_of, held}
use Rattle.lists.proofs.Bools.{and_left, and_right, by_eq}
use Rattle.model.proofs.Consistent.{accounted_facts, is_for_exactly}
use Rattle.allocation.proofs.Released.{zero_of}
use Rattle.survey.specs.Survey.{shares}

-- tests that agree at each place
any_same : (p r : Hold → Bool) (xs ys : List Hold) → length xs ≡ length ys → ((j : ℕ) → j < length xs → p (get_or xs j zero_hold) ≡ r (get_or ys j zero_hold))
    → any p xs ≡ any r ys
unfolding any
any_same p r [] [] e f = refl
any_same p r [] (y ∷ ys) e f = absurd (omega arith)
any_same p r (x ∷ xs) [] e f = absurd (omega arith)
any_same p r (x ∷ xs) (y ∷ ys) e f = rw (f 0 (omega arith), any_same p r xs ys (omega arith) (λ j l. f (suc j) (omega arith)))

module _ (s : List ℕ) (k : Accounts) (ok : accounted s k ≡ true) (t q i : ℕ) (p : find_hold t q k ≡ Some i) where
  abbrev at : ℕ → Hold
  at j = get_or k.holds j zero_hold

  within : i < length k.holds
  unfolding find_hold
  within = (found_first (is_for t q) k.holds i p).within

  own : (used (at i) ≡ true) × ((at i).serial ≡ t) × ((at i).quota ≡ q)
  unfolding find_hold
  own = (is_for_exactly t q (at i)).0 (found_first (is_for t q) k.holds i p).passes

  -- no other record is the quota's for the object
  single : (j : ℕ) → j < length k.holds → (j ≡ i → ⊥) → is_of t (at j) ≡ true → (at j).quota ≡ q → ⊥
  unfolding is_of
  single j l d e f = go (ltb i j) refl
    where
      u : used (at j) ≡ true
      u = and_left (used (at j)) (eqb (at j).serial t) e

      w : (at j).serial ≡ t
      w = eqb-true (at j).serial t (and_right (used (at j)) (eqb (at j).serial t) e)

      go : (x : Bool) → ltb i j ≡ x → ⊥
      go true x = (accounted_facts s k ok).unique i j (ltb-true i j x) l own.0 u (own.1 ∙ sym w) (own.2 ∙ sym f)
      go false x =
          let b = ltb-false i j x in
          (accounted_facts s k ok).unique j i (omega (arith, b, d)) within u own.0 (w ∙ sym own.1) (f ∙ sym own.2)

  here : (j : ℕ) → j ≡ i → is_of t (get_or (set k.holds i zero_hold) j zero_hold) ≡ shares t q (at j)
  unfolding shares
  here j e =
      let g : get_or (set k.holds i zero_hold) j zero_hold ≡ zero_hold =
      ap (λ (x : ℕ). get_or (set k.holds i zero_hold) x zero_hold) e ∙ get_or-set_same k.holds i zero_hold zero_hold within in
      let f : (at j).quota ≡ q = ap (λ (x : ℕ). (at x).quota) e ∙ own.2 in
      ap (is_of t) g ∙ zero_of t ∙ rw (eq-eqb (at j).quota q f, and-false (is_of t (at j)))

  there : (j : ℕ) → j < length k.holds → (j ≡ i → ⊥) → is_of t (get_or (set k.holds i zero_hold) j zero_hold) ≡ shares t q (at j)
  unfolding shares
  there j l d =
      ap (is_of t) (get_or-set_other k.holds i j zero_hold zero_hold d) ∙ go (is_of t (at j)) (eqb (at j).quota q) refl refl
    where
      go : (x y : Bool) → is_of t (at j) ≡ x → eqb (at j).quota q ≡ y → x ≡ (x && not y)
      go false y e f = refl
      go true false e f = refl
      go true true e f = absurd (single j l d e (eqb-true (at j).quota q f))

  pub held_otherwise : held (set k.holds i zero_hold) t ≡ any (shares t q) k.holds
  unfolding held
  held_otherwise =
      let n = length-set k.holds i zero_hold in
      any_same (is_of t) (shares t q) (set k.holds i zero_hold) k.holds n (λ j l. by_eq j i (here j) (there j (omega arith)))
