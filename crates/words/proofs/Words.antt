-- Tables by their places, and the accounts that words hold.
use Prim.Native.Nat.{ℕ, zero, suc, ◌+◌, ◌<◌}
use mathlib.Core.Path.{◌≡◌, refl, ap, sym, ◌∙◌}
use mathlib.Core.List.{List}
use native.Mathlib.Omega.{arith}
use lib.ListN.{length, get_or, set, length-set}
use lib.Seq.{get_or-set_same, get_or-set_other, ext_get_or}
use Rattle.lists.proofs.Bools.{by_eq}
use Rattle.accounts.specs.Accounts.{QUOTAS, HOLDS, zero_hold, zero_quota}
use Rattle.words.specs.Words.{tabulate, hold_in, entry_in, holds_of, quotas_of}

module _ {A : Type 0} where
  pub length_table : (n : ℕ) (f : ℕ → A) (i : ℕ) → length (tabulate n f i) ≡ n
  unfolding tabulate
  length_table zero f i = refl
  length_table (suc n) f i = ap suc (length_table n f (suc i))

  get_or_from : (n : ℕ) (f : ℕ → A) (i j : ℕ) (d : A) → j < n → get_or (tabulate n f i) j d ≡ f (i + j)
  unfolding tabulate
  get_or_from zero f i j d l = absurd (omega arith)
  get_or_from (suc n) f i zero d l = let z : i ≡ i + 0 = omega arith in ap f z
  get_or_from (suc n) f i (suc j) d l = let z : suc i + j ≡ i + suc j = omega arith in get_or_from n f (suc i) j d (omega arith) ∙ ap f z

  pub get_or_table : (n : ℕ) (f : ℕ → A) (j : ℕ) (d : A) → j < n → get_or (tabulate n f 0) j d ≡ f j
  get_or_table n f j d l = let z : 0 + j ≡ j = omega arith in get_or_from n f 0 j d l ∙ ap f z

  -- a table that differs at one place
  pub table_put : (n : ℕ) (f g : ℕ → A) (p : ℕ) (d : A) → p < n → ((j : ℕ) → j < n → (j ≡ p → ⊥) → g j ≡ f j) → tabulate n g 0 ≡ set (tabulate n f 0) p (g p)
  table_put n f g p d l same =
      let m = length_table n f 0 in
      let k = length_table n g 0 in
      ext_get_or d (tabulate n g 0) (set (tabulate n f 0) p (g p)) (k ∙ sym m ∙ sym (length-set (tabulate n f 0) p (g p)))
      (λ j h.
      get_or_table n g j d (omega arith)
      ∙ by_eq j p
      (λ e. ap g e ∙ sym (ap (λ (x : ℕ). get_or (set (tabulate n f 0) p (g p)) x d) e ∙ get_or-set_same (tabulate n f 0) p (g p) d (omega arith)))
      (λ e. same j (omega arith) e ∙ sym (get_or-set_other (tabulate n f 0) p j (g p) d e ∙ get_or_table n f j d (omega arith))))

  pub table_same : (n : ℕ) (f g : ℕ → A) (d : A) → ((j : ℕ) → j < n → f j ≡ g j) → tabulate n f 0 ≡ tabulate n g 0
  table_same n f g d same =
      let m = length_table n f 0 in
      let k = length_table n g 0 in
      ext_get_or d (tabulate n f 0) (tabulate n g 0) (m ∙ sym k)
      (λ j h. get_or_table n f j d (omega arith) ∙ same j (omega arith) ∙ sym (get_or_table n g j d (omega arith)))

module _ (words : List ℕ) where
  pub holds_long : length (holds_of words) ≡ HOLDS
  unfolding holds_of
  holds_long = length_table HOLDS (hold_in words) 0

  pub holds_at : (p : ℕ) → p < HOLDS → get_or (holds_of words) p zero_hold ≡ hold_in words p
  unfolding holds_of
  holds_at p l = get_or_table HOLDS (hold_in words) p zero_hold l

  pub quotas_long : length (quotas_of words) ≡ QUOTAS
  unfolding quotas_of
  quotas_long = length_table QUOTAS (entry_in words) 0

  pub quotas_at : (q : ℕ) → q < QUOTAS → get_or (quotas_of words) q zero_quota ≡ entry_in words q
  unfolding quotas_of
  quotas_at q l = get_or_table QUOTAS (entry_in words) q zero_quota l
