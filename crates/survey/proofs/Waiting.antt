-- How many keys are not 0: one less when one is struck, and none exactly where all are 0.
use Rattle.std.proofs.Common.{◌≡◌, ℕ, zero, suc, ◌+◌, ◌<◌, ◌≤◌, Bool, true, false, cond, eqb, List, length, get_or, set, sym, refl, ap, ◌∙◌, subst, arith}
use Rattle.std.proofs.Common.{get_or-set_other, get_or-set_same, eq-eqb, ne_eqb, eqb-true}
use Rattle.lists.proofs.Bools.{by_eq, same_test}
use Rattle.audit.specs.Audit.{all_zero}
use Rattle.audit.proofs.Tables.{all_places, all_at}
use Rattle.survey.specs.Index.{waiting}

module _ (keys : List ℕ) where
  pub waiting_zero : (n : ℕ) → get_or keys n 0 ≡ 0 → waiting (suc n) keys ≡ waiting n keys
  unfolding waiting
  waiting_zero n e = rw (eq-eqb (get_or keys n 0) 0 e)

  pub waiting_one : (n : ℕ) → (get_or keys n 0 ≡ 0 → ⊥) → waiting (suc n) keys ≡ suc (waiting n keys)
  unfolding waiting
  waiting_one n e = rw (ne_eqb (get_or keys n 0) 0 e)

  pub waiting_more : (n : ℕ) → waiting n keys ≤ waiting (suc n) keys
  waiting_more n = by_eq (get_or keys n 0) 0 (λ e. omega (arith, waiting_zero n e)) (λ e. omega (arith, waiting_one n e))

  -- a key that is not 0 waits
  pub waiting_some : (n p : ℕ) → p < n → (get_or keys p 0 ≡ 0 → ⊥) → 1 ≤ waiting n keys
  waiting_some zero p l e = absurd (omega arith)
  waiting_some (suc n) p l e =
      by_eq n p
      (λ q. omega (arith, waiting_one n (subst (λ (x : ℕ). get_or keys x 0 ≡ 0 → ⊥) (sym q) e)))
      (λ q. let w = waiting_some n p (omega (arith, q)) e in omega (arith, waiting_more n))

  pub waiting_none : (n : ℕ) → ((p : ℕ) → p < n → get_or keys p 0 ≡ 0) → waiting n keys ≡ 0
  unfolding waiting
  waiting_none zero f = refl
  waiting_none (suc n) f = waiting_zero n (f n (omega arith)) ∙ waiting_none n (λ p l. f p (omega arith))

  -- keys of 0 do not count
  pub waiting_skip : (d n : ℕ) → ((p : ℕ) → n ≤ p → p < n + d → get_or keys p 0 ≡ 0) → waiting (n + d) keys ≡ waiting n keys
  waiting_skip zero n f = let z : n + 0 ≡ n = omega arith in ap (λ (x : ℕ). waiting x keys) z
  waiting_skip (suc d) n f =
      let z : n + suc d ≡ suc (n + d) = omega arith in
      ap (λ (x : ℕ). waiting x keys) z ∙ waiting_zero (n + d) (f (n + d) (omega arith) (omega arith)) ∙ waiting_skip d n (λ p a b. f p a (omega arith))

  -- one key is struck
  module _ (p : ℕ) (l : p < length keys) (some : get_or keys p 0 ≡ 0 → ⊥) where
    below : (n : ℕ) → n ≤ p → waiting n (set keys p 0) ≡ waiting n keys
    unfolding waiting
    below zero a = refl
    below (suc n) a = rw (below n (omega arith), get_or-set_other keys p n 0 0 (λ e. omega arith))

    pub waiting_struck : (n : ℕ) → p < n → waiting n keys ≡ suc (waiting n (set keys p 0))
    unfolding waiting
    waiting_struck zero a = absurd (omega arith)
    waiting_struck (suc n) a =
        by_eq n p
        (λ e.
        let here : get_or (set keys p 0) n 0 ≡ 0 = ap (λ (x : ℕ). get_or (set keys p 0) x 0) e ∙ get_or-set_same keys p 0 0 l in
        let there : get_or keys n 0 ≡ 0 → ⊥ = subst (λ (x : ℕ). get_or keys x 0 ≡ 0 → ⊥) (sym e) some in
        rw (eq-eqb (get_or (set keys p 0) n 0) 0 here, ne_eqb (get_or keys n 0) 0 there, below n (omega arith)))
        (λ e. rw (get_or-set_other keys p n 0 0 e) (step n e (waiting_struck n (omega (arith, e)))))
      where
        step : (n : ℕ) → (n ≡ p → ⊥) → waiting n keys ≡ suc (waiting n (set keys p 0))
            → cond (eqb (get_or keys n 0) 0) (waiting n keys) (suc (waiting n keys)) ≡ suc
            (cond (eqb (get_or keys n 0) 0) (waiting n (set keys p 0)) (suc (waiting n (set keys p 0))))
        step n e ih = go (eqb (get_or keys n 0) 0)
          where
            go : (t : Bool) → cond t (waiting n keys) (suc (waiting n keys)) ≡ suc (cond t (waiting n (set keys p 0)) (suc (waiting n (set keys p 0))))
            go true = ih
            go false = ap suc ih

  -- none waits exactly where all are 0
  pub waiting_all : (n : ℕ) → n ≡ length keys → eqb (waiting n keys) 0 ≡ all_zero keys
  waiting_all n long =
      same_test (eqb (waiting n keys) 0) (all_zero keys)
      (λ t.
      let e = eqb-true (waiting n keys) 0 t in
      all_places (λ k. eqb k 0) 0 keys
      (λ j h. eq-eqb (get_or keys j 0) 0 (by_eq (get_or keys j 0) 0 (λ z. z) (λ z. let w = waiting_some n j (omega arith) z in absurd (omega arith)))))
      (λ t. eq-eqb (waiting n keys) 0 (waiting_none n (λ p l. eqb-true (get_or keys p 0) 0 (all_at (λ k. eqb k 0) 0 keys t p (omega arith)))))
