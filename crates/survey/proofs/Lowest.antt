-- The lowest unused record, found from the first place up.
use Rattle.std.proofs.Common.{◌≡◌, ℕ, ◌+◌, ◌<◌, ◌≤◌, Bool, true, false, min, not, ltb, List, sym, refl, ap, ◌∙◌, subst, arith, ltb-false, ltb-true, le-ltb}
use Rattle.std.proofs.Common.{lt-ltb, ne_eqb}
use Rattle.std.proofs.Math.Nat.{min-eq_left, min-eq_right}
use Rattle.lists.proofs.Bools.{by_test, by_eq}
use Rattle.accounts.specs.declared.Hold.{Hold}
use Rattle.accounts.specs.Accounts.{HOLDS, used, unused, lowest_unused, first_from}
use Rattle.accounts.proofs.Laws.{first_found, none_nothing}
use Rattle.audit.specs.Keys.{well_formed}
use Rattle.audit.proofs.Records.{no_serial}
use Rattle.words.specs.Words.{hold_in, holds_of, accounts_of}
use Rattle.words.proofs.Words.{holds_long, holds_at}
use Rattle.survey.specs.Survey.{place_of}
use Rattle.survey.specs.Clauses.{Blank}

pub serial_used : (h : Hold) → (h.serial ≡ 0 → ⊥) → used h ≡ true
unfolding used
serial_used h n = rw (ne_eqb h.serial 0 n)

pub blank_unused : (words : List ℕ) (p from : ℕ) → Blank words from → from ≤ p → p < HOLDS → used (hold_in words p) ≡ false
unfolding used
blank_unused words p from b a l = let z = b p a l in rw (z.0, z.1)

-- a number that stands for a search in the table: the first place that passes, or none
module _ (words : List ℕ) (p : Hold → Bool) (n : ℕ) where
  pub place_first : n < HOLDS → p (hold_in words n) ≡ true → ((j : ℕ) → j < n → p (hold_in words j) ≡ false) → place_of n ≡ first_from p 0 (holds_of words)
  unfolding place_of
  place_first l t f =
      let long = holds_long words in
      rw (lt-ltb n HOLDS l)
      (sym
      (first_found p (holds_of words) n
      (record {
        within = omega arith;
        passes = ap p (holds_at words n l) ∙ t;
        earlier = λ j h. ap p (holds_at words j (omega arith)) ∙ f j h;
      })))

  pub place_none : HOLDS ≤ n → ((j : ℕ) → j < HOLDS → p (hold_in words j) ≡ false) → place_of n ≡ first_from p 0 (holds_of words)
  unfolding place_of
  place_none l f =
      let long = holds_long words in
      rw (le-ltb n HOLDS l) (sym (none_nothing p (holds_of words) (λ j h. ap p (holds_at words j (omega arith)) ∙ f j (omega arith))))

-- of the records before i; `top` while there is none
pub record Lowest (words : List ℕ) (top i low : ℕ) : Type 0 where
  pub inside : low ≤ top
  pub found : low < i → used (hold_in words low) ≡ false
  pub taken : (p : ℕ) → p < i → p < low → used (hold_in words p) ≡ true
  pub none_yet : i ≤ low → low ≡ top

module _ {words : List ℕ} {top : ℕ} where
  pub lowest_start : Lowest words top 0 top
  lowest_start = record { inside = omega arith; found = λ l. absurd (omega arith); taken = λ p a b. absurd (omega arith); none_yet = λ l. refl }

  module _ {i low : ℕ} (g : Lowest words top i low) (l : i < top) where
    pub lowest_here : well_formed (hold_in words i) ≡ true → (hold_in words i).serial ≡ 0 → Lowest words top (i + 1) (min low i)
    lowest_here w z =
        by_test (ltb i low)
        (λ t. let a = ltb-true i low t in rw (min-eq_right {n = i} {m = low} (omega arith)) (record {
          inside = omega arith;
          found = λ b. no_serial (hold_in words i) w z;
          taken = λ p b c. g.taken p (omega arith) (omega arith);
          none_yet = λ b. absurd (omega arith);
        }))
        (λ t. let a = ltb-false i low t in rw (min-eq_left {n = low} {m = i} a) (record {
          inside = g.inside;
          found = λ b. by_eq i low (λ e. let n = g.none_yet (omega arith) in absurd (omega arith)) (λ e. g.found (omega (arith, e)));
          taken = λ p b c. g.taken p (omega arith) c;
          none_yet = λ b. absurd (omega arith);
        }))

    pub lowest_past : ((hold_in words i).serial ≡ 0 → ⊥) → Lowest words top (i + 1) low
    lowest_past n =
        record {
          inside = g.inside;
          found = λ b. by_eq i low (λ e. let m = g.none_yet (omega arith) in absurd (omega arith)) (λ e. g.found (omega (arith, e)));
          taken = λ p b c. by_eq i p (λ e. subst (λ (x : ℕ). used (hold_in words x) ≡ true) e (serial_used (hold_in words i) n))
              (λ e. g.taken p (omega (arith, e)) c);
          none_yet = λ b. g.none_yet (omega arith);
        }

  -- when all are looked at
  pub lowest_is : {low : ℕ} → Lowest words top top low → top ≤ HOLDS → Blank words top → place_of low ≡ lowest_unused (accounts_of words)
  unfolding lowest_unused unused
  lowest_is {low} g l b =
      by_test (ltb low HOLDS)
      (λ e.
      let a = ltb-true low HOLDS e in
      let free : used (hold_in words low) ≡ false =
      by_test (ltb low top) (λ t. g.found (ltb-true low top t)) (λ t. blank_unused words low top b (ltb-false low top t) a) in
      let i = g.inside in
      place_first words (λ h. not (used h)) low a (rw free) (λ j h. rw (g.taken j (omega arith) h)))
      (λ e.
      let a = ltb-false low HOLDS e in
      let i = g.inside in
      place_none words (λ h. not (used h)) low a (λ j h. rw (g.taken j (omega arith) (omega arith))))
