-- The pass over the records: on the way, those before place i are well-formed and in the index; behind `top` all are
-- blank.
use Rattle.std.proofs.Common.{◌≡◌, ℕ, suc, ◌+◌, ◌-◌, ◌<◌, ◌≤◌, true, min, ltb, List, get_or, sym, refl, ap, ◌∙◌, subst, inl, inr, arith, ltb-false, ltb-true}
use lib.ListN.{get_or-map}
use Rattle.lists.proofs.Bools.{by_test, by_eq}
use Rattle.accounts.specs.Accounts.{HOLDS, zero_hold}
use Rattle.audit.specs.Keys.{well_formed, key_of, keys_of}
use Rattle.audit.proofs.Tables.{all_places}
use Rattle.audit.proofs.Records.{no_key}
use Rattle.words.specs.Words.{serial_in, hold_in, holds_of}
use Rattle.words.proofs.Words.{holds_long, holds_at}
use Rattle.survey.specs.Index.{Head, Built, waiting}
use Rattle.survey.specs.Clauses.{Blank, Zeros, Index}
use Rattle.survey.proofs.Building.{built_skip}
use Rattle.survey.proofs.Waiting.{waiting_zero, waiting_one, waiting_skip}
use Rattle.survey.proofs.Lowest.{Lowest, lowest_start, lowest_here, lowest_past, lowest_is, blank_unused}

pub blank_end : (words : List ℕ) → Blank words HOLDS
blank_end words p a l = absurd (omega arith)

pub blank_more : (words : List ℕ) {top count : ℕ} → Blank words top → count ≤ top → Zeros words (top - count) count → Blank words (top - count)
blank_more words {top} b l z p a h = by_test (ltb p top) (λ t. z p a (omega (arith, ltb-true p top t))) (λ t. b p (ltb-false p top t) h)

key_at : (words : List ℕ) (p : ℕ) → p < HOLDS → get_or (keys_of (holds_of words)) p 0 ≡ key_of (hold_in words p)
key_at words p l = get_or-map key_of (holds_of words) p zero_hold ∙ ap key_of (holds_at words p l)

pub record Passed (words heads links : List ℕ) (top i low blank : ℕ) : Type 0 where
  pub within : i ≤ top
  pub top_inside : top ≤ HOLDS
  pub bare : Blank words top
  pub built : Built words i heads links
  pub well : (p : ℕ) → p < i → well_formed (hold_in words p) ≡ true
  pub counted : blank + waiting i (keys_of (holds_of words)) ≡ i
  pub lowest : Lowest words top i low

pub passed_start : {words heads links : List ℕ} {top : ℕ} → top ≤ HOLDS → Blank words top → Built words 0 heads links → Passed words heads links top 0 top 0
unfolding waiting
passed_start l b g =
    record { within = omega arith; top_inside = l; bare = b; built = g; well = λ p h. absurd (omega arith); counted = refl; lowest = lowest_start }

below_more : (P : ℕ → Type 0) (i : ℕ) → ((p : ℕ) → p < i → P p) → P i → (p : ℕ) → p < i + 1 → P p
below_more P i f one p l = by_eq i p (λ e. subst P e one) (λ e. f p (omega (arith, e)))

module _ {words heads links : List ℕ} {top i low blank : ℕ} (g : Passed words heads links top i low blank) (l : i < top)
    (ok : well_formed (hold_in words i) ≡ true) where
  inside : i < HOLDS
  inside = omega (arith, g.top_inside)

  pub passed_blank : serial_in words i ≡ 0 → Passed words heads links top (i + 1) (min low i) (blank + 1)
  passed_blank z =
      let s : suc i ≡ i + 1 = omega arith in
      record {
        within = omega arith;
        top_inside = g.top_inside;
        bare = g.bare;
        built = built_skip g.built inside z;
        well = below_more (λ p. well_formed (hold_in words p) ≡ true) i g.well ok;
        counted = omega (
          arith,
          g.counted,
          ap (λ (x : ℕ). waiting x (keys_of (holds_of words))) s,
          waiting_zero (keys_of (holds_of words)) i (key_at words i inside ∙ no_key (hold_in words i) ok z),
        );
        lowest = lowest_here g.lowest l ok z;
      }

  pub passed_used : {heads' links' : List ℕ} → (serial_in words i ≡ 0 → ⊥) → Built words (i + 1) heads' links'
      → Passed words heads' links' top (i + 1) low blank
  passed_used n b =
      let s : suc i ≡ i + 1 = omega arith in
      record {
        within = omega arith;
        top_inside = g.top_inside;
        bare = g.bare;
        built = b;
        well = below_more (λ p. well_formed (hold_in words p) ≡ true) i g.well ok;
        counted = omega (
          arith,
          g.counted,
          ap (λ (x : ℕ). waiting x (keys_of (holds_of words))) s,
          waiting_one (keys_of (holds_of words)) i (λ e. n (omega (arith, sym (key_at words i inside) ∙ e))),
        );
        lowest = lowest_past g.lowest l n;
      }

-- behind `top` nothing is to be entered
module _ {words heads links : List ℕ} {top low blank : ℕ} (g : Passed words heads links top top low blank) where
  blank_well : (p : ℕ) → top ≤ p → p < HOLDS → well_formed (hold_in words p) ≡ true
  unfolding well_formed
  blank_well p a l = rw (blank_unused words p top g.bare a l)

  well_all : (p : ℕ) → p < HOLDS → well_formed (hold_in words p) ≡ true
  well_all p l =
      by_test (ltb p top)
      (λ t. g.well p (ltb-true p top t))
      (λ t. blank_well p (ltb-false p top t) l)

  head_all : {h : ℕ} → Head top h → Head HOLDS h
  head_all (inl e) = inl e
  head_all (inr (inl l)) = inr (inl (omega (arith, g.top_inside)))
  head_all (inr (inr w)) = inr (inr (w.0, omega (arith, w.1, g.top_inside)))

  built_all : Built words HOLDS heads links
  built_all =
      record {
        inside = omega arith;
        heads_long = g.built.heads_long;
        growing = record {
          long = g.built.growing.long;
          flat = g.built.growing.flat;
          rising = λ x a b. (let r = g.built.growing.rising x a b in (r.0, b));
        };
        headed = λ x a. head_all (g.built.headed x a);
        reached = λ p l n.
            by_test (ltb p top)
            (λ t. g.built.reached p (ltb-true p top t) n)
            (λ t. absurd (n (g.bare p (ltb-false p top t) l).0));
      }

  pub passed_all : Index words heads links low (top - blank)
  passed_all =
      let t = g.top_inside in
      let z : top + (HOLDS - top) ≡ HOLDS = omega arith in
      record {
        well = all_places well_formed zero_hold (holds_of words)
            (λ j h. ap well_formed (holds_at words j (omega (arith, holds_long words))) ∙ well_all j (omega (arith, holds_long words)));
        built = built_all;
        counted = omega (
          arith,
          g.counted,
          ap (λ (x : ℕ). waiting x (keys_of (holds_of words))) z,
          waiting_skip (keys_of (holds_of words)) (HOLDS - top) top
              (λ p a b. key_at words p (omega arith) ∙ no_key (hold_in words p) (well_all p (omega arith)) (g.bare p a (omega arith)).0),
        );
        lowest = lowest_is g.lowest g.top_inside g.bare;
      }
