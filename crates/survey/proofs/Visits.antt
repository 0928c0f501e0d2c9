-- One block of the walk: each of the definition's tests, one of a free block's size and one of a live block's object
-- decides it where it fails, and where all pass, the settlement of a live block leaves the arrays as the walk wants
-- them.
use Rattle.std.specs.Prelude.{Option, Some, None}
use Rattle.std.proofs.Common.{◌≡◌, ℕ, ◌-◌, ◌<◌, ◌≤◌, Bool, true, false, cond, not, ◌&&◌, ◌||◌, eqb, leb, ◌⊎◌, List, sym, refl, ap, ◌∙◌, subst, inl, inr, arith}
use Rattle.std.proofs.Common.{eq-eqb, ne_eqb, le-leb, leb-false, leb-true}
use borrow.Author.Tests.{lt-leb}
use Rattle.model.specs.Consistent.{fits_unit}
use Rattle.lists.proofs.Bools.{and_no, and_left, and_right, by_eq}
use Rattle.layout.specs.Blocks.{QUARANTINED}
use Rattle.audit.specs.Keys.{strike, struck, pay, unpaid}
use Rattle.audit.specs.Audit.{State, behind, visit, visit_free, visit_quarantined, visit_live, settled}
use Rattle.audit.specs.Fitting.{fits_block}
use Rattle.survey.specs.Index.{keys_left}
use Rattle.survey.specs.Clauses.{Ready, Done, Visited}

module _ (unit : ℕ → ℕ) (kind last s n end before : ℕ) {words heads links owed : List ℕ} {left : ℕ} (g : Ready words heads links owed left) where
  abbrev keys : List ℕ
  keys = keys_left words heads links

  -- a free block
  pub visit_behind : s ≡ 0 → before ≡ 0 → Visited unit kind last s n end before words heads links owed false heads links owed left
  unfolding visit visit_free
  visit_behind z f l = inl (rw (eq-eqb s 0 z, eq-eqb before 0 f))

  pub visit_apart : s ≡ 0 → (before ≡ 0 → ⊥) → Visited unit kind last s n end before words heads links owed (leb 8 n) heads links owed left
  unfolding visit visit_free fits_block
  visit_apart z f = go (leb 8 n) refl
    where
      go : (x : Bool) → leb 8 n ≡ x → Visited unit kind last s n end before words heads links owed x heads links owed left
      go true t = (leb-true 8 n t, g, rw (eq-eqb s 0 z, ne_eqb before 0 f), rw (eq-eqb s 0 z))
      go false t = λ l. absurd (omega (arith, leb-false 8 n t))

  -- a quarantined one
  pub visit_waits : (s ≡ 0 → ⊥) → s ≡ QUARANTINED → Visited unit kind last s n end before words heads links owed (leb 16 n && eqb kind 1) heads links owed left
  unfolding visit visit_quarantined fits_block
  visit_waits m z = go (leb 16 n) (eqb kind 1) refl refl
    where
      go : (x y : Bool) → leb 16 n ≡ x → eqb kind 1 ≡ y → Visited unit kind last s n end before words heads links owed (x && y) heads links owed left
      go true true t u = (omega (arith, leb-true 16 n t), g, rw (ne_eqb s 0 m, eq-eqb s QUARANTINED z, t), rw (ne_eqb s 0 m, eq-eqb s QUARANTINED z, u))
      go true false t u = λ l. inr (rw (ne_eqb s 0 m, eq-eqb s QUARANTINED z, u))
      go false y t u = λ l. inl (rw (ne_eqb s 0 m, eq-eqb s QUARANTINED z, t))

  -- a live one
  module _ (live : s ≡ 0 → ⊥) (named : s ≡ QUARANTINED → ⊥) where
    tests : visit last s n (behind before keys owed)
        ≡ cond (leb 16 n && (leb s last && not (eqb (struck s keys) 0))) (settled (strike s keys) (pay s n keys (Some (unpaid owed)))) None
    unfolding visit visit_live
    tests = rw (ne_eqb s 0 live, ne_eqb s QUARANTINED named)

    pub visit_late : last < s → Visited unit kind last s n end before words heads links owed false heads links owed left
    visit_late h l = inl (tests ∙ rw (lt-leb s last h, and_no (leb 16 n) false refl))

    -- too short, or an object that does not fit
    pub visit_unfit : (leb 16 n && fits_unit unit (end - (n - 8)) (n - 8)) ≡ false
        → Visited unit kind last s n end before words heads links owed false heads links owed left
    unfolding fits_block
    visit_unfit e l = go (leb 16 n) refl
      where
        go : (t : Bool) → leb 16 n ≡ t → (visit last s n (behind before keys owed) ≡ None)
            ⊎ ((eqb s 0 || cond (eqb s QUARANTINED) (eqb kind 1) (fits_unit unit (end - (n - 8)) (n - 8))) ≡ false)
        go true t = inr (rw (ne_eqb s 0 live, ne_eqb s QUARANTINED named) (sym (rw t refl) ∙ e))
        go false t = inl (tests ∙ rw t)

    pub visit_settled : (leb 16 n && fits_unit unit (end - (n - 8)) (n - 8)) ≡ true → s ≤ last → (r : Bool) (heads' links' owed' : List ℕ) (left' : ℕ)
        → Done s n words heads links owed r heads' links' owed' left' → Visited unit kind last s n end before words heads links owed r heads' links' owed' left'
    unfolding settled fits_block
    visit_settled fits given true heads' links' owed' left' (w, ready) =
        let t = and_left (leb 16 n) (fits_unit unit (end - (n - 8)) (n - 8)) fits in (
          omega (arith, leb-true 16 n t),
          ready refl,
          tests ∙ rw (t, le-leb s last given, ne_eqb (struck s keys) 0 w.0, ne_eqb s 0 live) w.1.rest,
          rw (ne_eqb s 0 live, ne_eqb s QUARANTINED named) (and_right (leb 16 n) (fits_unit unit (end - (n - 8)) (n - 8)) fits),
        )
    visit_settled fits given false heads' links' owed' left' (inl w, ready) =
        λ l. inl (tests ∙ rw (eq-eqb (struck s keys) 0 w, and_no (leb s last) false refl, and_no (leb 16 n) false refl))
    visit_settled fits given false heads' links' owed' left' (inr w, ready) = λ l.
        inl (tests ∙ rw w (either (leb 16 n && (leb s last && not (eqb (struck s keys) 0)))))
      where
        either : (t : Bool) → ◌≡◌ {A = Option State} (cond t None None) None
        either true = refl
        either false = refl

  -- a serial above the last one: a quarantined block, or one that fails
  pub visit_above : last < s → (r : Bool) → r ≡ (eqb s QUARANTINED && (leb 16 n && eqb kind 1))
      → Visited unit kind last s n end before words heads links owed r heads links owed left
  visit_above h r e =
      let live : s ≡ 0 → ⊥ = λ z. omega arith in
      by_eq s QUARANTINED
      (λ q.
      let z : r ≡ (leb 16 n && eqb kind 1) = e ∙ ap (λ (t : Bool). t && (leb 16 n && eqb kind 1)) (eq-eqb s QUARANTINED q) in
      subst (λ (t : Bool). Visited unit kind last s n end before words heads links owed t heads links owed left) (sym z) (visit_waits live q))
      (λ q.
      let z : r ≡ false = e ∙ ap (λ (t : Bool). t && (leb 16 n && eqb kind 1)) (ne_eqb s QUARANTINED q) in
      subst (λ (t : Bool). Visited unit kind last s n end before words heads links owed t heads links owed left) (sym z) (visit_late live q h))
