-- The blocks of the audit, one after the other: what a free block and a live block do to the definition's tests on the cut and to its objects, and when
-- the audit's step passes.
use Rattle.std.specs.Prelude.{Option, Some, None}
use Prim.Native.Nat.{ℕ, ◌+◌}
use mathlib.Core.Path.{◌≡◌, refl, sym, ◌∙◌}
use mathlib.Core.Bool.{Bool, true, false, not, cond, ◌&&◌, false≢true, and_assoc, and-false}
use mathlib.Core.List.{List, [], ◌∷◌}
use native.Mathlib.Omega.{arith}
use borrow.Author.Tests.{eq-eqb, ne_eqb, not-true}
use lib.Dec.{eqb, leb}
use Rattle.layout.specs.Blocks.{Block, size, QUARANTINED, live}
use Rattle.lists.specs.Lists.{all, any}
use Rattle.model.specs.Objects.{object, objects_from}
use Rattle.model.specs.Consistent.{long_enough, starts_free, free_apart, well_cut, has_serial}
use Rattle.model.proofs.Blocks.{live_occupied}
use Rattle.audit.specs.Keys.{strike, struck, Payment, pay, unpaid}
use Rattle.audit.specs.Audit.{State, visit_free, visit_quarantined, settled, visit_live, visit, audit}

-- the tests on the cut of blocks that stand behind a free block, or not
unfoldable pub cut_after : Bool → List Block → Bool
cut_after free bs = all long_enough bs && (not (free && starts_free bs) && free_apart bs)

pub cut_whole : (bs : List Block) → cut_after false bs ≡ well_cut bs
unfolding cut_after well_cut
cut_whole bs = refl

pub cut_none : (free : Bool) → cut_after free [] ≡ true
unfolding cut_after all starts_free free_apart
cut_none true = refl
cut_none false = refl

module _ (free : Bool) (b : Block) (bs : List Block) where
  pub cut_free : b.serial ≡ 0 → cut_after free (b ∷ bs) ≡ (not free && cut_after true bs)
  unfolding cut_after all long_enough starts_free free_apart
  cut_free z = rw (eq-eqb b.serial 0 z) (go free (all long_enough bs) (not (starts_free bs) && free_apart bs))
    where
      go : (free x y : Bool) → (x && (not (free && true) && y)) ≡ (not free && (x && y))
      go true true y = refl
      go true false y = refl
      go false x y = refl

  pub cut_live : (b.serial ≡ 0 → ⊥) → cut_after free (b ∷ bs) ≡ (leb 16 (size b) && cut_after false bs)
  unfolding cut_after all long_enough starts_free free_apart
  cut_live n = rw (ne_eqb b.serial 0 n) (go free)
    where
      go : (free : Bool)
          → ((leb 16 (size b) && all long_enough bs) && (not (free && false) && free_apart bs)) ≡ (leb 16 (size b) && (all long_enough bs && free_apart bs))
      go true = and_assoc (leb 16 (size b)) (all long_enough bs) (free_apart bs)
      go false = and_assoc (leb 16 (size b)) (all long_enough bs) (free_apart bs)

-- the objects
module _ (at : ℕ) (b : Block) (bs : List Block) where
  pub objects_free : b.serial ≡ 0 → objects_from at (b ∷ bs) ≡ objects_from (at + size b) bs
  unfolding objects_from
  objects_free z = rw (eq-eqb b.serial 0 z)

  pub objects_quarantined : b.serial ≡ QUARANTINED → objects_from at (b ∷ bs) ≡ objects_from (at + size b) bs
  unfolding objects_from
  objects_quarantined z = rw (eq-eqb b.serial QUARANTINED z, and-false (not (eqb b.serial 0)))

  pub objects_live : (b.serial ≡ 0 → ⊥) → (b.serial ≡ QUARANTINED → ⊥) → objects_from at (b ∷ bs) ≡ object at b ∷ objects_from (at + size b) bs
  unfolding objects_from
  objects_live n m = rw (ne_eqb b.serial 0 n, ne_eqb b.serial QUARANTINED m)

-- no object has the serial 0
pub objects_serial : (at : ℕ) (bs : List Block) → any (has_serial 0) (objects_from at bs) ≡ false
unfolding objects_from any
objects_serial at [] = refl
objects_serial at (b ∷ bs) = go (live b) refl (objects_serial (at + size b) bs)
  where
    go : (t : Bool) → live b ≡ t → any (has_serial 0) (objects_from (at + size b) bs) ≡ false
        → any (has_serial 0) (cond t (object at b ∷ objects_from (at + size b) bs) (objects_from (at + size b) bs)) ≡ false
    go true e ih = rw (not-true (eqb b.serial 0) (live_occupied b e), ih)
    go false e ih = ih

-- the audit: one block, and a step that fails
pub audit_step : (last : ℕ) (b : Block) (bs : List Block) (t : State) → audit last (b ∷ bs) (Some t) ≡ audit last bs (visit last b.serial (size b) t)
unfolding audit
audit_step last b bs t = refl

pub audit_none : (last : ℕ) (bs : List Block) → audit last bs None ≡ false
unfolding audit
audit_none last [] = refl
audit_none last (b ∷ bs) = refl

-- so a step before an audit that passes has not failed
pub audit_some : (last : ℕ) (bs : List Block) (x : Option State) → audit last bs x ≡ true → (t : State) × (x ≡ Some t)
audit_some last bs None e = absurd (false≢true (sym (audit_none last bs) ∙ e))
audit_some last bs (Some t) e = (t, refl)

module _ (last s n : ℕ) (t : State) where
  pub step_free : s ≡ 0 → visit last s n t ≡ cond t.free None (Some (record { free = true; keys = t.keys; owed = t.owed }))
  unfolding visit visit_free
  step_free z = rw (eq-eqb s 0 z)

  -- a live block that passes
  pub record Live (p : Payment) : Type 0 where
    pub long : leb 16 n ≡ true
    pub given : leb s last ≡ true
    pub strikes : not (eqb (struck s t.keys) 0) ≡ true
    pub paid : pay s n t.keys (Some (unpaid t.owed)) ≡ Some p

  pub step_quarantined : (s ≡ 0 → ⊥) → s ≡ QUARANTINED → visit last s n t ≡ cond (leb 16 n)
      (Some (record { free = false; keys = t.keys; owed = t.owed })) None
  unfolding visit visit_quarantined
  step_quarantined m z = rw (ne_eqb s 0 m, eq-eqb s QUARANTINED z)

  module _ (live : s ≡ 0 → ⊥) (alive : s ≡ QUARANTINED → ⊥) where
    pub step_passes : (p : Payment) → Live p → visit last s n t ≡ Some (record { free = false; keys = strike s t.keys; owed = p.owed })
    unfolding visit visit_live settled
    step_passes p l = rw (ne_eqb s 0 live, ne_eqb s QUARANTINED alive, l.long, l.given, l.strikes, l.paid)

    pub passes_step : (t' : State) → visit last s n t ≡ Some t'
        → (p : Payment) × Live p × (Some t' ≡ Some (record { free = false; keys = strike s t.keys; owed = p.owed }))
    unfolding visit visit_live settled
    passes_step t' e =
        go (leb 16 n) (leb s last) (not (eqb (struck s t.keys) 0)) (pay s n t.keys (Some (unpaid t.owed))) refl refl refl refl
        (rw (ne_eqb s 0 live, ne_eqb s QUARANTINED alive) at e)
      where
        no : None ≡ Some t' → (p : Payment) × Live p × (Some t' ≡ Some (record { free = false; keys = strike s t.keys; owed = p.owed }))
        no e = let z : ◌≡◌ {A = ℕ} 0 1 = cc in absurd (omega arith)

        go : (x y z : Bool) (o : Option Payment) → leb 16 n ≡ x → leb s last ≡ y → not (eqb (struck s t.keys) 0) ≡ z
            → pay s n t.keys (Some (unpaid t.owed)) ≡ o
            → cond (x && (y && z)) (settled (strike s t.keys) o) None ≡ Some t'
            → (p : Payment) × Live p × (Some t' ≡ Some (record { free = false; keys = strike s t.keys; owed = p.owed }))
        go false y z o a b c d e = no e
        go true false z o a b c d e = no e
        go true true false o a b c d e = no e
        go true true true None a b c d e = no e
        go true true true (Some p) a b c d e = (p, record { long = a; given = b; strikes = c; paid = d }, sym e)
