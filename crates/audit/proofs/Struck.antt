-- Records of one serial that are struck, that is, set to zero: what is said of other serials stays, and nothing of that serial is left. So the tests
-- of `accounted_blocks` about records and objects hold of a table exactly if they hold of its first object and, for the other objects, of the table
-- with that object's records struck.
use Prim.Native.Nat.{ℕ, suc}
use mathlib.Core.Path.{◌≡◌, refl, ap, sym, ◌∙◌}
use mathlib.Core.Bool.{Bool, true, false, not, cond, ◌&&◌, ◌||◌, true≢false, and_assoc}
use mathlib.Core.List.{List, [], ◌∷◌, map}
use native.Mathlib.Omega.{arith}
use borrow.Author.Tests.{eq-eqb, ne_eqb, eqb-true, eqb-false, lt-ltb, le-leb}
use lib.Dec.{eqb}
use Rattle.accounts.specs.declared.Hold.{Hold}
use Rattle.accounts.specs.Accounts.{QUOTAS, zero_hold, used, is_for}
use Rattle.model.specs.declared.Handle.{Handle}
use Rattle.lists.specs.Lists.{all, any, total}
use Rattle.model.specs.Consistent.{has_serial, record_valid, records_differ, is_of, held, has_record, charged_for, charges}
use Rattle.lists.proofs.Bools.{and_left, and_right, and_both, or_neither, fails, by_test}
use Rattle.lists.proofs.Lists.{all_member, any_member}
use Rattle.model.proofs.Consistent.{is_of_exactly, is_for_exactly}
use Rattle.audit.specs.Keys.{well_formed, key_of, keys_of, strike, struck}
use Rattle.audit.proofs.Records.{well_used, key_is_of}

abbrev pub strike_hold : ℕ → Hold → Hold
strike_hold s h = cond (is_of s h) zero_hold h

abbrev pub strike_holds : ℕ → List Hold → List Hold
strike_holds s hs = map (strike_hold s) hs

-- no two records of one serial have the same quota
unfoldable pub once_for : ℕ → List Hold → Bool
once_for s [] = true
once_for s (h ∷ hs) = (not (is_of s h) || not (has_record hs h.quota s)) && once_for s hs

module _ (s : ℕ) where
  -- a test that neither a zero record nor one of the serial passes says what it said; one that only those of the serial pass says nothing
  module _ (p : Hold → Bool) (none : p zero_hold ≡ false) where
    any_kept : ((h : Hold) → is_of s h ≡ true → p h ≡ false) → (hs : List Hold) → any p (strike_holds s hs) ≡ any p hs
    unfolding any
    any_kept f [] = refl
    any_kept f (h ∷ hs) = go (is_of s h) refl (any_kept f hs)
      where
        go : (t : Bool) → is_of s h ≡ t → any p (strike_holds s hs) ≡ any p hs → (p (cond t zero_hold h) || any p (strike_holds s hs)) ≡ (p h || any p hs)
        go true e ih = rw (none, f h e, ih)
        go false e ih = rw ih

    any_gone : ((h : Hold) → is_of s h ≡ false → p h ≡ false) → (hs : List Hold) → any p (strike_holds s hs) ≡ false
    unfolding any
    any_gone f [] = refl
    any_gone f (h ∷ hs) = go (is_of s h) refl (any_gone f hs)
      where
        go : (t : Bool) → is_of s h ≡ t → any p (strike_holds s hs) ≡ false → (p (cond t zero_hold h) || any p (strike_holds s hs)) ≡ false
        go true e ih = rw (none, ih)
        go false e ih = rw (f h e, ih)

  has_kept : (s' q : ℕ) → (s ≡ s' → ⊥) → (hs : List Hold) → has_record (strike_holds s hs) q s' ≡ has_record hs q s'
  unfolding has_record is_for used
  has_kept s' q ne =
      any_kept (is_for s' q) refl
      (λ h e. fails (is_for s' q h) (λ t. ne (sym ((is_of_exactly s h).0 e).1 ∙ ((is_for_exactly s' q h).0 t).1)))

  held_kept : (s' : ℕ) → (s ≡ s' → ⊥) → (hs : List Hold) → held (strike_holds s hs) s' ≡ held hs s'
  unfolding held is_of used
  held_kept s' ne =
      any_kept (is_of s') refl
      (λ h e. fails (is_of s' h) (λ t. ne (sym ((is_of_exactly s h).0 e).1 ∙ ((is_of_exactly s' h).0 t).1)))

  held_gone : (hs : List Hold) → held (strike_holds s hs) s ≡ false
  unfolding held is_of used
  held_gone = any_gone (is_of s) refl (λ h e. e)

  -- a struck table is well-formed
  pub strike_well : (hs : List Hold) → all well_formed hs ≡ true → all well_formed (strike_holds s hs) ≡ true
  unfolding all well_formed used
  strike_well [] e = refl
  strike_well (h ∷ hs) e = and_both _ _ (go (is_of s h)) (strike_well hs (and_right (well_formed h) (all well_formed hs) e))
    where
      go : (t : Bool) → well_formed (cond t zero_hold h) ≡ true
      go true = refl
      go false = and_left (well_formed h) (all well_formed hs) e

  -- striking records is striking their keys, and a serial is held exactly if it strikes a key
  module _ (live : s ≡ 0 → ⊥) where
    pub strike_keys : (hs : List Hold) → all well_formed hs ≡ true → strike s (keys_of hs) ≡ keys_of (strike_holds s hs)
    unfolding strike all
    strike_keys [] w = refl
    strike_keys (h ∷ hs) w =
        rw (key_is_of h (and_left (well_formed h) (all well_formed hs) w) s live, strike_keys hs (and_right (well_formed h) (all well_formed hs) w))
        (go (is_of s h))
      where
        go : (t : Bool) → cond t 0 (key_of h) ∷ keys_of (strike_holds s hs) ≡ key_of (cond t zero_hold h) ∷ keys_of (strike_holds s hs)
        go true = refl
        go false = refl

    pub struck_held : (hs : List Hold) → all well_formed hs ≡ true → not (eqb (struck s (keys_of hs)) 0) ≡ held hs s
    unfolding struck held any all
    struck_held [] w = refl
    struck_held (h ∷ hs) w =
        rw (key_is_of h (and_left (well_formed h) (all well_formed hs) w) s live)
        (go (is_of s h) (struck_held hs (and_right (well_formed h) (all well_formed hs) w)))
      where
        go : (t : Bool) → not (eqb (struck s (keys_of hs)) 0) ≡ held hs s
            → not (eqb (cond t (suc (struck s (keys_of hs))) (struck s (keys_of hs))) 0) ≡ (t || held hs s)
        go true ih = rw (ne_eqb (suc (struck s (keys_of hs))) 0 (λ e. omega arith))
        go false ih = ih

  -- a record that is not of the serial and is used has another serial
  other_serial : (h : Hold) → is_of s h ≡ false → used h ≡ true → h.serial ≡ s → ⊥
  other_serial h e u q = true≢false (sym ((is_of_exactly s h).1 (u, q)) ∙ e)

  -- rule 5.5: a used record is of a live object
  valid_own : (o : Handle) (os : List Handle) (h : Hold) → o.serial ≡ s → well_formed h ≡ true → is_of s h ≡ true → record_valid (o ∷ os) h ≡ true
  unfolding record_valid any
  valid_own o os h q w e =
      let p = (is_of_exactly s h).0 e in
      let v = well_used h w p.0 in
      rw (p.0, eq-eqb o.serial h.serial (q ∙ sym p.1), lt-ltb h.quota QUOTAS v.1, le-leb 1 h.count v.2)

  valid_other : (o : Handle) (os : List Handle) (h : Hold) → o.serial ≡ s → is_of s h ≡ false → record_valid (o ∷ os) h ≡ record_valid os h
  unfolding record_valid any
  valid_other o os h q e =
      by_test (used h)
      (λ u. rw (u, ne_eqb o.serial h.serial (λ x. other_serial h e u (sym x ∙ q))))
      (λ u. rw u)

  zero_valid : (os : List Handle) → record_valid os zero_hold ≡ true
  unfolding record_valid used
  zero_valid os = refl

  pub valid_struck : (o : Handle) → o.serial ≡ s → (os : List Handle) (hs : List Hold) → all well_formed hs ≡ true
      → all (record_valid (o ∷ os)) hs ≡ all (record_valid os) (strike_holds s hs)
  unfolding all
  valid_struck o q os [] w = refl
  valid_struck o q os (h ∷ hs) w =
      rw (valid_struck o q os hs (and_right (well_formed h) (all well_formed hs) w)) (go (is_of s h) refl (and_left (well_formed h) (all well_formed hs) w))
    where
      go : (t : Bool) → is_of s h ≡ t → well_formed h ≡ true
          → (record_valid (o ∷ os) h && all (record_valid os) (strike_holds s hs)) ≡
          (record_valid os (cond t zero_hold h) && all (record_valid os) (strike_holds s hs))
      go true e v = rw (valid_own o os h q v e, zero_valid os)
      go false e v = rw (valid_other o os h q e)

  -- rule 5.6: used records differ in serial or quota
  unique_own : (h : Hold) (hs : List Hold) (a b : Bool) → is_of s h ≡ true
      → (not (used h && any (is_for h.serial h.quota) hs) && (a && b))
      ≡ ((not (has_record hs h.quota s) && a) && (not (used zero_hold && any (is_for zero_hold.serial zero_hold.quota) (strike_holds s hs)) && b))
  unfolding has_record used
  unique_own h hs a b e =
      let p = (is_of_exactly s h).0 e in
      rw (p.0, p.1) (sym (and_assoc (not (any (is_for s h.quota) hs)) a b))

  unique_other : (h : Hold) (hs : List Hold) (a b : Bool) → is_of s h ≡ false
      → (not (used h && any (is_for h.serial h.quota) hs) && (a && b)) ≡
      (a && (not (used h && any (is_for h.serial h.quota) (strike_holds s hs)) && b))
  unfolding has_record
  unique_other h hs a b e =
      by_test (used h)
      (λ u. rw (u, has_kept h.serial h.quota (λ x. other_serial h e u (sym x)) hs) (swap (not (any (is_for h.serial h.quota) hs)) a b))
      (λ u. rw u)
    where
      swap : (x a b : Bool) → (x && (a && b)) ≡ (a && (x && b))
      swap true a b = refl
      swap false true b = refl
      swap false false b = refl

  pub unique_struck : (hs : List Hold) → records_differ hs ≡ (once_for s hs && records_differ (strike_holds s hs))
  unfolding records_differ once_for
  unique_struck [] = refl
  unique_struck (h ∷ hs) = rw (unique_struck hs) (go (is_of s h) refl)
    where
      go : (t : Bool) → is_of s h ≡ t
          → (not (used h && any (is_for h.serial h.quota) hs) && (once_for s hs && records_differ (strike_holds s hs)))
          ≡ (((not t || not (has_record hs h.quota s)) && once_for s hs)
          && (not (used (cond t zero_hold h) && any (is_for (cond t zero_hold h).serial (cond t zero_hold h).quota)
          (strike_holds s hs)) && records_differ (strike_holds s hs)))
      go true e = unique_own h hs (once_for s hs) (records_differ (strike_holds s hs)) e
      go false e = unique_other h hs (once_for s hs) (records_differ (strike_holds s hs)) e

  -- rule 5.7, every object is held: an object with the struck serial has no record left
  pub alone : (os : List Handle) (hs : List Hold) → all (λ o. held (strike_holds s hs) o.serial) os ≡ true → any (has_serial s) os ≡ false
  alone os hs h =
      fails (any (has_serial s) os)
      (λ e.
      let m = any_member (has_serial s) os e in
      true≢false (sym (all_member (λ o. held (strike_holds s hs) o.serial) os h m.0 m.1)
      ∙ ap (held (strike_holds s hs)) (eqb-true m.0.serial s m.2) ∙ held_gone hs))

  -- of objects with other serials it says, and charges, what it did
  pub recorded_kept : (os : List Handle) (hs : List Hold) → any (has_serial s) os ≡ false
      → all (λ o. held (strike_holds s hs) o.serial) os ≡ all (λ o. held hs o.serial) os
  unfolding all any
  recorded_kept [] hs n = refl
  recorded_kept (o ∷ os) hs n =
      let p = or_neither (eqb o.serial s) (any (has_serial s) os) n in
      rw (held_kept o.serial (λ x. eqb-false o.serial s p.0 (sym x)) hs, recorded_kept os hs p.1)

  pub charges_kept : (os : List Handle) (hs : List Hold) (q : ℕ) → any (has_serial s) os ≡ false → charges (strike_holds s hs) q os ≡ charges hs q os
  unfolding charges charged_for total any
  charges_kept [] hs q n = refl
  charges_kept (o ∷ os) hs q n =
      let p = or_neither (eqb o.serial s) (any (has_serial s) os) n in
      rw (has_kept o.serial q (λ x. eqb-false o.serial s p.0 (sym x)) hs, charges_kept os hs q p.1)
