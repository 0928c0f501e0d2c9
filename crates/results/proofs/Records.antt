-- A record that was found by its place, and the change of the first record that passes a test, are the same.
use Rattle.std.specs.Prelude.{Some, None}
use Prim.Native.Nat.{ℕ, suc, ◌+◌}
use native.Mathlib.Omega.{arith}
use mathlib.Core.Path.{◌≡◌, refl, ap}
use mathlib.Core.List.{List, [], ◌∷◌}
use mathlib.Core.Bool.{Bool, true, false, cond, ◌||◌}
use lib.ListN.{get_or, set}
use Rattle.accounts.specs.declared.Hold.{Hold}
use Rattle.accounts.specs.Accounts.{zero_hold, first_from}
use Rattle.lists.specs.Lists.{any, first, change_first}

-- what a place of the search says, where it began at n
record Says (p : Hold → Bool) (hs : List Hold) (n i : ℕ) : Type 0 where
  place : ℕ
  from : i ≡ n + place
  some_passes : any p hs ≡ true
  is_first : first p hs ≡ Some (get_or hs place zero_hold)
  changed : (f : Hold → Hold) → change_first p f hs ≡ set hs place (f (get_or hs place zero_hold))

says_cons : (p : Hold → Bool) (h : Hold) (hs : List Hold) (n i : ℕ) → (first_from p (suc n) hs ≡ Some i → Says p hs (suc n) i) → (x : Bool) → p h ≡ x
    → cond x (Some n) (first_from p (suc n) hs) ≡ Some i → Says p (h ∷ hs) n i
unfolding any first change_first
says_cons p h hs n i ih true t e =
    let q : n ≡ i = cc in
    record { place = 0; from = omega (arith, q); some_passes = rw t; is_first = rw t; changed = λ f. rw t }
says_cons p h hs n i ih false t e =
    let r = ih e in
    record {
      place = suc r.place;
      from = omega (arith, r.from);
      some_passes = rw t r.some_passes;
      is_first = rw t r.is_first;
      changed = λ f. rw t (ap (λ (l : List Hold). h ∷ l) (r.changed f));
    }

says : (p : Hold → Bool) (hs : List Hold) (n i : ℕ) → first_from p n hs ≡ Some i → Says p hs n i
unfolding first_from
says p [] n i e = let z : ◌≡◌ {A = ℕ} 0 1 = cc in absurd (omega arith)
says p (h ∷ hs) n i e = says_cons p h hs n i (says p hs (suc n) i) (p h) refl e

module _ (p : Hold → Bool) (hs : List Hold) (i : ℕ) (e : first_from p 0 hs ≡ Some i) where
  at_place : (r : Says p hs 0 i) → r.place ≡ i
  at_place r = omega (arith, r.from)

  -- some record passes, and the first that does is the one at the place
  pub found_some : any p hs ≡ true
  found_some = (says p hs 0 i e).some_passes

  pub found_record : first p hs ≡ Some (get_or hs i zero_hold)
  found_record = let r = says p hs 0 i e in rw (at_place r) at r.is_first

  -- and its change is a change at that place
  pub found_change : (f : Hold → Hold) → change_first p f hs ≡ set hs i (f (get_or hs i zero_hold))
  found_change f = let r = says p hs 0 i e in rw (at_place r) at (r.changed f)

-- where nothing is found, no record passes
pub nothing_some : (p : Hold → Bool) (hs : List Hold) (n : ℕ) → first_from p n hs ≡ None → any p hs ≡ false
unfolding first_from any
nothing_some p [] n e = refl
nothing_some p (h ∷ hs) n e = go (p h) (nothing_some p hs (suc n)) e
  where
    go : (x : Bool) → (first_from p (suc n) hs ≡ None → any p hs ≡ false) → cond x (Some n) (first_from p (suc n) hs) ≡ None → (x || any p hs) ≡ false
    go true ih d = let z : ◌≡◌ {A = ℕ} 0 1 = cc in absurd (omega arith)
    go false ih d = ih d
