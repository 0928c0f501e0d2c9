-- The lookup by the walk is that of rules 4.3 and 4.4: on a heap that is cut into blocks it finds the block of the object that the handle names, and finds
-- none where the handle names none.
-- The walk meets the blocks in order, each live block with its object, so the first block whose object passes a test has the first object that does.
use Rattle.std.specs.Prelude.{Option, Some, None}
use mathlib.Core.Path.{◌≡◌, refl, ap, sym, ◌∙◌}
use mathlib.Core.List.{List, [], ◌∷◌}
use mathlib.Core.Bool.{Bool, true, false, ◌&&◌}
use Prim.Native.Nat.{ℕ, ◌+◌, ◌-◌}
use native.Mathlib.Omega.{arith}
use lib.ListN.{length}
use Rattle.layout.specs.Blocks.{Block, size, units, live, parse}
use Rattle.lists.specs.Lists.{first}
use Rattle.model.specs.Objects.{object, objects_from, objects, objects_of, names, lookup}
use Rattle.model.specs.declared.Handle.{Handle}
use Rattle.lists.proofs.Bools.{and_left}
use Rattle.lists.proofs.Lists.{first_some}
use Rattle.model.proofs.Consistent.{blocks_parsed}
use Rattle.lookup.specs.declared.Met.{Met}
use Rattle.lookup.specs.Walk.{met, live_met, object_met, holds_named, looked_up, find_object}
use Rattle.lookup.proofs.Parsed.{placed, met_of, met_parsed, Stands, search_stands}

abbrev as_object : Option Met → Option Handle
as_object None = None
as_object (Some m) = Some (object_met m)

-- the first object that passes a test is that of the first live block whose object does
first_object : (p : Handle → Bool) (at back : ℕ) (bs : List Block)
    → first p (objects_from at bs) ≡ as_object (first (λ m. live_met m && p (object_met m)) (met_of at back bs))
unfolding first objects_from met_of
first_object p at back [] = refl
first_object p at back (b ∷ bs) = go (live b) (p (object at b)) refl refl (first_object p (at + size b) (units b) bs)
  where
    same : object_met (placed at back b) ≡ object at b
    same = let e : size b - 8 ≡ length b.body = omega arith in λ i. record { base = at + 8; length = e i; serial = b.serial }

    go : (x y : Bool) → live b ≡ x → p (object at b) ≡ y
        → first p (objects_from (at + size b) bs) ≡ as_object (first (λ m. live_met m && p (object_met m)) (met_of (at + size b) (units b) bs))
        → first p (objects_from at (b ∷ bs)) ≡ as_object (first (λ m. live_met m && p (object_met m)) (met_of at back (b ∷ bs)))
    go true true ex ey ih = rw (ex, same, ey) (ap Some (sym same))
    go true false ex ey ih = rw (ex, same, ey) ih
    go false y ex ey ih = rw ex ih

found_met : (m : Met) (o : Option Met) → looked_up o ≡ Some m → o ≡ Some m
found_met m None q = cc
found_met m (Some x) q = cc

missing_met : (o : Option Met) → looked_up o ≡ None → o ≡ None
missing_met None q = refl
missing_met (Some x) q = cc

-- the handle names the object of the block m, a live block of a heap that is cut into the blocks bs
pub record Named (s : List ℕ) (bs : List Block) (h : Handle) (m : Met) : Type 0 where
  pub named : lookup h s ≡ Some (object_met m)
  pub stands : Stands bs m
  pub living : live stands.block ≡ true

module _ (s : List ℕ) (bs : List Block) (e : parse s ≡ Some bs) (h : Handle) where
  lookup_met : lookup h s ≡ as_object (first (holds_named h) (met s))
  unfolding lookup objects_of objects holds_named
  lookup_met = rw (blocks_parsed s bs e, met_parsed s bs e) (first_object (names h) 0 0 bs)

  -- what was found is the block of the object that the handle names
  pub lookup_found : (m : Met) → find_object h s ≡ Some m → Named s bs h m
  unfolding find_object holds_named
  lookup_found m q =
      let f = found_met m (first (holds_named h) (met s)) q in
      let t = (first_some (holds_named h) (met s) m f).1 in
      let w = search_stands s bs e (holds_named h) m f in
      record { named = lookup_met ∙ ap as_object f; stands = w; living = rw w.serial at (and_left (live_met m) (names h (object_met m)) t) }

  -- where none was found, the handle names none
  pub lookup_missing : find_object h s ≡ None → lookup h s ≡ None
  unfolding find_object
  lookup_missing q = lookup_met ∙ ap as_object (missing_met (first (holds_named h) (met s)) q)
