-- The room in free blocks and the space line (rule 8.6): a run has a base at a multiple of an alignment exactly if it is no longer than the greatest room from
-- such a multiple on.
use Rattle.std.specs.Prelude.{Option, Some, None}
use Prim.Native.Nat.{ℕ, ◌+◌, ◌-◌, ◌≤◌, ◌<◌}
use native.Mathlib.Omega.{arith}
use mathlib.Core.Path.{◌≡◌, refl, sym, ◌∙◌}
use mathlib.Core.List.{List, [], ◌∷◌}
use mathlib.Core.Bool.{Bool, true, false}
use borrow.Author.Tests.{leb-true, leb-false, le-leb, lt-leb, lt-ltb, le-ltb}
use lib.Dec.{leb, ltb, eqb}
use lib.ListN.{length}
use Rattle.layout.specs.Blocks.{Block, size, units, parse}
use Rattle.lists.specs.Lists.{first, total, is_none}
use Rattle.model.specs.Objects.{blocks_of}
use Rattle.model.specs.Consistent.{free_apart}
use Rattle.model.specs.Space.{lowest_base}
use Rattle.lookup.specs.declared.Met.{Met}
use Rattle.lookup.specs.Walk.{met, has_room, base_in}
use Rattle.lookup.proofs.Fits.{fit_first}
use Rattle.lookup.proofs.Multiple.{multiple_behind}
use Rattle.lookup.proofs.Parsed.{met_of, met_parsed, placed}
use Rattle.lookup.proofs.Lowest.{base_found, base_nowhere}
use Rattle.statistics.specs.Statistics.{higher, most}
use Rattle.statistics.specs.Tallies.{room_in}
use Rattle.statistics.proofs.Joins.{higher_right, higher_left, higher_cases}

-- the first element for which f reaches n, and the greatest of f
module _ {A : Type 0} (p : A → Bool) (f : A → ℕ) (n : ℕ) (some-length : 0 < n) (tests : (x : A) → p x ≡ leb n (f x)) where
  pub first_most : (xs : List A) → is_none (first p xs) ≡ ltb (most f xs) n
  unfolding first most is_none
  first_most [] = sym (lt-ltb 0 n some-length)
  first_most (x ∷ xs) = go (leb n (f x)) refl (first_most xs)
    where
      go : (t : Bool) → leb n (f x) ≡ t → is_none (first p xs) ≡ ltb (most f xs) n → is_none (first p (x ∷ xs)) ≡ ltb (higher (f x) (most f xs)) n
      go true e ih =
          let l = leb-true n (f x) e in
          rw (tests x, e)
          (sym (higher_cases (f x) (most f xs)
          (λ h. rw (higher_right (f x) (most f xs) h) (le-ltb (most f xs) n (omega arith)))
          (λ h. rw (higher_left (f x) (most f xs) h) (le-ltb (f x) n l))))
      go false e ih =
          let l = leb-false n (f x) e in
          rw (tests x, e)
          (higher_cases (f x) (most f xs)
          (λ h. rw (higher_right (f x) (most f xs) h) ih)
          (λ h. rw (higher_left (f x) (most f xs) h) (ih ∙ lt-ltb (most f xs) n (omega arith) ∙ sym (lt-ltb (f x) n l))))

-- a block has room exactly if its room is long enough
pub room_tests : (a n : ℕ) → 0 < n → (m : Met) → has_room a n m ≡ leb n (room_in a m)
unfolding has_room room_in
room_tests a n l m = go (eqb m.serial 0) refl
  where
    within : leb (base_in a m + n) (m.at + m.size) ≡ leb n (m.at + m.size - base_in a m)
    within = test (leb n (m.at + m.size - base_in a m)) refl
      where
        test : (x : Bool) → leb n (m.at + m.size - base_in a m) ≡ x → leb (base_in a m + n) (m.at + m.size) ≡ leb n (m.at + m.size - base_in a m)
        test true e = let h = leb-true n (m.at + m.size - base_in a m) e in le-leb (base_in a m + n) (m.at + m.size) (omega arith) ∙ sym e
        test false e = let h = leb-false n (m.at + m.size - base_in a m) e in lt-leb (base_in a m + n) (m.at + m.size) (omega arith) ∙ sym e

    go : (x : Bool) → eqb m.serial 0 ≡ x → has_room a n m ≡ leb n (room_in a m)
    go true e = rw e within
    go false e = rw e (sym (lt-leb n 0 l))

module _ (s : List ℕ) (bs : List Block) (e : parse s ≡ Some bs) where
  -- the room is less than the heap
  pub rooms_inside : (a : ℕ) → 0 < a → most (room_in a) (met s) ≤ total size bs - 8
  unfolding most met_of total room_in
  rooms_inside a positive = rw (met_parsed s bs e) (go 0 0 bs)
    where
      room_small : (at back : ℕ) (b : Block) → room_in a (placed at back b) ≤ size b - 8
      room_small at back b = test (eqb b.serial 0) refl
        where
          test : (x : Bool) → eqb b.serial 0 ≡ x → room_in a (placed at back b) ≤ size b - 8
          test true q = rw q (omega (arith, multiple_behind a positive (at + 8)))
          test false q = rw q (omega arith)

      go : (at back : ℕ) (cs : List Block) → most (room_in a) (met_of at back cs) ≤ total size cs - 8
      go at back [] = omega arith
      go at back (c ∷ cs) =
          let r = room_small at back c in
          let ih = go (at + size c) (units c) cs in
          higher_cases (room_in a (placed at back c)) (most (room_in a) (met_of (at + size c) (units c) cs))
          (λ h. rw (higher_right (room_in a (placed at back c)) (most (room_in a) (met_of (at + size c) (units c) cs)) h) (omega arith))
          (λ h. rw (higher_left (room_in a (placed at back c)) (most (room_in a) (met_of (at + size c) (units c) cs)) h) (omega arith))

  module _ (apart : free_apart bs ≡ true) (a n : ℕ) (positive : 0 < a) (some-length : 0 < n) where
    -- there is a base exactly if a block has room
    based : is_none (lowest_base (length s) (blocks_of s) a n) ≡ is_none (first (has_room a n) (met s))
    unfolding is_none
    based = go (first (has_room a n) (met s)) refl
      where
        go : (o : Option Met) → first (has_room a n) (met s) ≡ o → is_none (lowest_base (length s) (blocks_of s) a n) ≡ is_none o
        go None q = rw (base_nowhere a n positive s bs e apart (fit_first a n s positive ∙ rw q))
        go (Some m) q = rw (base_found a n positive s bs e apart m (base_in a m) (fit_first a n s positive ∙ rw q)).lowest

    -- so exactly if the greatest room is long enough
    pub room_exactly : is_none (lowest_base (length s) (blocks_of s) a n) ≡ ltb (most (room_in a) (met s)) n
    room_exactly = based ∙ first_most (has_room a n) (room_in a) n some-length (room_tests a n some-length) (met s)
