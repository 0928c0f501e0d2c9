-- The base by the walk is that of rule 8.6: on a heap that is cut into blocks, no two free ones side by side, it is the lowest suitable multiple of
-- the alignment, and where no block has room, no multiple is suitable.
-- The run of a base in a free block touches no other block. A suitable run lies in one free block, so that block has room, and the first block that
-- has room has its base no higher: it is the same block, or ends before it.
use Rattle.std.specs.Prelude.{Option, Some, None}
use mathlib.Core.Path.{◌≡◌, refl, ap, sym, ◌∙◌}
use mathlib.Core.List.{List, [], ◌∷◌, ◌++◌}
use mathlib.Core.Bool.{Bool, true, false, not}
use Prim.Native.Nat.{ℕ, ◌+◌, ◌-◌, ◌%◌, ◌≤◌, ◌<◌}
use native.Mathlib.Omega.{arith}
use lib.ListN.{length}
use lib.Dec.{leb}
use borrow.Author.Tests.{le-leb, leb-true, not-true}
use Rattle.std.proofs.lemmas.Option.{none-some, some_pair_parts}
use Rattle.layout.specs.Blocks.{Block, size, units, occupied, total_size, parse}
use Rattle.layout.proofs.Render.{size_append}
use Rattle.lists.specs.Lists.{first, total}
use Rattle.model.specs.Objects.{blocks_of}
use Rattle.model.specs.Consistent.{free_apart}
use Rattle.model.specs.Space.{outside_occupied, suitable, lowest_base}
use Rattle.lists.proofs.Bools.{and_left, and_right, and_both, or_left, or_right, fails}
use Rattle.lists.proofs.Lists.{first_some}
use Rattle.model.proofs.Blocks.{total_is}
use Rattle.model.proofs.Consistent.{blocks_parsed}
use Rattle.model.proofs.Base.{some_lowest, none_lowest}
use Rattle.model.proofs.Carve.{carved}
use Rattle.lookup.specs.declared.Met.{Met}
use Rattle.lookup.specs.Walk.{met, occupied_met, base_in, has_room, fitted, find_fit}
use Rattle.lookup.proofs.Multiple.{multiple_is, multiple_behind, multiple_lowest}
use Rattle.lookup.proofs.Fits.{fit_first}
use Rattle.lookup.proofs.Parsed.{placed, met_of, met_parsed, total_parsed, Stands, search_stands}

-- a run that ends before all blocks is outside them
outside_before : (start end at : ℕ) (bs : List Block) → end ≤ at → outside_occupied start end at bs ≡ true
unfolding outside_occupied
outside_before start end at [] h = refl
outside_before start end at (b ∷ bs) h =
    and_both _ _ (or_right (not (occupied b)) _ (or_left (leb end at) _ (le-leb end at h))) (outside_before start end (at + size b) bs (omega arith))

-- a run in a free block is outside every live one
outside_free : (start end at : ℕ) (xs : List Block) (f : Block) (ys : List Block) → occupied f ≡ false → at + total_size xs ≤ start
    → end ≤ at + total_size xs + size f
    → outside_occupied start end at (xs ++ (f ∷ ys)) ≡ true
unfolding outside_occupied total_size
outside_free start end at [] f ys e low high = rw e (outside_before start end (at + size f) ys (omega arith))
outside_free start end at (x ∷ xs) f ys e low high =
    and_both _ _ (or_right (not (occupied x)) _ (or_right (leb end at) _ (le-leb (at + size x) start (omega arith))))
    (outside_free start end (at + size x) xs f ys e (omega arith) (omega arith))

module _ (a n : ℕ) where
  -- a block that has room is free, and its lowest base leaves room for n bytes
  room_free : (m : Met) → has_room a n m ≡ true → occupied_met m ≡ false
  unfolding has_room
  room_free m e = not-true (occupied_met m) (and_left (not (occupied_met m)) _ e)

  room_ends : (m : Met) → has_room a n m ≡ true → base_in a m + n ≤ m.at + m.size
  unfolding has_room
  room_ends m e = leb-true (base_in a m + n) (m.at + m.size) (and_right (not (occupied_met m)) _ e)

  room_yes : (m : Met) → occupied_met m ≡ false → base_in a m + n ≤ m.at + m.size → has_room a n m ≡ true
  unfolding has_room
  room_yes m e h = rw e (le-leb (base_in a m + n) (m.at + m.size) h)

fitted_met : (a : ℕ) (m : Met) (b : ℕ) (o : Option Met) → fitted a o ≡ Some (m, b) → (o ≡ Some m) × (base_in a m ≡ b)
fitted_met a m b None q = (cc, cc)
fitted_met a m b (Some x) q =
    let p = some_pair_parts x m (base_in a x) b q in (ap Some p.0, ap (base_in a) (sym p.0) ∙ p.1)

nowhere_met : (a : ℕ) (o : Option Met) → fitted a o ≡ None → o ≡ None
nowhere_met a None q = refl
nowhere_met a (Some x) q = cc

-- b is the lowest base for n bytes at alignment a, in the block m, a free block of a heap that is cut into the blocks bs
pub record Fitting (a n : ℕ) (s : List ℕ) (bs : List Block) (m : Met) (b : ℕ) : Type 0 where
  pub lowest : lowest_base (length s) (blocks_of s) a n ≡ Some b
  pub stands : Stands bs m
  pub free : occupied stands.block ≡ false
  pub multiple : b % a ≡ 0
  pub low : m.at + 8 ≤ b
  pub high : b + n ≤ m.at + m.size

module _ (a n : ℕ) (positive : 0 < a) where
  -- where a free block holds a run at a multiple of a, the first block that has room has its base no higher
  no_higher : (base at back : ℕ) (xs : List Block) (f : Block) (ys : List Block) → occupied f ≡ false → base % a ≡ 0 → at + total size xs + 8 ≤ base
      → base + n ≤ at + total size xs + size f
      → (m : Met) × (first (has_room a n) (met_of at back (xs ++ (f ∷ ys))) ≡ Some m) × (base_in a m ≤ base)
  unfolding met_of total first
  no_higher base at back [] f ys e multiple low high =
      let m = placed at back f in
      let b = multiple_lowest a positive (at + 8) base multiple (omega arith) in
      (m, rw (room_yes a n m e (omega arith)), b)
  no_higher base at back (x ∷ xs) f ys e multiple low high =
      go (has_room a n (placed at back x)) refl (no_higher base (at + size x) (units x) xs f ys e multiple (omega arith) (omega arith))
    where
      go : (t : Bool) → has_room a n (placed at back x) ≡ t
          → (m : Met) × (first (has_room a n) (met_of (at + size x) (units x) (xs ++ (f ∷ ys))) ≡ Some m) × (base_in a m ≤ base)
          → (m : Met) × (first (has_room a n) (met_of at back (x ∷ xs ++ (f ∷ ys))) ≡ Some m) × (base_in a m ≤ base)
      go true t ih = (placed at back x, rw t, omega (arith, room_ends a n (placed at back x) t))
      go false t ih = (ih.0, rw t ih.1, ih.2)

  module _ (s : List ℕ) (bs : List Block) (e : parse s ≡ Some bs) (apart : free_apart bs ≡ true) where
    -- so a suitable multiple of a is no lower than the base of the first block that has room
    suitable_found : (base : ℕ) → base % a ≡ 0 → suitable (length s) bs n base ≡ true
        → (m : Met) × (first (has_room a n) (met s) ≡ Some m) × (base_in a m ≤ base)
    suitable_found base multiple fits =
        let t : length s ≡ total size bs = sym (total_parsed s bs e) ∙ total_is bs in
        let c = carved base n 0 bs apart (rw t at fits) in
        rw (met_parsed s bs e, c.split) (no_higher base 0 0 c.front c.block c.back c.free multiple c.low c.high)

    none_lower : (m : Met) (b : ℕ) → first (has_room a n) (met s) ≡ Some m → base_in a m ≡ b → (c : ℕ) → c % a ≡ 0 → c < b → suitable (length s) bs n c ≡ false
    none_lower m b f is c multiple l = fails (suitable (length s) bs n c) (λ t. same (suitable_found c multiple t))
      where
        same : (x : Met) × (first (has_room a n) (met s) ≡ Some x) × (base_in a x ≤ c) → ⊥
        same r =
            let q : r.0 ≡ m = cc (f, r.1) in
            let k : base_in a r.0 ≡ b = rw q is in
            omega (arith, r.2)

    -- the run at a base in a free block is suitable
    run_suitable : (m : Met) (w : Stands bs m) → occupied w.block ≡ false → (b : ℕ) → m.at + 8 ≤ b → b + n ≤ m.at + m.size → suitable (length s) bs n b
        ≡ true
    unfolding suitable total_size
    run_suitable m w free b low high =
        let place = w.place in
        let sized = w.sized in
        let t = total_parsed s bs e in
        let l : total_size bs ≡ total_size w.front + (size w.block + total_size w.behind) = ap total_size w.split
        ∙ size_append w.front (w.block ∷ w.behind) in
        let out = outside_free (b - 8) (b + n) 0 w.front w.block w.behind free (omega arith) (omega arith) in
        rw (le-leb 8 b (omega arith), le-leb (b + n) (length s) (omega arith), w.split) out

    -- what was found is the lowest base
    pub base_found : (m : Met) (b : ℕ) → find_fit a n s ≡ Some (m, b) → Fitting a n s bs m b
    base_found m b q =
        let g = fitted_met a m b (first (has_room a n) (met s)) (sym (fit_first a n s positive) ∙ q) in
        let f = g.0 in
        let is = g.1 in
        let t = (first_some (has_room a n) (met s) m f).1 in
        let w = search_stands s bs e (has_room a n) m f in
        let free : occupied w.block ≡ false = rw w.serial at (room_free a n m t) in
        let multiple : b % a ≡ 0 = rw is at (multiple_is a positive (m.at + 8)) in
        let low : m.at + 8 ≤ b = rw is at (multiple_behind a positive (m.at + 8)) in
        let high : b + n ≤ m.at + m.size = rw is at (room_ends a n m t) in
        record {
          lowest = rw (blocks_parsed s bs e)
              (some_lowest (length s) bs a n positive b (record { multiple = multiple; fits = run_suitable m w free b low high; lower = none_lower m b f is }));
          stands = w;
          free = free;
          multiple = multiple;
          low = low;
          high = high;
        }

    -- where no block has room, there is no base
    pub base_nowhere : find_fit a n s ≡ None → lowest_base (length s) (blocks_of s) a n ≡ None
    base_nowhere q =
        let f = nowhere_met a (first (has_room a n) (met s)) (sym (fit_first a n s positive) ∙ q) in
        rw (blocks_parsed s bs e)
        (none_lowest (length s) bs a n positive
        (λ b multiple. fails (suitable (length s) bs n b) (λ t. (let w = suitable_found b multiple t in none-some w.0 (sym f ∙ w.1)))))
