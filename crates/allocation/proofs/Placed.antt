-- A new object at the base that the walk found: the writes for it make the bytes of the definition's blocks, and they lie in the block that was met.
-- Every block in front of that one ends before the object, so the definition cuts that block too.
use Rattle.std.specs.Prelude.{Some, None}
use mathlib.Core.Path.{◌≡◌, refl, ap, sym, ◌∙◌}
use Prim.Native.Nat.{ℕ, ◌+◌, ◌%◌, ◌≤◌}
use native.Mathlib.Nat.{add-zero}
use native.Mathlib.Omega.{arith}
use mathlib.Core.List.{List, [], ◌∷◌, ◌++◌}
use mathlib.Core.Bool.{true, false, not}
use lib.ListN.{length}
use lib.Dec.{leb}
use borrow.Author.Tests.{le-leb, lt-leb}
use Rattle.accounts.specs.declared.Accounts.{Accounts}
use Rattle.layout.specs.Bytes.{Octets}
use Rattle.layout.specs.Blocks.{Block, size, total_size, back_after, render, occupied}
use Rattle.layout.proofs.Parse.{parse_is}
use Rattle.layout.proofs.Render.{size_append}
use Rattle.lists.specs.Lists.{all, total}
use Rattle.model.specs.Objects.{blocks_of}
use Rattle.model.specs.Consistent.{allowed, long_enough, free_apart, well_cut, accounted}
use Rattle.model.specs.Space.{cut_block, carve_from, carve}
use Rattle.model.specs.Refusals.{base_for}
use Rattle.lists.proofs.Bools.{and_right, and_no}
use Rattle.model.proofs.Blocks.{total_is, writable_whole}
use Rattle.model.proofs.Consistent.{accounted_cut, tests_exactly}
use Rattle.model.proofs.Carve.{Carved}
use Rattle.writer.specs.Writes.{carve_bytes}
use Rattle.writer.proofs.CarveBytes.{carve_writes}
use Rattle.rounding.specs.Rounding.{Units, object_length, alignment}
use Rattle.rounding.proofs.Rounding.{rounded, alignment_positive, alignment_eights}
use Rattle.invariant.proofs.Requested.{eights}
use Rattle.lookup.specs.declared.Met.{Met}
use Rattle.lookup.specs.Walk.{find_fit}
use Rattle.lookup.proofs.Parsed.{total_parsed}
use Rattle.lookup.proofs.Lowest.{Fitting, base_found, base_nowhere}
use Rattle.writer.specs.Carving.{Room}
use Rattle.holding.proofs.Cleared.{allowed_long}

-- carving cuts the free block that holds the object, wherever it stands
carved_at : (base n serial at : ℕ) (xs : List Block) (b : Block) (ys : List Block) → occupied b ≡ false → at + total size xs + 8 ≤ base
    → base + n ≤ at + total size xs + size b
    → carve_from base n serial at (xs ++ (b ∷ ys)) ≡ xs ++ (cut_block base n serial (at + total size xs) b ++ ys)
unfolding carve_from total
carved_at base n serial at [] b ys e low high =
    let place : at + 0 ≡ at = add-zero at in
    rw (place, e, le-leb (at + 8) base (omega arith), le-leb (base + n) (at + size b) (omega arith))
carved_at base n serial at (x ∷ xs) b ys e low high =
    let place : at + (size x + total size xs) ≡ at + size x + total size xs = omega arith in
    rw (lt-leb (base + n) (at + size x) (omega arith), and_no (leb (at + 8) base) false refl, and_no (not (occupied x)) false refl, place)
    (ap (λ (l : List Block). x ∷ l) (carved_at base n serial (at + size x) xs b ys e (omega arith) (omega arith)))

-- a multiple of a request's alignment is one of 8
aligned_8 : (unit : ℕ → ℕ) (units : Units unit) (n b : ℕ) → b % alignment unit n ≡ 0 → b % 8 ≡ 0
aligned_8 unit units n b e = eights b (alignment unit n) (alignment_eights unit units n) e

-- no two free blocks of a consistent heap stand side by side
free_blocks_apart : (s : List ℕ) (k : Accounts) → accounted s k ≡ true → free_apart (blocks_of s) ≡ true
unfolding well_cut
free_blocks_apart s k e = and_right (all long_enough (blocks_of s)) (free_apart (blocks_of s)) ((tests_exactly (blocks_of s) k).0 (accounted_cut s k e).1).cut

module _ (unit : ℕ → ℕ) (units : Units unit) (s : List ℕ) (k : Accounts) (n : ℕ) (ok : accounted s k ≡ true) where
  -- where the walk finds no base, there is none
  pub no_base : find_fit (alignment unit n) (object_length unit n) s ≡ None → base_for unit s n ≡ None
  unfolding base_for
  no_base e =
      base_nowhere (alignment unit n) (object_length unit n) (alignment_positive unit units n) s (blocks_of s) (accounted_cut s k ok).0
      (free_blocks_apart s k ok) e

  module _ (m : Met) (b : ℕ) (fit : find_fit (alignment unit n) (object_length unit n) s ≡ Some (m, b)) where
    fitting : Fitting (alignment unit n) (object_length unit n) s (blocks_of s) m b
    fitting =
        base_found (alignment unit n) (object_length unit n) (alignment_positive unit units n) s (blocks_of s) (accounted_cut s k ok).0
        (free_blocks_apart s k ok) m b fit

    -- the base that it finds is the definition's
    pub the_base : base_for unit s n ≡ Some b
    unfolding base_for
    the_base = fitting.lowest

    -- the object with its header lies in the block that was met, and that one in the heap
    pub the_room : allowed (length s) ≡ true → Room m b (object_length unit n)
    unfolding total_size
    the_room e =
        let f = fitting in
        let w = f.stands in
        let t = total_parsed s (blocks_of s) (accounted_cut s k ok).0 in
        let l : total_size (blocks_of s) ≡ total_size w.front + (size w.block + total_size w.behind) =
        ap total_size w.split ∙ size_append w.front (w.block ∷ w.behind) in
        record { low = f.low; high = f.high; inside = omega (arith, w.place, w.sized, (allowed_long (length s) e).1) }

    -- the definition's blocks are these, with this one cut
    the_cut : (serial : ℕ) → Carved b (object_length unit n) serial 0 (blocks_of s) (carve b (object_length unit n) serial (blocks_of s))
    unfolding carve
    the_cut serial =
        let f = fitting in
        let w = f.stands in
        let p : m.at ≡ total size w.front = w.place ∙ total_is w.front in
        let low : 0 + total size w.front + 8 ≤ b = omega (arith, f.low) in
        let high : b + object_length unit n ≤ 0 + total size w.front + size w.block = omega (arith, f.high, w.sized) in
        record {
          front = w.front;
          block = w.block;
          back = w.behind;
          split = w.split;
          free = f.free;
          low = low;
          high = high;
          now =
              ap (carve_from b (object_length unit n) serial 0) w.split ∙ carved_at b (object_length unit n) serial 0 w.front w.block w.behind
              f.free low high;
        }

    -- and the writes make their bytes
    pub the_bytes : Octets s → (serial : ℕ)
        → carve_bytes m.at (m.at + m.size) b (object_length unit n) m.back serial s ≡ render (carve b (object_length unit n) serial (blocks_of s))
    unfolding the_cut
    the_bytes o serial =
        let f = fitting in
        let w = f.stands in
        let r = (parse_is s (blocks_of s) o).0 (accounted_cut s k ok).0 in
        let p : m.at ≡ total size w.front = w.place ∙ total_is w.front in
        (λ i. carve_bytes (p i) (p i + w.sized i) b (object_length unit n) (w.back i) serial s)
        ∙ sym (carve_writes (the_cut serial) (writable_whole (blocks_of s) r.1) (aligned_8 unit units n b f.multiple) (rounded unit units n).eights
        ∙ ap (carve_bytes (total size w.front) (total size w.front + size w.block) b (object_length unit n) (back_after 0 w.front) serial) r.0)
