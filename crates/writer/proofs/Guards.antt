-- The tests that the public writes make first hold exactly where the object has room in its block, and where the block lies in the heap; where they
-- hold, the writes are made.
use Prim.Native.Nat.{ℕ, ◌+◌, ◌*◌, ◌-◌, ◌≤◌}
use native.Mathlib.Omega.{arith}
use mathlib.Core.Path.{◌≡◌, sym}
use mathlib.Core.List.{List}
use mathlib.Core.Bool.{true, false}
use lib.ListN.{length}
use lib.Dec.{leb}
use borrow.Author.Tests.{leb-true, le-leb, eq-eqb, ne_eqb}
use Rattle.lists.proofs.Bools.{and_left, and_right, and_both, fails, same_test}
use Rattle.lookup.specs.declared.Met.{Met}
use Rattle.writer.specs.Writes.{carve_bytes}
use Rattle.writer.specs.Carving.{Room, has_room, carve_in}
use Rattle.writer.specs.Freeing.{room_at, free_block, free_end, quarantine_block, Inside, is_inside, vacate_block, vacate_end, vacate_in}
use Rattle.writer.specs.Freeing.{vacate_end_in}
use Rattle.writer.specs.Freeing.{unquarantine_block, unquarantine_in, free_end_in}

module _ (m : Met) (base n : ℕ) where
  pub room_of_test : has_room m base n ≡ true → Room m base n
  unfolding has_room
  room_of_test e =
      let r = and_right (leb (m.at + 8) base) _ e in
      record {
        low = leb-true (m.at + 8) base (and_left (leb (m.at + 8) base) _ e);
        high = leb-true (base + n) (m.at + m.size) (and_left (leb (base + n) (m.at + m.size)) _ r);
        inside = leb-true (m.at + m.size) 32768 (and_right (leb (base + n) (m.at + m.size)) _ r);
      }

  pub room_test : Room m base n → has_room m base n ≡ true
  unfolding has_room
  room_test r =
      and_both (leb (m.at + 8) base) _ (le-leb (m.at + 8) base r.low)
      (and_both (leb (base + n) (m.at + m.size)) _ (le-leb (base + n) (m.at + m.size) r.high) (le-leb (m.at + m.size) 32768 r.inside))

  pub no_room : (Room m base n → ⊥) → false ≡ has_room m base n
  no_room f = sym (fails (has_room m base n) (λ e. f (room_of_test e)))

  -- the last test decides
  pub room_left : m.at + 8 ≤ base → base ≤ m.at + m.size → m.at + m.size ≤ 32768 → leb n (m.at + m.size - base) ≡ has_room m base n
  room_left l u i =
      same_test (leb n (m.at + m.size - base)) (has_room m base n)
      (λ e. room_test (record { low = l; high = omega (arith, leb-true n (m.at + m.size - base) e); inside = i }))
      (λ e. le-leb n (m.at + m.size - base) (omega (arith, (room_of_test e).high)))

  -- where there is room the object is cut out of the block, and else nothing is written
  pub carves : (serial : ℕ) (s : List ℕ) → has_room m base n ≡ true → carve_bytes m.at (m.at + m.size) base n m.back serial s
      ≡ carve_in m base n serial s
  unfolding carve_in
  carves serial s e = rw e

  pub carves_nothing : (serial : ℕ) (s : List ℕ) → has_room m base n ≡ false → s ≡ carve_in m base n serial s
  unfolding carve_in
  carves_nothing serial s e = rw e

module _ (m : Met) (s : List ℕ) where
  pub inside_of_test : is_inside m s ≡ true → Inside m s
  unfolding is_inside
  inside_of_test e =
      let front = m.at - 8 * m.back in
      let r₁ = and_right (leb 8 m.size) _ e in
      let r₂ = and_right (leb (8 * m.back) m.at) _ r₁ in
      let r₃ = and_right (leb (room_at front s).free m.at) _ r₂ in
      record {
        header = leb-true 8 m.size (and_left (leb 8 m.size) _ e);
        before = leb-true (8 * m.back) m.at (and_left (leb (8 * m.back) m.at) _ r₁);
        front = leb-true (room_at front s).free m.at (and_left (leb (room_at front s).free m.at) _ r₂);
        end = leb-true (m.at + m.size) (length s) (and_left (leb (m.at + m.size) (length s)) _ r₃);
        allowed = leb-true (length s) 32768 (and_right (leb (m.at + m.size) (length s)) _ r₃);
      }

  pub inside_test : Inside m s → is_inside m s ≡ true
  unfolding is_inside
  inside_test i =
      let front = m.at - 8 * m.back in
      and_both (leb 8 m.size) _ (le-leb 8 m.size i.header)
      (and_both (leb (8 * m.back) m.at) _ (le-leb (8 * m.back) m.at i.before)
      (and_both (leb (room_at front s).free m.at) _ (le-leb (room_at front s).free m.at i.front)
      (and_both (leb (m.at + m.size) (length s)) _ (le-leb (m.at + m.size) (length s) i.end) (le-leb (length s) 32768 i.allowed))))

  pub not_inside : (Inside m s → ⊥) → false ≡ is_inside m s
  not_inside f = sym (fails (is_inside m s) (λ e. f (inside_of_test e)))

  -- the last test decides
  pub inside_left : 8 ≤ m.size → 8 * m.back ≤ m.at → m.at + m.size ≤ length s → length s ≤ 32768
      → (x : ℕ) → x ≡ (room_at (m.at - 8 * m.back) s).free → leb x m.at ≡ is_inside m s
  inside_left h b e a x is =
      same_test (leb x m.at) (is_inside m s)
      (λ t. inside_test (record { header = h; before = b; front = rw (sym is) (leb-true x m.at t); end = e; allowed = a }))
      (λ t. le-leb x m.at (rw is (inside_of_test t).front))

  -- where it lies in the heap the block is unquarantined, and else nothing is written
  pub unquarantines : is_inside m s ≡ true → (unquarantine_block m s ≡ unquarantine_in m s) × (free_end m s ≡ free_end_in m s)
  unfolding unquarantine_in free_end_in
  unquarantines e = (rw e, rw e)

  pub unquarantines_nothing : is_inside m s ≡ false → (s ≡ unquarantine_in m s) × (0 ≡ free_end_in m s)
  unfolding unquarantine_in free_end_in
  unquarantines_nothing e = (rw e, rw e)

-- so with a block that is vacated
module _ (kind : ℕ) (m : Met) (s : List ℕ) where
  pub vacates_plain : kind ≡ 0 → (free_block m s ≡ vacate_block kind m s) × (free_end m s ≡ vacate_end kind m s)
  unfolding vacate_block vacate_end
  vacates_plain e = (rw (eq-eqb kind 0 e), rw (eq-eqb kind 0 e))

  pub vacates_quarantined : (kind ≡ 0 → ⊥) → (quarantine_block m s ≡ vacate_block kind m s) × (m.at + m.size ≡ vacate_end kind m s)
  unfolding vacate_block vacate_end
  vacates_quarantined e = (rw (ne_eqb kind 0 e), rw (ne_eqb kind 0 e))

  pub vacates : is_inside m s ≡ true → (vacate_block kind m s ≡ vacate_in kind m s) × (vacate_end kind m s ≡ vacate_end_in kind m s)
  unfolding vacate_in vacate_end_in
  vacates e = (rw e, rw e)

  pub vacates_nothing : is_inside m s ≡ false → (s ≡ vacate_in kind m s) × (0 ≡ vacate_end_in kind m s)
  unfolding vacate_in vacate_end_in
  vacates_nothing e = (rw e, rw e)
