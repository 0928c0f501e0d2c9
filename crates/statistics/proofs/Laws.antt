-- What the statistics say of a heap that the check accepts: the three counts make the heap (rule 25.3), a request is
-- refused for space exactly if it is longer than the number of its unit (rule 25.7), and the numbers by the tally of the
-- blocks and by the pass over the records are the definitions'.
use Rattle.std.specs.Prelude.{Some}
use Prim.Native.Nat.{ℕ, ◌+◌, ◌-◌, ◌≤◌, ◌<◌}
use native.Mathlib.Omega.{arith}
use mathlib.Core.Path.{◌≡◌, ap, sym, ◌∙◌}
use mathlib.Core.List.{List}
use mathlib.Core.Bool.{true}
use mathlib.Core.Logic.{◌⊎◌}
use lib.Dec.{ltb}
use lib.ListN.{length}
use borrow.Author.Tests.{lt-ltb}
use Rattle.accounts.specs.declared.Accounts.{Accounts}
use Rattle.rounding.specs.Rounding.{table, object_length, alignment}
use Rattle.rounding.proofs.Rounding.{at_least_8}
use Rattle.rounding.proofs.Editions.{table_is}
use Rattle.layout.specs.Blocks.{size, free, live, quarantined, greatest_heap, parse}
use Rattle.model.specs.Answers.{refusal_number}
use Rattle.lists.specs.Lists.{total, is_none}
use Rattle.model.specs.Objects.{blocks_of}
use Rattle.model.specs.Consistent.{accounted}
use Rattle.model.specs.Refusals.{◌when◌, line_11, base_for}
use Rattle.model.specs.declared.Refusal.{Refusal}
use Rattle.model.proofs.Blocks.{total_is}
use Rattle.model.proofs.Consistent.{accounted_cut, accounted_apart, tests_exactly}
use Rattle.audit.proofs.Consistency.{tests_well}
use Rattle.lookup.specs.Walk.{met}
use Rattle.lookup.proofs.Parsed.{total_parsed}
use Rattle.results.proofs.Lines.{number_some}
use Rattle.survey.specs.Shares.{how_many, is_own, is_shared, holdings}
use Rattle.statistics.specs.declared.Statistics.{Statistics}
use Rattle.statistics.specs.declared.QuotaStatistics.{QuotaStatistics}
use Rattle.statistics.specs.Statistics.{most, count_of, largest_free, largest}
use Rattle.statistics.specs.Statistics.{no_statistics, unless_refused, no_quota_statistics, quota_unless_refused}
use Rattle.statistics.specs.Tallies.{room_in, most_units, reach, tally_of}
use Rattle.statistics.proofs.Rooms.{rooms_inside, room_exactly}
use Rattle.statistics.proofs.Units.{Told, some_unit, rows, units_told, unit_128}
use Rattle.statistics.proofs.Lengths as lengths
use Rattle.statistics.proofs.Counts.{free_count, largest_count, counts_total, most_total}

-- what is refused, and what is accepted
pub statistics_refused : (n : ℕ) (f : Statistics) (r : Refusal) → n ≡ refusal_number r → no_statistics (refusal_number r) ≡ unless_refused n f
unfolding unless_refused
statistics_refused n f r e = let m = number_some r in rw (e, m.1)

pub statistics_accepted : (n : ℕ) (f : Statistics) → n ≡ 0 → f ≡ unless_refused n f
unfolding unless_refused
statistics_accepted n f e = rw e

pub quota_refused : (n : ℕ) (f : QuotaStatistics) (r : Refusal) → n ≡ refusal_number r → no_quota_statistics (refusal_number r) ≡ quota_unless_refused n f
unfolding quota_unless_refused
quota_refused n f r e = let m = number_some r in rw (e, m.1)

pub quota_accepted : (n : ℕ) (f : QuotaStatistics) → n ≡ 0 → f ≡ quota_unless_refused n f
unfolding quota_unless_refused
quota_accepted n f e = rw e

-- rule 25.7: a request's unit is one of which the statistics tell the greatest length, or 128
pub other_units : (e n : ℕ) → Told (alignment (table e) n) ⊎ (alignment (table e) n ≡ 128)
unfolding alignment
other_units e n = units_told e (object_length (table e) n)

module _ (s : List ℕ) (k : Accounts) (ok : accounted s k ≡ true) where
  pub cut : parse s ≡ Some (blocks_of s)
  cut = (accounted_cut s k ok).0

  whole : total size (blocks_of s) ≡ length s
  whole = sym (total_is (blocks_of s)) ∙ total_parsed s (blocks_of s) cut

  -- rule 25.3: every byte is of a free, a live or a quarantined block
  pub three_counts : (count_of free (blocks_of s)).bytes + (count_of live (blocks_of s)).bytes + (count_of quarantined (blocks_of s)).bytes ≡ length s
  three_counts = counts_total (blocks_of s) ∙ whole

  -- the largest free block is no longer than all of them
  pub largest_fits : (tally_of (met s)).largest ≤ (tally_of (met s)).free.bytes
  unfolding count_of largest_free
  largest_fits =
      let l = largest_count s (blocks_of s) cut in
      let f = ap (λ p. p.bytes) (free_count s (blocks_of s) cut) in
      rw (l, f) (most_total _ (blocks_of s))

  -- every record is well-formed
  pub held_all : (q : ℕ) → holdings q k.holds ≡ record { objects = how_many (is_own q) k.holds; shared = how_many (is_shared k.holds q) k.holds }
  unfolding holdings
  held_all q = rw (tests_well (blocks_of s) k ((tests_exactly (blocks_of s) k).0 (accounted_cut s k ok).1))

  module _ (short : length s ≤ greatest_heap) (e : ℕ) {a : ℕ} (told : Told a) where
    few : most (room_in a) (met s) ≤ length s - 8
    few = rw (sym whole) (rooms_inside s (blocks_of s) cut a (some_unit told))

    based : (n : ℕ) → 0 < n → alignment (table e) n ≡ a
        → is_none (base_for (table e) s n) ≡ ltb (most (room_in a) (met s)) (object_length (table e) n)
    unfolding base_for
    based n l q =
        let p = at_least_8 (table e) (table_is e) n l in
        rw q (room_exactly s (blocks_of s) cut (accounted_apart s k ok) a (object_length (table e) n) (some_unit told) (omega arith))

    -- the greatest length in a unit, by the room for it
    pub largest_by_room : reach (most (room_in a) (met s)) a (most_units e) ≡ largest (table e) s a
    largest_by_room =
        sym (lengths.largest_is (table e) (table_is e) (most_units e) (rows e) s told (most (room_in a) (met s)) (omega (arith, few)) (omega (arith, few))
        based)

    -- rule 25.7: a request in this unit is refused for space exactly if it is longer
    pub space_told : (n : ℕ) → 0 < n → alignment (table e) n ≡ a → line_11 (table e) s n ≡ (11 when ltb (largest (table e) s a) n)
    unfolding line_11
    space_told n l q =
        ap (λ t. 11 when t)
        (lengths.space_exactly (table e) (table_is e) (most_units e) (rows e) s told (most (room_in a) (met s)) (omega (arith, few)) (omega (arith, few))
        based n l q)

  -- and one in the unit 128 is as long as the greatest heap and always refused
  pub space_refused : length s ≤ greatest_heap → (e n : ℕ) → 0 < n → alignment (table e) n ≡ 128
      → line_11 (table e) s n ≡ (11 when true)
  unfolding line_11 base_for alignment
  space_refused short e n l q =
      let x = object_length (table e) n in
      let long = unit_128 e x q ((table_is e).stable n) in
      let few : most (room_in 128) (met s) ≤ length s - 8 =
      rw (sym whole) (rooms_inside s (blocks_of s) cut 128 (omega arith)) in
      let none = room_exactly s (blocks_of s) cut (accounted_apart s k ok) 128 x (omega arith) (omega arith) in
      ap (λ t. 11 when t) (rw q (none ∙ lt-ltb (most (room_in 128) (met s)) x (omega arith)))
