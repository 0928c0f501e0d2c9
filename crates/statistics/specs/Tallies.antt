-- What the crate's own functions promise: the tally of the blocks that a walk meets, block by block, and the greatest length in a unit by the room for it.
use Rattle.std.specs.Prelude.{ℕ, zero, suc, ◌+◌, ◌*◌, ◌-◌, ◌/◌, ◌≤◌, List, Bool, not, cond, ◌&&◌, leb, eqb}
use Rattle.layout.specs.Blocks.{QUARANTINED}
use Rattle.lists.specs.Lists.{total}
use Rattle.lookup.specs.declared.Met.{Met}
use Rattle.lookup.specs.Walk.{live_met, base_in}
use Rattle.survey.specs.Shares.{one_if, how_many}
use Rattle.statistics.specs.declared.BlockCount.{BlockCount}
use Rattle.statistics.specs.declared.tallying.Tally.{Tally}
use Rattle.statistics.specs.Statistics.{if_so, higher, most}

-- a block that was met is free, or waits in quarantine
abbrev pub free_met : Met → Bool
free_met m = eqb m.serial 0

abbrev pub waiting_met : Met → Bool
waiting_met m = eqb m.serial QUARANTINED

-- the bytes of a free block from its lowest base at a multiple of a on, 0 where it is not free
unfoldable pub room_in : ℕ → Met → ℕ
room_in a m = if_so (free_met m) (m.at + m.size - base_in a m)

-- the blocks that pass a test, counted
unfoldable pub count_met : (Met → Bool) → List Met → BlockCount
count_met p ms = record { blocks = how_many p ms; bytes = total (λ m. if_so (p m) m.size) ms }

-- the tally of some blocks
unfoldable pub tally_of : List Met → Tally
tally_of ms =
    record {
      free = count_met free_met ms;
      live = count_met live_met ms;
      quarantined = count_met waiting_met ms;
      largest = most (λ m. if_so (free_met m) m.size) ms;
      room_8 = most (room_in 8) ms;
      room_16 = most (room_in 16) ms;
      room_32 = most (room_in 32) ms;
      room_64 = most (room_in 64) ms;
    }

-- the tally of one block, and of two lists of blocks from the tallies of both
abbrev pub one_block : Bool → ℕ → BlockCount
one_block t n = record { blocks = one_if t; bytes = if_so t n }

unfoldable pub single : Met → Tally
single m =
    record {
      free = one_block (free_met m) m.size;
      live = one_block (live_met m) m.size;
      quarantined = one_block (waiting_met m) m.size;
      largest = if_so (free_met m) m.size;
      room_8 = room_in 8 m;
      room_16 = room_in 16 m;
      room_32 = room_in 32 m;
      room_64 = room_in 64 m;
    }

abbrev pub both_counts : BlockCount → BlockCount → BlockCount
both_counts a b = record { blocks = a.blocks + b.blocks; bytes = a.bytes + b.bytes }

unfoldable pub joined : Tally → Tally → Tally
joined t u =
    record {
      free = both_counts t.free u.free;
      live = both_counts t.live u.live;
      quarantined = both_counts t.quarantined u.quarantined;
      largest = higher t.largest u.largest;
      room_8 = higher t.room_8 u.room_8;
      room_16 = higher t.room_16 u.room_16;
      room_32 = higher t.room_32 u.room_32;
      room_64 = higher t.room_64 u.room_64;
    }

-- a count, and each count of a tally, has at most so many blocks and bytes
pub record Small (n : ℕ) (p : BlockCount) : Type 0 where
  pub few : p.blocks ≤ n
  pub short : p.bytes ≤ n

pub record Within (n : ℕ) (t : Tally) : Type 0 where
  pub of_free : Small n t.free
  pub of_live : Small n t.live
  pub of_quarantined : Small n t.quarantined

-- an object's length is at most so many of its units, in edition 1 and in edition 2; and of every unit but 8, more than half as many
abbrev pub most_units : ℕ → ℕ
most_units zero = 1023
most_units (suc e) = 511

-- the greatest length in a unit for which there is room: so many units of it, or none
abbrev pub units_in : ℕ → ℕ → ℕ → ℕ
units_in room a units = cond (leb (room / a) units) (room / a) units

unfoldable pub reach : ℕ → ℕ → ℕ → ℕ
reach room a units = cond (not (eqb a 8) && leb (2 * units_in room a units) units) 0 (units_in room a units * a)
