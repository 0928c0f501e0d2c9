-- `statistics::tallying::joined` meets its contract, number by number. No sum wraps, since both tallies are small.
use mathlib.Core.Path.{◌∙◌}
use Rattle.statistics.specs.Tallies.{joined}
use Rattle.statistics.proofs.Joins.{max_is}
use Rattle.statistics.proofs.tallying.joined.Goals as goal

pub returns : goal.returns
unfolding joined
returns c =
    let a = c.args.a in
    let b = c.args.b in
    λ i. record {
      free = c.both_counts-free.ensures i;
      live = c.both_counts-live.ensures i;
      quarantined = c.both_counts-quarantined.ensures i;
      largest = (c.max.ensures ∙ max_is a.largest b.largest) i;
      room_8 = (c.max-2.ensures ∙ max_is a.room_8 b.room_8) i;
      room_16 = (c.max-3.ensures ∙ max_is a.room_16 b.room_16) i;
      room_32 = (c.max-4.ensures ∙ max_is a.room_32 b.room_32) i;
      room_64 = (c.max-5.ensures ∙ max_is a.room_64 b.room_64) i;
    }
