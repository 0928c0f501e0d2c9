-- `statistics::tallying::single` meets its contract, number by number: the serial decides each test, and the other numbers are those of no
-- block.
use borrow.Author.Tests.{ne_eqb}
use Rattle.lists.specs.Lists.{total}
use Rattle.layout.specs.Blocks.{QUARANTINED}
use Rattle.survey.specs.Shares.{how_many}
use Rattle.statistics.specs.Statistics.{most}
use Rattle.statistics.specs.Tallies.{count_met, tally_of, room_in, single}
use Rattle.statistics.proofs.Joins.{zero_tally}
use Rattle.statistics.proofs.tallying.single.Goals as goal

pub returns-in-0 : goal.returns-in-0
unfolding single tally_of count_met how_many total most
returns-in-0 c =
    let none = zero_tally c.default.result c.default.ensures in
    rw c.in-0.is (λ i. record {
      free = record { blocks = 1; bytes = c.args.size };
      live = (none i).live;
      quarantined = (none i).quarantined;
      largest = c.args.size;
      room_8 = c.room_in.ensures i;
      room_16 = c.room_in-in-0.ensures i;
      room_32 = c.room_in-in-0-2.ensures i;
      room_64 = c.room_in-in-0-3.ensures i;
    })

pub returns-in-4294967295 : goal.returns-in-4294967295
unfolding single room_in tally_of count_met how_many total most
returns-in-4294967295 c =
    let none = zero_tally c.default-in-4294967295.result c.default-in-4294967295.ensures in
    rw c.in-4294967295.is (λ i. record {
      free = (none i).free;
      live = (none i).live;
      quarantined = record { blocks = 1; bytes = c.args.size };
      largest = (none i).largest;
      room_8 = (none i).room_8;
      room_16 = (none i).room_16;
      room_32 = (none i).room_32;
      room_64 = (none i).room_64;
    })

pub returns-in_default : goal.returns-in_default
unfolding single room_in tally_of count_met how_many total most
returns-in_default c =
    let none = zero_tally c.default-in_default.result c.default-in_default.ensures in
    rw (ne_eqb c.args.serial 0 search, ne_eqb c.args.serial QUARANTINED search) (λ i. record {
      free = (none i).free;
      live = record { blocks = 1; bytes = c.args.size };
      quarantined = (none i).quarantined;
      largest = (none i).largest;
      room_8 = (none i).room_8;
      room_16 = (none i).room_16;
      room_32 = (none i).room_32;
      room_64 = (none i).room_64;
    })
