-- `statistics::heap_statistics` meets its contract: the check decides, and else each number by the tally of the blocks, or by
-- the pass over the records, is the definition's.
use Prim.Native.Nat.{◌-◌, ◌≤◌}
use native.Mathlib.Omega.{arith}
use mathlib.Core.Path.{◌≡◌, ap, ◌∙◌}
use mathlib.Core.List.{[]}
use mathlib.Core.Bool.{true}
use lib.ListN.{length}
use Rattle.accounts.specs.declared.Accounts.{Accounts}
use Rattle.rounding.specs.Rounding.{table}
use Rattle.layout.specs.Blocks.{greatest_heap}
use Rattle.words.specs.Words.{edition_of, accounts_of}
use Rattle.model.specs.Objects.{blocks_of}
use Rattle.model.specs.Consistent.{accounted}
use Rattle.model.specs.Refusals.{first_refusal, row_lines}
use Rattle.results.proofs.Lines.{check_refuses, check_accepts, check_accounted}
use Rattle.survey.proofs.Surveys.{allowed_range}
use Rattle.statistics.specs.declared.tallying.Tally.{Tally}
use Rattle.statistics.specs.Statistics.{heap_statistics, counted, fragmented}
use Rattle.statistics.specs.Tallies.{tally_of, most_units, reach}
use Rattle.statistics.proofs.Units.{u8, u16, u32, u64}
use Rattle.statistics.proofs.Counts.{free_count, live_count, quarantined_count, largest_count}
use Rattle.statistics.proofs.Laws.{statistics_refused, statistics_accepted, cut, largest_fits, largest_by_room}
use Rattle.statistics.proofs.heap_statistics.Goals as goal
use Rattle.statistics.proofs.heap_statistics.Goals.{After-struct_known-1, In_default}

pub returns-in-Err : goal.returns-in-Err
unfolding heap_statistics row_lines
returns-in-Err c =
    let n = c in
    let x = n in
    let e = x in
    let a = e.args in
    let s = a.heap.now in
    let w = a.words.now in
    let k = accounts_of w in
    let u = table (edition_of w) in
    let r = x in
    c.no_statistics.ensures
    ∙ statistics_refused _ (counted u s k) r.in-Err.refusal (check_refuses u s k e.check.result e.check.ensures [] r.in-Err.refusal r.in-Err.is)

abbrev accounts : In_default → Accounts
accounts c = accounts_of c.args.words.now

short : (c : In_default) → length c.args.heap.now ≤ greatest_heap
short c =
    let e = c.check in
    (allowed_range (length c.args.heap.now)
    (check_accounted (table (edition_of c.args.words.now)) c.args.heap.now (accounts c) e.result e.ensures c.in_default.is).0).1

fine : (c : In_default) → accounted c.args.heap.now (accounts c) ≡ true
fine c =
    let e = c.check in
    (check_accounted (table (edition_of c.args.words.now)) c.args.heap.now (accounts c) e.result e.ensures c.in_default.is).1

pub walk-tally-requires : goal.walk-tally-requires
walk-tally-requires c = short c

pub overflow_sub-result : goal.overflow_sub-result
overflow_sub-result c =
    let t = c in
    let o = t in
    let l = largest_fits o.args.heap.now (accounts (goal.at.overflow_sub-result c).In_default) (fine (goal.at.overflow_sub-result c).In_default) in
    let x = ap (λ (y : Tally). y.largest) t.walk-tally.ensures in
    let f = ap (λ (y : Tally). y.free.bytes) t.walk-tally.ensures in
    omega (arith, l, x, f)

-- the units of the heap's edition
units_of : (c : After-struct_known-1) → c.most_units-units.result ≡ most_units (edition_of c.args.words.now)
units_of c = let m = c in m.most_units-units.ensures.0 ∙ ap most_units m.edition.ensures

pub returns : goal.returns
unfolding heap_statistics counted row_lines first_refusal fragmented tally_of
returns c =
    let r3 = c in
    let r2 = r3 in
    let r1 = r2 in
    let k = r1 in
    let t = k in
    let o = t in
    let s = o.args.heap.now in
    let w = o.args.words.now in
    let acc = accounts (goal.at.returns c).In_default in
    let u = table (edition_of w) in
    let e = o.check in
    let ok = fine (goal.at.returns c).In_default in
    let p = cut s acc ok in
    let bs = blocks_of s in
    let y = t.walk-tally.ensures in
    let n = units_of (goal.at.returns c).After-struct_known-1 in
    let free = ap (λ (z : Tally). z.free) y ∙ free_count s bs p in
    let biggest = ap (λ (z : Tally). z.largest) y ∙ largest_count s bs p in
    (λ i. record {
      refusal = 0;
      last_serial = k.last_serial.ensures i;
      records = k.used_records.ensures i;
      free = free i;
      live = (ap (λ (z : Tally). z.live) y ∙ live_count s bs p) i;
      quarantined = (ap (λ (z : Tally). z.quarantined) y ∙ quarantined_count s bs p) i;
      largest_free = biggest i;
      fragmented = (free i).bytes - biggest i;
      largest_8 = (r1.reach.ensures ∙ (λ j. reach (y j).room_8 8 (n j)) ∙ largest_by_room s acc ok (short (goal.at.returns c).In_default) (edition_of w) u8) i;
      largest_16 =
          (r2.reach-2.ensures ∙ (λ j. reach (y j).room_16 16 (n j)) ∙ largest_by_room s acc ok (short (goal.at.returns c).In_default) (edition_of w) u16) i;
      largest_32 =
          (r3.reach-3.ensures ∙ (λ j. reach (y j).room_32 32 (n j)) ∙ largest_by_room s acc ok (short (goal.at.returns c).In_default) (edition_of w) u32) i;
      largest_64 =
          (c.reach-4.ensures ∙ (λ j. reach (y j).room_64 64 (n j)) ∙ largest_by_room s acc ok (short (goal.at.returns c).In_default) (edition_of w) u64) i;
    })
    ∙ statistics_accepted _ (counted u s acc) (check_accepts u s acc e.result e.ensures [] o.in_default.is)
