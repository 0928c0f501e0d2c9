use Rattle.std.specs.Prelude.{Some}
use Prim.Native.Nat.{◌+◌, ◌^◌}
use native.Mathlib.Omega.{arith}
use mathlib.Core.Path.{◌≡◌, ap, sym, subst, ◌∙◌}
use Rattle.layout.specs.Blocks.{start_at}
use Rattle.layout.proofs.Starts.{Found, start_found}
use Rattle.lookup.specs.declared.Met.{Met}
use Rattle.lookup.specs.Walk.{headed}
use Rattle.lookup.proofs.Walk.{met_nothing, met_block}
use Rattle.statistics.specs.declared.tallying.Tally.{Tally}
use Rattle.statistics.specs.Tallies.{room_in, single, joined, Within}
use Rattle.statistics.proofs.Joins.{zero_tally, single_within, within_more, Tallied, tallied_start, tallied_end, tallied_next}
use Rattle.statistics.proofs.tallying.walk.Goals as goal
use Rattle.statistics.proofs.tallying.walk.Goals.{After-single, After-struct_known-1}

pub loop-header-init : goal.loop-header-init
loop-header-init c =
    let s = c in
    let none = zero_tally s.default-tally.result s.default-tally.ensures in
    (subst (λ (t : Tally). Tallied s.args.heap.now 0 t) (sym none) (tallied_start s.args.heap.now), s.requires)

pub returns-in_default : goal.returns-in_default
returns-in_default c =
    let t = c in
    let l = t in
    let s = l.args.heap.now in
    tallied_end s l.loop-header.at l.loop-header.tally l.loop-header.invariant.0 (met_nothing l.loop-header.at s (sym t.start_at.ensures ∙ c.in_default.is))

found : (c : After-struct_known-1) → start_at c.loop-header.at c.args.heap.now ≡ Some c.in-Some.header
found c = sym c.start_at.ensures ∙ c.in-Some.is

known : (c : After-struct_known-1) → Found c.loop-header.at c.args.heap.now c.in-Some.header
known c = start_found c.loop-header.at c.args.heap.now c.in-Some.header (found c)

abbrev block : After-struct_known-1 → Met
block c = headed c.loop-header.at c.in-Some.header

pub overflow_mul-size : goal.overflow_mul-size
overflow_mul-size c =
    let l = (known c).inside in
    omega arith

pub single-requires : goal.single-requires
single-requires c =
    let l = (known c).inside in
    omega (arith, c.loop-header.invariant.1)

abbrev block_2 : After-single → Met
block_2 c = headed c.loop-header.at c.in-Some.header

-- the tally of the block, whatever stands before it
alone : (c : After-single) → c.single.result ≡ single (block_2 c)
unfolding single room_in
alone c = c.single.ensures

pub joined-tally-requires : goal.joined-tally-requires
joined-tally-requires c =
    let t = c in
    let k = known (goal.at.joined-tally-requires c).After-struct_known-1 in
    let l = k.inside in
    let p = k.some_size in
    let b = t.loop-header.invariant.1 in (
      within_more t.loop-header.at (2 ^ 62) t.loop-header.tally (omega arith) t.loop-header.invariant.0.small,
      within_more (block (goal.at.joined-tally-requires c).After-struct_known-1).size (2 ^ 62) c.single.result (omega arith)
          (subst (λ (x : Tally). Within (block (goal.at.joined-tally-requires c).After-struct_known-1).size x) (sym (alone c))
          (single_within (block (goal.at.joined-tally-requires c).After-struct_known-1) (omega arith))),
    )

pub overflow_add-at : goal.overflow_add-at
overflow_add-at c =
    let l = (known (goal.at.overflow_add-at c).After-struct_known-1).inside in
    omega arith

pub loop-header-smaller : goal.loop-header-smaller
loop-header-smaller c =
    let k = known (goal.at.loop-header-smaller c).After-struct_known-1 in
    let l = k.inside in
    let p = k.some_size in
    omega arith

pub loop-header-preserved : goal.loop-header-preserved
loop-header-preserved c =
    let e = c in
    let t = e in (
      subst (λ (x : Tally). Tallied e.args.heap.now (t.loop-header.at + (block (goal.at.loop-header-preserved c).After-struct_known-1).size) x)
          (sym (c.joined-tally.ensures ∙ ap (joined t.loop-header.tally) (alone (goal.at.loop-header-preserved c).After-single)))
          (tallied_next e.args.heap.now t.loop-header.at t.loop-header.tally t.loop-header.invariant.0
          (block (goal.at.loop-header-preserved c).After-struct_known-1)
          (met_block t.loop-header.at e.args.heap.now e.in-Some.header (found (goal.at.loop-header-preserved c).After-struct_known-1))),
      t.loop-header.invariant.1,
    )
