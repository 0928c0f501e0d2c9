use Rattle.std.specs.Prelude.{Some}
use borrow.Author.Tests.{eq-eqb, ne_eqb}
use native.Mathlib.Omega.{arith}
use mathlib.Core.Path.{◌≡◌, ap, sym, ◌∙◌}
use Rattle.layout.specs.Blocks.{start_at}
use Rattle.layout.proofs.Starts.{Found, start_found}
use Rattle.lookup.specs.Walk.{headed}
use Rattle.lookup.proofs.Walk.{met_nothing, met_block, search_start, search_ended, search_found, search_passed}
use Rattle.queries.specs.Listing.{answered, stands_at, find_block}
use Rattle.queries.proofs.listing.find_block.Goals as goal
use Rattle.queries.proofs.listing.find_block.Goals.{After-struct_known-1}

pub loop-header-init : goal.loop-header-init
loop-header-init c = search_start (stands_at c.args.at) c.args.heap.now

pub returns : goal.returns
unfolding find_block
returns c =
    let l = c in
    let a = l.args in
    sym (ap answered (search_ended (stands_at a.at) a.heap.now l.loop-header.place l.loop-header.invariant
    (met_nothing l.loop-header.place a.heap.now (sym c.start_at.ensures ∙ c.in_default.is))))

-- the block that starts at this place
found : (c : After-struct_known-1)
    → let l = c in
    start_at l.loop-header.place l.args.heap.now ≡ Some c.in-Some.header
found c = sym c.start_at.ensures ∙ c.in-Some.is

known : (c : After-struct_known-1)
    → let l = c in
    Found l.loop-header.place l.args.heap.now c.in-Some.header
known c =
    let l = c in
    start_found l.loop-header.place l.args.heap.now c.in-Some.header (found c)

pub overflow_mul-size : goal.overflow_mul-size
overflow_mul-size c =
    let l = (known c).inside in
    omega arith

pub returns-then-place-at : goal.returns-then-place-at
unfolding find_block
returns-then-place-at c =
    let h = c in
    let l = h in
    let a = l.args in
    sym (ap answered (search_found (stands_at a.at) a.heap.now l.loop-header.place l.loop-header.invariant (headed l.loop-header.place h.in-Some.header)
    (met_block l.loop-header.place a.heap.now h.in-Some.header (found (goal.at.returns-then-place-at c).After-struct_known-1))
    (eq-eqb l.loop-header.place a.at c.if-place-at.true)))

pub overflow_add-place : goal.overflow_add-place
overflow_add-place c =
    let l = (known (goal.at.overflow_add-place c).After-struct_known-1).inside in
    omega arith

pub loop-header-smaller : goal.loop-header-smaller
loop-header-smaller c =
    let k = known (goal.at.loop-header-smaller c).After-struct_known-1 in
    let l = k.inside in
    let p = k.some_size in
    omega arith

pub loop-header-preserved : goal.loop-header-preserved
loop-header-preserved c =
    let h = c in
    let l = h in
    let a = l.args in
    search_passed (stands_at a.at) a.heap.now l.loop-header.place l.loop-header.invariant (headed l.loop-header.place h.in-Some.header)
    (met_block l.loop-header.place a.heap.now h.in-Some.header (found (goal.at.loop-header-preserved c).After-struct_known-1))
    (ne_eqb l.loop-header.place a.at c.if-place-at.false)
