-- `allocation::exchange` meets its contract: lines 5 and 6 refuse as the survey says, what `grant` refuses is refused, and where it gives an object, the copy
-- and the release that follow make up the definition's outcome.
use Rattle.std.specs.Prelude.{Ok}
use Prim.Native.Nat.{ℕ, ◌+◌, ◌-◌, min}
use native.Mathlib.Omega.{arith}
use mathlib.Core.Path.{◌≡◌, refl, ap, sym, ◌∙◌}
use Rattle.std.proofs.lemmas.Result.{err_from_is_err_and}
use Rattle.layout.specs.Bytes.{Octets, copy_part}
use Rattle.model.specs.Answers.{handle_values}
use Rattle.results.specs.Results.{amount_result, handle_outcome, handle_result}
use Rattle.allocation.proofs.Typed.{limits_of}
use Rattle.allocation.proofs.Exchanges.{unfound, located_old, not_whole, not_held, serial_given}
use Rattle.allocation.proofs.Exchanges.{not_granted, droppable, exchanged}
use Rattle.allocation.proofs.reallocating.exchange.Goals as goal
use Rattle.allocation.proofs.reallocating.exchange.Goals.{After-copy_part, After-slice_known-1}

-- the heap's bytes are bytes
octets : (c : After-slice_known-1) → Octets c.args.heap.now
octets c i = (c.slice_known-1.given i).fits

pub returns-in_default-clause-holds : goal.returns-in_default-clause-holds
returns-in_default-clause-holds c n d = unfound c.requires c.in_default.is d _ refl

pub overflow_sub-length : goal.overflow_sub-length
overflow_sub-length c = omega (arith, (located_old c.requires c.in-Some.block c.in-Some.is).header)

pub returns-then-wanted-length-clause-holds : goal.returns-then-wanted-length-clause-holds
returns-then-wanted-length-clause-holds c n d = not_whole c.requires c.in-Some.block c.in-Some.is c.if-wanted-length.true d _ refl

pub returns-in_default-holder-clause-holds : goal.returns-in_default-holder-clause-holds
returns-in_default-holder-clause-holds c n d =
    not_held c.requires c.in-Some.block c.in-Some.is c.if-wanted-length.false c.in_default-holder.is d _ refl

pub returns-in_err-new-clause-holds : goal.returns-in_err-new-clause-holds
returns-in_err-new-clause-holds c n d =
    let g = c.grant in
    let p = err_from_is_err_and c.from_residual.result c.from_residual.ensures.1 in
    rw (p.1, p.2) (ap (λ v. handle_outcome g.new.heap (handle_result g.new.words v)) (sym c.in_err-new.was)
    ∙ not_granted c.requires c.in-Some.block c.in-Some.is c.if-wanted-length.false c.in-Some-holder.place c.in-Some-holder.is d
    g.new.heap (handle_result g.new.words g.result) _ c.in_err-new.was (g.ensures.holds n d))

pub overflow_add-block : goal.overflow_add-block
overflow_add-block c = omega (arith, (located_old c.requires c.in-Some.block c.in-Some.is).end)

-- the copy is of as many bytes as both objects have
copied : (c : After-copy_part) →
    let o = c.in-Some.block in
    let n = c.in_ok-new.new in
    c.copy_part.new.heap ≡ copy_part (o.at + 8) n.base (min n.length (o.size - 8)) c.grant.new.heap
copied c =
    let o = c.in-Some.block in
    let n = c.in_ok-new.new in
    c.copy_part.ensures ∙ ap (λ (i : ℕ). copy_part (o.at + 8) n.base i c.grant.new.heap) c.min-count.ensures

pub drop_claim-requires : goal.drop_claim-requires
drop_claim-requires c =
    let a = c.args in
    let y = c.requires in
    let b = c.in-Some in
    let p = c.in-Some-holder in
    let g = c.grant in
    let l = limits_of a.heap.now a.words.now a.wanted.quota y.requested.checked c.count.ensures.1 in
    let d = y.requested.rounded in
    let same = g.ensures.keeps b.block.serial (serial_given y b.block b.is c.if-wanted-length.false p.place p.is) in
    droppable y b.block b.is c.if-wanted-length.false p.place p.is (octets (goal.at.drop_claim-requires c).After-slice_known-1) l d g.new.heap
    (handle_result g.new.words g.result) (g.ensures.holds _ d) c.in_ok-new.new c.in_ok-new.was _ (copied (goal.at.drop_claim-requires c).After-copy_part) same

pub returns-clause-holds : goal.returns-clause-holds
unfolding handle_values
returns-clause-holds c m d =
    let a = c.args in
    let y = c.requires in
    let b = c.in-Some in
    let p = c.in-Some-holder in
    let g = c.grant in
    let l = limits_of a.heap.now a.words.now a.wanted.quota y.requested.checked c.count.ensures.1 in
    let r = c.drop_claim in
    exchanged y b.block b.is c.if-wanted-length.false p.place p.is (octets (goal.at.returns-clause-holds c).After-slice_known-1) l d g.new.heap
    (handle_result g.new.words g.result) (g.ensures.holds m d) c.in_ok-new.new c.in_ok-new.was _ (copied (goal.at.returns-clause-holds c).After-copy_part)
    r.new.heap (amount_result r.new.words (Ok r.result)) r.ensures.holds
