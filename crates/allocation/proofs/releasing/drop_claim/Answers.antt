-- `allocation::drop_claim` meets its contract: a count above 1 goes down, and the last hold is refunded and makes the record zero. The block is then vacated
-- exactly where no other quota has a record for its object.
use Rattle.std.specs.Prelude.{is_some}
use Prim.Native.Nat.{◌-◌}
use native.Mathlib.Omega.{arith}
use mathlib.Core.Path.{refl, ap, sym, subst, ◌∙◌}
use Rattle.accounts.specs.declared.Hold.{Hold}
use Rattle.accounts.specs.Accounts.{put_hold}
use Rattle.layout.specs.Bytes.{Octets}
use Rattle.lookup.specs.declared.Met.{Met}
use Rattle.lookup.specs.Walk.{object_met}
use Rattle.model.specs.Holds.{with_count}
use Rattle.writer.specs.Freeing.{Inside}
use Rattle.words.specs.Words.{accounts_of}
use Rattle.survey.specs.Survey.{block_at}
use Rattle.allocation.specs.Releasing.{claim_dropped}
use Rattle.allocation.specs.Asked.{Droppable}
use Rattle.allocation.proofs.Drops.{drop_inside, few_dropped, held_dropped, freed_dropped}
use Rattle.allocation.proofs.releasing.drop_claim.Goals as goal
use Rattle.allocation.proofs.releasing.drop_claim.Goals.{After-block_at-block, After-slice_known-1}

-- the heap's bytes are bytes
octets : (c : After-slice_known-1) → Octets c.args.heap.now
octets c i = (c.slice_known-1.given i).fits

pub returns-then-hold-gt1-clause-holds : goal.returns-then-hold-gt1-clause-holds
returns-then-hold-gt1-clause-holds c =
    let then1 = c in
    let at-hold-at = then1 in
    let at-slice-known = at-hold-at in
    let start = at-slice-known in
    let a = start.args in
    let k = accounts_of a.words.now in
    let h = at-hold-at.hold_at-hold in
    let p = c.put_hold in
    few_dropped a.heap.now k (octets (goal.at.returns-then-hold-gt1-clause-holds c).After-slice_known-1)
    a.quota (block_at a.at a.heap.now) a.place (is_some a.other)
    start.requires
    (rw (sym h.ensures) then1.if-hold-gt1.true) (accounts_of p.new.words)
    (p.ensures.holds ∙ ap (λ (x : Hold). put_hold a.place (with_count (x.count - 1) x) k) h.ensures) _ refl

-- what is known of the block that was read
droppable : (c : After-block_at-block) →
    let start = c in
    let a = start.args in
    Droppable a.heap.now (accounts_of a.words.now) a.quota c.block_at-block.result a.place (is_some a.other)
droppable c =
    let start = c in
    let a = start.args in
    subst (λ (x : Met). Droppable a.heap.now (accounts_of a.words.now) a.quota x a.place (is_some a.other)) (sym c.block_at-block.ensures) start.requires

octets_2 : (c : After-block_at-block) → Octets c.args.heap.now
octets_2 c i = (c.slice_known-1.given i).fits

lies : (c : After-block_at-block) →
    let start = c in
    Inside c.block_at-block.result start.args.heap.now
lies c =
    let at-slice-known = c in
    let start = at-slice-known in
    let a = start.args in
    drop_inside a.heap.now (accounts_of a.words.now) (octets_2 c) a.quota c.block_at-block.result a.place (is_some a.other) (droppable c)

pub overflow_sub-length : goal.overflow_sub-length
overflow_sub-length c =
    let at-block-at = c in
    omega (arith, (lies (goal.at.overflow_sub-length c).After-block_at-block).header)

pub overflow_cast-length : goal.overflow_cast-length
overflow_cast-length c =
    let at-block-at = c in
    let l = lies (goal.at.overflow_cast-length c).After-block_at-block in omega (arith, l.end, l.allowed)

pub overflow_add-charge : goal.overflow_add-charge
overflow_add-charge c =
    let at-block-at = c in
    let l = lies (goal.at.overflow_add-charge c).After-block_at-block in omega (arith, l.end, l.allowed)

pub returns-then-shared-clause-holds : goal.returns-then-shared-clause-holds
returns-then-shared-clause-holds c =
    let at-drop-hold = c in
    let at-refund = at-drop-hold in
    let at-block-at = at-refund in
    let else1 = at-block-at in
    let at-hold-at = else1 in
    let at-slice-known = at-hold-at in
    let start = at-slice-known in
    let a = start.args in
    let k = accounts_of a.words.now in
    let h = at-hold-at.hold_at-hold in
    let r = at-refund.refund in
    let z = at-drop-hold.drop_hold in
    held_dropped a.heap.now k (octets (goal.at.returns-then-shared-clause-holds c).After-slice_known-1)
    a.quota at-block-at.block_at-block.result a.place (is_some a.other)
    (droppable (goal.at.returns-then-shared-clause-holds c).After-block_at-block)
    (rw (sym h.ensures) (omega (arith, else1.if-hold-gt1.false))) (accounts_of r.new.words) (accounts_of z.new.words) r.ensures.holds z.ensures.holds _
    refl
    (sym c.is_some-shared.ensures ∙ c.if-shared.true)
    ∙ ap (λ (x : Met). claim_dropped a.heap.now k a.quota (object_met x)) at-block-at.block_at-block.ensures

pub returns-clause-holds : goal.returns-clause-holds
returns-clause-holds c =
    let at-vacate-block = c in
    let at-kind = at-vacate-block in
    let else2 = at-kind in
    let at-drop-hold = else2 in
    let at-refund = at-drop-hold in
    let at-block-at = at-refund in
    let else1 = at-block-at in
    let at-hold-at = else1 in
    let at-slice-known = at-hold-at in
    let start = at-slice-known in
    let a = start.args in
    let k = accounts_of a.words.now in
    let h = at-hold-at.hold_at-hold in
    let r = at-refund.refund in
    let z = at-drop-hold.drop_hold in
    let v = at-vacate-block.vacate_block in
    freed_dropped a.heap.now k (octets (goal.at.returns-clause-holds c).After-slice_known-1) a.quota at-block-at.block_at-block.result a.place (is_some a.other)
    (droppable (goal.at.returns-clause-holds c).After-block_at-block)
    (rw (sym h.ensures) (omega (arith, else1.if-hold-gt1.false))) (accounts_of r.new.words) (accounts_of z.new.words) r.ensures.holds z.ensures.holds _
    refl
    (sym c.is_some-shared.ensures ∙ c.if-shared.false) at-kind.kind.result at-kind.kind.ensures v.new.heap v.ensures.leaves
    ∙ ap (λ (x : Met). claim_dropped a.heap.now k a.quota (object_met x)) at-block-at.block_at-block.ensures
