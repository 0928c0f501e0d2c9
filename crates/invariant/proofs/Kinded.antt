-- Quarantined blocks stand in heaps of the second kind only, and the last serial and the kind stay in range (rules 22.2, 22.4 and 22.9): no change of a state
-- that a call makes breaks this.
use Prim.Native.Nat.{ℕ}
use mathlib.Core.Path.{◌≡◌, refl, ◌∙◌}
use mathlib.Core.Bool.{Bool, true, false, cond}
use Rattle.accounts.specs.declared.Accounts.{Accounts}
use Rattle.accounts.specs.Accounts.{charge, with_holds}
use Rattle.accounts.proofs.Laws.{charge_kept, refund_kept}
use Rattle.layout.specs.Blocks.{render}
use Rattle.lists.specs.Lists.{all}
use Rattle.model.specs.Consistent.{charge_of, long_enough, free_apart, well_cut, in_kind, in_range}
use Rattle.model.specs.Space.{body_of}
use Rattle.model.specs.Holds.{take_record, raise_count}
use Rattle.model.specs.Refusals.{claims_first}
use Rattle.model.specs.Calls.{State, state_of, allocated, claimed, given_back, released, freed, copied}
use Rattle.model.specs.declared.Handle.{Handle}
use Rattle.lists.proofs.Bools.{and_right}
use Rattle.model.proofs.Carve.{carved}
use Rattle.model.proofs.Consistent.{range_kind, range_like, range_next}
use Rattle.invariant.proofs.Good.{Good}
use Rattle.invariant.proofs.Heaps.{good_heap}
use Rattle.invariant.proofs.Laid.{settle_kinds, carve_kinds, copy_kinds}
use Rattle.invariant.proofs.Transitions.{Room}

abbrev pub Kinded : State → Type 0
Kinded t = (all (in_kind t.accounts.kind) t.blocks ≡ true) × (in_range t.accounts ≡ true)

pub released_kinds : (q : ℕ) (o : Handle) (t : State) → Kinded t → Kinded (released q o t)
unfolding released
released_kinds q o t d =
    let k = t.accounts in
    let e = refund_kept q (given_back q o k) k in
    let r = range_like k d.1 _ e.same_kind e.same_edition e.same_last in
    (rw e.same_kind (settle_kinds k.kind (range_kind k d.1) _ t.blocks d.0), r)

pub freed_kinds : (q back : ℕ) (t : State) → Kinded t → Kinded (freed q back t)
unfolding freed
freed_kinds q back t d =
    let k = t.accounts in
    let e = refund_kept q back k in
    let r = range_like k d.1 _ e.same_kind e.same_edition e.same_last in
    (rw e.same_kind (settle_kinds k.kind (range_kind k d.1) _ t.blocks d.0), r)

apart_of : (t : State) → Good t → free_apart t.blocks ≡ true
unfolding well_cut
apart_of t g = and_right (all long_enough t.blocks) (free_apart t.blocks) g.tests.cut

pub allocated_kinds : (q : ℕ) (o : Handle) (t : State) → Good t → Room q o t → Kinded t → Kinded (allocated q o t)
unfolding allocated
allocated_kinds q o t g r d =
    let k = t.accounts in
    let e = charge_kept q (charge_of o.length) k in
    let c = carved o.base o.length o.serial t.blocks (apart_of t g) r.fits in
    (rw e.same_kind (carve_kinds c k.kind r.narrow d.0), range_next k d.1 _ e.same_kind e.same_edition r.narrow)

pub copied_kinds : (old new : Handle) (t : State) → Kinded t → Kinded (copied old new t)
unfolding copied
copied_kinds old new t d = (copy_kinds new.serial (body_of old.serial t.blocks) t.accounts.kind t.blocks ∙ d.0, d.1)

pub claimed_kinds : (q : ℕ) (o : Handle) (t : State) → Kinded t → Kinded (record { blocks = t.blocks; accounts = claimed q o t.accounts })
unfolding claimed
claimed_kinds q o t d = go (claims_first k q o)
  where
    k : Accounts
    k = t.accounts

    after : Bool → Accounts
    after x =
        cond x (with_holds (take_record o.serial q k.holds) (charge q (charge_of o.length) k)) (with_holds (raise_count o.serial q k.holds) k)

    go : (x : Bool) → Kinded (record { blocks = t.blocks; accounts = after x })
    go true =
        let e = charge_kept q (charge_of o.length) k in
        (rw e.same_kind d.0, range_like k d.1 _ e.same_kind e.same_edition e.same_last)
    go false = (d.0, range_like k d.1 _ refl refl refl)

-- and so it is of the heap that is written of a state
pub written_kinds : (t : State) → Good t → Kinded t → Kinded (state_of (render t.blocks) t.accounts)
written_kinds t g d = (rw (good_heap t g).blocks d.0, d.1)
