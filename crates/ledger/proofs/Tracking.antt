-- Each change of a state that a call makes is one of its ledger: what the ledger has after it tracks the state after it.
use Prim.Native.Nat.{ℕ, ◌≤◌, ◌<◌}
use mathlib.Core.Path.{◌≡◌, refl, sym, ◌∙◌, subst}
use mathlib.Core.List.{[], Memᴰ}
use mathlib.Core.Bool.{Bool, true, false, cond}
use Rattle.accounts.specs.declared.Accounts.{Accounts}
use Rattle.accounts.specs.Accounts.{QUOTAS, used, remaining, charge, with_holds, drop_records}
use Rattle.accounts.proofs.Laws.{charge_kept, refund_kept}
use Rattle.lists.specs.Lists.{all, keep}
use Rattle.model.specs.Objects.{objects}
use Rattle.model.specs.Consistent.{long_enough, free_apart, well_cut, charge_of, charges, has_record}
use Rattle.model.specs.Space.{settle, body_of, swept}
use Rattle.model.specs.Holds.{take_record, raise_count, lower_count}
use Rattle.model.specs.Refusals.{claims_first}
use Rattle.model.specs.Calls.{State, allocated, claimed, given_back, released, freed, copied}
use Rattle.model.specs.declared.Handle.{Handle}
use Rattle.lists.proofs.Bools.{and_right}
use Rattle.model.proofs.Carve.{carved}
use Rattle.model.proofs.Frame.{allocated_keeps, claimed_keeps, released_keeps, freed_keeps}
use Rattle.model.proofs.Settle.{object_held}
use Rattle.model.proofs.Sweep.{swept_objects}
use Rattle.invariant.proofs.Counts.{lower_ordered, lower_counted, drop_ordered, drop_count}
use Rattle.invariant.proofs.Heaps.{good_ordered}
use Rattle.invariant.proofs.Kinded.{released_kinds, freed_kinds, allocated_kinds, copied_kinds, claimed_kinds}
use Rattle.invariant.proofs.Laid.{swept_kinds}
use Rattle.invariant.proofs.Recorded.{good_laid}
use Rattle.invariant.proofs.Transitions.{Room, allocated_good, allocated_objects, allocated_fresh, allocated_counts, claimed_good, claimed_counts}
use Rattle.invariant.proofs.Transitions.{released_good, released_objects, freed_good, freed_objects, swept_good, copied_good, copied_objects}
use Rattle.ledger.specs.Ledger.{Ledger, with_quarantined, leave, add_object, add_hold, take_hold, take_all, spans_from}
use Rattle.ledger.specs.Demand3.{spans_differ}
use Rattle.ledger.proofs.Agreement.{Matches, SameSpans, Tracks}
use Rattle.ledger.proofs.Matching.{match_added, match_raised, match_lowered, match_dropped, waits_lowered, waits_dropped}
use Rattle.ledger.proofs.Spans.{carved_spans, copied_spans, swept_spans}

-- in a state that a ledger tracks
module _ (l : Ledger) (t : State) (a : Tracks l t) (q : ℕ) where
  -- a new object with a new serial
  module _ (o : Handle) (r : Room q o t) (fresh : (x : Handle) → Memᴰ x (objects t.blocks) → x.serial ≡ o.serial → ⊥) where
    allocated_waits : SameSpans (spans_from 0 (allocated q o t).blocks) l.quarantined
    unfolding allocated well_cut
    allocated_waits =
        let d = good_laid t a.good in
        let apart : free_apart t.blocks ≡ true = and_right (all long_enough t.blocks) (free_apart t.blocks) d.cut in
        rw (carved_spans (carved o.base o.length o.serial t.blocks apart r.fits) r.narrow refl d.whole r.aligned r.even) a.waits

    allocated_kind : (allocated q o t).accounts.kind ≡ t.accounts.kind
    unfolding allocated
    allocated_kind = (charge_kept q (charge_of o.length) t.accounts).same_kind

    pub track_allocated : Tracks (add_object q o l) (allocated q o t)
    unfolding add_object
    track_allocated =
        record {
          good = allocated_good q o t a.good r;
          kinded = allocated_kinds q o t a.good r a.kinded;
          kind = allocated_kind ∙ a.kind;
          grants = (allocated_keeps q o t).grants ∙ a.grants;
          matches =
              match_added l (objects t.blocks) t.accounts.holds (allocated q o t).accounts.holds a.matches q r.exists o
              (objects (allocated q o t).blocks) (allocated_objects q o t a.good r) fresh (allocated_fresh q o t a.good r)
              (allocated_counts q o t a.good r);
          waits = allocated_waits;
        }

  -- another hold on an object that is there
  module _ (o : Handle) (there : Memᴰ o (objects t.blocks)) (exists : q < QUOTAS) where
    claimed_kind : (claimed q o t.accounts).kind ≡ t.accounts.kind
    unfolding claimed
    claimed_kind = go (claims_first t.accounts q o)
      where
        anew : Accounts
        anew = with_holds (take_record o.serial q t.accounts.holds) (charge q (charge_of o.length) t.accounts)

        go : (x : Bool) → (cond x anew (with_holds (raise_count o.serial q t.accounts.holds) t.accounts)).kind ≡ t.accounts.kind
        go true = (charge_kept q (charge_of o.length) t.accounts).same_kind
        go false = refl

    pub track_claimed : (claims_first t.accounts q o ≡ true → charge_of o.length ≤ remaining q t.accounts)
        → (claims_first t.accounts q o ≡ true → all used t.accounts.holds ≡ false)
        → Tracks (add_hold q o.serial l) (record { blocks = t.blocks; accounts = claimed q o t.accounts })
    unfolding add_hold
    track_claimed pays unused =
        record {
          good = claimed_good q o t a.good there exists pays unused;
          kinded = claimed_kinds q o t a.kinded;
          kind = claimed_kind ∙ a.kind;
          grants = (claimed_keeps q o t.accounts).grants ∙ a.grants;
          matches =
              match_raised l (objects t.blocks) t.accounts.holds (claimed q o t.accounts).holds a.matches q exists o.serial
              (claimed_counts q o t a.good there exists pays unused);
          waits = a.waits;
        }

  -- one hold less on an object that is there
  module _ (o : Handle) (there : Memᴰ o (objects t.blocks)) (held : has_record t.accounts.holds q o.serial ≡ true) (exists : q < QUOTAS) where
    released_kind : (released q o t).accounts.kind ≡ t.accounts.kind
    unfolding released
    released_kind = (refund_kept q (given_back q o t.accounts) t.accounts).same_kind

    released_matches : Matches (take_hold q o.serial l) (keep (object_held (lower_count o.serial q t.accounts.holds)) (objects t.blocks))
        (released q o t).accounts.holds
    unfolding released
    released_matches =
        let r = good_ordered t a.good in
        match_lowered l (objects t.blocks) t.accounts.holds (lower_count o.serial q t.accounts.holds) a.matches q exists o.serial
        (lower_ordered t.accounts.holds r o.serial q held) (lower_counted t.accounts.holds r o.serial q held)

    released_waits : SameSpans (spans_from 0 (released q o t).blocks) (take_hold q o.serial l).quarantined
    unfolding released
    released_waits =
        let less = lower_count o.serial q t.accounts.holds in
        let r = good_ordered t a.good in
        subst (λ (n : ℕ). SameSpans (spans_from 0 (settle n less t.blocks)) (take_hold q o.serial l).quarantined) (sym a.kind)
        (waits_lowered l (objects t.blocks) t.accounts.holds less a.matches q exists o.serial
        (lower_ordered t.accounts.holds r o.serial q held) (lower_counted t.accounts.holds r o.serial q held) t.blocks refl a.waits)

    pub track_released : Tracks (take_hold q o.serial l) (released q o t)
    unfolding take_hold leave
    track_released =
        record {
          good = released_good q o t a.good there held;
          kinded = released_kinds q o t a.kinded;
          kind = released_kind ∙ a.kind;
          grants = (released_keeps q o t).grants ∙ a.grants;
          matches = rw (released_objects q o t a.good there held) released_matches;
          waits = released_waits;
        }

  -- no hold of the quota
  module _ (exists : q < QUOTAS) where
    abbrev back : ℕ
    back = charges t.accounts.holds q (objects t.blocks)

    freed_kind : (freed q back t).accounts.kind ≡ t.accounts.kind
    unfolding freed
    freed_kind = (refund_kept q back t.accounts).same_kind

    freed_matches : Matches (take_all q l) (keep (object_held (drop_records q t.accounts.holds)) (objects t.blocks)) (freed q back t).accounts.holds
    unfolding freed
    freed_matches =
        let r = good_ordered t a.good in
        match_dropped l (objects t.blocks) t.accounts.holds (drop_records q t.accounts.holds) a.matches q exists
        (drop_ordered t.accounts.holds r q) (drop_count t.accounts.holds r q)

    freed_waits : SameSpans (spans_from 0 (freed q back t).blocks) (take_all q l).quarantined
    unfolding freed
    freed_waits =
        let less = drop_records q t.accounts.holds in
        let r = good_ordered t a.good in
        subst (λ (n : ℕ). SameSpans (spans_from 0 (settle n less t.blocks)) (take_all q l).quarantined) (sym a.kind)
        (waits_dropped l (objects t.blocks) t.accounts.holds less a.matches q exists
        (drop_ordered t.accounts.holds r q) (drop_count t.accounts.holds r q) t.blocks refl a.waits)

    pub track_freed : Tracks (take_all q l) (freed q back t)
    unfolding take_all leave
    track_freed =
        record {
          good = freed_good q t a.good exists;
          kinded = freed_kinds q back t a.kinded;
          kind = freed_kind ∙ a.kind;
          grants = (freed_keeps q back t).grants ∙ a.grants;
          matches = rw (freed_objects q t a.good exists) freed_matches;
          waits = freed_waits;
        }

-- bytes copied from one object to another, and a sweep
module _ (l : Ledger) (t : State) (a : Tracks l t) where
  copied_waits : (old new : Handle) → SameSpans (spans_from 0 (copied old new t).blocks) l.quarantined
  unfolding copied
  copied_waits old new = rw (copied_spans new.serial (body_of old.serial t.blocks) 0 t.blocks) a.waits

  pub track_copied : (old new : Handle) → Tracks l (copied old new t)
  unfolding copied
  track_copied old new =
      record {
        good = copied_good old new t a.good;
        kinded = copied_kinds old new t a.kinded;
        kind = a.kind;
        grants = a.grants;
        matches = rw (copied_objects old new t a.good) a.matches;
        waits = copied_waits old new;
      }

  pub track_swept : Tracks (with_quarantined [] l) (record { blocks = swept t.blocks; accounts = t.accounts })
  unfolding spans_differ
  track_swept =
      record {
        good = swept_good t a.good;
        kinded = (swept_kinds t.accounts.kind t.blocks, a.kinded.1);
        kind = a.kind;
        grants = a.grants;
        matches = rw (swept_objects t.blocks) (unquarantined a.matches);
        waits = rw (swept_spans 0 t.blocks) (record { both = λ x. (λ m. m, λ m. m); once = refl });
      }
    where
      unquarantined : Matches l (objects t.blocks) t.accounts.holds → Matches (with_quarantined [] l) (objects t.blocks) t.accounts.holds
      unquarantined m = record { objects = m.objects; once = m.once; quotas = m.quotas; widths = m.widths; holds = m.holds }
