-- What reallocate knows of the old object: by its survey, and once a new object was granted and bytes were copied.
use Rattle.std.specs.Prelude.{Some, None, Ok, Err, is_some}
use Prim.Native.Nat.{ℕ, ◌+◌, ◌-◌, ◌≤◌, min}
use mathlib.Core.Path.{◌≡◌, refl, ap, sym, subst, ◌∙◌}
use mathlib.Core.List.{List}
use mathlib.Core.Bool.{true}
use Rattle.rounding.specs.Rounding.{table}
use Rattle.rounding.proofs.Editions.{table_is}
use Rattle.accounts.specs.declared.Accounts.{Accounts}
use Rattle.accounts.specs.Accounts.{find_hold}
use Rattle.layout.specs.Bytes.{Octets, copy_part}
use Rattle.lookup.specs.declared.Met.{Met}
use Rattle.lookup.specs.Walk.{object_met, whole_met, find_object, find_whole}
use Rattle.lookup.proofs.Reached.{whole_same, whole_other, whole_found}
use Rattle.lists.specs.Lists.{any}
use Rattle.model.specs.Answers.{given}
use Rattle.model.specs.Objects.{names, objects_of, lookup}
use Rattle.model.specs.Consistent.{has_record}
use Rattle.model.specs.Calls.{allocate, reallocate}
use Rattle.model.specs.declared.Handle.{Handle}
use Rattle.model.specs.declared.Refusal.{Refusal}
use Rattle.model.specs.declared.Refusal.TheVariants.{NoSuchObject, NotHeld}
use Rattle.lists.proofs.Lists.{first_some}
use Rattle.model.proofs.Consistent.{accounted_facts}
use Rattle.invariant.proofs.Recorded.{Limits}
use Rattle.results.specs.Results.{AmountResult}
use Rattle.results.specs.Results.{HandleResult}
use Rattle.results.specs.Results.{outcome, amount_outcome, handle_outcome}
use Rattle.results.proofs.Lookups.{Located, located}
use Rattle.survey.specs.declared.Wanted.{Wanted}
use Rattle.survey.specs.declared.Known.{Known}
use Rattle.survey.specs.Survey.{block_at, handle_of, shares}
use Rattle.survey.proofs.Surveys.{known_any}
use Rattle.survey.proofs.Told.{is_serial}
use Rattle.allocation.specs.Ready.{Checked, Ready, Holding}
use Rattle.allocation.specs.Releasing.{claim_dropped}
use Rattle.allocation.specs.Asked.{Rounded, Grantable, Droppable, Exchangeable}
use Rattle.allocation.proofs.ReleaseAnswers.{dropped}
use Rattle.allocation.proofs.Exchanged.{found_again}
use Rattle.allocation.proofs.ReallocateAnswers.{refuses, by_object, by_record, block_held}
use Rattle.allocation.proofs.Reallocated.{refused_too, copied_named, copied_place, copied_checked, given_too, given_edition}
use Rattle.allocation.proofs.Ready.{accepted_check}
use Rattle.allocation.proofs.Grants.{ready_for}

module _ {s : List ℕ} {k : Accounts} {w : Wanted} {x : Known} (y : Exchangeable s k w x) where
  abbrev u : ℕ → ℕ
  u = table k.edition

  abbrev q : ℕ
  q = w.quota

  abbrev h : Handle
  h = handle_of w

  object_is : x.object ≡ find_object h s
  object_is = ap (λ (n : Known). n.object) y.known

  -- a new object may be granted
  pub grantable : Grantable s k w.quota w.need w.unit x.low x.fit
  grantable =
      record { requested = y.requested; lowest = ap (λ (n : Known). n.low) y.known; room = ap (λ (n : Known). n.fit) y.known }

  -- a refusal for want of the object, of every request that is rounded so
  missing : find_whole h s ≡ None → {n : ℕ} → Rounded k.edition n w.need w.unit → (a : HandleResult)
      → a ≡ record { accounts = k; answer = Err NoSuchObject }
      → handle_outcome s a ≡ reallocate u s k q h n
  missing f {n} d a ae = refuses u s k q h n a NoSuchObject ae (by_object u s k q h n (ready_for y.requested d) f)

  pub unfound : x.object ≡ None → {n : ℕ} → Rounded k.edition n w.need w.unit → (a : HandleResult)
      → a ≡ record { accounts = k; answer = Err NoSuchObject } → handle_outcome s a ≡ reallocate u s k q h n
  unfolding find_whole
  unfound e = missing (ap (whole_met h) (sym object_is ∙ e))

  module _ (old : Met) (e : x.object ≡ Some old) where
    found_old : find_object h s ≡ Some old
    found_old = sym object_is ∙ e

    pub located_old : Located s h old
    located_old = located u s k (Ok tt) (accepted_check u s k q y.requested.checked) refl h old found_old

    pub not_whole : (h.length ≡ old.size - 8 → ⊥) → {n : ℕ} → Rounded k.edition n w.need w.unit → (a : HandleResult)
        → a ≡ record { accounts = k; answer = Err NoSuchObject } → handle_outcome s a ≡ reallocate u s k q h n
    not_whole z = missing (whole_other h s old found_old (λ t. z (ap (λ (i : Handle). i.length) t)))

    serial_is : w.serial ≡ old.serial
    serial_is = is_serial s w old found_old

    -- the quota's record
    holder_is : x.holder ≡ find_hold old.serial q k
    holder_is = ap (λ (n : Known). n.holder) y.known ∙ ap (λ (i : ℕ). find_hold i q k) serial_is

    module _ (long : h.length ≡ old.size - 8) where
      whole_old : find_whole h s ≡ Some old
      whole_old = whole_same h s old found_old long

      is_old : h ≡ object_met old
      is_old = (whole_found h s old whole_old).1

      pub not_held : x.holder ≡ None → {n : ℕ} → Rounded k.edition n w.need w.unit → (a : HandleResult)
          → a ≡ record { accounts = k; answer = Err NotHeld } → handle_outcome s a ≡ reallocate u s k q h n
      not_held p {n} d a ae =
          refuses u s k q h n a NotHeld ae (by_record u s k q h n (ready_for y.requested d) old whole_old (sym holder_is ∙ p))

      module _ (i : ℕ) (p : x.holder ≡ Some i) where
        held_at : find_hold old.serial q k ≡ Some i
        held_at = sym holder_is ∙ p

        has_old : has_record k.holds q old.serial ≡ true
        has_old = block_held u s k q h y.requested.asked (ready_for y.requested y.requested.rounded) old whole_old i held_at

        pub serial_given : old.serial ≤ k.last_serial
        unfolding objects_of lookup
        serial_given =
            let there = (first_some (names h) (objects_of s) (object_met old) located_old.named).0 in
            (accounted_facts s k y.requested.checked.accounted).given (object_met old) there

        -- what grant refuses is refused
        pub not_granted : {n : ℕ} → Rounded k.edition n w.need w.unit → (t : List ℕ) (r : HandleResult) (f : Refusal) → r.answer ≡ Err f
            → handle_outcome t r ≡ allocate u s k q n → handle_outcome t r ≡ reallocate u s k q h n
        not_granted {n} d t r f a g =
            refused_too u (table_is k.edition) s k q h n (ready_for y.requested d) (object_met old) is_old located_old.named has_old t r f a g

        -- a new object was granted, and the old one's bytes were copied to it
        module _ (o : Octets s) (limits : Limits k) {n : ℕ} (d : Rounded k.edition n w.need w.unit) (t : List ℕ) (r : HandleResult)
            (granted : handle_outcome t r ≡ allocate u s k q n) (new : Handle) (gave : r.answer ≡ Ok new) (t₂ : List ℕ)
            (copied : t₂ ≡ copy_part (old.at + 8) new.base (min new.length (old.size - 8)) t) where
          ready : Ready u s k q n
          ready = ready_for y.requested d

          checked_now : Checked u t₂ r.accounts q
          checked_now =
              copied_checked u (table_is k.edition) s k q h n ready (object_met old) is_old
              located_old.named has_old o limits t r granted new gave t₂ copied

          again : (find_object h t₂ ≡ Some (block_at old.at t₂)) × ((block_at old.at t₂).serial ≡ old.serial)
          again =
              found_again u t₂ r.accounts q checked_now h old
              (copied_named u (table_is k.edition) s k q h n ready (object_met old) is_old
              located_old.named has_old o limits t r granted new gave t₂ copied)

          place_now : find_hold (block_at old.at t₂).serial q r.accounts ≡ Some i
          place_now =
              ap (λ (z : ℕ). find_hold z q r.accounts) again.1
              ∙ copied_place u (table_is k.edition) s k q h n ready (object_met old) is_old
              located_old.named has_old o limits t r granted new gave t₂ copied
              i held_at

          same_edition : r.accounts.edition ≡ k.edition
          same_edition = given_edition u s k q n t r granted

          pub droppable : any (shares old.serial q) r.accounts.holds ≡ any (shares old.serial q) k.holds
              → Droppable t₂ r.accounts q (block_at old.at t₂) i (is_some x.other)
          droppable same = record {
            holding = subst (λ (z : ℕ). Holding (table z) t₂ r.accounts q (block_at old.at t₂) i) (sym same_edition)
                (record { checked = checked_now; handle = h; named = again.0; place = place_now });
            others = known_any (shares w.serial q) k.holds x.other (ap (λ (n : Known). n.other) y.known)
                ∙ ap (λ (z : ℕ). any (shares z q) k.holds) serial_is
                ∙ sym same
                ∙ ap (λ (z : ℕ). any (shares z q) r.accounts.holds) (sym again.1);
          }

          pub exchanged : (t₃ : List ℕ) (a : AmountResult) → amount_outcome t₃ a ≡ claim_dropped t₂ r.accounts q (object_met (block_at old.at t₂))
              → outcome t₃ a.accounts (given new) ≡ reallocate u s k q h n
          exchanged t₃ a f =
              given_too u (table_is k.edition) s k q h n ready (object_met old) is_old
              located_old.named has_old o limits t r granted new gave t₂ copied t₃ a
              (f ∙ dropped u t₂ r.accounts q h checked_now (block_at old.at t₂) again.0 i place_now)
