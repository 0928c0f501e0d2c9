-- What allocate asks the survey for, and where what it found leads: each way to the end of a grant is the definition's, of every request that is rounded to
-- the object's size and aligned by its unit.
use Rattle.std.specs.Prelude.{Option, Some, None, Result, Ok, Err}
use Rattle.model.specs.declared.Refusal.{Refusal}
use Prim.Native.Nat.{ℕ, ◌+◌, ◌≤◌, ◌<◌}
use mathlib.Core.Path.{◌≡◌, ap, sym, subst, ◌∙◌}
use mathlib.Core.List.{List}
use mathlib.Core.Bool.{false}
use native.Mathlib.Omega.{arith}
use borrow.Author.Tests.{ne_eqb, not-true}
use lib.ListN.{get_or}
use Rattle.rounding.specs.Rounding.{Units, table, object_length, alignment, by_zeros}
use Rattle.rounding.proofs.Editions.{table_is, within_heap}
use Rattle.rounding.proofs.ByZeros.{zeros_alignment}
use Rattle.accounts.specs.declared.Accounts.{Accounts}
use Rattle.accounts.specs.declared.Hold.{Hold}
use Rattle.accounts.specs.Accounts.{zero_hold, used, unused, lowest_unused, put_hold, with_last_serial, remaining}
use Rattle.accounts.proofs.Laws.{found_first, charge_kept}
use Rattle.layout.specs.Bytes.{Octets}
use Rattle.lookup.specs.declared.Met.{Met}
use Rattle.lookup.specs.Walk.{find_fit}
use Rattle.lists.specs.Lists.{any}
use Rattle.model.specs.Consistent.{is_of, greatest_serial}
use Rattle.model.specs.Answers.{verdict_values}
use Rattle.model.specs.Calls.{check, allocate}
use Rattle.model.specs.declared.Handle.{Handle}
use Rattle.model.specs.declared.Refusal.TheVariants.{QuotaExceeded, HoldsExhausted, SerialsExhausted, NoSpace}
use Rattle.results.specs.Results.{HandleResult}
use Rattle.results.specs.Results.{handle_outcome}
use Rattle.writer.specs.Carving.{Room, carve_in}
use Rattle.survey.specs.Survey.{shares, verdict_in}
use Rattle.survey.specs.declared.Known.{Known}
use Rattle.survey.specs.declared.Wanted.{Wanted}
use Rattle.allocation.specs.Ready.{Ready}
use Rattle.allocation.specs.Asked.{Rounded, Asks, Admitted, Requested, Grantable}
use Rattle.allocation.proofs.Placed.{the_room}
use Rattle.allocation.proofs.Ready.{checked_is, checked_serial}
use Rattle.allocation.proofs.Granted.{booked_at, result_of, refused_8, refused_9, refused_10, refused_11, granted}
use Rattle.allocation.proofs.Released.{any_set, other_of}

-- the unit of a rounded length is the alignment of a request
pub unit_is : (d n z a : ℕ) → n ≤ 32760 → z ≡ object_length (table d) n → a ≡ by_zeros d z → a ≡ alignment (table d) n
unit_is d n z a l ze ae = ae ∙ ap (by_zeros d) ze ∙ zeros_alignment d n (omega (arith, within_heap d n l))

-- an unused record is of no object
unused_of : (x : ℕ) (h : Hold) → used h ≡ false → is_of x h ≡ false
unfolding is_of
unused_of x h b = rw b

-- a record with a new serial takes an unused place
pub shares_kept : (t q n place serial : ℕ) (k r : Accounts) → lowest_unused k ≡ Some place → (t ≡ serial → ⊥) → r ≡ booked_at q n place serial k
    → any (shares t q) r.holds ≡ any (shares t q) k.holds
unfolding shares put_hold lowest_unused unused
shares_kept t q n place serial k r e d re =
    let w : Hold = record { serial = serial; quota = q; count = 1 } in
    let f = found_first unused k.holds place e in
    let blank : used (get_or k.holds place zero_hold) ≡ false = not-true (used (get_or k.holds place zero_hold)) f.passes in
    let old : is_of t (get_or k.holds place zero_hold) ≡ false = unused_of t (get_or k.holds place zero_hold) blank in
    let new : is_of t w ≡ false = other_of w t (ne_eqb t serial d) in
    ap (λ (a : Accounts). any (shares t q) a.holds) re
    ∙ ap (any (shares t q)) (charge_kept q (n + 8) (put_hold place w (with_last_serial serial k))).same_holds
    ∙ any_set (shares t q) k.holds place w (rw (old, new))

module _ {s : List ℕ} {k : Accounts} {q z u : ℕ} (y : Requested s k q z u) where
  -- it is ready as any request that is rounded so
  pub ready_for : {n : ℕ} → Rounded k.edition n z u → Ready (table k.edition) s k q n
  ready_for d = record { checked = y.checked; permitted = y.permitted; some = d.some; short = d.short }

  -- the object is no longer than a heap
  pub size_small : z ≤ 32768
  size_small = omega (arith, y.rounded.size, within_heap k.edition y.asked y.rounded.short)

-- the first lines of a request have admitted it, and the survey was asked for its size and unit
pub requested_by : (s : List ℕ) (k : Accounts) (q n : ℕ) (h : Handle) (w : Wanted) (v a : Result Known Refusal)
    → verdict_values (verdict_in v) ≡ (check (table k.edition) s k).values
    → Admitted k v q n a → (x : Known) → a ≡ Ok x → (edition : ℕ) → edition ≡ k.edition → Asks edition q h n w
    → Rounded k.edition n w.need w.unit × Requested s k q w.need w.unit
requested_by s k q n h w v a told d x ok edition e y =
    let p = d.accepts x ok in
    let r = subst (λ (x : ℕ). Rounded x n w.need w.unit) e (y.rounded p.3 p.4) in
    (r, record { checked = checked_is (table k.edition) s k (verdict_in v) told (ap verdict_in p.0) q p.1; permitted = p.2; asked = n; rounded = r })

module _ {s : List ℕ} {k : Accounts} {q z u : ℕ} {low : Option ℕ} {fit : Option (Met × ℕ)} (y : Grantable s k q z u low fit) where
  -- the room is that for any such request
  room_for : {n : ℕ} → Rounded k.edition n z u
      → fit ≡ find_fit (alignment (table k.edition) n) (object_length (table k.edition) n) s
  room_for d = y.room ∙ (λ i. find_fit (d.unit i) (d.size i) s)

  -- the object lies in the block that was found
  pub room_there : (m : Met) (b : ℕ) → fit ≡ Some (m, b) → Room m b z
  room_there m b e =
      let d = y.requested.rounded in
      let c = y.requested.checked in
      subst (Room m b) (sym d.size)
      (the_room (table k.edition) (table_is k.edition) s k y.requested.asked c.accounted m b (sym (room_for d) ∙ e) c.extent)

  -- each way to the end, of a request that is rounded so
  module _ {n : ℕ} (d : Rounded k.edition n z u) (r : HandleResult) where
    abbrev t : ℕ → ℕ
    t = table k.edition

    abbrev i : Units (table k.edition)
    i = table_is k.edition

    ready : Ready (table k.edition) s k q n
    ready = ready_for y.requested d

    pub exceeds : remaining q k < z + 8 → r ≡ record { accounts = k; answer = Err QuotaExceeded } → handle_outcome s r ≡ allocate t s k q n
    exceeds h e = refused_8 t i s k q n ready r (omega (arith, h, d.size)) e

    module _ (h8 : z + 8 ≤ remaining q k) where
      paid : object_length t n + 8 ≤ remaining q k
      paid = omega (arith, h8, d.size)

      pub unrecorded : low ≡ None → r ≡ record { accounts = k; answer = Err HoldsExhausted } → handle_outcome s r ≡ allocate t s k q n
      unrecorded h e = refused_9 t i s k q n ready r paid (sym y.lowest ∙ h) e

      module _ (place : ℕ) (h9 : low ≡ Some place) where
        recorded : lowest_unused k ≡ Some place
        recorded = sym y.lowest ∙ h9

        pub unnumbered : greatest_serial ≤ k.last_serial → r ≡ record { accounts = k; answer = Err SerialsExhausted }
            → handle_outcome s r ≡ allocate t s k q n
        unnumbered h e =
            refused_10 t i s k q n ready r paid place recorded (omega (arith, h, checked_serial t s k q y.requested.checked)) e

        module _ (h10 : k.last_serial < greatest_serial) where
          pub unplaced : fit ≡ None → r ≡ record { accounts = k; answer = Err NoSpace } → handle_outcome s r ≡ allocate t s k q n
          unplaced h e = refused_11 t i s k q n ready r paid place recorded h10 (sym (room_for d) ∙ h) e

          pub made : Octets s → (m : Met) (b : ℕ) → fit ≡ Some (m, b) → (s' : List ℕ) → s' ≡ carve_in m b z (k.last_serial + 1) s
              → r ≡ result_of q z place b k → handle_outcome s' r ≡ allocate t s k q n
          made o m b f s' w e = granted t i s k q n ready r paid place recorded h10 m b (sym (room_for d) ∙ f) o s' z d.size w e
