-- The lines of allocate one after the other, each with the outcome where it refuses, and the outcome where none does.
-- A search that finds an unused record says that not all are used. The change of the first unused record is a change at its place, and paying
-- changes no record.
use Rattle.std.specs.Prelude.{Option, Some, None, Ok, Err}
use mathlib.Core.Path.{◌≡◌, ap, sym, ◌∙◌}
use Prim.Native.Nat.{ℕ, ◌+◌, ◌≤◌, ◌<◌}
use native.Mathlib.Omega.{arith}
use mathlib.Core.List.{List, [], ◌∷◌}
use mathlib.Core.Bool.{not}
use lib.ListN.{set}
use lib.Dec.{eqb, ltb}
use borrow.Author.Tests.{eq-eqb, ne_eqb, lt-ltb, le-ltb}
use Rattle.accounts.specs.declared.Hold.{Hold}
use Rattle.accounts.specs.declared.Accounts.{Accounts}
use Rattle.accounts.specs.Accounts.{used, unused, remaining, charge, with_holds, with_last_serial, put_hold, lowest_unused}
use Rattle.accounts.proofs.Laws.{charge_kept, charge_last}
use Rattle.layout.specs.Bytes.{Octets}
use Rattle.model.specs.Answers.{refusal_number, given, handle_values}
use Rattle.lists.specs.Lists.{all, is_none, or_else}
use Rattle.model.specs.Consistent.{charge_of, greatest_serial}
use Rattle.model.specs.Holds.{take_record}
use Rattle.model.specs.Refusals.{Line, first_refusal, line_8, line_9, line_10, line_11, base_for, allocate_lines, row_lines}
use Rattle.model.specs.Calls.{unless, leaves, state_of, allocated, new_object, allocate}
use Rattle.model.specs.declared.Handle.{Handle}
use Rattle.model.specs.declared.Refusal.{Refusal}
use Rattle.model.specs.declared.Refusal.TheVariants.{QuotaExceeded, HoldsExhausted, SerialsExhausted, NoSpace}
use Rattle.writer.specs.Writes.{carve_bytes}
use Rattle.writer.proofs.Guards.{room_test, carves}
use Rattle.rounding.specs.Rounding.{Units, object_length, alignment}
use Rattle.lookup.specs.declared.Met.{Met}
use Rattle.lookup.specs.Walk.{find_fit}
use Rattle.results.specs.Results.{HandleResult}
use Rattle.results.specs.Results.{outcome}
use Rattle.results.specs.Results.{handle_outcome}
use Rattle.writer.specs.Carving.{carve_in}
use Rattle.allocation.specs.Ready.{Ready}
use Rattle.results.proofs.Lines.{refused_is, accepted_is, line_refuses, line_passes}
use Rattle.results.proofs.Records.{found_some, found_change, nothing_some}
use Rattle.holding.proofs.Claims.{all_used}
use Rattle.allocation.proofs.Ready.{ready_passes}
use Rattle.allocation.proofs.Placed.{no_base, the_base, the_room, the_bytes}

-- the accounts after a new object, by the place of the record, and by the definition
abbrev pub booked_at : ℕ → ℕ → ℕ → ℕ → Accounts → Accounts
booked_at q n place serial k = charge q (n + 8) (put_hold place (record { serial = serial; quota = q; count = 1 }) (with_last_serial serial k))

pub booked_is : (q n place serial : ℕ) (k : Accounts) → lowest_unused k ≡ Some place
    → booked_at q n place serial k ≡ with_last_serial serial (with_holds (take_record serial q k.holds) (charge q (charge_of n) k))
unfolding put_hold lowest_unused take_record
booked_is q n place serial k e =
    let h : Hold = record { serial = serial; quota = q; count = 1 } in
    charge_last place h serial q k (n + 8)
    ∙ ap (λ (hs : List Hold). with_last_serial serial (with_holds hs (charge q (n + 8) k)))
    (ap (λ (hs : List Hold). set hs place h) (charge_kept q (n + 8) k).same_holds ∙ sym (found_change unused k.holds place e (λ _. h)))

-- the result of a call that is accepted
abbrev pub result_of : ℕ → ℕ → ℕ → ℕ → Accounts → HandleResult
result_of q n place b k = record {
  accounts = booked_at q n place (k.last_serial + 1) k;
  answer = Ok (record { base = b; length = n; serial = k.last_serial + 1 });
}

-- the new object, by its base
abbrev object_at : (ℕ → ℕ) → List ℕ → Accounts → ℕ → Option ℕ → Handle
object_at unit s k n o = record { base = or_else 0 o; length = object_length unit n; serial = k.last_serial + 1 }

module _ (unit : ℕ → ℕ) (s : List ℕ) (k : Accounts) (q n : ℕ) where
  abbrev pub from_11 : List Line
  from_11 = line_11 unit s n ∷ []

  abbrev pub from_10 : List Line
  from_10 = line_10 k ∷ from_11

  abbrev pub from_9 : List Line
  from_9 = line_9 k ∷ from_10

  abbrev pub from_8 : List Line
  from_8 = line_8 k q (object_length unit n) ∷ from_9

  abbrev pub number : ℕ
  number = first_refusal (allocate_lines unit s k q n)

  -- a refused call's outcome
  pub refused_by : (r : HandleResult) (f : Refusal) → r ≡ record { accounts = k; answer = Err f } → number ≡ refusal_number f
      → handle_outcome s r ≡ allocate unit s k q n
  unfolding allocate handle_values
  refused_by r f e g =
      ap (handle_outcome s) e
      ∙ refused_is number s k (leaves (allocated q (new_object unit s k n) (state_of s k)) (given (new_object unit s k n))) f g

-- the others, of a request that is ready
module _ (unit : ℕ → ℕ) (units : Units unit) (s : List ℕ) (k : Accounts) (q n : ℕ) (y : Ready unit s k q n) (r : HandleResult) where
  to_8 : number unit s k q n ≡ first_refusal (from_8 unit s k q n)
  unfolding row_lines
  to_8 = ready_passes unit s k q n (from_8 unit s k q n) y

  pub refused_8 : remaining q k < object_length unit n + 8 → r ≡ record { accounts = k; answer = Err QuotaExceeded }
      → handle_outcome s r ≡ allocate unit s k q n
  unfolding line_8
  refused_8 h e =
      refused_by unit s k q n r QuotaExceeded e
      (to_8 ∙ line_refuses 8 (ltb (remaining q k) (object_length unit n + 8)) (from_9 unit s k q n) (lt-ltb (remaining q k) (object_length unit n + 8) h))

  module _ (h8 : object_length unit n + 8 ≤ remaining q k) where
    to_9 : number unit s k q n ≡ first_refusal (from_9 unit s k q n)
    unfolding line_8
    to_9 = to_8 ∙ line_passes 8 (ltb (remaining q k) (object_length unit n + 8)) (from_9 unit s k q n) (le-ltb (remaining q k) (object_length unit n + 8) h8)

    pub refused_9 : lowest_unused k ≡ None → r ≡ record { accounts = k; answer = Err HoldsExhausted } → handle_outcome s r ≡ allocate unit s k q n
    unfolding line_9 lowest_unused
    refused_9 h e =
        refused_by unit s k q n r HoldsExhausted e
        (to_9 ∙ line_refuses 9 (all used k.holds) (from_10 unit s k q n) (all_used k.holds ∙ ap not (nothing_some unused k.holds 0 h)))

    module _ (place : ℕ) (h9 : lowest_unused k ≡ Some place) where
      to_10 : number unit s k q n ≡ first_refusal (from_10 unit s k q n)
      unfolding line_9 lowest_unused
      to_10 = to_9 ∙ line_passes 9 (all used k.holds) (from_10 unit s k q n) (all_used k.holds ∙ ap not (found_some unused k.holds place h9))

      pub refused_10 : k.last_serial ≡ greatest_serial → r ≡ record { accounts = k; answer = Err SerialsExhausted }
          → handle_outcome s r ≡ allocate unit s k q n
      unfolding line_10
      refused_10 h e =
          refused_by unit s k q n r SerialsExhausted e
          (to_10 ∙ line_refuses 10 (eqb k.last_serial greatest_serial) (from_11 unit s k q n) (eq-eqb k.last_serial greatest_serial h))

      module _ (h10 : k.last_serial < greatest_serial) where
        to_11 : number unit s k q n ≡ first_refusal (from_11 unit s k q n)
        unfolding line_10
        to_11 =
            to_10 ∙ line_passes 10 (eqb k.last_serial greatest_serial) (from_11 unit s k q n)
            (ne_eqb k.last_serial greatest_serial (λ e. omega arith))

        pub refused_11 : find_fit (alignment unit n) (object_length unit n) s ≡ None → r ≡ record { accounts = k; answer = Err NoSpace }
            → handle_outcome s r ≡ allocate unit s k q n
        unfolding line_11 is_none
        refused_11 h e =
            refused_by unit s k q n r NoSpace e
            (to_11 ∙ line_refuses 11 (is_none (base_for unit s n)) [] (rw (no_base unit units s k n y.checked.accounted h)))

        module _ (m : Met) (b : ℕ) (fit : find_fit (alignment unit n) (object_length unit n) s ≡ Some (m, b)) where
          to_end : number unit s k q n ≡ 0
          unfolding line_11 is_none first_refusal
          to_end = to_11 ∙ line_passes 11 (is_none (base_for unit s n)) [] (rw (the_base unit units s k n y.checked.accounted m b fit))

          granted_whole : Octets s → (t : List ℕ)
              → t ≡ carve_bytes m.at (m.at + m.size) b (object_length unit n) m.back (k.last_serial + 1) s
              → r ≡ result_of q (object_length unit n) place b k → handle_outcome t r ≡ allocate unit s k q n
          unfolding allocate handle_values allocated new_object or_else
          granted_whole o t w e =
              let ok = y.checked.accounted in
              let serial = k.last_serial + 1 in
              let h : Handle = record { base = b; length = object_length unit n; serial = serial } in
              let x = the_base unit units s k n ok m b fit in
              let u = w ∙ the_bytes unit units s k n ok m b fit o serial in
              let z = booked_is q (object_length unit n) place serial k h9 in
              ap (handle_outcome t) e
              ∙ (λ i. outcome (u i) (z i) (given h))
              ∙ accepted_is (number unit s k q n) s k (leaves (allocated q h (state_of s k)) (given h)) to_end
              ∙ ap (λ (o : Option ℕ). unless (number unit s k q n) s k
              (leaves (allocated q (object_at unit s k n o) (state_of s k)) (given (object_at unit s k n o)))) (sym x)

          pub granted : Octets s → (t : List ℕ) (z : ℕ) → z ≡ object_length unit n → t ≡ carve_in m b z (k.last_serial + 1) s
              → r ≡ result_of q z place b k → handle_outcome t r ≡ allocate unit s k q n
          granted o t z ez w e =
              let serial = k.last_serial + 1 in
              let room = room_test m b (object_length unit n) (the_room unit units s k n y.checked.accounted m b fit y.checked.extent) in
              granted_whole o t (w ∙ ap (λ (l : ℕ). carve_in m b l serial s) ez ∙ sym (carves m b (object_length unit n) serial s room))
              (e ∙ ap (λ (l : ℕ). result_of q l place b k) ez)
