-- The tests of `accounted_blocks` (rules 5.3 to 5.8) about objects, records and what the quotas owe, and how they go on from one object to the
-- others: they hold of a first object and the others exactly if its serial is given and held, the quotas can pay for it, and they hold of the others once
-- its records are struck and it is paid for. With no object left, they hold exactly if no record is used and nothing is owed.
use Rattle.std.specs.Prelude.{Some}
use Prim.Native.Nat.{ℕ, ◌+◌, ◌<◌, ◌≤◌}
use mathlib.Core.Path.{◌≡◌, refl, sym, ◌∙◌}
use mathlib.Core.Bool.{true, false, not, cond, ◌&&◌, false≢true}
use mathlib.Core.List.{List, [], ◌∷◌}
use mathlib.Core.Logic.{◌↔◌}
use native.Mathlib.Omega.{arith}
use borrow.Author.Tests.{eq-eqb, eqb-true, le-leb, leb-true, not-true}
use lib.Dec.{eqb, leb}
use lib.ListN.{length, get_or, get_or-replicate, length-replicate}
use Rattle.accounts.specs.declared.Hold.{Hold}
use Rattle.accounts.specs.Accounts.{QUOTAS, used}
use Rattle.model.specs.declared.Handle.{Handle}
use Rattle.lists.specs.Lists.{all, any, total}
use Rattle.model.specs.Consistent.{has_serial, serials_differ, serials_given, record_valid, records_differ, held, charge_of, has_record, charged_for, charges}
use Rattle.lists.proofs.Bools.{and_left, and_right, and_both, by_test}
use Rattle.audit.specs.Keys.{well_formed, key_of, keys_of, Payment, pay, unpaid}
use Rattle.audit.specs.Audit.{all_zero}
use Rattle.audit.proofs.Tables.{all_at, all_places}
use Rattle.audit.proofs.Records.{key_used}
use Rattle.audit.proofs.Struck.{strike_holds, once_for, valid_struck, unique_struck, alone, recorded_kept, charges_kept}
use Rattle.audit.proofs.Payments.{Settles, pay_settles, can_settle}

-- what is said of the objects, of the records that are not struck, and of what each quota still owes
pub record Agrees (last : ℕ) (os : List Handle) (hs : List Hold) (owed : List ℕ) : Type 0 where
  pub differ : serials_differ os ≡ true
  pub given : serials_given last os ≡ true
  pub valid : all (record_valid os) hs ≡ true
  pub unique : records_differ hs ≡ true
  pub recorded : all (λ o. held hs o.serial) os ≡ true
  pub sums : (q : ℕ) → q < QUOTAS → get_or owed q 0 ≡ charges hs q os

-- one object
module _ (last : ℕ) (o : Handle) (os : List Handle) (hs : List Hold) (owed : List ℕ) (well : all well_formed hs ≡ true)
    (long : length owed ≡ QUOTAS) (live : o.serial ≡ 0 → ⊥) where
  -- the object is paid for, and the tests hold of the others then
  pub record First : Type 0 where
    pub given : o.serial ≤ last
    pub recorded : held hs o.serial ≡ true
    pub payment : Payment
    pub paid : pay o.serial (charge_of o.length) (keys_of hs) (Some (unpaid owed)) ≡ Some payment
    pub rest : Agrees last os (strike_holds o.serial hs) payment.owed

  pub settles : (p : Payment) → pay o.serial (charge_of o.length) (keys_of hs) (Some (unpaid owed)) ≡ Some p
      → Settles o.serial (charge_of o.length) hs (unpaid owed) p
  settles p e = pay_settles o.serial (charge_of o.length) live hs well (unpaid owed) p (length-replicate {A = ℕ} QUOTAS 0, long) e

  charges_more : (q : ℕ) → charges hs q (o ∷ os) ≡ cond (has_record hs q o.serial) (charge_of o.length) 0 + charges hs q os
  unfolding charges charged_for total
  charges_more q = refl

  pub first_agrees : First → Agrees last (o ∷ os) hs owed
  unfolding serials_differ serials_given all
  first_agrees f =
      let g = settles f.payment f.paid in
      let only = alone o.serial os hs f.rest.recorded in
      record {
        differ = rw only f.rest.differ;
        given = rw (le-leb o.serial last f.given) f.rest.given;
        valid = valid_struck o.serial o refl os hs well ∙ f.rest.valid;
        unique = unique_struck o.serial hs ∙ and_both _ _ g.once f.rest.unique;
        recorded = rw f.recorded (sym (recorded_kept o.serial os hs only) ∙ f.rest.recorded);
        sums = λ q l.
            (let a = g.sum q l in let b = f.rest.sums q l in let c = charges_kept o.serial os hs q only in let d = charges_more q in omega arith);
      }

  pub agrees_first : Agrees last (o ∷ os) hs owed → First
  unfolding serials_differ serials_given all
  agrees_first a =
      let only : any (has_serial o.serial) os ≡ false = not-true _ (and_left (not (any (has_serial o.serial) os)) (serials_differ os) a.differ) in
      let both : (once_for o.serial hs && records_differ (strike_holds o.serial hs)) ≡ true = sym (unique_struck o.serial hs) ∙ a.unique in
      let r =
      can_settle o.serial (charge_of o.length) live hs well (unpaid owed)
      (and_left (once_for o.serial hs) (records_differ (strike_holds o.serial hs)) both)
      (λ q l t. (get_or-replicate QUOTAS q 0 0 l, (let e = rw (charges_more q, t) at (a.sums q l) in omega arith))) in
      let g = settles r.0 r.1 in
      record {
        given = leb-true o.serial last (and_left (leb o.serial last) (serials_given last os) a.given);
        recorded = and_left (held hs o.serial) (all (λ o. held hs o.serial) os) a.recorded;
        payment = r.0;
        paid = r.1;
        rest = record {
          differ = and_right (not (any (has_serial o.serial) os)) (serials_differ os) a.differ;
          given = and_right (leb o.serial last) (serials_given last os) a.given;
          valid = sym (valid_struck o.serial o refl os hs well) ∙ a.valid;
          unique = and_right (once_for o.serial hs) (records_differ (strike_holds o.serial hs)) both;
          recorded = recorded_kept o.serial os hs only ∙ and_right (held hs o.serial) (all (λ o. held hs o.serial) os) a.recorded;
          sums = λ q l. (let x = g.sum q l in let y = a.sums q l in let z = charges_more q in let c = charges_kept o.serial os hs q only in omega arith);
        };
      }

-- no object
none_valid : (hs : List Hold) → all well_formed hs ≡ true → all_zero (keys_of hs) ≡ true → (all (record_valid []) hs ≡ true) × (records_differ hs ≡ true)
unfolding all record_valid records_differ
none_valid [] w e = (refl, refl)
none_valid (h ∷ hs) w e =
    let v = and_left (well_formed h) (all well_formed hs) w in
    let u : used h ≡ false = not-true (used h) (sym (key_used h v) ∙ and_left (eqb (key_of h) 0) (all_zero (keys_of hs)) e) in
    let r = none_valid hs (and_right (well_formed h) (all well_formed hs) w) (and_right (eqb (key_of h) 0) (all_zero (keys_of hs)) e) in
    (rw u r.0, rw u r.1)

valid_none : (hs : List Hold) → all well_formed hs ≡ true → all (record_valid []) hs ≡ true → all_zero (keys_of hs) ≡ true
unfolding all any record_valid
valid_none [] w e = refl
valid_none (h ∷ hs) w e =
    let v = and_left (well_formed h) (all well_formed hs) w in
    by_test (used h)
    (λ u. absurd (false≢true (rw u at e)))
    (λ u. rw (key_used h v, u) (valid_none hs (and_right (well_formed h) (all well_formed hs) w) (rw u at e)))

pub agrees_none : (last : ℕ) (hs : List Hold) (owed : List ℕ) → all well_formed hs ≡ true → length owed ≡ QUOTAS
    → ((all_zero (keys_of hs) && all_zero owed) ≡ true) ↔ Agrees last [] hs owed
unfolding serials_differ serials_given all charges total
agrees_none last hs owed well long = (
  λ e.
      let r = none_valid hs well (and_left (all_zero (keys_of hs)) (all_zero owed) e) in
      record {
        differ = refl;
        given = refl;
        valid = r.0;
        unique = r.1;
        recorded = refl;
        sums = λ q l. eqb-true (get_or owed q 0) 0 (all_at (λ n. eqb n 0) 0 owed (and_right (all_zero (keys_of hs)) (all_zero owed) e) q (omega arith));
      },
  λ a.
      and_both (all_zero (keys_of hs)) (all_zero owed) (valid_none hs well a.valid)
      (all_places (λ n. eqb n 0) 0 owed (λ q l. eq-eqb (get_or owed q 0) 0 (a.sums q (omega arith)))),
)
