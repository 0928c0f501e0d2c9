-- The audit passes exactly if heap and accounts account for each other (rules 5.1 to 5.8): `audit_is_accounted`.
-- By induction on the blocks, the audit from a state on passes exactly if the blocks are well cut behind the block before and the tests of
-- objects, records and debts hold of what is left (`audit_exactly`): a free block changes nothing but what the next one stands behind; a live block
-- is the first object of `Agreement`. At the start the keys are all records' and a quota owes grant less remainder, so these tests are
-- `accounted_blocks`, together with what the tables alone must be: well-formed records, and no remainder above its grant.
use Rattle.std.specs.Prelude.{Option, Some, None}
use Prim.Native.Nat.{ℕ, ◌+◌}
use mathlib.Core.Path.{◌≡◌, refl, ap, sym, ◌∙◌}
use mathlib.Core.Bool.{Bool, true, false, not, cond, ◌&&◌, true≢false, false≢true}
use mathlib.Core.List.{List, [], ◌∷◌, map}
use mathlib.Core.Logic.{◌↔◌}
use native.Mathlib.Omega.{arith}
use borrow.Author.Tests.{le-leb, leb-true}
use lib.Dec.{leb, ltb}
use lib.ListN.{length, get_or, length-map, get_or-map}
use Rattle.accounts.specs.declared.Quota.{Quota}
use Rattle.accounts.specs.declared.Hold.{Hold}
use Rattle.accounts.specs.declared.Accounts.{Accounts}
use Rattle.accounts.specs.Accounts.{QUOTAS, zero_quota, used}
use Rattle.layout.specs.Blocks.{Block, size, QUARANTINED, parse}
use Rattle.model.specs.declared.Handle.{Handle}
use Rattle.lists.specs.Lists.{all, any}
use Rattle.model.specs.Objects.{object, objects_from, objects}
use Rattle.model.specs.Consistent.{has_serial, record_valid, charge_of, accounted_blocks, accounted_parsed, accounted}
use Rattle.lists.proofs.Bools.{and_left, and_right, and_both, and_no, implies, implied, by_eq, same_test}
use Rattle.lists.proofs.Lists.{all_member, member_all}
use Rattle.model.proofs.Consistent.{Tests, tests_exactly, balance_exactly}
use Rattle.audit.specs.Keys.{well_formed, keys_of, strike, Payment, pay, unpaid}
use Rattle.audit.specs.Audit.{owes, solvent, State, begin, visit, audit, audit_parsed, audited}
use Rattle.audit.proofs.Tables.{all_at, all_places}
use Rattle.audit.proofs.Struck.{strike_holds, strike_well, strike_keys, struck_held}
use Rattle.audit.proofs.Agreement.{Agrees, settles, first_agrees, agrees_first, agrees_none}
use Rattle.audit.proofs.Cutting.{cut_after, cut_whole, cut_none, cut_free, cut_live, objects_free, objects_quarantined, objects_live, objects_serial}
use Rattle.audit.proofs.Cutting.{audit_step, audit_none, audit_some, step_free, step_quarantined, Live, step_passes, passes_step}

-- what an audit that passes says
abbrev Passes : ℕ → List Block → ℕ → Bool → List Hold → List ℕ → Type 0
Passes last bs at free hs owed = (cut_after free bs ≡ true) × Agrees last (objects_from at bs) hs owed

abbrev from : Bool → List Hold → List ℕ → State
from free hs owed = record { free = free; keys = keys_of hs; owed = owed }

-- the other blocks say it
abbrev Says : ℕ → List Block → Type 0
Says last bs =
    (at : ℕ) (free : Bool) (hs : List Hold) (owed : List ℕ) → all well_formed hs ≡ true → length owed ≡ QUOTAS
    → (audit last bs (Some (from free hs owed)) ≡ true) ↔ Passes last bs at free hs owed

module _ (last : ℕ) (b : Block) (bs : List Block) (ih : Says last bs) (at : ℕ) (free : Bool) (hs : List Hold) (owed : List ℕ)
    (well : all well_formed hs ≡ true) (long : length owed ≡ QUOTAS) where
  -- a free block
  free_says : b.serial ≡ 0 → (audit last (b ∷ bs) (Some (from free hs owed)) ≡ true) ↔ Passes last (b ∷ bs) at free hs owed
  free_says z =
      rw (objects_free at b bs z, cut_free free b bs z, audit_step last b bs (from free hs owed), step_free last b.serial (size b) (from free hs owed) z)
      (go free (ih (at + size b) true hs owed well long))
    where
      go : (free : Bool) → (audit last bs (Some (from true hs owed)) ≡ true) ↔ Passes last bs (at + size b) true hs owed
          → (audit last bs (cond free None (Some (from true hs owed))) ≡ true) ↔
          (((not free && cut_after true bs) ≡ true) × Agrees last (objects_from (at + size b) bs) hs owed)
      go true f = (λ e. absurd (false≢true (sym (audit_none last bs) ∙ e)), λ r. absurd (false≢true r.0))
      go false f = f

  -- a quarantined block
  quarantined_says : (b.serial ≡ 0 → ⊥) → b.serial ≡ QUARANTINED → (audit last (b ∷ bs) (Some (from free hs owed)) ≡ true) ↔ Passes last
      (b ∷ bs) at free hs owed
  quarantined_says n z =
      rw (
        objects_quarantined at b bs z,
        cut_live free b bs n,
        audit_step last b bs (from free hs owed),
        step_quarantined last b.serial (size b)
            (from free hs owed) n z,
      )
      (go (leb 16 (size b)) (ih (at + size b) false hs owed well long))
    where
      go : (t : Bool) → (audit last bs (Some (from false hs owed)) ≡ true) ↔ Passes last bs (at + size b) false hs owed
          → (audit last bs (cond t (Some (from false hs owed)) None) ≡ true)
          ↔ (((t && cut_after false bs) ≡ true) × Agrees last (objects_from (at + size b) bs) hs owed)
      go true f = f
      go false f = (λ e. absurd (false≢true (sym (audit_none last bs) ∙ e)), λ r. absurd (false≢true r.0))

  -- a live block: its size is the charge for its object
  charge : size b ≡ charge_of (length b.body)
  charge = omega arith

  paid_for : (p : Payment) → (pay b.serial (size b) (keys_of hs) (Some (unpaid owed)) ≡ Some p)
      ↔ (pay b.serial (charge_of (length b.body)) (keys_of hs) (Some (unpaid owed)) ≡ Some p)
  paid_for p = rw charge (λ e. e, λ e. e)

  module _ (n : b.serial ≡ 0 → ⊥) (m : b.serial ≡ QUARANTINED → ⊥) where
    others : (p : Payment) → pay b.serial (size b) (keys_of hs) (Some (unpaid owed)) ≡ Some p
        → (audit last bs (Some (record { free = false; keys = strike b.serial (keys_of hs); owed = p.owed })) ≡ true) ↔ Passes last bs
        (at + size b) false (strike_holds b.serial hs) p.owed
    others p e =
        let g = settles last (object at b) (objects_from (at + size b) bs) hs owed well long n p ((paid_for p).0 e) in
        rw (strike_keys b.serial n hs well) (ih (at + size b) false (strike_holds b.serial hs) p.owed (strike_well b.serial hs well) g.long)

    there : audit last bs (visit last b.serial (size b) (from free hs owed)) ≡ true
        → ((leb 16 (size b) && cut_after false bs) ≡ true) × Agrees last (object at b ∷ objects_from (at + size b) bs) hs owed
    there e =
        let x = audit_some last bs (visit last b.serial (size b) (from free hs owed)) e in
        let y = passes_step last b.serial (size b) (from free hs owed) n m x.0 x.1 in
        let r = (others y.0 y.1.paid).0 (sym (ap (audit last bs) (x.1 ∙ y.2)) ∙ e) in (
          and_both _ _ y.1.long r.0,
          first_agrees last (object at b) (objects_from (at + size b) bs) hs owed well long n
              (record {
                given = leb-true b.serial last y.1.given;
                recorded = sym (struck_held b.serial n hs well) ∙ y.1.strikes;
                payment = y.0;
                paid = (paid_for y.0).0 y.1.paid;
                rest = r.1;
              }),
        )

    back : ((leb 16 (size b) && cut_after false bs) ≡ true) × Agrees last (object at b ∷ objects_from (at + size b) bs) hs owed
        → audit last bs (visit last b.serial (size b) (from free hs owed)) ≡ true
    back r =
        let f = agrees_first last (object at b) (objects_from (at + size b) bs) hs owed well long n r.1 in
        let e = (paid_for f.payment).1 f.paid in
        let l : Live last b.serial (size b) (from free hs owed) f.payment =
        record {
          long = and_left (leb 16 (size b)) (cut_after false bs) r.0;
          given = le-leb b.serial last f.given;
          strikes = struck_held b.serial n hs well ∙ f.recorded;
          paid = e;
        } in
        ap (audit last bs) (step_passes last b.serial (size b) (from free hs owed) n m f.payment l)
        ∙ (others f.payment e).1 (and_right (leb 16 (size b)) (cut_after false bs) r.0, f.rest)

    live_says : (audit last (b ∷ bs) (Some (from free hs owed)) ≡ true) ↔ Passes last (b ∷ bs) at free hs owed
    live_says = rw (objects_live at b bs n m, cut_live free b bs n, audit_step last b bs (from free hs owed)) (there, back)

pub audit_exactly : (last : ℕ) (bs : List Block) → Says last bs
unfolding audit objects_from
audit_exactly last [] at free hs owed well long = rw (cut_none free)
    (λ e. (refl, (agrees_none last hs owed well long).0 e), λ r. (agrees_none last hs owed well long).1 r.1)
audit_exactly last (b ∷ bs) at free hs owed well long =
    by_eq b.serial 0
    (λ z. free_says last b bs (audit_exactly last bs) at free hs owed well long z)
    (λ z.
    by_eq b.serial QUARANTINED
    (λ y. quarantined_says last b bs (audit_exactly last bs) at free hs owed well long z y)
    (λ y. live_says last b bs (audit_exactly last bs) at free hs owed well long z y))

-- a valid record is well-formed, since no object has the serial 0
valid_well : (os : List Handle) → any (has_serial 0) os ≡ false → (h : Hold) → record_valid os h ≡ true → well_formed h ≡ true
unfolding record_valid well_formed
valid_well os z h e =
    implied (used h) (leb 1 h.serial && (ltb h.quota QUOTAS && leb 1 h.count))
    (λ u.
    let v = implies (used h) (any (has_serial h.serial) os && (ltb h.quota QUOTAS && leb 1 h.count)) e u in
    and_both (leb 1 h.serial) (ltb h.quota QUOTAS && leb 1 h.count)
    (by_eq h.serial 0
    (λ q. absurd
    (true≢false
    (sym (and_left (any (has_serial h.serial) os) (ltb h.quota QUOTAS && leb 1 h.count) v) ∙ ap (λ (x : ℕ). any (has_serial x) os) q ∙ z)))
    (λ q. le-leb 1 h.serial (omega (arith, q))))
    (and_right (any (has_serial h.serial) os) (ltb h.quota QUOTAS && leb 1 h.count) v))

-- so where the tests pass, all records are
pub tests_well : (bs : List Block) (k : Accounts) → Tests bs k → all well_formed k.holds ≡ true
unfolding objects
tests_well bs k t =
    member_all well_formed k.holds
    (λ h m. valid_well (objects bs) (objects_serial 0 bs) h (all_member (record_valid (objects bs)) k.holds t.valid h m))

module _ (bs : List Block) (k : Accounts) (long : length k.quotas ≡ QUOTAS) where
  abbrev entry : ℕ → Quota
  entry q = get_or k.quotas q zero_quota

  owed_at : (q : ℕ) → get_or (map owes k.quotas) q 0 ≡ owes (entry q)
  owed_at q = get_or-map owes k.quotas q zero_quota

  says : all well_formed k.holds ≡ true
      → (audit k.last_serial bs (Some (begin (keys_of k.holds) (map owes k.quotas))) ≡ true) ↔ Passes k.last_serial bs 0 false
      k.holds (map owes k.quotas)
  says w = audit_exactly k.last_serial bs 0 false k.holds (map owes k.quotas) w (length-map k.quotas owes ∙ long)

  audited_tests : audited (Some bs) k ≡ true → Tests bs k
  unfolding audited audit_parsed objects
  audited_tests e =
      let w = and_left (all well_formed k.holds) _ e in
      let e₁ = and_right (all well_formed k.holds) _ e in
      let solid = and_left (all solvent k.quotas) _ e₁ in
      let r = (says w).0 (and_right (all solvent k.quotas) _ e₁) in
      record {
        cut = sym (cut_whole bs) ∙ r.0;
        differ = r.1.differ;
        given = r.1.given;
        valid = r.1.valid;
        unique = r.1.unique;
        recorded = r.1.recorded;
        balance = (balance_exactly (objects bs) k.holds k.quotas).1
            (λ q l. (let a = r.1.sums q (omega arith) in let b = owed_at q in
            let c = leb-true (entry q).remainder (entry q).grant (all_at solvent zero_quota k.quotas solid q l) in omega arith));
      }

  tests_audited : Tests bs k → audited (Some bs) k ≡ true
  unfolding audited audit_parsed objects
  tests_audited t =
      let balance = (balance_exactly (objects bs) k.holds k.quotas).0 t.balance in
      let w = tests_well bs k t in
      and_both _ _ w
      (and_both _ _ (all_places solvent zero_quota k.quotas (λ q l. le-leb (entry q).remainder (entry q).grant (let b = balance q l in omega arith)))
      ((says w).1 (
        cut_whole bs ∙ t.cut,
        record {
          differ = t.differ;
          given = t.given;
          valid = t.valid;
          unique = t.unique;
          recorded = t.recorded;
          sums = λ q l. (let a = balance q (omega arith) in let b = owed_at q in omega arith);
        },
      )))

  -- the audit of blocks is the definition's test
  pub audit_is_accounted : audited (Some bs) k ≡ accounted_blocks bs k
  audit_is_accounted =
      same_test (audited (Some bs) k) (accounted_blocks bs k)
      (λ e. (tests_exactly bs k).1 (audited_tests e))
      (λ e. tests_audited ((tests_exactly bs k).0 e))

-- and of a heap
parsed_is_accounted : (o : Option (List Block)) (k : Accounts) → length k.quotas ≡ QUOTAS → audited o k ≡ accounted_parsed o k
unfolding audited audit_parsed accounted_parsed
parsed_is_accounted None k long = and_no (all well_formed k.holds) _ (and_no (all solvent k.quotas) false refl)
parsed_is_accounted (Some bs) k long = audit_is_accounted bs k long

pub audited_is_accounted : (s : List ℕ) (k : Accounts) → length k.quotas ≡ QUOTAS → audited (parse s) k ≡ accounted s k
unfolding accounted
audited_is_accounted s k long = parsed_is_accounted (parse s) k long
