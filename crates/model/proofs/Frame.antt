-- What no rule names stays: no call changes a grant, another quota, or a record that it is not about, and only a new object counts the last serial up.
-- The accounts are changed by `charge`, `refund` and the changes of records alone, and each of these keeps all but one quota or one record.
use mathlib.Core.Path.{◌≡◌, refl, ap, sym, ◌∙◌}
use Prim.Native.Nat.{ℕ, zero, suc, ◌+◌, ◌<◌, suc-le-suc}
use native.Mathlib.Nat.{not-suc-le-zero, le_of_suc-le-suc}
use native.Mathlib.Omega.{arith}
use mathlib.Core.List.{List, [], ◌∷◌, map}
use mathlib.Core.Bool.{Bool, true, false, not, cond, ◌&&◌, false≢true}
use mathlib.Core.Logic.{◌↔◌}
use lib.ListN.{length, get_or, get_or-map, length-map}
use lib.Dec.{eqb}
use borrow.Author.Tests.{not-true, eqb-false}
use Rattle.accounts.specs.declared.Quota.{Quota}
use Rattle.accounts.specs.declared.Hold.{Hold}
use Rattle.accounts.specs.declared.Accounts.{Accounts}
use Rattle.accounts.specs.Accounts.{zero_quota, zero_hold, charge, refund, clear_permissions, with_holds, used, unused, is_for, drop_records}
use Rattle.accounts.proofs.Laws.{Kept as KeptBut, charge_kept, refund_kept, clear_kept}
use Rattle.lists.specs.Lists.{change_first}
use Rattle.model.specs.Holds.{with_count, take_record, raise_count, less_one, lower_count}
use Rattle.model.specs.Refusals.{claims_first}
use Rattle.model.specs.Consistent.{charge_of}
use Rattle.model.specs.Calls.{State, allocated, claimed, given_back, released, freed, copied}
use Rattle.model.specs.declared.Handle.{Handle}
use Rattle.model.proofs.Rows
use Rattle.lists.proofs.Bools.{and_left, and_right, and_both, and_no}

-- from k to k' every grant stays, every quota but those that pay, each record at a place that passes a test, how many quotas and records there are, and the
-- heap's kind and edition
pub record Kept (pays p : ℕ → Bool) (k k' : Accounts) : Type 0 where
  pub grants : map (λ (x : Quota). x.grant) k'.quotas ≡ map (λ (x : Quota). x.grant) k.quotas
  pub others : (j : ℕ) → pays j ≡ false → get_or k'.quotas j zero_quota ≡ get_or k.quotas j zero_quota
  pub records : (i : ℕ) → p i ≡ true → get_or k'.holds i zero_hold ≡ get_or k.holds i zero_hold
  pub places : length k'.holds ≡ length k.holds
  pub same_kind : k'.kind ≡ k.kind
  pub same_edition : k'.edition ≡ k.edition

-- the quotas are as many as their grants
pub kept_quotas : {pays p : ℕ → Bool} {k k' : Accounts} → Kept pays p k k' → length k'.quotas ≡ length k.quotas
kept_quotas {pays} {p} {k} {k'} a =
    sym (length-map k'.quotas (λ (x : Quota). x.grant)) ∙ ap length a.grants ∙ length-map k.quotas (λ (x : Quota). x.grant)

pub kept_same : (pays p : ℕ → Bool) (k : Accounts) → Kept pays p k k
kept_same pays p k = record { grants = refl; others = λ j e. refl; records = λ i e. refl; places = refl; same_kind = refl; same_edition = refl }

pub kept_then : (pays p : ℕ → Bool) (k l m : Accounts) → Kept pays p k l → Kept pays p l m → Kept pays p k m
kept_then pays p k l m a b =
    record {
      grants = b.grants ∙ a.grants;
      others = λ j e. b.others j e ∙ a.others j e;
      records = λ i e. b.records i e ∙ a.records i e;
      places = b.places ∙ a.places;
      same_kind = b.same_kind ∙ a.same_kind;
      same_edition = b.same_edition ∙ a.same_edition;
    }

-- a narrower test keeps as much
pub kept_narrow : (pays p r : ℕ → Bool) (k l : Accounts) → ((i : ℕ) → r i ≡ true → p i ≡ true) → Kept pays p k l → Kept pays r k l
kept_narrow pays p r k l f a =
    record {
      grants = a.grants;
      others = a.others;
      records = λ i e. a.records i (f i e);
      places = a.places;
      same_kind = a.same_kind;
      same_edition = a.same_edition;
    }

-- a change of one quota that keeps its grant
quota_keeps : (q : ℕ) (p : ℕ → Bool) (k l : Accounts) → KeptBut q k l → Kept (eqb q) p k l
quota_keeps q p k l e =
    record {
      grants = e.same_grants;
      others = λ j n. e.same_others j (λ x. eqb-false q j n (sym x));
      records = λ i n. ap (λ (hs : List Hold). get_or hs i zero_hold) e.same_holds;
      places = ap length e.same_holds;
      same_kind = e.same_kind;
      same_edition = e.same_edition;
    }

module _ (q : ℕ) (p : ℕ → Bool) (k : Accounts) (n : ℕ) where
  pub charge_keeps : Kept (eqb q) p k (charge q n k)
  charge_keeps = quota_keeps q p k (charge q n k) (charge_kept q n k)

  pub refund_keeps : Kept (eqb q) p k (refund q n k)
  refund_keeps = quota_keeps q p k (refund q n k) (refund_kept q n k)

  pub clear_keeps : Kept (eqb q) p k (clear_permissions q n k)
  clear_keeps = quota_keeps q p k (clear_permissions q n k) (clear_kept q n k)

-- a place is the first whose record passes a test
unfoldable pub first_at : (Hold → Bool) → List Hold → ℕ → Bool
first_at p [] i = false
first_at p (h ∷ hs) zero = p h
first_at p (h ∷ hs) (suc i) = not (p h) && first_at p hs i

pub first_at_exactly : (p : Hold → Bool) (hs : List Hold) (i : ℕ)
    → (first_at p hs i ≡ true) ↔ ((i < length hs) × (p (get_or hs i zero_hold) ≡ true) × ((j : ℕ) → j < i → p (get_or hs j zero_hold) ≡ false))
unfolding first_at
first_at_exactly p [] i = (λ e. absurd (false≢true e), λ r. absurd (not-suc-le-zero r.0))
first_at_exactly p (h ∷ hs) zero = (λ e. (omega arith, e, λ j l. absurd (not-suc-le-zero l)), λ r. r.1)
first_at_exactly p (h ∷ hs) (suc i) =
    let ih = first_at_exactly p hs i in (
      λ e.
          (let r = ih.0 (and_right (not (p h)) _ e) in (
            suc-le-suc r.0,
            r.1,
            elim [ zero ↦ λ l. not-true (p h) (and_left (not (p h)) _ e) | suc j ↦ λ l. r.2 j (le_of_suc-le-suc l) ],
          )),
      λ r. and_both (not (p h)) _ (rw (r.2 0 (omega arith))) (ih.1 (le_of_suc-le-suc r.0, r.1, λ j l. r.2 (suc j) (suc-le-suc l))),
    )

-- any other place
abbrev pub other_place : (Hold → Bool) → List Hold → ℕ → Bool
other_place p hs i = not (first_at p hs i)

-- a change of the first record that passes a test keeps how many there are, and the record at every other place
change_length : (p : Hold → Bool) (f : Hold → Hold) (hs : List Hold) → length (change_first p f hs) ≡ length hs
unfolding change_first
change_length p f [] = refl
change_length p f (h ∷ hs) = go (p h) (change_length p f hs)
  where
    go : (t : Bool) → length (change_first p f hs) ≡ length hs → length (cond t (f h ∷ hs) (h ∷ change_first p f hs)) ≡ suc (length hs)
    go true e = refl
    go false e = ap suc e

change_other : (p : Hold → Bool) (f : Hold → Hold) (hs : List Hold) (i : ℕ) → other_place p hs i ≡ true
    → get_or (change_first p f hs) i zero_hold ≡ get_or hs i zero_hold
unfolding change_first first_at
change_other p f [] i e = refl
change_other p f (h ∷ hs) zero e = rw (not-true (p h) e)
change_other p f (h ∷ hs) (suc i) e = go (p h) e (change_other p f hs i)
  where
    go : (t : Bool) → not (not t && first_at p hs i) ≡ true → (other_place p hs i ≡ true → get_or (change_first p f hs) i zero_hold
        ≡ get_or hs i zero_hold)
        → get_or (cond t (f h ∷ hs) (h ∷ change_first p f hs)) (suc i) zero_hold ≡ get_or hs i zero_hold
    go true e g = refl
    go false e g = g e

-- the first place where a test passes after such a change is one of the two first places before it
other_after : (u p : Hold → Bool) (f : Hold → Hold) (hs : List Hold) (i : ℕ) → ((h : Hold) → u h ≡ true → p h ≡ false) → other_place u hs i ≡ true
    → other_place p hs i ≡ true → other_place p (change_first u f hs) i ≡ true
unfolding change_first first_at
other_after u p f [] i apart a b = refl
other_after u p f (h ∷ hs) zero apart a b = rw (not-true (u h) a) b
other_after u p f (h ∷ hs) (suc i) apart a b = go (u h) (p h) refl (apart h) a b (other_after u p f hs i apart)
  where
    go : (x y : Bool) → p h ≡ y → (x ≡ true → y ≡ false) → not (not x && first_at u hs i) ≡ true → not (not y && first_at p hs i) ≡ true
        → (other_place u hs i ≡ true → other_place p hs i ≡ true → other_place p (change_first u f hs) i ≡ true)
        → other_place p (cond x (f h ∷ hs) (h ∷ change_first u f hs)) (suc i) ≡ true
    go true y e z a b g = rw (and_no (not (p (f h))) (first_at p hs i) (not-true (first_at p hs i) (rw (z refl) at b)))
    go false true e z a b g = rw e
    go false false e z a b g = rw e (g a b)

module _ (q : ℕ) (p : Hold → Bool) (f : Hold → Hold) (k : Accounts) where
  change_keeps : Kept (eqb q) (other_place p k.holds) k (with_holds (change_first p f k.holds) k)
  change_keeps =
      record {
        grants = refl;
        others = λ j e. refl;
        records = λ i e. change_other p f k.holds i e;
        places = change_length p f k.holds;
        same_kind = refl;
        same_edition = refl;
      }

-- an unused record is for no serial and quota
unused_apart : (serial q : ℕ) (h : Hold) → unused h ≡ true → is_for serial q h ≡ false
unfolding unused is_for
unused_apart serial q h e = rw (not-true (used h) e)

-- the places of the records that a call is not about: every place but that of the lowest unused record, every place but that of the quota's record for
-- an object, and every place without a used record of the quota
abbrev pub beside_unused : List Hold → ℕ → Bool
beside_unused hs = other_place unused hs

abbrev pub other_record : ℕ → ℕ → List Hold → ℕ → Bool
other_record serial q hs = other_place (is_for serial q) hs

abbrev pub other_quota : ℕ → List Hold → ℕ → Bool
other_quota q hs i = not (used (get_or hs i zero_hold) && eqb (get_or hs i zero_hold).quota q)

module _ (serial q : ℕ) (k : Accounts) where
  pub take_keeps : Kept (eqb q) (beside_unused k.holds) k (with_holds (take_record serial q k.holds) k)
  unfolding take_record
  take_keeps = change_keeps q unused (λ h. record { serial = serial; quota = q; count = 1 }) k

  pub raise_keeps : Kept (eqb q) (other_record serial q k.holds) k (with_holds (raise_count serial q k.holds) k)
  unfolding raise_count
  raise_keeps = change_keeps q (is_for serial q) (λ h. with_count (h.count + 1) h) k

  pub lower_keeps : Kept (eqb q) (other_record serial q k.holds) k (with_holds (lower_count serial q k.holds) k)
  unfolding lower_count
  lower_keeps = change_keeps q (is_for serial q) less_one k

dropped : ℕ → Hold → Hold
dropped q h = cond (used h && eqb h.quota q) zero_hold h

dropped_zero : (q : ℕ) → dropped q zero_hold ≡ zero_hold
unfolding dropped used
dropped_zero q = refl

dropped_other : (q : ℕ) (h : Hold) → not (used h && eqb h.quota q) ≡ true → dropped q h ≡ h
unfolding dropped
dropped_other q h e = rw (not-true (used h && eqb h.quota q) e)

pub drop_keeps : (q : ℕ) (k : Accounts) → Kept (eqb q) (other_quota q k.holds) k (with_holds (drop_records q k.holds) k)
unfolding drop_records dropped
drop_keeps q k =
    record {
      grants = refl;
      others = λ j e. refl;
      records =
          λ i e.
          rw (dropped_zero q) at (get_or-map (dropped q) k.holds i zero_hold) ∙ dropped_other q (get_or k.holds i zero_hold) e;
      places = length-map k.holds (dropped q);
      same_kind = refl;
      same_edition = refl;
    }

-- a change of records beside a payment
pub kept_beside : (pays p : ℕ → Bool) (k k₁ : Accounts) (hs : List Hold) → Kept pays p k k₁ → Kept pays p k (with_holds hs k)
    → Kept pays p k (with_holds hs k₁)
kept_beside pays p k k₁ hs a b =
    record {
      grants = a.grants;
      others = a.others;
      records = b.records;
      places = b.places;
      same_kind = a.same_kind;
      same_edition = a.same_edition;
    }

module _ (q : ℕ) (o : Handle) where
  -- a new record is taken and its charge is paid
  paid_keeps : (k : Accounts)
      → Kept (eqb q) (beside_unused k.holds) k (with_holds (take_record o.serial q k.holds) (charge q (charge_of o.length) k))
  paid_keeps k =
      kept_beside (eqb q) (beside_unused k.holds) k (charge q (charge_of o.length) k) (take_record o.serial q k.holds)
      (charge_keeps q (beside_unused k.holds) k (charge_of o.length)) (take_keeps o.serial q k)

  pub allocated_keeps : (t : State) → Kept (eqb q) (beside_unused t.accounts.holds) t.accounts (allocated q o t).accounts
  unfolding allocated
  allocated_keeps t =
      let a = paid_keeps t.accounts in
      record {
        grants = a.grants;
        others = a.others;
        records = a.records;
        places = a.places;
        same_kind = a.same_kind;
        same_edition = a.same_edition;
      }

  -- the record that a claim is about: a new one where the quota has none for the object
  abbrev pub beside_claim : Accounts → ℕ → Bool
  beside_claim k i = cond (claims_first k q o) (beside_unused k.holds i) (other_record o.serial q k.holds i)

  pub claimed_keeps : (k : Accounts) → Kept (eqb q) (beside_claim k) k (claimed q o k)
  unfolding claimed
  claimed_keeps k = go (claims_first k q o)
    where
      go : (t : Bool)
          → Kept (eqb q) (λ i. cond t (beside_unused k.holds i) (other_record o.serial q k.holds i)) k
          (cond t (with_holds (take_record o.serial q k.holds) (charge q (charge_of o.length) k))
          (with_holds (raise_count o.serial q k.holds) k))
      go true = paid_keeps k
      go false = raise_keeps o.serial q k

  pub released_keeps : (t : State) → Kept (eqb q) (other_record o.serial q t.accounts.holds) t.accounts (released q o t).accounts
  unfolding released
  released_keeps t =
      let k = t.accounts in
      let p = other_record o.serial q k.holds in
      kept_beside (eqb q) p k (refund q (given_back q o k) k) (lower_count o.serial q k.holds) (refund_keeps q p k (given_back q o k))
      (lower_keeps o.serial q k)

-- allocated for another object, then released for this one: the lowest unused record and the quota's record for this one
abbrev pub beside_both : ℕ → Handle → Accounts → ℕ → Bool
beside_both q old k i = beside_unused k.holds i && other_record old.serial q k.holds i

pub reallocated_keeps : (q : ℕ) (old new : Handle) (t : State)
    → Kept (eqb q) (beside_both q old t.accounts) t.accounts (released q old (copied old new (allocated q new t))).accounts
unfolding copied allocated take_record
reallocated_keeps q old new t =
    let k = t.accounts in
    let u = allocated q new t in
    let p = beside_both q old k in
    kept_then (eqb q) p k u.accounts _
    (kept_narrow (eqb q) (beside_unused k.holds) p k u.accounts (λ i e. and_left (beside_unused k.holds i) _ e) (allocated_keeps q new t))
    (kept_narrow (eqb q) (other_record old.serial q u.accounts.holds) p u.accounts _
    (λ i e. other_after unused (is_for old.serial q) _ k.holds i (unused_apart old.serial q) (and_left (beside_unused k.holds i) _ e)
    (and_right (beside_unused k.holds i) _ e))
    (released_keeps q old (copied old new u)))

pub freed_keeps : (q back : ℕ) (t : State) → Kept (eqb q) (other_quota q t.accounts.holds) t.accounts (freed q back t).accounts
unfolding freed
freed_keeps q back t =
    let k = t.accounts in
    let p = other_quota q k.holds in
    kept_beside (eqb q) p k (refund q back k) (drop_records q k.holds) (refund_keeps q p k back) (drop_keeps q k)
