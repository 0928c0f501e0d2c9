-- A claim by the places of the records is that of rules 8.13 to 8.15: where the quota has a record for the object, its count decides and is raised at
-- its place; where it has none, its remainder and then the unused records decide, and the lowest unused place takes the new record.
use Rattle.model.specs.declared.Refusal.{Refusal}
use Rattle.std.specs.Prelude.{Option, Some, None, Result, Ok}
use Prim.Native.Nat.{ℕ, ◌+◌, ◌/◌, ◌%◌, ◌≤◌, ◌<◌}
use mathlib.Core.Path.{◌≡◌, refl, ap, sym, ◌∙◌}
use mathlib.Core.List.{List, [], ◌∷◌}
use mathlib.Core.Bool.{Bool, true, false, not, ◌&&◌, ◌||◌}
use lib.Dec.{ltb, eqb}
use borrow.Author.Tests.{lt-ltb, le-ltb, eq-eqb, ne_eqb}
use Rattle.accounts.specs.declared.Accounts.{Accounts}
use Rattle.accounts.specs.declared.Hold.{Hold}
use Rattle.accounts.specs.Accounts.{QUOTAS, CLAIM, quota_at, permits, zero_hold, with_holds, remaining, charge, used, unused, is_for, find_hold}
use Rattle.accounts.specs.Accounts.{lowest_unused, hold_at, put_hold}
use Rattle.accounts.proofs.Laws.{charge_kept}
use Rattle.lookup.specs.declared.Met.{Met}
use Rattle.lookup.specs.Walk.{object_met, find_object}
use Rattle.model.specs.Answers.{verdict_values, amount_values, amount_of}
use Rattle.lists.specs.Lists.{all, any, or_else}
use Rattle.model.specs.Objects.{lookup, found}
use Rattle.model.specs.Consistent.{charge_of}
use Rattle.model.specs.Holds.{with_count, count_of, take_record, raise_count}
use Rattle.model.specs.Refusals.{Line, ◌when◌, first_refusal, line_5, line_7, line_8, line_9, line_12, only_if, claims_first, claim_lines}
use Rattle.model.specs.Refusals.{greatest_count, row_lines}
use Rattle.model.specs.Calls.{Outcome, unless, unchanged, claimed, check, claim}
use Rattle.model.specs.declared.Handle.{Handle}
use Rattle.model.specs.declared.Refusal.TheVariants.{CountLimit, QuotaExceeded, HoldsExhausted}
use Rattle.lists.proofs.Lists.{first_none}
use Rattle.results.specs.Results.{amount_outcome}
use Rattle.holding.specs.Claims.{not_claimed, claimed_length, claim_again, claim_in, claim_first}
use Rattle.results.proofs.Lines.{refused_is, accepted_is, line_refuses, line_passes, line_12_refuses, line_12_passes}
use Rattle.results.proofs.Records.{found_some, found_record, found_change, nothing_some}
use Rattle.results.proofs.Lookups.{byte_quota, located, unnamed, quota_passes, line_5_refuses, line_5_passes, record_found, record_missing}

-- a line that is given only where a test holds
only_passes : (c : Bool) (a b : Line) → c ≡ false → first_refusal (only_if c a ∷ only_if c b ∷ []) ≡ 0
unfolding only_if first_refusal
only_passes c (m when x) (n when y) e = rw e

only_counts : (c : Bool) (a b : Line) → c ≡ true → first_refusal (only_if c a ∷ only_if c b ∷ []) ≡ first_refusal (a ∷ b ∷ [])
unfolding only_if
only_counts c (m when x) (n when y) e = rw e

-- all records are used, or some is unused
pub all_used : (hs : List Hold) → all used hs ≡ not (any unused hs)
unfolding all any unused
all_used [] = refl
all_used (h ∷ hs) = rw (all_used hs) (go (used h) (any unused hs))
  where
    go : (x y : Bool) → (x && not y) ≡ not (not x || y)
    go true y = refl
    go false y = refl

-- the two ways of a claim, by their tests: a count that is the greatest, and one that is not
module _ (i n : ℕ) (k : Accounts) (h : Hold) (is : h ≡ hold_at i k) where
  pub again_limit : h.count ≡ greatest_count → not_claimed CountLimit k ≡ claim_again i n k
  unfolding claim_again
  again_limit e = rw (sym is, eq-eqb h.count greatest_count e)

  pub again_raises : (h.count ≡ greatest_count → ⊥) → claimed_length n (put_hold i (with_count (h.count + 1) h) k) ≡ claim_again i n k
  unfolding claim_again
  again_raises d = rw (sym is, ne_eqb h.count greatest_count d)

-- a remainder below the charge, and one that is enough, with and without an unused record
module _ (q : ℕ) (h : Hold) (n : ℕ) (k : Accounts) where
  pub first_short : remaining q k < charge_of n → not_claimed QuotaExceeded k ≡ claim_first q h n k
  unfolding claim_first
  first_short l = rw (lt-ltb (remaining q k) (charge_of n) l)

  module _ (enough : charge_of n ≤ remaining q k) (p : Option ℕ) (at : p ≡ lowest_unused k) where
    pub first_full : p ≡ None → not_claimed HoldsExhausted k ≡ claim_first q h n k
    unfolding claim_first claim_in
    first_full e = rw (le-ltb (remaining q k) (charge_of n) enough, sym at, e)

    pub first_takes : (i : ℕ) → p ≡ Some i → claimed_length n (put_hold i h (charge q (charge_of n) k)) ≡ claim_first q h n k
    unfolding claim_first claim_in
    first_takes i e = rw (le-ltb (remaining q k) (charge_of n) enough, sym at, e)

-- claim's lines behind the lookup, and what it leaves and answers
abbrev pub claim_rest : Accounts → ℕ → Handle → List Line
claim_rest k q o = line_7 k q o ∷ only_if (claims_first k q o) (line_8 k q o.length) ∷ only_if (claims_first k q o) (line_9 k) ∷ []

abbrev claim_done : List ℕ → Accounts → ℕ → Handle → Outcome
claim_done s k q o = unchanged s (claimed q o k) (amount_of o.length)

module _ (s : List ℕ) (k : Accounts) (q : ℕ) (l : q < QUOTAS) (o : Handle) where
  -- the quota's record stands at a place
  module _ (i : ℕ) (e : find_hold o.serial (q % 256) k ≡ Some i) where
    count_found : count_of o.serial q k.holds ≡ (hold_at i k).count
    unfolding find_hold count_of or_else hold_at
    count_found =
        ap (λ (r : Option Hold). (or_else zero_hold r).count) (found_record (is_for o.serial q) k.holds i (rw (byte_quota q l) at e))

    free_of_charge : claims_first k q o ≡ false
    unfolding claims_first
    free_of_charge = rw (record_found k o.serial q l i e)

    raised : claimed q o k ≡ put_hold i (with_count ((hold_at i k).count + 1) (hold_at i k)) k
    unfolding claimed raise_count put_hold hold_at find_hold
    raised =
        rw free_of_charge
        (ap (λ (hs : List Hold). with_holds hs k)
        (found_change (is_for o.serial q) k.holds i (rw (byte_quota q l) at e) (λ h. with_count (h.count + 1) h)))

    pub again_is : amount_outcome s (claim_again i o.length k) ≡ unless (first_refusal (claim_rest k q o)) s k (claim_done s k q o)
    unfolding claim_again amount_values line_7
    again_is = go (eqb (hold_at i k).count greatest_count) refl
      where
        go : (x : Bool) → eqb (hold_at i k).count greatest_count ≡ x
            → amount_outcome s (claim_again i o.length k) ≡ unless (first_refusal (claim_rest k q o)) s k (claim_done s k q o)
        go true x =
            rw x
            (refused_is (first_refusal (claim_rest k q o)) s k (claim_done s k q o) CountLimit
            (line_refuses 7 (eqb (count_of o.serial q k.holds) greatest_count) _ (rw count_found x)))
        go false x =
            rw x
            (ap (λ (a : Accounts). unchanged s a (amount_of o.length)) (sym raised)
            ∙ accepted_is (first_refusal (claim_rest k q o)) s k (claim_done s k q o)
            (line_passes 7 (eqb (count_of o.serial q k.holds) greatest_count) _ (rw count_found x)
            ∙ only_passes (claims_first k q o) (line_8 k q o.length) (line_9 k) free_of_charge))

  -- the quota has no record
  module _ (e : find_hold o.serial (q % 256) k ≡ None) where
    abbrev new_hold : Hold
    new_hold = record { serial = o.serial; quota = q % 256; count = 1 }

    count_missing : count_of o.serial q k.holds ≡ 0
    unfolding find_hold count_of or_else
    count_missing =
        ap (λ (r : Option Hold). (or_else zero_hold r).count)
        ((first_none (is_for o.serial q) k.holds).1 (nothing_some (is_for o.serial q) k.holds 0 (rw (byte_quota q l) at e)))

    pays : claims_first k q o ≡ true
    unfolding claims_first
    pays = rw (record_missing k o.serial q l e)

    eighth : first_refusal (claim_rest k q o) ≡ first_refusal (line_8 k q o.length ∷ line_9 k ∷ [])
    unfolding line_7
    eighth =
        line_passes 7 (eqb (count_of o.serial q k.holds) greatest_count) _ (rw count_missing)
        ∙ only_counts (claims_first k q o) (line_8 k q o.length) (line_9 k) pays

    taken : (i : ℕ) → lowest_unused k ≡ Some i → claimed q o k ≡ put_hold i new_hold (charge q (charge_of o.length) k)
    unfolding claimed take_record put_hold lowest_unused
    taken i f =
        let paid = charge q (charge_of o.length) k in
        let kept = (charge_kept q (charge_of o.length) k).same_holds in
        rw (pays, byte_quota q l, kept)
        (ap (λ (hs : List Hold). with_holds hs paid)
        (found_change unused k.holds i f (λ h. record { serial = o.serial; quota = q; count = 1 })))

    abbrev FirstIs : Outcome → Type 0
    FirstIs t = t ≡ unless (first_refusal (claim_rest k q o)) s k (claim_done s k q o)

    short_is : ltb (remaining q k) (charge_of o.length) ≡ true → FirstIs (amount_outcome s (not_claimed QuotaExceeded k))
    unfolding amount_values line_8
    short_is x =
        refused_is (first_refusal (claim_rest k q o)) s k (claim_done s k q o) QuotaExceeded
        (eighth ∙ line_refuses 8 (ltb (remaining q k) (charge_of o.length)) (line_9 k ∷ []) x)

    paid_is : ltb (remaining q k) (charge_of o.length) ≡ false → (p : Option ℕ) → lowest_unused k ≡ p
        → FirstIs (amount_outcome s (claim_in p q new_hold o.length k))
    unfolding claim_in amount_values line_8 line_9 lowest_unused first_refusal
    paid_is n None f =
        refused_is (first_refusal (claim_rest k q o)) s k (claim_done s k q o) HoldsExhausted
        (eighth ∙ line_passes 8 (ltb (remaining q k) (charge_of o.length)) (line_9 k ∷ []) n
        ∙ line_refuses 9 (all used k.holds) [] (rw (all_used k.holds, nothing_some unused k.holds 0 f)))
    paid_is n (Some i) f =
        ap (λ (a : Accounts). unchanged s a (amount_of o.length)) (sym (taken i f))
        ∙ accepted_is (first_refusal (claim_rest k q o)) s k (claim_done s k q o)
        (eighth ∙ line_passes 8 (ltb (remaining q k) (charge_of o.length)) (line_9 k ∷ []) n
        ∙ line_passes 9 (all used k.holds) [] (rw (all_used k.holds, found_some unused k.holds i f)))

    pub first_is : FirstIs (amount_outcome s (claim_first q new_hold o.length k))
    unfolding claim_first
    first_is = go (ltb (remaining q k) (charge_of o.length)) refl
      where
        go : (x : Bool) → ltb (remaining q k) (charge_of o.length) ≡ x → FirstIs (amount_outcome s (claim_first q new_hold o.length k))
        go true x = rw x (short_is x)
        go false x = rw x (paid_is x (lowest_unused k) refl)

-- lines 1, 2, 3, 12 and 5 do not hold, or one of the last two does
module _ (unit : ℕ → ℕ) (s : List ℕ) (k : Accounts) (v : Result (Unit {0}) Refusal) (told : verdict_values v ≡ (check unit s k).values) (accepts : v ≡ Ok tt)
    (h : Handle) where
  pub claim_found : (m : Met) → find_object h s ≡ Some m → (q : ℕ) → q < QUOTAS → permits CLAIM q k ≡ true
      → first_refusal (claim_lines unit s k q h) ≡ first_refusal (claim_rest k q (found (lookup h s)))
  unfolding row_lines
  claim_found m e q l p =
      let rest = claim_rest k q (found (lookup h s)) in
      quota_passes unit s k v told accepts q (line_12 CLAIM k q ∷ line_5 (lookup h s) ∷ rest) l
      ∙ line_12_passes CLAIM q k (line_5 (lookup h s) ∷ rest) p
      ∙ line_5_passes (lookup h s) (object_met m) rest (located unit s k v told accepts h m e).named

  pub claim_missing : find_object h s ≡ None → (q : ℕ) → q < QUOTAS → permits CLAIM q k ≡ true → first_refusal (claim_lines unit s k q h) ≡ 5
  unfolding row_lines
  claim_missing e q l p =
      let rest = claim_rest k q (found (lookup h s)) in
      quota_passes unit s k v told accepts q (line_12 CLAIM k q ∷ line_5 (lookup h s) ∷ rest) l
      ∙ line_12_passes CLAIM q k (line_5 (lookup h s) ∷ rest) p
      ∙ line_5_refuses (lookup h s) rest (unnamed unit s k v told accepts h e)

  pub claim_forbidden : (q : ℕ) → q < QUOTAS → (quota_at q k).permissions / CLAIM % 2 ≡ 0 → first_refusal (claim_lines unit s k q h) ≡ 12
  unfolding row_lines
  claim_forbidden q l z =
      let rest = line_5 (lookup h s) ∷ claim_rest k q (found (lookup h s)) in
      quota_passes unit s k v told accepts q (line_12 CLAIM k q ∷ rest) l ∙ line_12_refuses CLAIM q k rest z

-- so the call's outcome is the definition's
module _ (unit : ℕ → ℕ) (s : List ℕ) (k : Accounts) (v : Result (Unit {0}) Refusal) (told : verdict_values v ≡ (check unit s k).values)
    (accepts : v ≡ Ok tt) (h : Handle)
    (m : Met)
    (e : find_object h s ≡ Some m) (q : ℕ) (l : q < QUOTAS) (permitted : permits CLAIM q k ≡ true) where
  due : unless (first_refusal (claim_rest k q (object_met m))) s k (claim_done s k q (object_met m)) ≡ claim unit s k q h
  unfolding claim
  due =
      let p = (located unit s k v told accepts h m e).object in
      ap (λ (o : Handle). unless (first_refusal (claim_rest k q o)) s k (claim_done s k q o)) (sym p)
      ∙ ap (λ (n : ℕ). unless n s k (claim_done s k q (found (lookup h s))))
      (sym (claim_found unit s k v told accepts h m e q l permitted))

  pub claims_again : (i : ℕ) → find_hold m.serial (q % 256) k ≡ Some i → amount_outcome s (claim_again i (object_met m).length k) ≡ claim unit s k q h
  claims_again i f = again_is s k q l (object_met m) i f ∙ due

  pub claims_anew : find_hold m.serial (q % 256) k ≡ None
      → amount_outcome s (claim_first q (record { serial = m.serial; quota = q % 256; count = 1 }) (object_met m).length k) ≡ claim unit s k q h
  claims_anew f = first_is s k q l (object_met m) f ∙ due
