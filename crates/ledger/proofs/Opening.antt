-- After an accepted opening the empty ledger agrees with heap and accounts. The heap is one free block of an allowed length, so that there is no
-- object; no record is used, and each remainder is the grant. So every test of consistency passes, and nothing has to match.
use Prim.Native.Nat.{ℕ, zero, suc, ◌+◌, ◌-◌, ◌%◌, ◌≤◌, ◌<◌, ◌^◌}
use native.Mathlib.Nat.{add-zero}
use native.Mathlib.Omega.{arith}
use mathlib.Core.Path.{◌≡◌, refl, ap, sym, ◌∙◌}
use mathlib.Core.List.Memᴰ
use mathlib.Core.List.{List, [], ◌∷◌, map}
use mathlib.Core.Bool.{Bool, true, false, ◌&&◌}
use lib.ListN.{length, get_or, replicate, length-replicate, length-map}
use lib.Dec.{leb, eqb, lit<, ltb}
use borrow.Author.Tests.{leb-true, eqb-true}
use Rattle.accounts.specs.declared.Quota.{Quota}
use Rattle.accounts.specs.declared.Accounts.{Accounts}
use Rattle.accounts.specs.declared.settings.Settings.{Settings}
use Rattle.accounts.specs.Accounts.{QUOTAS, HOLDS, ALL_PERMISSIONS, permissible, zero_quota, zero_hold, permissions, granted, opened, used, kind_number}
use Rattle.accounts.specs.Accounts.{edition_number}
use Rattle.accounts.specs.declared.settings.Kind.{Kind}
use Rattle.accounts.specs.declared.settings.Kind.TheVariants.{Plain, Quarantine}
use Rattle.accounts.specs.declared.settings.Edition.{Edition}
use Rattle.accounts.specs.declared.settings.Edition.TheVariants.{First, Second}
use Rattle.layout.specs.Blocks.{render}
use Rattle.lists.specs.Lists.{all, total}
use Rattle.model.specs.Answers.{accepted}
use Rattle.model.specs.Objects.{objects_from, objects, blocks_of}
use Rattle.model.specs.Consistent.{allowed, long_enough, starts_free, free_apart, well_cut, serials_differ, serials_given, record_valid, records_differ}
use Rattle.model.specs.Consistent.{charges, in_kind, in_range, greatest_serial}
use Rattle.model.specs.Refusals.{first_refusal, line_1, open_lines}
use Rattle.model.specs.Calls.{Outcome, unless, fresh, open_heap}
use Rattle.lists.proofs.Bools.{and_left, and_right}
use Rattle.model.proofs.Consistent.{Tests, balance_exactly, consistent_accounted, consistent_permissible, consistent_kinds, consistent_range}
use Rattle.ledger.specs.Ledger.{Ledger, empty, spans_from, read_ledger}
use Rattle.ledger.specs.Demand3.{spans_differ}
use Rattle.ledger.specs.History.{Opened, Restorable, Begins, Opening, Restoring}
use Rattle.ledger.proofs.Reading.{accounted_agrees}
use Rattle.invariant.proofs.Good.{Good}
use Rattle.invariant.proofs.Heaps.{good_heap}
use Rattle.ledger.proofs.Agreement.{Tracks, Agrees}
use Rattle.invariant.proofs.Kinded.{Kinded}
use Rattle.ledger.proofs.Matching.{no_hold}
use Rattle.ledger.proofs.Steps.{agrees_from}

-- heap and accounts are the fresh ones of an allowed length
record Fresh (g : Settings) (grants s : List ℕ) (k : Accounts) : Type 0 where
  extent : ℕ
  fits : allowed extent ≡ true
  heap : render (fresh g extent grants).blocks ≡ s
  accounts : opened g grants ≡ k

-- an accepted opening leaves these, since any other length is refused
opened_fresh : (t : Settings) (grants s : List ℕ) (k : Accounts) → Opened t grants s k → Fresh t grants s k
unfolding open_heap open_lines line_1 first_refusal unless fresh
opened_fresh t grants s k o = go (allowed (length o.before)) refl o.opens
  where
    go : (x : Bool) → allowed (length o.before) ≡ x → open_heap t o.before grants ≡ record { heap = s; accounts = k; values = accepted }
        → Fresh t grants s k
    go true x e =
        let f = rw x at e in
        record { extent = length o.before; fits = x; heap = ap (λ (x : Outcome). x.heap) f; accounts = ap (λ (x : Outcome). x.accounts) f }
    go false x e =
        let f = rw x at e in
        let z : ◌≡◌ {A = ℕ} 1 0 = ap (λ (x : Outcome). x.values.refusal) f in
        absurd (omega arith)

-- each quota has its grant whole, also one that does not exist
granted_at : (gs : List ℕ) (q : ℕ) → ((get_or (map granted gs) q zero_quota).grant ≡ get_or gs q 0) ×
    ((get_or (map granted gs) q zero_quota).remainder ≡ get_or gs q 0)
granted_at [] q = (refl, refl)
granted_at (g ∷ gs) zero = (refl, refl)
granted_at (g ∷ gs) (suc q) = granted_at gs q

-- unused records differ, and there is nothing to ask of them
unused_differ : (n : ℕ) → records_differ (replicate n zero_hold) ≡ true
unfolding records_differ used
unused_differ zero = refl
unused_differ (suc n) = unused_differ n

unused_valid : (n : ℕ) → all (record_valid []) (replicate n zero_hold) ≡ true
unfolding all record_valid used
unused_valid zero = refl
unused_valid (suc n) = unused_valid n

module _ (g : Settings) (H : ℕ) (fits : allowed H ≡ true) (grants : List ℕ) where
  -- the length is a multiple of 8, 64 to 32,768
  sized : (H % 8 ≡ 0) × (64 ≤ H) × (H ≤ 32768)
  unfolding allowed
  sized =
      let r = and_right (eqb (H % 8) 0) _ fits in
      (eqb-true (H % 8) 0 (and_left _ _ fits), leb-true 64 H (and_left _ _ r), leb-true H 32768 (and_right (leb 64 H) _ r))

  -- the free block covers it
  fresh_size : 8 + length (replicate {A = ℕ} (H - 8) 0) ≡ H
  fresh_size = let z = sized in rw length-replicate (omega arith)

  -- every test passes: no object, no used record, and each remainder is the grant
  fresh_tests : Tests (fresh g H grants).blocks (opened g grants)
  unfolding fresh opened objects objects_from well_cut all long_enough free_apart starts_free serials_differ serials_given charges total
  fresh_tests =
      record {
        cut = refl;
        differ = refl;
        given = refl;
        valid = unused_valid HOLDS;
        unique = unused_differ HOLDS;
        recorded = refl;
        balance =
            (balance_exactly [] (replicate HOLDS zero_hold) (map granted grants)).1
            (λ q h. rw (add-zero) ((granted_at grants q).0 ∙ sym (granted_at grants q).1));
      }

  -- the fresh state is good
  fresh_good : length grants ≡ QUOTAS → ((q : ℕ) → get_or grants q 0 < 2 ^ 32) → Good (fresh g H grants)
  unfolding fresh opened total
  fresh_good n w =
      let z = sized in
      let e = fresh_size in
      record {
        writable = (record { whole = rw e (omega arith); small = rw e (omega arith); narrow = lit< tt }, tt);
        octets = (λ i. rw no_hold (lit< tt), tt);
        extent = rw (e, add-zero) fits;
        tests = fresh_tests;
        quotas = length-map grants granted ∙ n;
        narrow = λ q. rw (granted_at grants q).0 (w q);
        serial = lit< tt;
      }

-- the grants are kept as given
grants_again : (grants : List ℕ) → map (λ (x : Quota). x.grant) (map granted grants) ≡ grants
grants_again [] = refl
grants_again (g ∷ gs) = rw (grants_again gs)

-- kind and edition are each one of two, and no block is quarantined
fresh_range : (t : Settings) (grants : List ℕ) → in_range (opened t grants) ≡ true
unfolding in_range opened
fresh_range t grants = go t.kind t.edition
  where
    go : (x : Kind) (y : Edition) → (leb 0 greatest_serial && (ltb (kind_number x) 2 && ltb (edition_number y) 2)) ≡ true
    go Plain First = refl
    go Plain Second = refl
    go Quarantine First = refl
    go Quarantine Second = refl

fresh_kinds : (t : Settings) (H : ℕ) (grants : List ℕ) → Kinded (fresh t H grants)
unfolding fresh all in_kind
fresh_kinds t H grants = (refl, fresh_range t grants)

-- the empty ledger agrees with the fresh heap
fresh_tracked : (t : Settings) (H : ℕ) → allowed H ≡ true → (grants : List ℕ) → length grants ≡ QUOTAS → ((q : ℕ) → get_or grants q 0 < 2 ^ 32)
    → Tracks (empty t grants) (fresh t H grants)
unfolding empty fresh opened objects objects_from spans_from serials_differ spans_differ
fresh_tracked t H f grants n w =
    record {
      good = fresh_good t H f grants n w;
      kinded = fresh_kinds t H grants;
      kind = refl;
      grants = grants_again grants;
      matches =
          record {
            objects = λ o. (λ m. m, λ m. m);
            once = refl;
            quotas = n;
            widths = λ e m. absurd (Memᴰ.not-nil m);
            holds = λ e m. absurd (Memᴰ.not-nil m);
          };
      waits = record { both = λ x. (λ m. m, λ m. m); once = refl };
    }

-- and so with every accepted opening
opening_agrees : (t : Settings) (grants : List ℕ) (s : List ℕ) (k : Accounts) → Opened t grants s k → Agrees (empty t grants) s k
unfolding fresh
opening_agrees t grants s k o =
    let f = opened_fresh t grants s k o in
    rw (f.heap, f.accounts) at (agrees_from _ _ (fresh_tracked t f.extent f.fits grants o.quotas o.narrow))

-- its blocks are those of a fresh heap
pub opening_blocks : (t : Settings) (grants : List ℕ) (s : List ℕ) (k : Accounts) → Opened t grants s k → (H : ℕ) × (blocks_of s ≡ (fresh t H grants).blocks)
opening_blocks t grants s k o =
    let f = opened_fresh t grants s k o in
    (f.extent, rw f.heap at (good_heap (fresh t f.extent grants) (fresh_good t f.extent f.fits grants o.quotas o.narrow)).blocks)

-- and it has all its records
pub opening_records : (t : Settings) (grants : List ℕ) (s : List ℕ) (k : Accounts) → Opened t grants s k → length k.holds ≡ HOLDS
unfolding opened
opening_records t grants s k o = rw (← (opened_fresh t grants s k o).accounts) (length-replicate HOLDS zero_hold)

-- none of which is used
pub opening_unused : (t : Settings) (grants : List ℕ) (s : List ℕ) (k : Accounts) → Opened t grants s k
    → k.holds ≡ replicate HOLDS zero_hold
unfolding opened
opening_unused t grants s k o = rw (← (opened_fresh t grants s k o).accounts) refl

-- every permission is set
granted_permissions : (gs : List ℕ) → map (λ (x : Quota). x.permissions) (map granted gs) ≡ replicate (length gs) ALL_PERMISSIONS
granted_permissions [] = refl
granted_permissions (g ∷ gs) = ap (λ (ps : List ℕ). ALL_PERMISSIONS ∷ ps) (granted_permissions gs)

pub opening_permissions : (t : Settings) (grants s : List ℕ) (k : Accounts) → Opened t grants s k → permissions k ≡ replicate QUOTAS ALL_PERMISSIONS
unfolding opened
opening_permissions t grants s k o =
    rw (← (opened_fresh t grants s k o).accounts) (granted_permissions grants ∙ ap (λ (n : ℕ). replicate n ALL_PERMISSIONS) o.quotas)

opening_permissible : (t : Settings) (grants s : List ℕ) (k : Accounts) → Opened t grants s k → all permissible (permissions k) ≡ true
unfolding all
opening_permissible t grants s k o = ap (all permissible) (opening_permissions t grants s k o)

-- so every number is a quota's permissions at a beginning
pub beginning_permissible : (tables : ℕ → ℕ → ℕ) (begun : Ledger) (s : List ℕ) (k : Accounts) → Begins tables begun s k → all permissible (permissions k) ≡ true
beginning_permissible tables begun s k (Opening t grants e o) = opening_permissible t grants s k o
beginning_permissible tables begun s k (Restoring e r) = consistent_permissible (tables k.edition) s k r.consistent

-- a state that is restored agrees with the ledger that is read off it
pub restored_agrees : (unit : ℕ → ℕ) (s : List ℕ) (k : Accounts) → Restorable unit s k → Agrees (read_ledger s k) s k
restored_agrees unit s k r =
    let e = r.consistent in
    accounted_agrees s k r.extent r.octets (consistent_accounted unit s k e) r.quotas r.narrow
    (consistent_kinds unit s k e, consistent_range unit s k e)

-- every beginning agrees with its ledger
pub beginning_agrees : (tables : ℕ → ℕ → ℕ) (begun : Ledger) (s : List ℕ) (k : Accounts) → Begins tables begun s k → Agrees begun s k
beginning_agrees tables begun s k (Opening t grants e o) = rw e (opening_agrees t grants s k o)
beginning_agrees tables begun s k (Restoring e r) = rw e (restored_agrees (tables k.edition) s k r)

-- the accounts have the edition of the ledger
opening_edition : (t : Settings) (grants s : List ℕ) (k : Accounts) → Opened t grants s k → k.edition ≡ edition_number t.edition
unfolding opened
opening_edition t grants s k o = rw (← (opened_fresh t grants s k o).accounts) refl

pub beginning_edition : (tables : ℕ → ℕ → ℕ) (begun : Ledger) (s : List ℕ) (k : Accounts) → Begins tables begun s k → k.edition ≡ begun.edition
unfolding empty read_ledger
beginning_edition tables begun s k (Opening t grants e o) = rw e (opening_edition t grants s k o)
beginning_edition tables begun s k (Restoring e r) = rw e refl
