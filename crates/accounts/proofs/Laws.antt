-- Laws of the accounting state: the search for a hold record, what charging and refunding do, and what storing a record does.
use Rattle.std.specs.Prelude.{Option, Some, None, SomeIff, unwrap_or}
use Prim.Native.Nat.{ℕ, zero, suc, ◌+◌, ◌-◌, ◌^◌, ◌≤◌, ◌<◌}
use native.Mathlib.Nat.{add-zero}
use native.Mathlib.Omega.{arith}
use mathlib.Core.Path.{◌≡◌, refl, ap, sym, subst, ◌∙◌}
use mathlib.Core.Bool.{Bool, true, false, cond, and-false, true≢false}
use mathlib.Core.Logic.{◌⊎◌, inl, inr, ⊎_elim, ◌≢◌}
use mathlib.Core.List.{List, [], ◌∷◌, map}
use lib.ListN.{length, get_or, set, length-set, length-map, length-replicate, get_or-map, get_or-eq_default}
use lib.Seq.{get_or-set_same, get_or-set_other, set-set, set-get_or, set_out, map-set_same, ext_get_or}
use lib.Dec.{ltb}
use borrow.Author.Count.{below_more}
use borrow.Author.Tests.{lt-ltb, le-ltb, lt-leb, le-leb, ne_eqb}
use Rattle.accounts.specs.declared.Quota.{Quota}
use Rattle.accounts.specs.declared.Hold.{Hold}
use Rattle.accounts.specs.declared.Accounts.{Accounts}
use Rattle.accounts.specs.declared.settings.Settings.{Settings}
use Rattle.accounts.specs.Accounts.{QUOTAS, HOLDS, zero_quota, zero_hold, zero_accounts, with_remainder, with_quotas, with_holds}
use Rattle.accounts.specs.Accounts.{with_last_serial, grants, granted, opened}
use Rattle.accounts.specs.Accounts.{quota_at, remaining, spent, put_quota, change_quota, less_paid, paid_back, charged, refunded, charge, refund}
use Rattle.accounts.specs.Accounts.{without, clear_permissions, used}
use Rattle.accounts.specs.Accounts.{is_for, first_from, hold_at, put_hold}
use Rattle.accounts.proofs.Rows

-- what the library's checked difference and sum give where none counts as no change
pub less_checked : (n r : ℕ) (o : Option ℕ) → SomeIff o (n ≤ r) (r - n) → unwrap_or o r ≡ less_paid n r
unfolding less_paid
less_checked n r None h = rw (lt-leb n r (omega (arith, h))) refl
less_checked n r (Some x) h = rw (le-leb n r h.0) h.1

pub back_checked : (n r : ℕ) (o : Option ℕ) → SomeIff o (r + n < 2 ^ 32) (r + n) → unwrap_or o r ≡ paid_back n r
unfolding paid_back
back_checked n r None h = rw (le-ltb (r + n) (2 ^ 32) (omega (arith, h))) refl
back_checked n r (Some x) h = rw (lt-ltb (r + n) (2 ^ 32) h.0) h.1

-- the first record that passes a test stands at place i
pub record First (p : Hold → Bool) (hs : List Hold) (i : ℕ) : Type 0 where
  pub within : i < length hs
  pub passes : p (get_or hs i zero_hold) ≡ true
  pub earlier : (j : ℕ) → j < i → p (get_or hs j zero_hold) ≡ false

-- no record passes a test
abbrev pub NoneOf : (Hold → Bool) → List Hold → Type 0
NoneOf p hs = (j : ℕ) → j < length hs → p (get_or hs j zero_hold) ≡ false

-- what holds at 0, and at each successor of a number below n, holds below the successor of n
headed : (P : ℕ → Type 0) (n : ℕ) → P 0 → ((j : ℕ) → j < n → P (suc j)) → (j : ℕ) → j < suc n → P j
headed P n here later zero l = here
headed P n here later (suc j) l = later j (omega arith)

module _ (p : Hold → Bool) where
  -- what a search from place n on comes to: the first record that passes, or nothing where none does
  Searched : ℕ → List Hold → Type 0
  Searched n hs = ((i : ℕ) × (first_from p n hs ≡ Some (n + i)) × First p hs i) ⊎ ((first_from p n hs ≡ None) × NoneOf p hs)

  by_test : (n : ℕ) (h : Hold) (hs : List Hold) (x : Bool) → p h ≡ x → Searched (suc n) hs → Searched n (h ∷ hs)
  unfolding Searched first_from
  by_test n h hs true e s =
      let here : n ≡ n + 0 = omega arith in
      inl (0, rw e (ap Some here), record { within = omega arith; passes = e; earlier = λ j l. absurd (omega arith) })
  by_test n h hs false e s =
      ⊎_elim
      (λ f.
      let there : suc n + f.0 ≡ n + suc f.0 = omega arith in
      inl (
        suc f.0,
        rw e (f.1 ∙ ap Some there),
        record {
          within = omega (arith, f.2.within);
          passes = f.2.passes;
          earlier = headed (λ (j : ℕ). p (get_or (h ∷ hs) j zero_hold) ≡ false) f.0 e f.2.earlier;
        },
      ))
      (λ f. inr (rw e f.0, headed (λ (j : ℕ). p (get_or (h ∷ hs) j zero_hold) ≡ false) (length hs) e f.1))
      s

  searched : (n : ℕ) (hs : List Hold) → Searched n hs
  unfolding Searched first_from
  searched n [] = inr (refl, λ j l. absurd (omega arith))
  searched n (h ∷ hs) = by_test n h hs (p h) refl (searched (suc n) hs)

  -- a search that starts at place n counts on from there
  first_later : (n : ℕ) (hs : List Hold) (i : ℕ) → First p hs i → first_from p n hs ≡ Some (n + i)
  unfolding first_from
  first_later n [] i f = absurd (omega (arith, f.within))
  first_later n (h ∷ hs) zero f = let here : n ≡ n + 0 = omega arith in rw f.passes (ap Some here)
  first_later n (h ∷ hs) (suc i) f =
      let later : First p hs i = record {
        within = omega (arith, f.within);
        passes = f.passes;
        earlier =
            λ j l. f.earlier (suc j) (omega arith);
      } in
      let there : suc n + i ≡ n + suc i = omega arith in
      rw (f.earlier 0 (omega arith)) (first_later (suc n) hs i later ∙ ap Some there)

  module _ (hs : List Hold) where
    -- the place that a search finds is the first one that passes, and it finds that
    pub found_first : (i : ℕ) → first_from p 0 hs ≡ Some i → First p hs i
    unfolding Searched
    found_first i e =
        ⊎_elim
        (λ f. let same : 0 + f.0 ≡ i = cc in let same' : f.0 ≡ i = omega arith in subst (λ (j : ℕ). First p hs j) same' f.2)
        (λ f. let no : ◌≡◌ {A = ℕ} 0 1 = cc in absurd (omega arith))
        (searched 0 hs)

    pub first_found : (i : ℕ) → First p hs i → first_from p 0 hs ≡ Some i
    first_found i f = let same : 0 + i ≡ i = omega arith in first_later 0 hs i f ∙ ap Some same

    -- a search finds nothing exactly where no record passes
    pub nothing_none : first_from p 0 hs ≡ None → NoneOf p hs
    unfolding Searched
    nothing_none e =
        ⊎_elim (λ f. let no : ◌≡◌ {A = ℕ} 0 1 = cc in absurd (omega arith)) (λ f. f.1) (searched 0 hs)

    pub none_nothing : NoneOf p hs → first_from p 0 hs ≡ None
    unfolding Searched
    none_nothing none =
        ⊎_elim (λ f. absurd (true≢false (sym f.2.passes ∙ none f.0 f.2.within))) (λ f. f.0) (searched 0 hs)

-- a record of another object is not for this one
pub for_another : (serial q : ℕ) (h : Hold) → h.serial ≢ serial → is_for serial q h ≡ false
unfolding is_for
for_another serial q h d = rw (ne_eqb h.serial serial d, and-false (used h)) refl

-- the tables have their lengths
pub record Sized (k : Accounts) : Type 0 where
  pub quotas_long : length k.quotas ≡ QUOTAS
  pub holds_long : length k.holds ≡ HOLDS

-- r is k but for quota q, whose grant is the same
pub record Kept (q : ℕ) (k r : Accounts) : Type 0 where
  pub same_holds : r.holds ≡ k.holds
  pub same_last : r.last_serial ≡ k.last_serial
  pub same_grants : grants r ≡ grants k
  pub same_count : length r.quotas ≡ length k.quotas
  pub same_others : (o : ℕ) → o ≢ q → quota_at o r ≡ quota_at o k
  pub same_kind : r.kind ≡ k.kind
  pub same_edition : r.edition ≡ k.edition

-- what remains of a quota, and another quota in its place
module _ (q : ℕ) (k : Accounts) where
  pub remaining_out : length k.quotas ≤ q → remaining q k ≡ 0
  unfolding remaining
  remaining_out h = ap (λ (x : Quota). x.remainder) (get_or-eq_default k.quotas zero_quota h)

  pub remaining_put : (x : Quota) → q < length k.quotas → remaining q (put_quota q x k) ≡ x.remainder
  unfolding remaining
  remaining_put x h = ap (λ (y : Quota). y.remainder) (get_or-set_same k.quotas q x zero_quota h)

  pub put_same : put_quota q (quota_at q k) k ≡ k
  put_same = rw (set-get_or k.quotas q zero_quota) refl

  pub kept : Kept q k k
  kept =
      record {
        same_holds = refl;
        same_last = refl;
        same_grants = refl;
        same_count = refl;
        same_others = λ o d. refl;
        same_kind = refl;
        same_edition = refl;
      }

  put_kept : (x : Quota) → x.grant ≡ (quota_at q k).grant → Kept q k (put_quota q x k)
  put_kept x e =
      record {
        same_holds = refl;
        same_last = refl;
        same_grants = map-set_same (λ (y : Quota). y.grant) k.quotas q x zero_quota e;
        same_count = length-set k.quotas q x;
        same_others = λ o d. get_or-set_other k.quotas q o x zero_quota d;
        same_kind = refl;
        same_edition = refl;
      }

-- what a quota has spent
pub spent_out : (q : ℕ) (k : Accounts) → length k.quotas ≤ q → spent q k ≡ 0
unfolding spent
spent_out q k h = ap (λ (x : Quota). x.grant - remaining q k) (get_or-eq_default k.quotas zero_quota h) ∙ omega arith

-- a quota that is there changes, one that is not does not, and nothing else changes, for functions that keep the grant
module _ (q : ℕ) (f : Quota → Quota) (k : Accounts) where
  pub change_there : q < QUOTAS → change_quota q f k ≡ put_quota q (f (quota_at q k)) k
  unfolding change_quota
  change_there h = rw (lt-ltb q QUOTAS h) refl

  pub change_no_quota : QUOTAS ≤ q → change_quota q f k ≡ k
  unfolding change_quota
  change_no_quota h = rw (le-ltb q QUOTAS h) refl

  -- what holds of accounts with the changed quota and of those before holds of the changed ones
  pub change_case : (P : Accounts → Type 0) → P (put_quota q (f (quota_at q k)) k) → P k → P (change_quota q f k)
  unfolding change_quota
  change_case P there not_there = go (ltb q QUOTAS)
    where
      go : (t : Bool) → P (cond t (put_quota q (f (quota_at q k)) k) k)
      go true = there
      go false = not_there

  pub change_kept : ((x : Quota) → (f x).grant ≡ x.grant) → Kept q k (change_quota q f k)
  change_kept e = change_case (Kept q k) (put_kept q k (f (quota_at q k)) (e (quota_at q k))) (kept q k)

  -- what every quota's change keeps is the same of all quotas
  pub change_but : {A : Type 0} (g : Quota → A) → ((x : Quota) → g (f x) ≡ g x) → map g (change_quota q f k).quotas ≡ map g k.quotas
  change_but g e =
      change_case (λ (r : Accounts). map g r.quotas ≡ map g k.quotas)
      (map-set_same g k.quotas q (f (quota_at q k)) zero_quota (e (quota_at q k))) refl

  -- a change that leaves the quota as it is changes nothing
  pub change_same : f (quota_at q k) ≡ quota_at q k → change_quota q f k ≡ k
  change_same e = change_case (λ (r : Accounts). r ≡ k) (ap (λ (x : Quota). put_quota q x k) e ∙ put_same q k) refl

module _ (q n : ℕ) (k : Accounts) where
  -- charging takes the amount off where it is allowed, and refunding adds it
  pub charge_pays : q < QUOTAS → n ≤ remaining q k → charge q n k ≡ put_quota q (with_remainder (remaining q k - n) (quota_at q k)) k
  unfolding charge less_paid remaining
  charge_pays h l = change_there q (charged n) k h ∙ rw (le-leb n (remaining q k) l) refl

  pub refund_pays : q < QUOTAS → remaining q k + n < 2 ^ 32 → refund q n k ≡ put_quota q (with_remainder (remaining q k + n) (quota_at q k)) k
  unfolding refund paid_back remaining
  refund_pays h l = change_there q (refunded n) k h ∙ rw (lt-ltb (remaining q k + n) (2 ^ 32) l) refl

  -- neither changes anything but what remains of that quota, nor does clearing anything but its permissions
  pub charge_kept : Kept q k (charge q n k)
  unfolding charge
  charge_kept = change_kept q (charged n) k (λ x. refl)

  pub refund_kept : Kept q k (refund q n k)
  unfolding refund
  refund_kept = change_kept q (refunded n) k (λ x. refl)

  pub clear_kept : Kept q k (clear_permissions q n k)
  unfolding clear_permissions
  clear_kept = change_kept q (without n) k (λ x. refl)

-- a refund of nothing
pub refund_nothing : (q : ℕ) (k : Accounts) → refund q 0 k ≡ k
unfolding refund paid_back
refund_nothing q k = change_same q (refunded 0) k (go (ltb ((quota_at q k).remainder + 0) (2 ^ 32)))
  where
    go : (t : Bool) → with_remainder (cond t ((quota_at q k).remainder + 0) (quota_at q k).remainder) (quota_at q k) ≡ quota_at q k
    go true = rw (add-zero (quota_at q k).remainder) refl
    go false = refl

-- what remains after a charge and after a refund
module _ (q n : ℕ) (k : Accounts) (sized : Sized k) (h : q < QUOTAS) where
  pub remaining_charged : n ≤ remaining q k → remaining q (charge q n k) ≡ remaining q k - n
  remaining_charged l = ap (remaining q) (charge_pays q n k h l) ∙ remaining_put q k _ (omega (arith, sized.quotas_long))

  pub remaining_refunded : remaining q k + n < 2 ^ 32 → remaining q (refund q n k) ≡ remaining q k + n
  remaining_refunded l = ap (remaining q) (refund_pays q n k h l) ∙ remaining_put q k _ (omega (arith, sized.quotas_long))

  -- what was charged and is refunded leaves the accounts as they were
  pub refund_charged : n ≤ remaining q k → remaining q k < 2 ^ 32 → refund q n (charge q n k) ≡ k
  unfolding remaining
  refund_charged l fits =
      let x = with_remainder (remaining q k - n) (quota_at q k) in
      let at : quota_at q (put_quota q x k) ≡ x = get_or-set_same k.quotas q x zero_quota (omega (arith, sized.quotas_long)) in
      let left : remaining q (put_quota q x k) + n ≡ remaining q k = omega (arith, ap (λ (y : Quota). y.remainder) at) in
      ap (refund q n) (charge_pays q n k h l)
      ∙ refund_pays q n (put_quota q x k) h (omega arith)
      ∙ (λ i. with_quotas (set-set k.quotas q x (with_remainder (left i) (at i)) i) k)
      ∙ put_same q k

-- every operation keeps the lengths, and the accounts of zeros and the opened ones have them
pub kept_sized : {q : ℕ} {k r : Accounts} → Kept q k r → Sized k → Sized r
kept_sized e s = record { quotas_long = e.same_count ∙ s.quotas_long; holds_long = ap length e.same_holds ∙ s.holds_long }

pub sized_zero : Sized zero_accounts
sized_zero = record { quotas_long = length-replicate QUOTAS zero_quota; holds_long = length-replicate HOLDS zero_hold }

pub sized_last_serial : (n : ℕ) (k : Accounts) → Sized k → Sized (with_last_serial n k)
sized_last_serial n k s = record { quotas_long = s.quotas_long; holds_long = s.holds_long }

pub sized_opened : (g : Settings) (gs : List ℕ) → length gs ≡ QUOTAS → Sized (opened g gs)
unfolding opened
sized_opened g gs e = record { quotas_long = length-map gs granted ∙ e; holds_long = length-replicate HOLDS zero_hold }

-- the places before i of a table hold what f gives for those of another: one more of them, and all
module _ {A B : Type 0} (f : A → B) (d : A) (e : B) (same : f d ≡ e) (xs : List A) (ys : List B) (i : ℕ)
    (done : (j : ℕ) → j < i → get_or ys j e ≡ f (get_or xs j d)) where
  pub mapped_more : i < length ys → (y : B) → y ≡ f (get_or xs i d) → (j : ℕ) → j < i + 1 → get_or (set ys i y) j e ≡ f (get_or xs j d)
  mapped_more h y q =
      below_more (λ (j : ℕ). get_or (set ys i y) j e ≡ f (get_or xs j d)) i
      (λ j l. get_or-set_other ys i j y e (λ p. omega arith) ∙ done j l)
      (get_or-set_same ys i y e h ∙ q)

  pub mapped_all : length ys ≡ length xs → length ys ≤ i → ys ≡ map f xs
  mapped_all n h =
      ext_get_or e ys (map f xs) (n ∙ sym (length-map xs f))
      (λ j l. done j (omega arith) ∙ sym (get_or-map f xs j d) ∙ ap (get_or (map f xs) j) same)

-- storing a record
module _ (i : ℕ) (h : Hold) (k : Accounts) where
  pub hold_at_put : i < length k.holds → hold_at i (put_hold i h k) ≡ h
  unfolding hold_at put_hold
  hold_at_put l = get_or-set_same k.holds i h zero_hold l

  pub hold_at_other : (j : ℕ) → j ≢ i → hold_at j (put_hold i h k) ≡ hold_at j k
  unfolding hold_at put_hold
  hold_at_other j d = get_or-set_other k.holds i j h zero_hold d

  pub put_out : length k.holds ≤ i → put_hold i h k ≡ k
  unfolding put_hold
  put_out l = ap (λ (hs : List Hold). with_holds hs k) (set_out k.holds i h l)

  pub put_rest : ((put_hold i h k).quotas ≡ k.quotas) × ((put_hold i h k).last_serial ≡ k.last_serial)
  unfolding put_hold
  put_rest = (refl, refl)

  pub sized_put : Sized k → Sized (put_hold i h k)
  unfolding put_hold
  sized_put s = record { quotas_long = s.quotas_long; holds_long = length-set k.holds i h ∙ s.holds_long }

-- paying changes neither records nor the last serial, so these can be set before or behind it
module _ (i : ℕ) (h : Hold) (serial : ℕ) (q : ℕ) (k : Accounts) where
  pub charge_last : (n : ℕ) → charge q n (put_hold i h (with_last_serial serial k)) ≡ with_last_serial serial (put_hold i h (charge q n k))
  unfolding charge change_quota put_hold
  charge_last n = go (ltb q QUOTAS)
    where
      go : (t : Bool) → cond t (put_quota q (charged n (quota_at q k)) (put_hold i h (with_last_serial serial k))) (put_hold i h (with_last_serial serial k))
          ≡ with_last_serial serial (put_hold i h (cond t (put_quota q (charged n (quota_at q k)) k) k))
      go true = refl
      go false = refl

pub hold_at_out : (i : ℕ) (k : Accounts) → length k.holds ≤ i → hold_at i k ≡ zero_hold
unfolding hold_at
hold_at_out i k l = get_or-eq_default k.holds zero_hold l

-- quotas that differ in nothing but what remains of them, and of which the same remains, are the same
pub same_quota : (x y : Quota) → with_remainder 0 x ≡ with_remainder 0 y → x.remainder ≡ y.remainder → x ≡ y
same_quota x y e r = λ i. with_remainder (r i) (e i)

-- accounts with equal fields are equal
pub same_accounts : (k l : Accounts) → k.quotas ≡ l.quotas → k.last_serial ≡ l.last_serial → k.holds ≡ l.holds → k.kind ≡ l.kind
    → k.edition ≡ l.edition → k ≡ l
same_accounts k l q s h e f = λ i. record { quotas = q i; last_serial = s i; holds = h i; kind = e i; edition = f i }

-- a refund changes nothing of any quota but what remains
pub refund_but : (q n : ℕ) (k : Accounts) → map (with_remainder 0) (refund q n k).quotas ≡ map (with_remainder 0) k.quotas
unfolding refund
refund_but q n k = change_but q (refunded n) k (with_remainder 0) (λ x. refl)
