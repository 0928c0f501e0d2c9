-- The list of differences: what is in it differs and what differs is in it, it is in order and has nothing twice, and there is nothing in it if and only if
-- the states are equal.
-- Each part is judged by its own laws; a difference tells by its part where in the list it can be.
use Rattle.std.specs.Prelude.{Some, slice_get}
use mathlib.Core.Path.{◌≡◌, refl, ap}
use mathlib.Core.List.Memᴰ
use mathlib.Core.List.{List, [], ◌∷◌, ◌++◌, map, Memᴰ}
use mathlib.Core.Bool.{Bool, true, false, cond}
use mathlib.Core.Logic.{inr, ⊎_elim, ◌↔◌, ◌≢◌}
use Prim.Native.Nat.{ℕ, suc, ◌+◌, ◌≤◌, ◌<◌}
use native.Mathlib.Nat.{lt_of_not-le}
use native.Mathlib.Omega.{arith}
use lib.ListN.{length, get_or}
use lib.Seq.{ext_get_or}
use lib.Dec.{eqb}
use borrow.Author.Tests.{eqb-true, eqb-false, eq-eqb}
use Rattle.accounts.specs.declared.Quota.{Quota}
use Rattle.accounts.specs.declared.Hold.{Hold}
use Rattle.accounts.specs.Accounts.{zero_quota, zero_hold}
use Rattle.accounts.proofs.Laws.{same_accounts}
use Rattle.image_model.proofs.Items.{All, all_both}
use Rattle.lists.proofs.Bools.{and_left, and_right, and_both}
use Rattle.comparison.specs.Differences.{State, Run, same_quota, same_record, number_part, quota_part, record_part, runs, bytes_of, byte_part}
use Rattle.comparison.specs.Differences.{differences}
use Rattle.comparison.specs.Listing.{part_of, start_of, Before, Longest, OneSize}
use Rattle.comparison.specs.declared.Difference.{Difference}
use Rattle.comparison.specs.declared.Difference.TheVariants.{LastSerial, Kind, Edition, Quota as QuotaAt, Record as RecordAt, Bytes}
use Rattle.comparison.proofs.Lists.{all_imply, all_member, all_map, Sorted, sorted_both, parts_rise, sorted_places, not_before_itself}
use Rattle.comparison.proofs.Runs.{Split, no_runs, runs_split}
use Rattle.comparison.proofs.Longest.{runs_sorted, runs_exact, bytes_exact}
use Rattle.comparison.proofs.Items.{differing_all, differing_sorted, none_differing, differing_none, items_exact}

-- two quotas and two records are the same exactly if they are equal
pub same_quota_self : (x : Quota) → same_quota x x ≡ true
unfolding same_quota
same_quota_self x =
    and_both _ _ (eq-eqb x.grant x.grant refl) (and_both _ _ (eq-eqb x.remainder x.remainder refl) (eq-eqb x.permissions x.permissions refl))

pub same_quota_is : (x y : Quota) → same_quota x y ≡ true → x ≡ y
unfolding same_quota
same_quota_is x y e =
    let g = eqb-true x.grant y.grant (and_left _ _ e) in
    let f = and_right (eqb x.grant y.grant) _ e in
    let r = eqb-true x.remainder y.remainder (and_left _ _ f) in
    let p = eqb-true x.permissions y.permissions (and_right (eqb x.remainder y.remainder) _ f) in
    λ i. record { grant = g i; remainder = r i; permissions = p i }

pub same_record_self : (x : Hold) → same_record x x ≡ true
unfolding same_record
same_record_self x =
    and_both _ _ (eq-eqb x.serial x.serial refl) (and_both _ _ (eq-eqb x.quota x.quota refl) (eq-eqb x.count x.count refl))

pub same_record_is : (x y : Hold) → same_record x y ≡ true → x ≡ y
unfolding same_record
same_record_is x y e =
    let s = eqb-true x.serial y.serial (and_left _ _ e) in
    let f = and_right (eqb x.serial y.serial) _ e in
    let q = eqb-true x.quota y.quota (and_left _ _ f) in
    let n = eqb-true x.count y.count (and_right (eqb x.quota y.quota) _ f) in
    λ i. record { serial = s i; quota = q i; count = n i }

-- the parts: what is in each, and in order
module _ (name : Difference) (x y : ℕ) where
  number_in : All (λ d. part_of d ≡ part_of name) (number_part name x y)
  unfolding number_part
  number_in = go (eqb x y)
    where
      go : (b : Bool) → All (λ d. part_of d ≡ part_of name) (cond b [] (name ∷ []))
      go true = tt
      go false = (refl, tt)

  number_sorted : Sorted (number_part name x y)
  unfolding number_part
  number_sorted = go (eqb x y)
    where
      go : (b : Bool) → Sorted (cond b [] (name ∷ []))
      go true = tt
      go false = (tt, tt)

  number_is : Memᴰ name (number_part name x y) ↔ (x ≢ y)
  unfolding number_part
  number_is = go (eqb x y) refl
    where
      go : (b : Bool) → eqb x y ≡ b → Memᴰ name (cond b [] (name ∷ [])) ↔ (x ≢ y)
      go true e = (λ m. absurd (Memᴰ.not-nil m), λ f. absurd (f (eqb-true x y e)))
      go false e = (λ m. eqb-false x y e, λ f. Memᴰ.head refl)

quota_in : (xs ys : List Quota) → All (λ d. part_of d ≡ 3) (quota_part 0 xs ys)
unfolding quota_part
quota_in xs ys = differing_all same_quota QuotaAt (λ d. part_of d ≡ 3) 0 xs ys (λ k l. refl)

record_in : (xs ys : List Hold) → All (λ d. part_of d ≡ 4) (record_part 0 xs ys)
unfolding record_part
record_in xs ys = differing_all same_record RecordAt (λ d. part_of d ≡ 4) 0 xs ys (λ k l. refl)

bytes_in : (s t : List ℕ) → All (λ d. part_of d ≡ 5) (byte_part 0 s t)
unfolding byte_part
bytes_in s t = all_map bytes_of (λ d. part_of d ≡ 5) (runs 0 s t) (go (runs 0 s t))
  where
    go : (rs : List Run) → All (λ (r : Run). part_of (bytes_of r) ≡ 5) rs
    go [] = tt
    go (r ∷ rs) = (refl, go rs)

-- a difference of another part is not in the front of a list, or only there
module _ (d : Difference) (m : ℕ) (xs ys : List Difference) where
  skip_part : All (λ e. part_of e ≡ m) xs → m < part_of d → Memᴰ d (xs ++ ys) ↔ Memᴰ d ys
  skip_part a l = (
    λ i. ⊎_elim (λ j. absurd (omega (arith, all_member (λ e. part_of e ≡ m) xs a d j))) (λ j. j) (Memᴰ.append_cases xs i),
    Memᴰ.append_right xs,
  )

  only_part : All (λ e. m < part_of e) ys → part_of d ≡ m → Memᴰ d (xs ++ ys) ↔ Memᴰ d xs
  only_part a l = (
    λ i. ⊎_elim (λ j. j) (λ j. absurd (omega (arith, all_member (λ e. m < part_of e) ys a d j))) (Memᴰ.append_cases xs i),
    Memᴰ.append_left ys,
  )

higher : (m n : ℕ) (xs : List Difference) → m < n → All (λ d. part_of d ≡ n) xs → All (λ d. m < part_of d) xs
higher m n xs l a = all_imply (λ d. part_of d ≡ n) (λ d. m < part_of d) (λ d e. omega arith) xs a

then : {P Q R : Type 0} → P ↔ Q → Q ↔ R → P ↔ R
then v w = (λ p. w.0 (v.0 p), λ r. v.1 (w.1 r))

module _ (a b : State) where
  serials : List Difference
  serials = number_part LastSerial a.accounts.last_serial b.accounts.last_serial

  kinds : List Difference
  kinds = number_part Kind a.accounts.kind b.accounts.kind

  editions : List Difference
  editions = number_part Edition a.accounts.edition b.accounts.edition

  quotas : List Difference
  quotas = quota_part 0 a.accounts.quotas b.accounts.quotas

  records : List Difference
  records = record_part 0 a.accounts.holds b.accounts.holds

  bytes : List Difference
  bytes = byte_part 0 a.heap b.heap

  bytes_above : (m : ℕ) → m < 5 → All (λ d. m < part_of d) bytes
  unfolding bytes
  bytes_above m l = higher m 5 bytes l (bytes_in a.heap b.heap)

  records_above : (m : ℕ) → m < 4 → All (λ d. m < part_of d) (records ++ bytes)
  unfolding records
  records_above m l =
      all_both (λ d. m < part_of d) records bytes (higher m 4 records l (record_in a.accounts.holds b.accounts.holds)) (bytes_above m (omega arith))

  quotas_above : (m : ℕ) → m < 3 → All (λ d. m < part_of d) (quotas ++ (records ++ bytes))
  unfolding quotas
  quotas_above m l =
      all_both (λ d. m < part_of d) quotas (records ++ bytes) (higher m 3 quotas l (quota_in a.accounts.quotas b.accounts.quotas))
      (records_above m (omega arith))

  editions_above : (m : ℕ) → m < 2 → All (λ d. m < part_of d) (editions ++ (quotas ++ (records ++ bytes)))
  unfolding editions
  editions_above m l =
      all_both (λ d. m < part_of d) editions (quotas ++ (records ++ bytes))
      (higher m 2 editions l (number_in Edition a.accounts.edition b.accounts.edition))
      (quotas_above m (omega arith))

  -- what is behind the serials
  settings : List Difference
  settings = kinds ++ (editions ++ (quotas ++ (records ++ bytes)))

  settings_above : All (λ d. 0 < part_of d) settings
  unfolding kinds settings
  settings_above =
      all_both (λ d. 0 < part_of d) kinds (editions ++ (quotas ++ (records ++ bytes)))
      (higher 0 1 kinds (omega arith) (number_in Kind a.accounts.kind b.accounts.kind))
      (editions_above 0 (omega arith))

  -- the list is sorted
  sorted : Sorted (differences a b)
  unfolding differences serials kinds editions quotas records bytes settings quota_part record_part byte_part
  sorted =
      sorted_both serials settings (number_sorted LastSerial a.accounts.last_serial b.accounts.last_serial)
      (sorted_both kinds (editions ++ (quotas ++ (records ++ bytes))) (number_sorted Kind a.accounts.kind b.accounts.kind)
      (sorted_both editions (quotas ++ (records ++ bytes)) (number_sorted Edition a.accounts.edition b.accounts.edition)
      (sorted_both quotas (records ++ bytes) (differing_sorted same_quota QuotaAt (λ j k l. inr (refl, l)) 0 a.accounts.quotas b.accounts.quotas)
      (sorted_both records bytes (differing_sorted same_record RecordAt (λ j k l. inr (refl, l)) 0 a.accounts.holds b.accounts.holds)
      (runs_sorted a.heap b.heap 0 (runs 0 a.heap b.heap) (runs_split a.heap b.heap 0))
      (parts_rise 4 records bytes (record_in a.accounts.holds b.accounts.holds) (bytes_above 4 (omega arith))))
      (parts_rise 3 quotas (records ++ bytes) (quota_in a.accounts.quotas b.accounts.quotas) (records_above 3 (omega arith))))
      (parts_rise 2 editions (quotas ++ (records ++ bytes)) (number_in Edition a.accounts.edition b.accounts.edition) (quotas_above 2 (omega arith))))
      (parts_rise 1 kinds (editions ++ (quotas ++ (records ++ bytes))) (number_in Kind a.accounts.kind b.accounts.kind)
      (editions_above 1 (omega arith))))
      (parts_rise 0 serials settings (number_in LastSerial a.accounts.last_serial b.accounts.last_serial) settings_above)

  -- asked for two, the one with the lower number comes before the other; so nothing is listed twice
  pub in_order : (m n : ℕ) (d e : Difference) → m < n → slice_get (differences a b) m ≡ Some d → slice_get (differences a b) n ≡ Some e → Before d e
  in_order = sorted_places (differences a b) sorted

  pub listed_once : (m n : ℕ) (d : Difference) → slice_get (differences a b) m ≡ Some d → slice_get (differences a b) n ≡ Some d → m ≡ n
  listed_once m n d p q =
      let x : n < suc m = lt_of_not-le (λ l. not_before_itself d (in_order m n d d l p q)) in
      let y : m < suc n = lt_of_not-le (λ l. not_before_itself d (in_order n m d d l q p)) in
      omega arith

  -- what is listed is exactly what differs
  pub serial_exact : Memᴰ LastSerial (differences a b) ↔ (a.accounts.last_serial ≢ b.accounts.last_serial)
  unfolding differences serials kinds editions quotas records bytes settings
  serial_exact =
      then (only_part LastSerial 0 serials settings settings_above refl)
      (number_is LastSerial a.accounts.last_serial b.accounts.last_serial)

  behind_serial : (d : Difference) → 0 < part_of d → Memᴰ d (differences a b) ↔ Memᴰ d settings
  unfolding differences serials kinds editions quotas records bytes settings
  behind_serial d l = skip_part d 0 serials settings (number_in LastSerial a.accounts.last_serial b.accounts.last_serial) l

  pub kind_exact : Memᴰ Kind (differences a b) ↔ (a.accounts.kind ≢ b.accounts.kind)
  unfolding kinds settings
  kind_exact =
      then (behind_serial Kind (omega arith))
      (then (only_part Kind 1 kinds (editions ++ (quotas ++ (records ++ bytes))) (editions_above 1 (omega arith)) refl)
      (number_is Kind a.accounts.kind b.accounts.kind))

  behind_kind : (d : Difference) → 1 < part_of d → Memᴰ d (differences a b) ↔ Memᴰ d (editions ++ (quotas ++ (records ++ bytes)))
  unfolding kinds settings
  behind_kind d l =
      then (behind_serial d (omega arith))
      (skip_part d 1 kinds (editions ++ (quotas ++ (records ++ bytes))) (number_in Kind a.accounts.kind b.accounts.kind) l)

  pub edition_exact : Memᴰ Edition (differences a b) ↔ (a.accounts.edition ≢ b.accounts.edition)
  unfolding editions
  edition_exact =
      then (behind_kind Edition (omega arith))
      (then (only_part Edition 2 editions (quotas ++ (records ++ bytes)) (quotas_above 2 (omega arith)) refl)
      (number_is Edition a.accounts.edition b.accounts.edition))

  behind_edition : (d : Difference) → 2 < part_of d → Memᴰ d (differences a b) ↔ Memᴰ d (quotas ++ (records ++ bytes))
  unfolding editions
  behind_edition d l =
      then (behind_kind d (omega arith))
      (skip_part d 2 editions (quotas ++ (records ++ bytes)) (number_in Edition a.accounts.edition b.accounts.edition) l)

  behind_quotas : (d : Difference) → 3 < part_of d → Memᴰ d (differences a b) ↔ Memᴰ d (records ++ bytes)
  unfolding quotas
  behind_quotas d l =
      then (behind_edition d (omega arith)) (skip_part d 3 quotas (records ++ bytes) (quota_in a.accounts.quotas b.accounts.quotas) l)

  behind_records : (d : Difference) → 4 < part_of d → Memᴰ d (differences a b) ↔ Memᴰ d bytes
  unfolding records
  behind_records d l = then (behind_quotas d (omega arith)) (skip_part d 4 records bytes (record_in a.accounts.holds b.accounts.holds) l)

  module _ (w : OneSize a b) where
    pub quota_exact : (q : ℕ) → Memᴰ (QuotaAt q) (differences a b)
        ↔ (get_or a.accounts.quotas q zero_quota ≢ get_or b.accounts.quotas q zero_quota)
    unfolding quotas quota_part
    quota_exact q =
        then (behind_edition (QuotaAt q) (omega arith))
        (then (only_part (QuotaAt q) 3 quotas (records ++ bytes) (records_above 3 (omega arith)) refl)
        (items_exact same_quota QuotaAt (λ j k e. ap start_of e) same_quota_self same_quota_is zero_quota a.accounts.quotas
        b.accounts.quotas w.quotas q))

    pub record_exact : (p : ℕ) → Memᴰ (RecordAt p) (differences a b)
        ↔ (get_or a.accounts.holds p zero_hold ≢ get_or b.accounts.holds p zero_hold)
    unfolding records record_part
    record_exact p =
        then (behind_quotas (RecordAt p) (omega arith))
        (then (only_part (RecordAt p) 4 records bytes (bytes_above 4 (omega arith)) refl)
        (items_exact same_record RecordAt (λ j k e. ap start_of e) same_record_self same_record_is zero_hold a.accounts.holds
        b.accounts.holds w.holds p))

    -- runs: exactly the longest ones; and a byte differs exactly if it is in one of them
    pub run_exact : (at n : ℕ) → Memᴰ (Bytes at n) (differences a b) ↔ Longest a.heap b.heap at n
    unfolding bytes
    run_exact at n = then (behind_records (Bytes at n) (omega arith)) (runs_exact a.heap b.heap w.heap at n)

    pub byte_exact : (k : ℕ) → (get_or a.heap k 0 ≢ get_or b.heap k 0)
        ↔ ((at : ℕ) × (n : ℕ) × Memᴰ (Bytes at n) (differences a b) × (at ≤ k) × (k < at + n))
    unfolding bytes
    byte_exact k =
        let e = bytes_exact a.heap b.heap w.heap k in
        let m : (at n : ℕ) → Memᴰ (Bytes at n) (differences a b) ↔ Memᴰ (Bytes at n) bytes = λ at n. behind_records (Bytes at n) (omega arith) in (
          λ d. let x = e.0 d in (x.0, x.1, (m x.0 x.1).1 x.2, x.3, x.4),
          λ x. e.1 (x.0, x.1, (m x.0 x.1).0 x.2, x.3, x.4),
        )

-- nothing is listed if and only if the two states are equal
no_front : (xs ys : List Difference) → xs ++ ys ≡ [] → (xs ≡ []) × (ys ≡ [])
no_front [] ys e = (refl, e)
no_front (x ∷ xs) ys e = let no : ◌≡◌ {A = ℕ} 0 1 = cc in absurd (omega arith)

number_none : (name : Difference) (x y : ℕ) → number_part name x y ≡ [] → x ≡ y
unfolding number_part
number_none name x y e = go (eqb x y) refl e
  where
    go : (b : Bool) → eqb x y ≡ b → cond b [] (name ∷ []) ≡ [] → x ≡ y
    go true q z = eqb-true x y q
    go false q z = let no : ◌≡◌ {A = ℕ} 0 1 = cc in absurd (omega arith)

bytes_none : (s t : List ℕ) → length s ≡ length t → byte_part 0 s t ≡ [] → s ≡ t
unfolding byte_part
bytes_none s t l e = go (runs 0 s t) (runs_split s t 0) e
  where
    go : (rs : List Run) → Split s t 0 rs → map bytes_of rs ≡ [] → s ≡ t
    go [] w z = ext_get_or 0 s t l (λ k h. eqb-true (get_or s k 0) (get_or t k 0) (w k (omega arith) (omega arith)))
    go (r ∷ rs) w z = let no : ◌≡◌ {A = ℕ} 0 1 = cc in absurd (omega arith)

none_bytes : (s : List ℕ) → byte_part 0 s s ≡ []
unfolding byte_part
none_bytes s = ap (map bytes_of) (no_runs s s 0 (λ k l h. eq-eqb (get_or s k 0) (get_or s k 0) refl))

pub differences_self : (a : State) → differences a a ≡ []
unfolding differences number_part quota_part record_part
differences_self a =
    rw (
      eq-eqb a.accounts.last_serial a.accounts.last_serial refl,
      eq-eqb a.accounts.kind a.accounts.kind refl,
      eq-eqb a.accounts.edition a.accounts.edition refl,
      none_differing same_quota QuotaAt same_quota_self 0 a.accounts.quotas,
      none_differing same_record RecordAt same_record_self 0 a.accounts.holds,
      none_bytes a.heap,
    )

pub differences_empty : (a b : State) → OneSize a b → (differences a b ≡ []) ↔ (a ≡ b)
unfolding differences quota_part record_part
differences_empty a b w = (there, λ e. rw e (differences_self b))
  where
    there : differences a b ≡ [] → a ≡ b
    there e =
        let x = no_front (number_part LastSerial a.accounts.last_serial b.accounts.last_serial) _ e in
        let u = no_front (number_part Kind a.accounts.kind b.accounts.kind) _ x.1 in
        let v = no_front (number_part Edition a.accounts.edition b.accounts.edition) _ u.1 in
        let y = no_front (quota_part 0 a.accounts.quotas b.accounts.quotas) _ v.1 in
        let z = no_front (record_part 0 a.accounts.holds b.accounts.holds) _ y.1 in
        let n = number_none LastSerial a.accounts.last_serial b.accounts.last_serial x.0 in
        let c = number_none Kind a.accounts.kind b.accounts.kind u.0 in
        let f = number_none Edition a.accounts.edition b.accounts.edition v.0 in
        let q = differing_none same_quota QuotaAt same_quota_is 0 a.accounts.quotas b.accounts.quotas w.quotas y.0 in
        let h = differing_none same_record RecordAt same_record_is 0 a.accounts.holds b.accounts.holds w.holds z.0 in
        let s = bytes_none a.heap b.heap w.heap z.1 in
        let k = same_accounts a.accounts b.accounts q n h c f in
        λ i. record { heap = s i; accounts = k i }
