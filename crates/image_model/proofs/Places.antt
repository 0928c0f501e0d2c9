-- What is true of each form: of its numbers, and of the four places in which forms differ. A later form adds its case here and in the
-- definitions of `Stream`; every law above this file speaks of any form that has a number.
use Rattle.std.specs.Prelude.{Some, None}
use mathlib.Core.Path.{◌≡◌, refl, ap, sym, ◌∙◌}
use mathlib.Core.List.{List, [], ◌∷◌, ◌++◌, append-nil}
use mathlib.Core.Bool.{Bool, true, false, cond, not, ◌&&◌, ◌||◌, true≢false}
use Prim.Native.Nat.{ℕ, ◌%◌, ◌≤◌, ◌<◌, ◌^◌}
use native.Mathlib.Omega.{arith}
use native.Mathlib.Nat.{mod-eq_of_lt}
use lib.ListN.{length, take, drop, replicate, get_or, length-drop}
use lib.Dec.{eqb, ltb, lit<}
use borrow.Author.Tests.{eqb-true, lt-ltb, not-true, not-false}
use Rattle.accounts.specs.declared.Quota.{Quota}
use Rattle.accounts.specs.declared.Hold.{Hold}
use Rattle.accounts.specs.declared.Accounts.{Accounts}
use Rattle.accounts.specs.Accounts.{QUOTAS, HOLDS, ALL_PERMISSIONS, permissible, zero_hold, with_permissions, granted, opened, used, unused}
use Rattle.accounts.specs.Accounts.{with_kind, with_edition}
use Rattle.layout.specs.Bytes.{bytes, Octets}
use Rattle.lists.specs.Lists.{all}
use Rattle.lists.proofs.Bools.{and_left, and_right}
use Rattle.image_model.specs.Items.{all_zero}
use Rattle.image_model.specs.Stream.{form_1, form_2, form_numbered, entry_tail, tail_width, tail_of, tail_right, marks_of, marks_right, with_marks}
use Rattle.image_model.specs.Stream.{no_grant, all_permitted, carries, blank, head_length, Typed}
use Rattle.image_model.specs.declared.Form.{Form}
use Rattle.image_model.proofs.Rows.{head_rows}
use Rattle.image_model.proofs.FullRows
use Rattle.image_model.proofs.KindRows
use Rattle.image_model.proofs.EditionRows
use Rattle.image_model.proofs.Items.{All, all_drop, all_map, all_tested, tested_all, all_two, all_of, none_behind, filled_behind, zeros_are, are_zeros}
use Rattle.image_model.proofs.Parts.{bytes_split_here, one_at}

-- f is a form that has a number
abbrev pub Known : Form → Type 0
Known f = form_numbered f.number ≡ Some f

-- there are two of them: what holds of both, with their numbers, holds of each form with its own
module _ (P : ℕ → Form → Type 0) (first : P 1 form_1) (second : P 2 form_2) (n : ℕ) (f : Form) where
  or_second : (x : Bool) → eqb n 2 ≡ x → cond x (Some form_2) None ≡ Some f → P n f
  or_second true t e = let w : form_2 ≡ f = cc in rw (eqb-true n 2 t, ← w) second
  or_second false t e = let z : ◌≡◌ {A = ℕ} 0 1 = cc in absurd (omega arith)

  either : (x : Bool) → eqb n 1 ≡ x → cond x (Some form_1) (cond (eqb n 2) (Some form_2) None) ≡ Some f → P n f
  either true t e = let w : form_1 ≡ f = cc in rw (eqb-true n 1 t, ← w) first
  either false t e = or_second (eqb n 2) refl e

  pub by_number : form_numbered n ≡ Some f → P n f
  unfolding form_numbered
  by_number e = either (eqb n 1) refl e

-- the form with a number has that number
pub form_has_number : (n : ℕ) (f : Form) → form_numbered n ≡ Some f → f.number ≡ n
unfolding form_1 form_2
form_has_number n f e = by_number (λ m g. g.number ≡ m) refl refl n f e

pub form_is_known : (n : ℕ) (f : Form) → form_numbered n ≡ Some f → Known f
form_is_known n f e = ap form_numbered (form_has_number n f e) ∙ e

-- forms 1 and 2 have theirs
pub known_1 : Known form_1
unfolding form_numbered form_1
known_1 = refl

pub known_2 : Known form_2
unfolding form_numbered form_2
known_2 = refl

-- two forms with one number are the same
pub same_number : (f g : Form) → Known f → Known g → f.number ≡ g.number → f ≡ g
same_number f g e h n = let w : Some f ≡ Some g = sym e ∙ ap form_numbered n ∙ h in cc

-- a known form's number fits two bytes, it has no more quotas and records than the accounts, all of them where it is full, and its head is short
pub record Shaped (f : Form) : Type 0 where
  pub number : f.number < 2 ^ 16
  pub quotas : f.quotas ≤ QUOTAS
  pub records : f.records ≤ HOLDS
  pub whole : f.full ≡ true → (QUOTAS ≤ f.quotas) × (HOLDS ≤ f.records)
  pub least : 1 ≤ head_length f
  pub most : head_length f ≤ 8192

shaped_1 : Shaped form_1
unfolding form_1
shaped_1 =
    let h = head_rows.0 in
    let no : form_1.full ≡ true → (QUOTAS ≤ form_1.quotas) × (HOLDS ≤ form_1.records) = λ e. absurd (true≢false (sym e)) in
    record { number = omega arith; quotas = omega arith; records = omega arith; whole = no; least = omega arith; most = omega arith }

shaped_2 : Shaped form_2
unfolding form_2
shaped_2 =
    let h = head_rows.1 in
    let all-of-them : form_2.full ≡ true → (QUOTAS ≤ form_2.quotas) × (HOLDS ≤ form_2.records) = λ e. (omega arith, omega arith) in
    record { number = omega arith; quotas = omega arith; records = omega arith; whole = all-of-them; least = omega arith; most = omega arith }

pub known_shaped : (f : Form) → Known f → Shaped f
known_shaped f e = by_number (λ n g. Shaped g) shaped_1 shaped_2 f.number f e

no_bytes : (s : List ℕ) → length s ≡ 0 → s ≡ []
no_bytes [] l = refl
no_bytes (x ∷ s) l = absurd (omega arith)

-- First place. The tail's bytes are as many as its width, they are right, and they say the quota that they were written of
module _ (f : Form) where
  pub tail_length : (q : Quota) → length (entry_tail f q) ≡ tail_width f
  unfolding entry_tail tail_width bytes
  tail_length q = go f.full
    where
      go : (x : Bool) → length (cond x (bytes 1 q.permissions ++ replicate 3 0) []) ≡ cond x 4 0
      go true = refl
      go false = refl

  -- the first of them
  tail_first : (q : Quota) → q.permissions < 2 ^ 8 → get_or (bytes 1 q.permissions ++ replicate 3 0) 0 0 ≡ q.permissions
  unfolding bytes
  tail_first q h = mod-eq_of_lt h

  pub tail_tested : (q : Quota) → q.permissions < 2 ^ 8 → permissible q.permissions ≡ true → tail_right f (entry_tail f q) ≡ true
  unfolding entry_tail tail_right bytes
  tail_tested q h p = go f.full
    where
      tail : Bool → List ℕ
      tail x = cond x (bytes 1 q.permissions ++ replicate 3 0) []

      go : (x : Bool) → (not x || (permissible (get_or (tail x) 0 0) && all_zero (drop 1 (tail x)))) ≡ true
      go true = rw (tail_first q h, p) (are_zeros 3)
      go false = refl

  pub tail_back : (q : Quota) → q.permissions < 2 ^ 8 → (f.full || all_permitted q) ≡ true
      → tail_of f (entry_tail f q) (record { grant = q.grant; remainder = q.remainder; permissions = 0 }) ≡ q
  unfolding entry_tail tail_of
  tail_back q h e = go f.full e
    where
      go : (x : Bool) → (x || all_permitted q) ≡ true
          → with_permissions (cond x (get_or (cond x (bytes 1 q.permissions ++ replicate 3 0) []) 0 0) ALL_PERMISSIONS)
          (record { grant = q.grant; remainder = q.remainder; permissions = 0 })
          ≡ q
      go true y = λ i. with_permissions (tail_first q h i) q
      go false y = λ i. with_permissions (sym (eqb-true q.permissions ALL_PERMISSIONS y) i) q

  -- bytes that are right are those of the quota that they say, whose grant and remainder are as they were
  pub tail_again : (s : List ℕ) (q : Quota) → Octets s → length s ≡ tail_width f → tail_right f s ≡ true → entry_tail f (tail_of f s q) ≡ s
  unfolding entry_tail tail_width tail_of tail_right
  tail_again s q o l e = go f.full l e
    where
      go : (x : Bool) → length s ≡ cond x 4 0 → (not x || (permissible (get_or s 0 0) && all_zero (drop 1 s))) ≡ true
          → cond x (bytes 1 (cond x (get_or s 0 0) ALL_PERMISSIONS) ++ replicate 3 0) [] ≡ s
      go true l e =
          let n : length (drop 1 s) ≡ 3 = simp length-drop (omega arith) in
          let z : replicate 3 0 ≡ drop 1 s = sym (rw n at (zeros_are (drop 1 s) (and_right (permissible (get_or s 0 0)) _ e))) in
          rw (z, ← one_at 0 s (omega arith)) (bytes_split_here 1 0 s o (omega arith))
      go false l e = sym (no_bytes s l)

  pub tail_keeps : (s : List ℕ) (q : Quota) → ((tail_of f s q).grant ≡ q.grant) × ((tail_of f s q).remainder ≡ q.remainder)
  unfolding tail_of
  tail_keeps s q = (refl, refl)

  -- they say a number that fits, and every permission where the form is not full
  pub tail_narrow : (s : List ℕ) (q : Quota) → Octets s → (tail_of f s q).permissions < 2 ^ 8
  unfolding tail_of
  tail_narrow s q o = go f.full
    where
      go : (x : Bool) → cond x (get_or s 0 0) ALL_PERMISSIONS < 2 ^ 8
      go true = o 0
      go false = lit< tt

  pub tail_permits : (s : List ℕ) (q : Quota) → f.full ≡ false → (tail_of f s q).permissions ≡ ALL_PERMISSIONS
  unfolding tail_of
  tail_permits s q e = rw e

-- Second place. The marks are two bytes, they are right, and they say the accounts that they were written of
module _ (f : Form) where
  pub marks_length : (k : Accounts) → length (marks_of f k) ≡ 2
  unfolding marks_of bytes
  marks_length k = go f.full
    where
      go : (x : Bool) → length (cond x (bytes 1 k.edition ++ bytes 1 k.kind) (replicate 2 0)) ≡ 2
      go true = refl
      go false = refl

  pub marks_tested : (k : Accounts) → k.kind < 2 → k.edition < 2 → marks_right f (marks_of f k) ≡ true
  unfolding marks_of marks_right bytes
  marks_tested k h g = go f.full
    where
      marks : Bool → List ℕ
      marks x = cond x (bytes 1 k.edition ++ bytes 1 k.kind) (replicate 2 0)

      go : (x : Bool) → cond x (ltb (get_or (marks x) 0 0) 2 && ltb (get_or (marks x) 1 0) 2) (all_zero (marks x)) ≡ true
      go true =
          let e : k.edition % 256 ≡ k.edition = mod-eq_of_lt (omega arith) in
          let d : k.kind % 256 ≡ k.kind = mod-eq_of_lt (omega arith) in
          rw (e, d, lt-ltb k.edition 2 g) (lt-ltb k.kind 2 h)
      go false = are_zeros 2

  -- what the form says of the kind and the edition is all that there is to say
  pub marks_back : (k : Accounts) → k.kind < 2 ^ 8 → k.edition < 2 ^ 8 → (f.full || all_zero (marks_of form_2 k)) ≡ true
      → with_marks f (marks_of f k) (record { quotas = k.quotas; last_serial = k.last_serial; holds = k.holds; kind = 0; edition = 0 }) ≡ k
  unfolding marks_of with_marks bytes form_2 all_zero all
  marks_back k h g e = go f.full e
    where
      same_kind : k.kind % 256 ≡ k.kind
      same_kind = mod-eq_of_lt h

      same_edition : k.edition % 256 ≡ k.edition
      same_edition = mod-eq_of_lt g

      marks : Bool → List ℕ
      marks x = cond x (bytes 1 k.edition ++ bytes 1 k.kind) (replicate 2 0)

      go : (x : Bool) → (x || (eqb 0 (k.edition % 256) && (eqb 0 (k.kind % 256) && true))) ≡ true
          → with_edition (cond x (get_or (marks x) 0 0) 0) (with_kind (cond x (get_or (marks x) 1 0) 0) k) ≡ k
      go true y = λ i. with_edition (same_edition i) (with_kind (same_kind i) k)
      go false y =
          let a = eqb-true 0 (k.edition % 256) (and_left (eqb 0 (k.edition % 256)) _ y) ∙ same_edition in
          let b = eqb-true 0 (k.kind % 256) (and_left (eqb 0 (k.kind % 256)) true (and_right (eqb 0 (k.edition % 256)) _ y)) ∙ same_kind in
          λ i. with_edition (a i) (with_kind (b i) k)

  -- bytes that are right are those of the accounts that they say, which are otherwise as they were
  pub marks_again : (m : List ℕ) (k : Accounts) → Octets m → length m ≡ 2 → marks_right f m ≡ true → marks_of f (with_marks f m k) ≡ m
  unfolding marks_of marks_right with_marks
  marks_again m k o l e = go f.full e
    where
      go : (x : Bool) → cond x (ltb (get_or m 0 0) 2 && ltb (get_or m 1 0) 2) (all_zero m) ≡ true
          → cond x (bytes 1 (cond x (get_or m 0 0) 0) ++ bytes 1 (cond x (get_or m 1 0) 0)) (replicate 2 0) ≡ m
      go true e =
          let n : drop 2 m ≡ [] = no_bytes (drop 2 m) (simp length-drop (omega arith)) in
          let last : bytes 1 (get_or m 1 0) ≡ drop 1 m =
          rw (← one_at 1 m (omega arith)) (rw (n, append-nil) at (bytes_split_here 1 1 m o (omega arith))) in
          rw (last, ← one_at 0 m (omega arith)) (bytes_split_here 1 0 m o (omega arith))
      go false e = sym (rw l at (zeros_are m e))

  pub marks_keep : (m : List ℕ) (k : Accounts)
      → ((with_marks f m k).quotas ≡ k.quotas) × ((with_marks f m k).last_serial ≡ k.last_serial) × ((with_marks f m k).holds ≡ k.holds)
  unfolding with_marks
  marks_keep m k = (refl, refl, refl)

  -- they say numbers that fit; and where the form is not full, accounts whose marks in form 2 are zero
  pub marks_narrow : (m : List ℕ) (k : Accounts) → Octets m → ((with_marks f m k).kind < 2 ^ 8) × ((with_marks f m k).edition < 2 ^ 8)
  unfolding with_marks
  marks_narrow m k o = (go 1 f.full, go 0 f.full)
    where
      go : (j : ℕ) (x : Bool) → cond x (get_or m j 0) 0 < 2 ^ 8
      go j true = o j
      go j false = lit< tt

  pub marks_blank : (m : List ℕ) (k : Accounts) → f.full ≡ false → all_zero (marks_of form_2 (with_marks f m k)) ≡ true
  unfolding marks_of with_marks bytes form_2
  marks_blank m k e = rw e (are_zeros 2)

-- Third place. A full form carries all accounts; of another one these are the facts
pub full_carries : (f : Form) (k : Accounts) → f.full ≡ true → carries f k ≡ true
unfolding carries
full_carries f k e = rw e

pub record Carried (f : Form) (k : Accounts) : Type 0 where
  pub grants : All (λ (q : Quota). no_grant q ≡ true) (drop f.quotas k.quotas)
  pub records : All (λ (h : Hold). unused h ≡ true) (drop f.records k.holds)
  pub permissions : All (λ (q : Quota). all_permitted q ≡ true) k.quotas
  pub marks : all_zero (marks_of form_2 k) ≡ true

module _ (f : Form) (k : Accounts) (lean : f.full ≡ false) where
  abbrev grants_test : Bool
  grants_test = all no_grant (drop f.quotas k.quotas)

  abbrev records_test : Bool
  records_test = all unused (drop f.records k.holds)

  abbrev permissions_test : Bool
  permissions_test = all all_permitted k.quotas

  pub carried_facts : carries f k ≡ true → Carried f k
  unfolding carries
  carried_facts c =
      let e : (grants_test && (records_test && (permissions_test && all_zero (marks_of form_2 k)))) ≡ true = rw lean at c in
      let a = and_right grants_test _ e in
      let b = and_right records_test _ a in
      record {
        grants = tested_all no_grant (drop f.quotas k.quotas) (and_left grants_test _ e);
        records = tested_all unused (drop f.records k.holds) (and_left records_test _ a);
        permissions = tested_all all_permitted k.quotas (and_left permissions_test _ b);
        marks = and_right permissions_test _ b;
      }

  pub facts_carried : Carried f k → carries f k ≡ true
  unfolding carries
  facts_carried c =
      let g = all_tested no_grant (drop f.quotas k.quotas) c.grants in
      let r = all_tested unused (drop f.records k.holds) c.records in
      let p = all_tested all_permitted k.quotas c.permissions in
      rw (lean, g, r, p) c.marks

-- what the form says of the quotas' permissions, and of the marks, is all that there is to say
pub all_carried : (f : Form) (k : Accounts) → carries f k ≡ true → All (λ (q : Quota). (f.full || all_permitted q) ≡ true) k.quotas
all_carried f k c = go f.full refl
  where
    go : (x : Bool) → f.full ≡ x → All (λ (q : Quota). (f.full || all_permitted q) ≡ true) k.quotas
    go true e = all_of (λ (q : Quota). (f.full || all_permitted q) ≡ true) (λ q. rw e) k.quotas
    go false e =
        all_map (λ (q : Quota). all_permitted q ≡ true) (λ (q : Quota). (f.full || all_permitted q) ≡ true) (λ q p. rw (e, p)) k.quotas
        (carried_facts f k e c).permissions

pub marks_carried : (f : Form) (k : Accounts) → carries f k ≡ true → (f.full || all_zero (marks_of form_2 k)) ≡ true
marks_carried f k c = go f.full refl
  where
    go : (x : Bool) → f.full ≡ x → (f.full || all_zero (marks_of form_2 k)) ≡ true
    go true e = rw e
    go false e = rw e (carried_facts f k e c).marks

-- Fourth place. What the form lacks is as long as the accounts are; its quotas have every permission, and all its other numbers are zero
pub blank_lengths : (f : Form) → (length (blank f).quotas ≡ QUOTAS) × (length (blank f).holds ≡ HOLDS)
unfolding blank opened
blank_lengths f = (refl, refl)

pub blank_is : (f : Form) → ((blank f).quotas ≡ replicate QUOTAS (granted 0)) × ((blank f).holds ≡ replicate HOLDS zero_hold)
unfolding blank opened
blank_is f = (refl, refl)

-- a quota of a consistent state has no more left than was granted, and its permissions are such
abbrev pub QuotaConsistent : Quota → Type 0
QuotaConsistent q = (q.remainder ≤ q.grant) × (permissible q.permissions ≡ true)

blank_quota : (q : Quota) → q.remainder ≤ q.grant → no_grant q ≡ true → all_permitted q ≡ true → q ≡ granted 0
blank_quota q l g p =
    let a = eqb-true q.grant 0 g in
    let b : q.remainder ≡ 0 = omega arith in
    let c = eqb-true q.permissions ALL_PERMISSIONS p in
    λ i. record { grant = a i; remainder = b i; permissions = c i }

blank_hold : (h : Hold) → unused h ≡ true → h ≡ zero_hold
unfolding unused used
blank_hold h e =
    let t = not-false _ (not-true _ e) in
    let a = and_left (eqb h.serial 0 && eqb h.quota 0) (eqb h.count 0) t in
    let s = eqb-true h.serial 0 (and_left (eqb h.serial 0) (eqb h.quota 0) a) in
    let q = eqb-true h.quota 0 (and_right (eqb h.serial 0) (eqb h.quota 0) a) in
    let n = eqb-true h.count 0 (and_right (eqb h.serial 0 && eqb h.quota 0) (eqb h.count 0) t) in
    λ i. record { serial = s i; quota = q i; count = n i }

-- accounts of a consistent state that the form carries are what it carries of them, with what it lacks behind
module _ (f : Form) (e : Known f) (k : Accounts) (y : Typed k) (c : carries f k ≡ true) where
  quotas_blank : All QuotaConsistent k.quotas → (x : Bool) → f.full ≡ x → All (λ (q : Quota). q ≡ granted 0) (drop f.quotas k.quotas)
  quotas_blank b true t =
      let w = ((known_shaped f e).whole t).0 in
      let n = y.quotas in
      none_behind (λ (q : Quota). q ≡ granted 0) f.quotas k.quotas (omega arith)
  quotas_blank b false t =
      let d = carried_facts f k t c in
      let G : Quota → Type 0 = λ (q : Quota). no_grant q ≡ true in
      let P : Quota → Type 0 = λ (q : Quota). all_permitted q ≡ true in
      let z = all_drop (λ (q : Quota). QuotaConsistent q × P q) f.quotas k.quotas (all_two QuotaConsistent P k.quotas b d.permissions) in
      all_map (λ (q : Quota). G q × (QuotaConsistent q × P q)) (λ (q : Quota). q ≡ granted 0) (λ q x. blank_quota q x.1.0.0 x.0 x.1.1)
      (drop f.quotas k.quotas) (all_two G (λ (q : Quota). QuotaConsistent q × P q) (drop f.quotas k.quotas) d.grants z)

  pub quotas_whole : All QuotaConsistent k.quotas → take f.quotas k.quotas ++ drop f.quotas (blank f).quotas ≡ k.quotas
  quotas_whole b = rw (blank_is f).0 (rw y.quotas at (filled_behind (granted 0) f.quotas k.quotas (quotas_blank b f.full refl)))

  holds_blank : (x : Bool) → f.full ≡ x → All (λ (h : Hold). h ≡ zero_hold) (drop f.records k.holds)
  holds_blank true t =
      let w = ((known_shaped f e).whole t).1 in
      let n = y.holds in
      none_behind (λ (h : Hold). h ≡ zero_hold) f.records k.holds (omega arith)
  holds_blank false t =
      all_map (λ (h : Hold). unused h ≡ true) (λ (h : Hold). h ≡ zero_hold) blank_hold (drop f.records k.holds) (carried_facts f k t c).records

  pub holds_whole : take f.records k.holds ++ drop f.records (blank f).holds ≡ k.holds
  holds_whole = rw (blank_is f).1 (rw y.holds at (filled_behind zero_hold f.records k.holds (holds_blank f.full refl)))
