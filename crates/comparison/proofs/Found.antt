-- What the searches find, put together as the first difference from a position on.
use mathlib.Core.Path.{◌≡◌, refl, ap, sym, ◌∙◌, subst}
use mathlib.Core.List.{List, [], ◌∷◌, ◌++◌}
use mathlib.Core.Bool.{Bool, true, false, true≢false}
use Prim.Native.Nat.{ℕ, zero, suc, ◌+◌, ◌-◌, ◌≤◌, ◌<◌, min}
use native.Mathlib.Nat.{lt_of_not-le}
use native.Mathlib.Omega.{arith}
use lib.ListN.{length, drop, get_or, length-append, length-drop}
use lib.Seq.{get_or-drop}
use lib.Dec.{leb}
use borrow.Author.Tests.{eq-eqb, ne_eqb, leb-true, leb-false}
use Rattle.accounts.specs.declared.Accounts.{Accounts}
use Rattle.accounts.specs.Accounts.{QUOTAS, HOLDS, zero_quota, zero_hold}
use Rattle.framing.specs.Frames.{padded, stream_of}
use Rattle.image_model.specs.Stream.{head_length}
use Rattle.image_model.specs.Reading.{form_of, size_in, accounts_of, accounts_in, heap_of, heap_in}
use Rattle.image_model.proofs.Items.{each_length}
use Rattle.image_model.proofs.Places.{marks_keep, blank_lengths}
use Rattle.image.proofs.Parses.{form_of_fits}
use Rattle.comparison.specs.Differences.{state_in, same_quota, same_record, number_part, differing, quota_part, record_part, byte_part, differences}
use Rattle.comparison.specs.Positions.{from_byte, from_record, from_quota, from_edition, from_kind, behind, first_of}
use Rattle.comparison.specs.Finding.{same_byte, Reaches, Finds}
use Rattle.comparison.specs.declared.Difference.{Difference}
use Rattle.comparison.specs.declared.Difference.TheVariants.{LastSerial, Kind, Edition, Quota as QuotaAt, Record as RecordAt, Bytes}
use Rattle.comparison.specs.declared.Position.TheVariants.{Kind as FromKind, Edition as FromEdition, Quota as FromQuota, Record as FromRecord, Byte}
use Rattle.std.specs.Prelude.{Option, Some, None, unwrap_or}
use Rattle.comparison.proofs.Runs.{equal, end, RunFrom, first_run, no_runs}
use Rattle.comparison.proofs.Items.{from_pass, from_found, from_end}
use Rattle.comparison.proofs.Positions.{from_start}
use Rattle.comparison.proofs.Answers.{heap_length}

-- the accounts that an image says have all their quotas and records
module _ (i : List ℕ) where
  pub quotas_long : length (accounts_in i).quotas ≡ QUOTAS
  unfolding accounts_in accounts_of
  quotas_long =
      let f = form_of_fits i in
      let b = blank_lengths (form_of i) in
      rw (marks_keep (form_of i) _ _).0 (simp (length-append, each_length, length-drop) (omega arith))

  pub holds_long : length (accounts_in i).holds ≡ HOLDS
  unfolding accounts_in accounts_of
  holds_long =
      let f = form_of_fits i in
      let b = blank_lengths (form_of i) in
      rw (marks_keep (form_of i) _ _).2 (simp (length-append, each_length, length-drop) (omega arith))

-- a byte of its heap is a byte of its stream
get_or_padded : (n k : ℕ) (t : List ℕ) → k < n → get_or (padded n t) k 0 ≡ get_or t k 0
unfolding padded
get_or_padded zero k t l = absurd (omega arith)
get_or_padded (suc n) zero [] l = refl
get_or_padded (suc n) (suc k) [] l = get_or_padded n k [] (omega arith)
get_or_padded (suc n) zero (x ∷ t) l = refl
get_or_padded (suc n) (suc k) (x ∷ t) l = get_or_padded n k t (omega arith)

pub heap_byte : (i : List ℕ) (k : ℕ) → k < size_in i → get_or (heap_in i) k 0 ≡ get_or (stream_of i) (head_length (form_of i) + k) 0
unfolding heap_in heap_of size_in
heap_byte i k l = get_or_padded (size_in i) k (drop (head_length (form_of i)) (stream_of i)) l ∙ get_or-drop (head_length (form_of i)) (stream_of i) k 0

-- what is found, or the end where nothing is
pub reached : (test : ℕ → Bool) (wanted : Bool) (from end : ℕ) (o : Option ℕ) → from ≤ end → Finds test wanted from end o
    → Reaches test wanted from end (unwrap_or o end)
reached test wanted from end (Some r) l w = record { low = w.0; before = w.3; high = λ h. omega (arith, w.1); there = λ h. w.2 }
reached test wanted from end None l w = record { low = l; before = w; high = λ h. omega arith; there = λ h. absurd (omega arith) }

-- the first run by two searches over a test that is that of the bytes
module _ (s t : List ℕ) (test : ℕ → Bool) (tests : (k : ℕ) → k < end s t → test k ≡ equal s t k) (at : ℕ) where
  none_found : Finds test false at (end s t) None → first_of (byte_part at (drop at s) (drop at t)) ≡ None
  unfolding byte_part first_of
  none_found w = rw (no_runs s t at (λ k l m. sym (tests k m) ∙ w k l m))

  module _ (r : ℕ) (w : Finds test false at (end s t) (Some r)) (z : ℕ) (v : Reaches test true r (end s t) z) where
    ends : z ≤ end s t
    ends = v.high (omega (arith, w.1))

    longer : r < z
    longer = lt_of_not-le (λ h. let e : z ≡ r = omega (arith, v.low) in true≢false (sym (rw e at (v.there (omega (arith, w.1)))) ∙ w.2))

    run_from : RunFrom s t at (record { offset = r; length = z - r })
    run_from =
        let l = longer in
        let m = ends in
        let e : r + (z - r) ≡ z = omega arith in
        record {
          low = w.0;
          gap = λ k a b. sym (tests k (omega arith)) ∙ w.3 k a b;
          some = omega arith;
          fits = omega arith;
          inside = λ k a b. sym (tests k (omega arith)) ∙ v.before k a (omega arith);
          stop = rw e (λ h. sym (tests z h) ∙ v.there h);
        }

    run_found : first_of (byte_part at (drop at s) (drop at t)) ≡ Some (Bytes r (z - r), Byte z)
    unfolding byte_part first_of behind
    run_found =
        let l = longer in
        let e : r + (z - r) ≡ z = omega arith in
        rw (first_run s t at (record { offset = r; length = z - r }) run_from, e)

-- the same of two images, whose heaps begin at a place of their own in their streams
module _ (i j : List ℕ) (x y e : ℕ) (one : x ≡ head_length (form_of i)) (two : y ≡ head_length (form_of j)) (size : e ≡ min (size_in i) (size_in j)) where
  abbrev test : ℕ → Bool
  test = same_byte i j x y

  end_is : e ≡ end (heap_in i) (heap_in j)
  end_is = size ∙ (rw (heap_length i, heap_length j))

  tests : (k : ℕ) → k < end (heap_in i) (heap_in j) → test k ≡ equal (heap_in i) (heap_in j) k
  tests k l =
      let n = end_is in
      let a : k < size_in i = omega arith in
      let b : k < size_in j = omega arith in
      rw (heap_byte i k a, heap_byte j k b, one, two)

  pub bytes_none : (at : ℕ) → Finds test false at e None → None ≡ first_of (from_byte (state_in i) (state_in j) at)
  unfolding from_byte state_in
  bytes_none at w = sym (none_found (heap_in i) (heap_in j) test tests at (rw end_is at w))

  pub bytes_found : (at r : ℕ) (o : Option ℕ) → Finds test false at e (Some r) → Finds test true r e o
      → let z = unwrap_or o e in
      Some (Bytes r (z - r), Byte z) ≡ first_of (from_byte (state_in i) (state_in j) at)
  unfolding from_byte state_in
  bytes_found at r o w v =
      sym (run_found (heap_in i) (heap_in j) test tests at r (rw end_is at w) (unwrap_or o e)
      (subst (λ (n : ℕ). Reaches test true r n (unwrap_or o e)) end_is (reached test true r e o (omega (arith, w.1)) v)))

-- whether the items at a place of two lists are the same
abbrev pub alike : {A : Type 0} → (A → A → Bool) → A → List A → List A → ℕ → Bool
alike same d xs ys k = same (get_or xs k d) (get_or ys k d)

-- the first item that is not the same, in front of what is behind the items
module _ {A : Type 0} (same : A → A → Bool) (name : ℕ → Difference) (d : A) (n : ℕ) (xs ys : List A)
    (long : length xs ≡ n) (long_2 : length ys ≡ n) (from : ℕ) (rest : List Difference) where
  pub item_found : (at : ℕ) → Finds (alike same d xs ys) false from n (Some at)
      → Some (name at, behind (name at)) ≡ first_of (differing same name from (drop from xs) (drop from ys) ++ rest)
  unfolding first_of
  item_found at w =
      rw (from_pass same name d xs ys from at w.0 (omega (arith, w.1)) w.3, from_found same name d xs ys at (omega (arith, w.1)) w.2)

  pub items_none : Finds (alike same d xs ys) false from n None → rest ≡ differing same name from (drop from xs) (drop from ys) ++ rest
  items_none w = go (leb from n) refl
    where
      go : (x : Bool) → leb from n ≡ x → rest ≡ differing same name from (drop from xs) (drop from ys) ++ rest
      go true q =
          rw (from_pass same name d xs ys from n (leb-true from n q) (omega arith) w, from_end same name d xs ys n (omega arith))
      go false q = let l : n ≤ from = omega (arith, leb-false from n q) in rw (from_end same name d xs ys from (omega arith))

-- a number in front of what is behind it
module _ (name : Difference) (x y : ℕ) (rest : List Difference) where
  pub number_found : (x ≡ y → ⊥) → Some (name, behind name) ≡ first_of (number_part name x y ++ rest)
  unfolding number_part first_of
  number_found f = rw (ne_eqb x y f)

  pub number_same : x ≡ y → rest ≡ number_part name x y ++ rest
  unfolding number_part
  number_same e = rw (eq-eqb x y e)

-- the same of the accounts that two images say
module _ (i j : List ℕ) (k l : Accounts) (one : k ≡ accounts_in i) (two : l ≡ accounts_in j) where
  module _ (from : ℕ) where
    long : length k.quotas ≡ QUOTAS
    long = ap (λ (x : Accounts). length x.quotas) one ∙ quotas_long i

    long_2 : length l.quotas ≡ QUOTAS
    long_2 = ap (λ (x : Accounts). length x.quotas) two ∙ quotas_long j

    pub quota_found : (at : ℕ) → Finds (alike same_quota zero_quota k.quotas l.quotas) false from QUOTAS (Some at)
        → Some (QuotaAt at, FromQuota (at + 1)) ≡ first_of (from_quota (state_in i) (state_in j) from)
    unfolding from_quota state_in quota_part behind
    quota_found at w = rw (← one, ← two) (item_found same_quota QuotaAt zero_quota QUOTAS k.quotas l.quotas long long_2 from _ at w)

    pub quotas_none : Finds (alike same_quota zero_quota k.quotas l.quotas) false from QUOTAS None
        → first_of (from_record (state_in i) (state_in j) 0) ≡ first_of (from_quota (state_in i) (state_in j) from)
    unfolding from_quota state_in quota_part
    quotas_none w = rw (← one, ← two) (ap first_of (items_none same_quota QuotaAt zero_quota QUOTAS k.quotas l.quotas long long_2 from _ w))

    holds_1 : length k.holds ≡ HOLDS
    holds_1 = ap (λ (x : Accounts). length x.holds) one ∙ holds_long i

    holds_2 : length l.holds ≡ HOLDS
    holds_2 = ap (λ (x : Accounts). length x.holds) two ∙ holds_long j

    pub record_found : (at : ℕ) → Finds (alike same_record zero_hold k.holds l.holds) false from HOLDS (Some at)
        → Some (RecordAt at, FromRecord (at + 1)) ≡ first_of (from_record (state_in i) (state_in j) from)
    unfolding from_record state_in record_part behind
    record_found at w = rw (← one, ← two) (item_found same_record RecordAt zero_hold HOLDS k.holds l.holds holds_1 holds_2 from _ at w)

    pub records_none : Finds (alike same_record zero_hold k.holds l.holds) false from HOLDS None
        → first_of (from_byte (state_in i) (state_in j) 0) ≡ first_of (from_record (state_in i) (state_in j) from)
    unfolding from_record state_in record_part
    records_none w = rw (← one, ← two) (ap first_of (items_none same_record RecordAt zero_hold HOLDS k.holds l.holds holds_1 holds_2 from _ w))

  pub edition_differs : (k.edition ≡ l.edition → ⊥) → Some (Edition, FromQuota 0) ≡ first_of (from_edition (state_in i) (state_in j))
  unfolding state_in from_edition behind
  edition_differs f = rw (← one, ← two) (number_found Edition k.edition l.edition _ f)

  pub edition_same : k.edition ≡ l.edition → first_of (from_quota (state_in i) (state_in j) 0) ≡ first_of (from_edition (state_in i) (state_in j))
  unfolding state_in from_edition
  edition_same e = rw (← one, ← two) (ap first_of (number_same Edition k.edition l.edition _ e))

  pub kind_differs : (k.kind ≡ l.kind → ⊥) → Some (Kind, FromEdition) ≡ first_of (from_kind (state_in i) (state_in j))
  unfolding state_in from_kind behind
  kind_differs f = rw (← one, ← two) (number_found Kind k.kind l.kind _ f)

  pub kind_same : k.kind ≡ l.kind → first_of (from_edition (state_in i) (state_in j)) ≡ first_of (from_kind (state_in i) (state_in j))
  unfolding state_in from_kind
  kind_same e = rw (← one, ← two) (ap first_of (number_same Kind k.kind l.kind _ e))

  pub start_differs : (k.last_serial ≡ l.last_serial → ⊥) → Some (LastSerial, FromKind) ≡ first_of (differences (state_in i) (state_in j))
  unfolding state_in behind
  start_differs f =
      rw (from_start (state_in i) (state_in j), ← one, ← two) (number_found LastSerial k.last_serial l.last_serial _ f)

  pub start_same : k.last_serial ≡ l.last_serial → first_of (from_kind (state_in i) (state_in j)) ≡ first_of (differences (state_in i) (state_in j))
  unfolding state_in
  start_same e = rw (from_start (state_in i) (state_in j), ← one, ← two) (ap first_of (number_same LastSerial k.last_serial l.last_serial _ e))
