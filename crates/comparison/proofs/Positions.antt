-- Going on from position to position gives the list of differences, in order: what is listed from the position behind a difference is what stands
-- behind it in the list. Shown of each part, then of the parts one behind the other.
use mathlib.Core.Path.{◌≡◌, refl, ap, sym, ◌∙◌}
use mathlib.Core.List.{List, [], ◌∷◌, ◌++◌, map}
use mathlib.Core.Bool.{Bool, true, false, cond}
use mathlib.Core.Logic.{◌⊎◌, inl, inr}
use Prim.Native.Nat.{ℕ, zero, suc, ◌-◌, ◌≤◌}
use native.Mathlib.Numerals.{add-one}
use native.Mathlib.Omega.{arith}
use lib.ListN.{length, take, drop}
use lib.Seq.{take_all}
use lib.Dec.{eqb}
use Rattle.accounts.specs.Accounts.{zero_quota, zero_hold}
use Rattle.comparison.specs.Differences.{State, Run, same_quota, same_record, number_part, quota_part, record_part, runs, bytes_of, byte_part}
use Rattle.comparison.specs.Differences.{differences}
use Rattle.comparison.specs.Positions.{from_byte, from_record, from_quota, from_edition, from_kind, differences_from, behind, first_of, next_of}
use Rattle.comparison.specs.Positions.{with_answer, asked}
use Rattle.comparison.specs.declared.Difference.{Difference}
use Rattle.comparison.specs.declared.Difference.TheVariants.{LastSerial, Kind, Edition, Quota as QuotaAt, Record as RecordAt}
use Rattle.comparison.specs.declared.Position.{Position}
use Rattle.comparison.specs.declared.Position.TheVariants.{Start, Kind as FromKind, Edition as FromEdition, Quota, Record, Byte}
use Rattle.std.specs.Prelude.{Some, None, slice_get}
use Rattle.comparison.proofs.Runs.{runs_go_on}
use Rattle.comparison.proofs.Items.{items_go_on}

-- the first of two lists one behind the other is of the front, or the front is empty
front_cases : (xs ys : List Difference) (d : Difference) (ds : List Difference) → xs ++ ys ≡ d ∷ ds
    → ((es : List Difference) × (xs ≡ d ∷ es) × (es ++ ys ≡ ds)) ⊎ (ys ≡ d ∷ ds)
front_cases [] ys d ds e = inr e
front_cases (x ∷ xs) ys d ds e = inl (xs, cc, cc)

module _ (a b : State) where
  -- what is listed from the position behind d is ds
  abbrev GoesOn : Difference → List Difference → Type 0
  GoesOn d ds = differences_from (behind d) a b ≡ ds

  bytes_go_on : (at : ℕ) (d : Difference) (ds : List Difference) → from_byte a b at ≡ d ∷ ds → GoesOn d ds
  unfolding from_byte byte_part differences_from behind
  bytes_go_on at d ds e = go (runs at (drop at a.heap) (drop at b.heap)) refl e
    where
      go : (rs : List Run) → runs at (drop at a.heap) (drop at b.heap) ≡ rs → map bytes_of rs ≡ d ∷ ds → GoesOn d ds
      go [] q z = let no : ◌≡◌ {A = ℕ} 0 1 = cc in absurd (omega arith)
      go (r ∷ rs) q z =
          let x : d ≡ bytes_of r = cc in
          let y : map bytes_of rs ≡ ds = cc in
          rw x (ap (map bytes_of) (runs_go_on a.heap b.heap at r rs q) ∙ y)

  records_go_on : (p : ℕ) (d : Difference) (ds : List Difference) → from_record a b p ≡ d ∷ ds → GoesOn d ds
  unfolding from_record record_part differences_from behind
  records_go_on p d ds e = go (front_cases (record_part p (drop p a.accounts.holds) (drop p b.accounts.holds)) (from_byte a b 0) d ds e)
    where
      go : ((es : List Difference) × (record_part p (drop p a.accounts.holds) (drop p b.accounts.holds) ≡ d ∷ es) × (es ++ from_byte a b 0 ≡ ds))
          ⊎ (from_byte a b 0 ≡ d ∷ ds) → GoesOn d ds
      go (inl x) =
          let w = items_go_on same_record RecordAt zero_hold a.accounts.holds b.accounts.holds p d x.0 x.1 in
          rw (w.1, add-one, w.2) x.2
      go (inr x) = bytes_go_on 0 d ds x

  quotas_go_on : (q : ℕ) (d : Difference) (ds : List Difference) → from_quota a b q ≡ d ∷ ds → GoesOn d ds
  unfolding from_quota quota_part differences_from behind
  quotas_go_on q d ds e = go (front_cases (quota_part q (drop q a.accounts.quotas) (drop q b.accounts.quotas)) (from_record a b 0) d ds e)
    where
      go : ((es : List Difference) × (quota_part q (drop q a.accounts.quotas) (drop q b.accounts.quotas) ≡ d ∷ es) × (es ++ from_record a b 0 ≡ ds))
          ⊎ (from_record a b 0 ≡ d ∷ ds) → GoesOn d ds
      go (inl x) =
          let w = items_go_on same_quota QuotaAt zero_quota a.accounts.quotas b.accounts.quotas q d x.0 x.1 in
          rw (w.1, add-one, w.2) x.2
      go (inr x) = records_go_on 0 d ds x

  -- a number in front of a list that goes on
  number_goes_on : (name : Difference) (x y : ℕ) (rest : List Difference) → GoesOn name rest
      → ((d : Difference) (ds : List Difference) → rest ≡ d ∷ ds → GoesOn d ds)
      → (d : Difference) (ds : List Difference) → number_part name x y ++ rest ≡ d ∷ ds → GoesOn d ds
  unfolding number_part
  number_goes_on name x y rest next later d ds e = go (eqb x y) e
    where
      go : (b : Bool) → cond b [] (name ∷ []) ++ rest ≡ d ∷ ds → GoesOn d ds
      go true z = later d ds z
      go false z = let u : d ≡ name = cc in let v : rest ≡ ds = cc in rw u (next ∙ v)

  edition_goes_on : (d : Difference) (ds : List Difference) → from_edition a b ≡ d ∷ ds → GoesOn d ds
  unfolding from_edition differences_from behind
  edition_goes_on = number_goes_on Edition a.accounts.edition b.accounts.edition (from_quota a b 0) refl (quotas_go_on 0)

  kind_goes_on : (d : Difference) (ds : List Difference) → from_kind a b ≡ d ∷ ds → GoesOn d ds
  unfolding from_kind differences_from behind
  kind_goes_on = number_goes_on Kind a.accounts.kind b.accounts.kind (from_edition a b) refl edition_goes_on

  -- the whole list is that of the last serial, and then that from the kind on
  pub from_start : differences a b ≡ number_part LastSerial a.accounts.last_serial b.accounts.last_serial ++ from_kind a b
  unfolding differences from_kind from_edition from_quota from_record from_byte
  from_start = refl

  start_goes_on : (d : Difference) (ds : List Difference) → differences a b ≡ d ∷ ds → GoesOn d ds
  unfolding differences_from behind
  start_goes_on d ds e =
      number_goes_on LastSerial a.accounts.last_serial b.accounts.last_serial (from_kind a b) refl kind_goes_on d ds (sym from_start ∙ e)

  -- behind the first difference from a position on, the others follow
  pub goes_on : (p : Position) (d : Difference) (ds : List Difference) → differences_from p a b ≡ d ∷ ds → differences_from (behind d) a b ≡ ds
  unfolding differences_from
  goes_on Start d ds e = start_goes_on d ds e
  goes_on FromKind d ds e = kind_goes_on d ds e
  goes_on FromEdition d ds e = edition_goes_on d ds e
  goes_on (Quota q) d ds e = quotas_go_on q d ds e
  goes_on (Record p) d ds e = records_go_on p d ds e
  goes_on (Byte at) d ds e = bytes_go_on at d ds e

  -- so many questions, each from the position behind the answer before, give so many of the list
  pub asked_take : (n : ℕ) (p : Position) → asked n p a b ≡ take n (differences_from p a b)
  unfolding asked with_answer next_of first_of
  asked_take zero p = refl
  asked_take (suc n) p = go (differences_from p a b) refl (λ d ds e. asked_take n (behind d) ∙ ap (take n) (goes_on p d ds e))
    where
      go : (xs : List Difference) → differences_from p a b ≡ xs
          → ((d : Difference) (ds : List Difference) → differences_from p a b ≡ d ∷ ds → asked n (behind d) a b ≡ take n ds)
          → with_answer (first_of xs) (λ d q. d ∷ asked n q a b) ≡ take (suc n) xs
      go [] q ih = refl
      go (d ∷ ds) q ih = ap (λ (l : List Difference). d ∷ l) (ih d ds q)

  -- from the start, as many questions as there are differences give them all
  pub asked_all : (n : ℕ) → length (differences a b) ≤ n → asked n Start a b ≡ differences a b
  unfolding differences_from
  asked_all n l = asked_take n Start ∙ take_all n (differences a b) l

  -- what the answer from a position on says of the list from there on
  answered : (p : Position) (xs : List Difference) → differences_from p a b ≡ xs → next_of p a b ≡ first_of xs
  unfolding next_of
  answered p xs e = ap first_of e

  pub next_nothing : (p : Position) → next_of p a b ≡ None → (n : ℕ) → slice_get (differences_from p a b) n ≡ None
  unfolding first_of
  next_nothing p e n = go (differences_from p a b) refl
    where
      go : (xs : List Difference) → differences_from p a b ≡ xs → slice_get (differences_from p a b) n ≡ None
      go [] q = rw q
      go (d ∷ ds) q = let z = answered p (d ∷ ds) q in let no : ◌≡◌ {A = ℕ} 0 1 = cc in absurd (omega arith)

  module _ (p q : Position) (d : Difference) (e : next_of p a b ≡ Some (d, q)) where
    split : (ds : List Difference) × (differences_from p a b ≡ d ∷ ds) × (q ≡ behind d)
    unfolding first_of
    split = go (differences_from p a b) refl
      where
        go : (xs : List Difference) → differences_from p a b ≡ xs → (ds : List Difference) × (differences_from p a b ≡ d ∷ ds) × (q ≡ behind d)
        go [] h = let z = answered p [] h in let no : ◌≡◌ {A = ℕ} 0 1 = cc in absurd (omega arith)
        go (f ∷ ds) h =
            let z = answered p (f ∷ ds) h in
            let w : (d, q) ≡ (f, behind f) = cc in
            let x : f ≡ d = sym (ap (λ (v : Difference × Position). v.0) w) in
            let y : q ≡ behind f = ap (λ (v : Difference × Position). v.1) w in
            (ds, h ∙ ap (λ (g : Difference). g ∷ ds) x, y ∙ ap behind x)

    pub next_first : slice_get (differences_from p a b) 0 ≡ Some d
    next_first = rw split.1

    pub next_later : (n : ℕ) → (n ≡ 0 → ⊥) → slice_get (differences_from p a b) n ≡ slice_get (differences_from q a b) (n - 1)
    next_later zero f = absurd (f refl)
    next_later (suc n) f =
        let w = split in
        let m : suc n - 1 ≡ n = omega arith in
        rw (w.1, m)
        (ap (λ (l : List Difference). slice_get l n) (sym (goes_on p d w.0 w.1))
        ∙ ap (λ (x : Position). slice_get (differences_from x a b) n) (sym w.2))
