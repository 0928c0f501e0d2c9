-- An entry and a record: their lengths, and that each is had back from its bytes, and the bytes from it.
use mathlib.Core.Path.{◌≡◌, refl, ap, sym, ◌∙◌}
use mathlib.Core.List.{List, ◌++◌}
use mathlib.Core.Bool.{true, false, ◌||◌}
use Prim.Native.Nat.{ℕ, ◌%◌, ◌≤◌, ◌<◌, ◌^◌}
use native.Mathlib.Omega.{arith}
use native.Mathlib.Nat.{mod-eq_of_lt, pow-le-pow_right}
use lib.ListN.{length, take, drop, get_or, replicate, length-append, length-take, length-drop}
use lib.Dec.{lit<}
use borrow.Author.Tests.{eq-eqb}
use Rattle.accounts.specs.declared.Quota.{Quota}
use Rattle.accounts.specs.declared.Hold.{Hold}
use Rattle.accounts.specs.Accounts.{permissible}
use Rattle.layout.specs.Bytes.{bytes, number, Octets}
use Rattle.layout.proofs.Numbers.{bytes_length, number_below, octets_take, octets_drop}
use Rattle.image_model.specs.Stream.{entry_tail, tail_of, all_permitted, entry_bytes, entry_width, record_bytes}
use Rattle.image_model.specs.Reading.{entry_of, entry_right, record_of, record_right}
use Rattle.image_model.specs.declared.Form.{Form}
use Rattle.image_model.proofs.Items.{zeros_are, are_zeros}
use Rattle.image_model.proofs.Parts.{part_behind, number_here, bytes_split_here, one_at}
use Rattle.image_model.proofs.Places.{tail_length, tail_tested, tail_back, tail_again, tail_keeps, tail_narrow, tail_permits}

-- a number of at most four bytes
pub four_below : (s : List ℕ) → Octets s → number (take 4 s) < 2 ^ 32
four_below s o =
    let l : length (take 4 s) ≤ 4 = simp length-take (omega arith) in
    let a = number_below (take 4 s) (octets_take 4 s o) in
    let b : 256 ^ length (take 4 s) ≤ 256 ^ 4 = pow-le-pow_right (lit< tt) l in
    omega arith

-- the numbers of an entry and of a record fit their bytes
abbrev pub EntryFits : Quota → Type 0
EntryFits q = (q.grant < 2 ^ 32) × (q.remainder < 2 ^ 32) × (q.permissions < 2 ^ 8)

abbrev pub RecordFits : Hold → Type 0
RecordFits h = (h.serial < 2 ^ 32) × (h.quota < 2 ^ 8) × (h.count < 2 ^ 8)

module _ (f : Form) where
  -- and the form says all of an entry, whose permissions are such
  abbrev pub EntryCarried : Quota → Type 0
  EntryCarried q = EntryFits q × (permissible q.permissions ≡ true) × ((f.full || all_permitted q) ≡ true)

  pub entry_length : (q : Quota) → length (entry_bytes f q) ≡ entry_width f
  unfolding entry_bytes
  entry_length q = simp (length-append, bytes_length, tail_length) (omega arith)

  -- what an entry's bytes have at each place
  module _ (q : Quota) where
    entry_first : drop 0 (entry_bytes f q) ≡ bytes 4 q.grant ++ (bytes 4 q.remainder ++ entry_tail f q)
    unfolding entry_bytes
    entry_first = refl

    entry_second : drop 4 (entry_bytes f q) ≡ bytes 4 q.remainder ++ entry_tail f q
    entry_second = part_behind 0 4 (entry_bytes f q) (bytes 4 q.grant) (bytes 4 q.remainder ++ entry_tail f q) entry_first (bytes_length 4 q.grant)

    entry_third : drop 8 (entry_bytes f q) ≡ entry_tail f q
    entry_third = part_behind 4 4 (entry_bytes f q) (bytes 4 q.remainder) (entry_tail f q) entry_second (bytes_length 4 q.remainder)

  -- written and read, and tested
  pub entry_back : (q : Quota) → EntryCarried q → entry_of f (entry_bytes f q) ≡ q
  unfolding entry_of
  entry_back q y =
      let g = number_here 4 0 q.grant (entry_bytes f q) (bytes 4 q.remainder ++ entry_tail f q) (entry_first q) y.0.0 in
      let r = number_here 4 4 q.remainder (entry_bytes f q) (entry_tail f q) (entry_second q) y.0.1 in
      (λ i. tail_of f (entry_third q i) (record { grant = g i; remainder = r i; permissions = 0 })) ∙ tail_back f q y.0.2 y.2

  pub entry_tested : (q : Quota) → EntryCarried q → entry_right f (entry_bytes f q) ≡ true
  unfolding entry_right
  entry_tested q y = rw (entry_third q) (tail_tested f q y.0.2 y.1)

  -- read and written
  pub entry_again : (c : List ℕ) → Octets c → length c ≡ entry_width f → entry_right f c ≡ true → entry_bytes f (entry_of f c) ≡ c
  unfolding entry_bytes entry_of entry_right
  entry_again c o l e =
      let q : Quota = record { grant = number (take 4 c); remainder = number (take 4 (drop 4 c)); permissions = 0 } in
      let k = tail_keeps f (drop 8 c) q in
      let t = tail_again f (drop 8 c) q (octets_drop 8 c o) (simp length-drop (omega arith)) e in
      (λ i. bytes 4 (k.0 i) ++ (bytes 4 (k.1 i) ++ t i))
      ∙ ap (λ (x : List ℕ). bytes 4 (number (take 4 c)) ++ x) (bytes_split_here 4 4 c o (omega arith))
      ∙ bytes_split_here 4 0 c o (omega arith)

  pub entry_fits : (c : List ℕ) → Octets c → EntryFits (entry_of f c)
  unfolding entry_of
  entry_fits c o =
      let q : Quota = record { grant = number (take 4 c); remainder = number (take 4 (drop 4 c)); permissions = 0 } in
      let k = tail_keeps f (drop 8 c) q in
      (rw k.0 (four_below c o), rw k.1 (four_below (drop 4 c) (octets_drop 4 c o)), tail_narrow f (drop 8 c) q (octets_drop 8 c o))

  pub entry_permits : f.full ≡ false → (c : List ℕ) → all_permitted (entry_of f c) ≡ true
  unfolding entry_of
  entry_permits e c = eq-eqb _ _ (tail_permits f (drop 8 c) (record { grant = number (take 4 c); remainder = number (take 4 (drop 4 c)); permissions = 0 }) e)

pub record_length : (h : Hold) → length (record_bytes h) ≡ 8
unfolding record_bytes
record_length h = simp (length-append, bytes_length)

-- what a record's bytes have at each place
module _ (h : Hold) where
  record_serial : h.serial < 2 ^ 32 → number (take 4 (record_bytes h)) ≡ h.serial
  unfolding record_bytes
  record_serial y = number_here 4 0 h.serial (record_bytes h) (bytes 1 h.quota ++ (bytes 1 h.count ++ replicate 2 0)) refl y

  record_places : (get_or (record_bytes h) 4 0 ≡ h.quota % 256) × (get_or (record_bytes h) 5 0 ≡ h.count % 256) × (drop 6 (record_bytes h) ≡ replicate 2 0)
  unfolding record_bytes bytes
  record_places = (refl, refl, refl)

  -- written and read, and tested
  pub record_back : RecordFits h → record_of (record_bytes h) ≡ h
  unfolding record_of
  record_back y =
      let s = record_serial y.0 in
      let q = record_places.0 ∙ mod-eq_of_lt y.1 in
      let c = record_places.1 ∙ mod-eq_of_lt y.2 in
      λ i. record { serial = s i; quota = q i; count = c i }

  pub record_tested : RecordFits h → record_right (record_bytes h) ≡ true
  unfolding record_right
  record_tested y = rw record_places.2 (are_zeros 2)

-- read and written
pub record_again : (c : List ℕ) → Octets c → length c ≡ 8 → record_right c ≡ true → record_bytes (record_of c) ≡ c
unfolding record_bytes record_of record_right
record_again c o l e =
    let n : length (drop 6 c) ≡ 2 = simp length-drop (omega arith) in
    let z : replicate 2 0 ≡ drop 6 c = sym (rw n at (zeros_are (drop 6 c) e)) in
    rw (z, ← one_at 4 c (omega arith), ← one_at 5 c (omega arith), bytes_split_here 1 5 c o (omega arith), bytes_split_here 1 4 c o (omega arith))
    (bytes_split_here 4 0 c o (omega arith))

pub record_fits : (c : List ℕ) → Octets c → RecordFits (record_of c)
unfolding record_of
record_fits c o = (four_below c o, o 4, o 5)
