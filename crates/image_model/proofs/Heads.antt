-- A stream that was written, read: each part of the head is found at its place, and the accounts and the heap are had back.
-- The places follow one another: what stands behind one part is where the next begins.
use mathlib.Core.Path.{◌≡◌, refl, ap, ◌∙◌}
use mathlib.Core.List.{List, ◌++◌, append_assoc}
use mathlib.Core.Bool.{true, ◌||◌}
use Prim.Native.Nat.{ℕ, ◌+◌, ◌*◌, ◌<◌, ◌^◌}
use native.Mathlib.Omega.{arith}
use lib.ListN.{length, take, drop, length-append}
use lib.Seq.{length-take-le, take_at}
use Rattle.accounts.specs.declared.Quota.{Quota}
use Rattle.accounts.specs.declared.Hold.{Hold}
use Rattle.accounts.specs.declared.Accounts.{Accounts}
use Rattle.accounts.specs.Accounts.{zero_quota, zero_hold}
use Rattle.layout.specs.Bytes.{bytes, number}
use Rattle.layout.proofs.Numbers.{bytes_length}
use Rattle.image_model.specs.Items.{many, each}
use Rattle.image_model.specs.Stream.{all_permitted, marks_of, with_marks, carries, blank}
use Rattle.image_model.specs.Stream.{entry_bytes, record_bytes, entry_width, record_width, entries_at, records_at}
use Rattle.image_model.specs.Stream.{head_length, head_of, stream, Typed}
use Rattle.image_model.specs.Reading.{entry_of, entry_right, record_of, record_right, marks_in, length_in, accounts_of, heap_of, items_right}
use Rattle.image_model.specs.declared.Form.{Form}
use Rattle.image_model.proofs.Items.{All, places_all, all_take, all_map, all_two, many_length, each_many, every_many}
use Rattle.image_model.proofs.Parts.{part_here, part_behind, number_here}
use Rattle.image_model.proofs.Places.{Known, QuotaConsistent, known_shaped, marks_length, marks_back, all_carried, marks_carried, quotas_whole}
use Rattle.image_model.proofs.Places.{holds_whole}
use Rattle.image_model.proofs.Entries.{EntryFits, EntryCarried, RecordFits, entry_length, entry_back, entry_tested, record_length, record_back}
use Rattle.image_model.proofs.Entries.{record_tested}
use Rattle.image_model.proofs.Cuts.{padded_take}

-- the quotas and records that a form carries, and their bytes
module _ (f : Form) (k : Accounts) where
  abbrev carried_quotas : List Quota
  carried_quotas = take f.quotas k.quotas

  abbrev carried_holds : List Hold
  carried_holds = take f.records k.holds

  abbrev entries : List ℕ
  entries = many (entry_bytes f) carried_quotas

  abbrev records : List ℕ
  records = many record_bytes carried_holds

module _ (f : Form) (e : Known f) (k : Accounts) (y : Typed k) where
  carried_lengths : (length (carried_quotas f k) ≡ f.quotas) × (length (carried_holds f k) ≡ f.records)
  carried_lengths =
      let w = known_shaped f e in
      let a = y.quotas in
      let b = y.holds in
      (length-take-le f.quotas k.quotas (omega arith), length-take-le f.records k.holds (omega arith))

  entries_length : length (entries f k) ≡ f.quotas * entry_width f
  entries_length = many_length (entry_bytes f) (entry_width f) (entry_length f) (carried_quotas f k) ∙ ap (λ (n : ℕ). n * entry_width f) carried_lengths.0

  records_length : length (records f k) ≡ f.records * record_width
  records_length = many_length record_bytes record_width record_length (carried_holds f k) ∙ ap (λ (n : ℕ). n * record_width) carried_lengths.1

  -- the numbers of what is carried fit
  entries_fit : carries f k ≡ true → All QuotaConsistent k.quotas → All (EntryCarried f) (carried_quotas f k)
  entries_fit c b =
      let P : Quota → Type 0 = λ (q : Quota). (f.full || all_permitted q) ≡ true in
      let fit = places_all EntryFits zero_quota k.quotas (λ i. (y.grant i, y.remainder i, y.permissions i)) in
      let both = all_two QuotaConsistent P k.quotas b (all_carried f k c) in
      all_take (EntryCarried f) f.quotas k.quotas
      (all_map (λ (q : Quota). EntryFits q × (QuotaConsistent q × P q)) (EntryCarried f) (λ q x. (x.0, x.1.0.1, x.1.1)) k.quotas
      (all_two EntryFits (λ (q : Quota). QuotaConsistent q × P q) k.quotas fit both))

  records_fit : All RecordFits (carried_holds f k)
  records_fit = all_take RecordFits f.records k.holds (places_all RecordFits zero_hold k.holds (λ i. (y.serial i, y.quota i, y.count i)))

  -- the head's length
  pub head_of_length : (H : ℕ) → length (head_of f H k) ≡ head_length f
  unfolding head_of head_length
  head_of_length H =
      let a = entries_length in
      let b = records_length in
      let m = marks_length f k in
      simp (length-append, bytes_length) (omega arith)

  pub stream_length : (s : List ℕ) → length (stream f s k) ≡ head_length f + length s
  unfolding stream
  stream_length s = length-append (head_of f (length s) k) s ∙ ap (λ (n : ℕ). n + length s) (head_of_length (length s))

-- a stream with bytes behind it
module _ (f : Form) (e : Known f) (s : List ℕ) (k : Accounts) (y : Typed k) (t q : List ℕ) (is : t ≡ stream f s k ++ q) where
  abbrev behind_entries : List ℕ
  behind_entries = records f k ++ (s ++ q)

  abbrev behind_serial : List ℕ
  behind_serial = entries f k ++ behind_entries

  abbrev behind_length : List ℕ
  behind_length = bytes 4 k.last_serial ++ behind_serial

  abbrev behind_marks : List ℕ
  behind_marks = bytes 4 (length s) ++ behind_length

  abbrev behind_number : List ℕ
  behind_number = marks_of f k ++ behind_marks

  at_0 : drop 0 t ≡ bytes 2 f.number ++ behind_number
  unfolding stream head_of
  at_0 = rw is (simp append_assoc)

  at_2 : drop 2 t ≡ behind_number
  at_2 = part_behind 0 2 t (bytes 2 f.number) behind_number at_0 (bytes_length 2 f.number)

  at_4 : drop 4 t ≡ behind_marks
  at_4 = part_behind 2 2 t (marks_of f k) behind_marks at_2 (marks_length f k)

  at_8 : drop 8 t ≡ behind_length
  at_8 = part_behind 4 4 t (bytes 4 (length s)) behind_length at_4 (bytes_length 4 (length s))

  at_12 : drop entries_at t ≡ behind_serial
  at_12 = part_behind 8 4 t (bytes 4 k.last_serial) behind_serial at_8 (bytes_length 4 k.last_serial)

  at_records : drop (records_at f) t ≡ behind_entries
  at_records = part_behind entries_at (f.quotas * entry_width f) t (entries f k) behind_entries at_12 (entries_length f e k y)

  at_heap : drop (head_length f) t ≡ s ++ q
  unfolding head_length
  at_heap = part_behind (records_at f) (f.records * record_width) t (records f k) (s ++ q) at_records (records_length f e k y)

  pub at_end : drop (head_length f + length s) t ≡ q
  at_end = part_behind (head_length f) (length s) t s q at_heap refl

  -- the form's number, the marks and the heap's length
  pub number_read : number (take 2 t) ≡ f.number
  number_read = number_here 2 0 f.number t behind_number at_0 (known_shaped f e).number

  pub marks_read : marks_in t ≡ marks_of f k
  marks_read = part_here 2 2 t (marks_of f k) behind_marks at_2 (marks_length f k)

  pub length_read : length s < 2 ^ 32 → length_in t ≡ length s
  length_read h = number_here 4 4 (length s) t behind_length at_4 h

  -- the accounts and the heap
  quotas_read : carries f k ≡ true → All QuotaConsistent k.quotas
      → each (entry_of f) (entry_width f) f.quotas (drop entries_at t) ++ drop f.quotas (blank f).quotas ≡ k.quotas
  quotas_read c b =
      let n = (carried_lengths f e k y).0 in
      let fit = entries_fit f e k y c b in
      let r = each_many (entry_bytes f) (entry_width f) (entry_length f) (EntryCarried f) (entry_of f) (entry_back f) (carried_quotas f k) behind_entries fit in
      rw (at_12, rw n at r) (quotas_whole f e k y c b)

  holds_read : carries f k ≡ true → each record_of record_width f.records (drop (records_at f) t) ++ drop f.records (blank f).holds ≡ k.holds
  holds_read c =
      let n = (carried_lengths f e k y).1 in
      let r = each_many record_bytes record_width record_length RecordFits record_of record_back (carried_holds f k) (s ++ q) (records_fit f e k y) in
      rw (at_records, rw n at r) (holds_whole f e k y c)

  pub accounts_read : carries f k ≡ true → All QuotaConsistent k.quotas → accounts_of f t ≡ k
  unfolding accounts_of
  accounts_read c z =
      let l = number_here 4 8 k.last_serial t behind_serial at_8 y.last in
      let a = quotas_read c z in
      let b = holds_read c in
      (λ i. with_marks f (marks_read i) (record { quotas = a i; last_serial = l i; holds = b i; kind = 0; edition = 0 }))
      ∙ marks_back f k y.kind y.edition (marks_carried f k c)

  pub heap_read : length s < 2 ^ 32 → heap_of f t ≡ s
  unfolding heap_of
  heap_read h = rw (length_read h, at_heap) (padded_take (length s) (s ++ q) (simp length-append (omega arith)) ∙ take_at s q (length s) refl)

  -- and every byte that carries nothing is right
  pub items_tested : carries f k ≡ true → All QuotaConsistent k.quotas → items_right f t ≡ true
  unfolding items_right
  items_tested c z =
      let n = carried_lengths f e k y in
      let fit = entries_fit f e k y c z in
      let qs = carried_quotas f k in
      let a = every_many (entry_bytes f) (entry_width f) (entry_length f) (EntryCarried f) (entry_right f) (entry_tested f) qs behind_entries fit in
      let b = every_many record_bytes record_width record_length RecordFits record_right record_tested (carried_holds f k) (s ++ q) (records_fit f e k y) in
      rw (at_12, at_records, rw n.0 at a, rw n.1 at b)
