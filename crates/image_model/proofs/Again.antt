-- A stream whose bytes are right is the stream of the heap and the accounts that it says.
-- The parts are put back from the last to the first: each, with what stands behind it, is what stands at its place.
use mathlib.Core.Path.{◌≡◌, refl}
use mathlib.Core.List.{List, ◌++◌, append_assoc}
use mathlib.Core.Bool.{Bool, true, false}
use Prim.Native.Nat.{ℕ, ◌+◌, ◌*◌, ◌≤◌, ◌<◌, ◌^◌}
use native.Mathlib.Omega.{arith}
use lib.ListN.{length, take, drop, replicate, length-append, length-drop}
use lib.Seq.{take_at, drop_at, drop-drop}
use lib.Dec.{lit<}
use Rattle.accounts.specs.declared.Quota.{Quota}
use Rattle.accounts.specs.declared.Hold.{Hold}
use Rattle.accounts.specs.declared.Accounts.{Accounts}
use Rattle.accounts.specs.Accounts.{QUOTAS, HOLDS, zero_quota, zero_hold, granted, used, unused}
use Rattle.layout.specs.Bytes.{bytes, number, Octets}
use Rattle.layout.proofs.Numbers.{octets_take, octets_drop, part_length}
use Rattle.lists.proofs.Bools.{and_left, and_right}
use Rattle.framing.proofs.Padding.{length_padded}
use Rattle.image_model.specs.Items.{many, each, every, all_zero}
use Rattle.image_model.specs.Stream.{form_2, no_grant, all_permitted, marks_of, marks_right, carries, blank}
use Rattle.image_model.specs.Stream.{entry_bytes, record_bytes, entry_width, record_width, entries_at, records_at}
use Rattle.image_model.specs.Stream.{head_length, head_of, stream, Typed}
use Rattle.image_model.specs.Reading.{entry_of, entry_right, record_of, record_right, marks_in, length_in, accounts_of, heap_of, items_right}
use Rattle.image_model.specs.declared.Form.{Form}
use Rattle.image_model.proofs.Items.{All, all_places, all_drop, all_both, all_same, each_length, each_all, many_each}
use Rattle.image_model.proofs.Parts.{split, bytes_split_here}
use Rattle.image_model.proofs.Places.{Known, known_shaped, marks_again, marks_keep, marks_narrow, marks_blank, full_carries, facts_carried}
use Rattle.image_model.proofs.Places.{blank_lengths, blank_is}
use Rattle.image_model.proofs.Entries.{EntryFits, RecordFits, four_below, entry_again, entry_fits, entry_permits, record_again, record_fits}
use Rattle.image_model.proofs.Cuts.{padded_take}

-- what is read is of the accounts' type, whatever the bytes
module _ (f : Form) (t : List ℕ) where
  abbrev read_quotas : List Quota
  read_quotas = each (entry_of f) (entry_width f) f.quotas (drop entries_at t)

  abbrev read_holds : List Hold
  read_holds = each record_of record_width f.records (drop (records_at f) t)

  read_accounts : Accounts
  read_accounts =
      record {
        quotas = read_quotas ++ drop f.quotas (blank f).quotas;
        last_serial = number (take 4 (drop 8 t));
        holds = read_holds ++ drop f.records (blank f).holds;
        kind = 0;
        edition = 0;
      }

  keeps : ((accounts_of f t).quotas ≡ read_accounts.quotas) × ((accounts_of f t).last_serial ≡ read_accounts.last_serial)
      × ((accounts_of f t).holds ≡ read_accounts.holds)
  unfolding accounts_of read_accounts
  keeps = marks_keep f (marks_in t) read_accounts

  -- the numbers of quotas and records fit
  entries_fit : Octets t → All EntryFits (accounts_of f t).quotas
  unfolding read_accounts
  entries_fit o =
      let a = each_all EntryFits (entry_of f) (entry_fits f) (entry_width f) f.quotas (drop entries_at t) (octets_drop entries_at t o) in
      let z : All EntryFits (blank f).quotas = rw (blank_is f).0 (all_same EntryFits QUOTAS (granted 0) (lit< tt, lit< tt, lit< tt)) in
      rw keeps.0 (all_both EntryFits read_quotas (drop f.quotas (blank f).quotas) a (all_drop EntryFits f.quotas (blank f).quotas z))

  -- the form carries what it says
  module _ (lean : f.full ≡ false) where
    no_grants : All (λ (q : Quota). no_grant q ≡ true) (drop f.quotas (accounts_of f t).quotas)
    unfolding read_accounts
    no_grants =
        let l = each_length (entry_of f) (entry_width f) f.quotas (drop entries_at t) in
        let z = all_same (λ (q : Quota). no_grant q ≡ true) QUOTAS (granted 0) refl in
        rw (keeps.0, drop_at read_quotas (drop f.quotas (blank f).quotas) f.quotas l, (blank_is f).0)
        (all_drop (λ (q : Quota). no_grant q ≡ true) f.quotas (replicate QUOTAS (granted 0)) z)

    no_records : All (λ (h : Hold). unused h ≡ true) (drop f.records (accounts_of f t).holds)
    unfolding read_accounts unused used
    no_records =
        let l = each_length record_of record_width f.records (drop (records_at f) t) in
        let z = all_same (λ (h : Hold). unused h ≡ true) HOLDS zero_hold refl in
        rw (keeps.2, drop_at read_holds (drop f.records (blank f).holds) f.records l, (blank_is f).1)
        (all_drop (λ (h : Hold). unused h ≡ true) f.records (replicate HOLDS zero_hold) z)

    permitted : Octets t → All (λ (q : Quota). all_permitted q ≡ true) (accounts_of f t).quotas
    unfolding read_accounts
    permitted o =
        let P : Quota → Type 0 = λ (q : Quota). all_permitted q ≡ true in
        let a = each_all P (entry_of f) (λ c h. entry_permits f lean c) (entry_width f) f.quotas (drop entries_at t) (octets_drop entries_at t o) in
        let z : All P (blank f).quotas = rw (blank_is f).0 (all_same P QUOTAS (granted 0) refl) in
        rw keeps.0 (all_both P read_quotas (drop f.quotas (blank f).quotas) a (all_drop P f.quotas (blank f).quotas z))

    unmarked : all_zero (marks_of form_2 (accounts_of f t)) ≡ true
    unfolding accounts_of read_accounts
    unmarked = marks_blank f (marks_in t) read_accounts lean

  pub carried_read : Octets t → carries f (accounts_of f t) ≡ true
  carried_read o = go f.full refl
    where
      go : (x : Bool) → f.full ≡ x → carries f (accounts_of f t) ≡ true
      go true e = full_carries f (accounts_of f t) e
      go false e =
          facts_carried f (accounts_of f t) e (record { grants = no_grants e; records = no_records e; permissions = permitted e o; marks = unmarked e })

  records_fit : Octets t → All RecordFits (accounts_of f t).holds
  unfolding read_accounts
  records_fit o =
      let a = each_all RecordFits record_of record_fits record_width f.records (drop (records_at f) t) (octets_drop (records_at f) t o) in
      let z : All RecordFits (blank f).holds = rw (blank_is f).1 (all_same RecordFits HOLDS zero_hold (lit< tt, lit< tt, lit< tt)) in
      rw keeps.2 (all_both RecordFits read_holds (drop f.records (blank f).holds) a (all_drop RecordFits f.records (blank f).holds z))

  settings_fit : Octets t → ((accounts_of f t).kind < 2 ^ 8) × ((accounts_of f t).edition < 2 ^ 8)
  unfolding accounts_of read_accounts
  settings_fit o = marks_narrow f (marks_in t) read_accounts (octets_take 2 (drop 2 t) (octets_drop 2 t o))

  pub typed_read : Known f → Octets t → Typed (accounts_of f t)
  unfolding read_accounts
  typed_read e o =
      let w = known_shaped f e in
      let b = blank_lengths f in
      let q = entries_fit o in
      let r = records_fit o in
      record {
        quotas = rw keeps.0 (simp (length-append, length-drop, each_length) (omega arith));
        holds = rw keeps.2 (simp (length-append, length-drop, each_length) (omega arith));
        last = rw keeps.1 (four_below (drop 8 t) (octets_drop 8 t o));
        grant = λ i. (all_places EntryFits zero_quota (accounts_of f t).quotas q (lit< tt, lit< tt, lit< tt) i).0;
        remainder = λ i. (all_places EntryFits zero_quota (accounts_of f t).quotas q (lit< tt, lit< tt, lit< tt) i).1;
        permissions = λ i. (all_places EntryFits zero_quota (accounts_of f t).quotas q (lit< tt, lit< tt, lit< tt) i).2;
        serial = λ i. (all_places RecordFits zero_hold (accounts_of f t).holds r (lit< tt, lit< tt, lit< tt) i).0;
        quota = λ i. (all_places RecordFits zero_hold (accounts_of f t).holds r (lit< tt, lit< tt, lit< tt) i).1;
        count = λ i. (all_places RecordFits zero_hold (accounts_of f t).holds r (lit< tt, lit< tt, lit< tt) i).2;
        kind = (settings_fit o).0;
        edition = (settings_fit o).1;
      }

-- the parts, put back
module _ (f : Form) (e : Known f) (t : List ℕ) (o : Octets t) (fits : head_length f + length_in t ≤ length t) where
  k : Accounts
  k = accounts_of f t

  q : List ℕ
  q = drop (head_length f + length_in t) t

  heap_back : heap_of f t ++ q ≡ drop (head_length f) t
  unfolding heap_of q
  heap_back =
      let l : length_in t ≤ length (drop (head_length f) t) = simp length-drop (omega arith) in
      rw (padded_take (length_in t) (drop (head_length f) t) l) (split (head_length f) (length_in t) t)

  module _ (right : items_right f t ≡ true) where
    entries_right : every (entry_right f) (entry_width f) f.quotas (drop entries_at t) ≡ true
    unfolding items_right
    entries_right = and_left (every (entry_right f) (entry_width f) f.quotas (drop entries_at t)) _ right

    records_right : every record_right record_width f.records (drop (records_at f) t) ≡ true
    unfolding items_right
    records_right = and_right (every (entry_right f) (entry_width f) f.quotas (drop entries_at t)) _ right

    quotas_carried : take f.quotas k.quotas ≡ read_quotas f t
    unfolding k read_accounts
    quotas_carried =
        let l = each_length (entry_of f) (entry_width f) f.quotas (drop entries_at t) in
        rw (keeps f t).0 (take_at (read_quotas f t) (drop f.quotas (blank f).quotas) f.quotas l)

    holds_carried : take f.records k.holds ≡ read_holds f t
    unfolding k read_accounts
    holds_carried =
        let l = each_length record_of record_width f.records (drop (records_at f) t) in
        rw (keeps f t).2 (take_at (read_holds f t) (drop f.records (blank f).holds) f.records l)

    records_back : many record_bytes (take f.records k.holds) ++ drop (head_length f) t ≡ drop (records_at f) t
    unfolding head_length
    records_back =
        let d = drop (records_at f) t in
        let l : f.records * record_width ≤ length d = simp length-drop (omega arith) in
        rw (holds_carried, ← drop-drop (f.records * record_width) (records_at f) t)
        (many_each record_bytes record_of record_width record_right record_again f.records d (octets_drop (records_at f) t o) l records_right)

    entries_back : many (entry_bytes f) (take f.quotas k.quotas) ++ drop (records_at f) t ≡ drop entries_at t
    unfolding head_length
    entries_back =
        let d = drop entries_at t in
        let l : f.quotas * entry_width f ≤ length d = simp length-drop (omega arith) in
        rw (quotas_carried, ← drop-drop (f.quotas * entry_width f) entries_at t)
        (many_each (entry_bytes f) (entry_of f) (entry_width f) (entry_right f) (entry_again f) f.quotas d (octets_drop entries_at t o) l entries_right)

    serial_back : bytes 4 k.last_serial ++ drop entries_at t ≡ drop 8 t
    unfolding k read_accounts head_length
    serial_back = rw (keeps f t).1 (bytes_split_here 4 8 t o (omega arith))

    length_back : bytes 4 (length (heap_of f t)) ++ drop 8 t ≡ drop 4 t
    unfolding heap_of head_length
    length_back = rw (length_padded (length_in t) (drop (head_length f) t)) (bytes_split_here 4 4 t o (omega arith))

    marks_back : marks_right f (marks_in t) ≡ true → marks_of f k ++ drop 4 t ≡ drop 2 t
    unfolding k accounts_of read_accounts head_length
    marks_back m =
        let l : length (marks_in t) ≡ 2 = part_length 2 2 t (omega arith) in
        rw (marks_again f (marks_in t) (read_accounts f t) (octets_take 2 (drop 2 t) (octets_drop 2 t o)) l m) (split 2 2 t)

    number_back : number (take 2 t) ≡ f.number → bytes 2 f.number ++ drop 2 t ≡ t
    unfolding head_length
    number_back n = rw (← n) (bytes_split_here 2 0 t o (omega arith))

    pub stream_again : number (take 2 t) ≡ f.number → marks_right f (marks_in t) ≡ true
        → stream f (heap_of f t) (accounts_of f t) ++ drop (head_length f + length_in t) t ≡ t
    unfolding stream head_of k q
    stream_again n m =
        simp append_assoc (rw (heap_back, records_back, entries_back, serial_back, length_back, marks_back m) (number_back n))
