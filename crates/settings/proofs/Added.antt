-- The bytes of an entry behind a run of entries: they are read as that entry, and the others as before.
use Rattle.std.specs.Prelude.{Some}
use mathlib.Core.Path.{◌≡◌, ap, sym, ◌∙◌}
use mathlib.Core.List.{List, [], ◌∷◌, ◌++◌}
use Prim.Native.Nat.{ℕ, zero, suc, ◌+◌, ◌*◌, ◌/◌, ◌%◌, ◌≤◌, ◌<◌}
use native.Mathlib.Omega.{arith}
use native.Mathlib.Nat.{add-zero}
use lib.ListN.{length, get_or, length-append, get_or-append}
use lib.Seq.{get_or-append-add}
use Rattle.layout.specs.Bytes.{bytes}
use Rattle.settings.specs.declared.Entry.{Entry}
use Rattle.settings.specs.Entries.{entry_at, in_front, entries_from, entries, newest}
use Rattle.settings.specs.Add.{entry_bytes}
use Rattle.settings.proofs.Reading.{Known, fits}
use Rattle.settings.proofs.Walks.{from_end, from_more, by_entries}

-- the entry that stands at a place with a value of so many bytes
abbrev pub entry_of : ℕ → ℕ → ℕ → ℕ → Entry
entry_of version name at n = record { version = version; name = name; start = at + 4; end = at + 4 + n }

pub same_version : (v : ℕ) → v < 65536 → v % 256 + 256 * (v / 256 % 256) ≡ v
same_version v h = omega arith

pub length_entry : (version name : ℕ) (v : List ℕ) → length (entry_bytes version name v) ≡ 4 + length v
unfolding entry_bytes bytes
length_entry version name v = omega arith

-- the bytes of an entry behind s are read as that entry, and the others as before
module _ (s : List ℕ) (version name : ℕ) (v : List ℕ) (w : version < 65536) (n : length v ≤ 64) where
  abbrev grown : List ℕ
  grown = s ++ entry_bytes version name v

  abbrev new : Entry
  new = entry_of version name (length s) (length v)

  length_grown : length grown ≡ length s + (4 + length v)
  length_grown = length-append s (entry_bytes version name v) ∙ ap (◌+◌ (length s)) (length_entry version name v)

  read_new : entry_at (length s) grown ≡ new
  unfolding entry_bytes bytes
  read_new =
      let b = entry_bytes version name v in
      let zeroth : get_or (s ++ b) (length s) 0 ≡ version % 256 = ap (λ (k : ℕ). get_or (s ++ b) k 0) (sym (add-zero (length s))) ∙ get_or-append-add s b 0 0 in
      let first : get_or (s ++ b) (length s + 1) 0 ≡ version / 256 % 256 = get_or-append-add s b 1 0 in
      let second : get_or (s ++ b) (length s + 2) 0 ≡ name = get_or-append-add s b 2 0 in
      let third : get_or (s ++ b) (length s + 3) 0 ≡ length v = get_or-append-add s b 3 0 in
      let whole : get_or (s ++ b) (length s) 0 + 256 * get_or (s ++ b) (length s + 1) 0 ≡ version = (λ i. zeroth i + 256 * first i) ∙ same_version version w in
      λ i. record { version = whole i; name = second i; start = length s + 4; end = length s + 4 + third i }

  read_old : (at : ℕ) → at + 4 ≤ length s → entry_at at grown ≡ entry_at at s
  read_old at h =
      let b = entry_bytes version name v in
      let g : (k : ℕ) → k < length s → get_or (s ++ b) k 0 ≡ get_or s k 0 = λ k l. get_or-append s b 0 k l in
      λ i.
      record {
        version = g at (omega arith) i + 256 * g (at + 1) (omega arith) i;
        name = g (at + 2) (omega arith) i;
        start = at + 4;
        end = at + 4 + g (at + 3) (omega arith) i;
      }

  -- the last entry alone
  last_grown : (m last : ℕ) → length grown ≤ length s + m → last ≤ version → entries_from m last (length s) grown ≡ Some (new ∷ [])
  unfolding in_front
  last_grown zero last r h = absurd (omega (arith, length_grown))
  last_grown (suc m) last r h =
      let g = length_grown in
      let i : new ≡ entry_at (length s) grown = sym read_new in
      let f = fits last (length s) grown new i (omega arith) (omega arith) h (omega arith) in
      from_more grown m last (length s) (omega arith) f
      ∙ ap (λ (x : Entry). in_front x (entries_from m x.version x.end grown)) read_new
      ∙ ap (in_front new) (from_end grown m version (length s + 4 + length v) (omega arith))

  -- an old entry, and those behind it
  old_grown : (last at : ℕ) (fs : List Entry) → at < length s → Known last at s (entry_at at s)
      → ((m : ℕ) → (entry_at at s).end ≤ length s → length grown ≤ (entry_at at s).end + m → newest (entry_at at s).version fs ≤ version
      → entries_from m (entry_at at s).version (entry_at at s).end grown ≡ Some (fs ++ (new ∷ [])))
      → (m : ℕ) → length grown ≤ at + m → newest (entry_at at s).version fs ≤ version
      → entries_from m last at grown ≡ Some (entry_at at s ∷ (fs ++ (new ∷ [])))
  unfolding in_front
  old_grown last at fs h k more zero r b = absurd (omega (arith, length_grown))
  old_grown last at fs h k more (suc m) r b =
      let g = length_grown in
      let moves = k.moves in
      let inside = k.inside in
      let is : entry_at at s ≡ entry_at at grown = sym (read_old at (omega arith)) in
      let f = fits last at grown (entry_at at s) is (omega arith) k.short k.rises (omega arith) in
      from_more grown m last at (omega arith) f
      ∙ ap (λ (x : Entry). in_front x (entries_from m x.version x.end grown)) (sym is)
      ∙ ap (in_front (entry_at at s)) (more m inside (omega arith) b)

  -- all entries
  all_grown : (fuel last at : ℕ) (es : List Entry) → entries_from fuel last at s ≡ Some es
      → (m : ℕ) → at ≤ length s → length grown ≤ at + m → newest last es ≤ version → entries_from m last at grown ≡ Some (es ++ (new ∷ []))
  unfolding newest in_front
  all_grown =
      by_entries s
      (λ last at es.
      (m : ℕ) → at ≤ length s → length grown ≤ at + m → newest last es ≤ version → entries_from m last at grown ≡ Some (es ++ (new ∷ [])))
      (λ last at h m a r k.
      let e : at ≡ length s = omega arith in
      rw e (last_grown m last (rw e at r) k))
      (λ last at fs h k more m a r b. old_grown last at fs h k more m r b)

  pub entries_grown : (es : List Entry) → entries s ≡ Some es → newest 0 es ≤ version → entries grown ≡ Some (es ++ (new ∷ []))
  unfolding entries
  entries_grown es e k = all_grown (length s) 0 0 es e (length grown) (omega arith) (omega arith) k
