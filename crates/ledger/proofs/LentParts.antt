-- A write through the part that lend gives is the write of a history, whatever the handle is, narrowed or not. The part is the handle's range, which lies in
-- the object that it names, or empty where lend is refused. So a byte outside every live object is outside the part.
use Rattle.std.specs.Prelude.{Option, Some, None}
use Prim.Native.Nat.{ℕ, ◌+◌, ◌≤◌, ◌<◌}
use native.Mathlib.Omega.{arith}
use mathlib.Core.Path.{◌≡◌, refl}
use mathlib.Core.List.{List, ◌∷◌}
use mathlib.Core.Bool.{false, true≢false}
use lib.ListN.{length, get_or}
use Rattle.accounts.specs.declared.Accounts.{Accounts}
use Rattle.layout.specs.Bytes.{Octets}
use Rattle.lists.specs.Lists.{any, is_none}
use Rattle.model.specs.Objects.{objects_of, lookup}
use Rattle.model.specs.Refusals.{first_refusal, line_holds, line_1, line_2, line_5, lend_lines, row_lines}
use Rattle.model.specs.Calls.{Outcome, lend}
use Rattle.model.specs.declared.Handle.{Handle}
use Rattle.model.specs.declared.Range.{Range}
use Rattle.model.specs.declared.Call.TheVariants.{Lend}
use Rattle.lists.proofs.Bools.{or_neither}
use Rattle.model.proofs.Refusals.{accepted_exactly, by_lines, unless_where}
use Rattle.model.proofs.Lookup.{names_exactly, lookup_named}
use Rattle.ledger.specs.Ledger.{Ledger, Event, Wrote}
use Rattle.ledger.specs.History.{Run, in_object, Written, History}
use Rattle.ledger.proofs.Writing.{outside_exactly}

-- a byte lies in a range
abbrev pub InRange : ℕ → Range → Type 0
InRange i r = (r.start ≤ i) × (i < r.end)

module _ (unit : ℕ → ℕ) (s : List ℕ) (k : Accounts) (h : Handle) where
  -- the handle of an accepted lend names an object
  lent_named : first_refusal (lend_lines unit s k h) ≡ 0 → (o : Handle) × (lookup h s ≡ Some o)
  unfolding row_lines line_5 is_none any
  lent_named e = go (lookup h s) refl
    where
      none_holds : any line_holds (lend_lines unit s k h) ≡ false
      none_holds = (accepted_exactly (lend_lines unit s k h) (by_lines unit (Lend h) s k).numbered).0 e

      go : (o : Option Handle) → lookup h s ≡ o → (o : Handle) × (lookup h s ≡ Some o)
      go None q = absurd (true≢false (rw q at (or_neither (line_holds (line_2 unit s k)) _ (or_neither (line_holds (line_1 s)) _ none_holds).1).1))
      go (Some o) q = (o, q)

  -- and each byte of its range is a byte of that object, whether it has the whole of it or not
  pub range_inside : first_refusal (lend_lines unit s k h) ≡ 0 → (i : ℕ) → in_object i (objects_of s) ≡ false → h.base ≤ i → i < h.base + h.length → ⊥
  range_inside e i out low high =
      let r = lent_named e in
      let n = lookup_named h s r.0 r.1 in
      let w = (names_exactly h r.0).0 n.0 in
      let w₁ = w.low in
      let w₂ = w.high in
      (outside_exactly i (objects_of s)).0 out r.0 n.1 (omega arith, omega arith)

  -- a byte outside every live object is outside the part
  pub lent_inside : (i : ℕ) → in_object i (objects_of s) ≡ false → InRange i (lend unit s k h).values.range → ⊥
  unfolding lend
  lent_inside i out =
      unless_where (λ (t : Outcome). InRange i t.values.range → ⊥) (first_refusal (lend_lines unit s k h)) s k _
      (λ e w. range_inside e i out w.0 w.1) (λ n w. omega arith)

  -- bytes of the part are written in whatever way, and nothing else
  pub part_written : (s' : List ℕ) → length s' ≡ length s → Octets s'
      → ((i : ℕ) → (InRange i (lend unit s k h).values.range → ⊥) → get_or s' i 0 ≡ get_or s i 0) → Written s s'
  part_written s' l o f = record { same_length = l; octets = o; inside = λ i e. f i (lent_inside i e) }

  -- so a history goes on with it
  pub part_history : (tables : ℕ → ℕ → ℕ) (run : Run) (begun : Ledger) (es : List Event) (s' : List ℕ) → History tables run begun es s k
      → length s' ≡ length s → Octets s'
      → ((i : ℕ) → (InRange i (lend unit s k h).values.range → ⊥) → get_or s' i 0 ≡ get_or s i 0) → History tables run begun (Wrote ∷ es) s' k
  part_history tables run begun es s' past l o f = (s, past, part_written s' l o f)
