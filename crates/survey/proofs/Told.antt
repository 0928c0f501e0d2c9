-- What a survey that accepts tells of the object, the records and the room.
use Rattle.std.specs.Prelude.{Option, Some, None}
use Rattle.std.proofs.Common.{◌≡◌, ℕ, ◌+◌, ◌-◌, ◌*◌, ◌/◌, ◌<◌, ◌≤◌, ◌&&◌, eqb, leb, List, length, sym, refl, ap, ◌∙◌, arith, le-ltb, lt-ltb}
use Rattle.std.proofs.Common.{eqb-true}
use Rattle.accounts.specs.Accounts.{HOLDS}
use Rattle.lookup.specs.declared.Met.{Met}
use Rattle.lookup.specs.Walk.{met, live_met, object_met, holds_named, looked_up, multiple_from, fitted, find_object}
use Rattle.lists.specs.Lists.{first}
use Rattle.model.specs.Objects.{names}
use Rattle.model.specs.declared.Handle.{Handle}
use Rattle.lists.proofs.Bools.{and_left, and_right}
use Rattle.lists.proofs.Lists.{first_some}
use Rattle.survey.specs.declared.Wanted.{Wanted}
use Rattle.survey.specs.Survey.{handle_of, place_of, block_at, fit_place}

-- the block that a handle names has its serial
named_serial : (h : Handle) (s : List ℕ) (m : Met) → find_object h s ≡ Some m → h.serial ≡ m.serial
unfolding find_object holds_named names
named_serial h s m = go (first (holds_named h) (met s)) refl
  where
    go : (x : Option Met) → first (holds_named h) (met s) ≡ x → looked_up x ≡ Some m → h.serial ≡ m.serial
    go None e f = let z : ◌≡◌ {A = ℕ} 0 1 = cc in absurd (omega arith)
    go (Some b) e f =
        let q : b ≡ m = cc in
        let t = (first_some (holds_named h) (met s) m (rw q at e)).1 in
        let inside = leb 1 h.length && (leb (m.at + 8) h.base && leb (h.base + h.length) (m.at + 8 + (m.size - 8))) in
        eqb-true h.serial m.serial (and_left (eqb h.serial m.serial) inside (and_right (live_met m) (names h (object_met m)) t))

-- places as numbers
pub place_at : (n : ℕ) → n < HOLDS → place_of n ≡ Some n
unfolding place_of
place_at n l = rw (lt-ltb n HOLDS l)

pub place_nothing : (n : ℕ) → HOLDS ≤ n → place_of n ≡ None
unfolding place_of
place_nothing n l = rw (le-ltb n HOLDS l)

-- the block with room by its place
pub room_none : (u fit : ℕ) (s : List ℕ) → length s ≤ fit → None ≡ fitted u (fit_place fit s)
unfolding fit_place
room_none u fit s l = rw (le-ltb fit (length s) l)

pub room_at : (u fit : ℕ) (s : List ℕ) → fit < length s → (m : Met) (b : ℕ) → m ≡ block_at fit s → b ≡ multiple_from u (fit + 8)
    → Some (m, b) ≡ fitted u (fit_place fit s)
unfolding fit_place block_at
room_at u fit s l m b e f = rw (lt-ltb fit (length s) l) (λ i. Some ((e i), f i))

pub multiple_zero : (u x : ℕ) → u ≡ 0 → 0 ≡ multiple_from u x
unfolding multiple_from
multiple_zero u x e =
    let z : (x + (u - 1)) / u * 0 ≡ 0 = omega arith in
    sym (ap (λ (a : ℕ). (x + (u - 1)) / u * a) e ∙ z)

-- what a survey that accepts knows of the object: it has the handle's serial
pub is_serial : (s : List ℕ) (w : Wanted) (m : Met) → find_object (handle_of w) s ≡ Some m → w.serial ≡ m.serial
is_serial s w m e = named_serial (handle_of w) s m e
