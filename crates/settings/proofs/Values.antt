-- What is found: by one entry more, and inside its bytes.
use mathlib.Core.Path.{◌≡◌, refl, ap, ◌∙◌}
use mathlib.Core.List.{List, [], ◌∷◌, ◌++◌}
use mathlib.Core.Bool.{Bool, true, false, cond}
use Prim.Native.Nat.{ℕ, ◌≤◌}
use native.Mathlib.Omega.{arith}
use lib.ListN.{length, take}
use lib.Seq.{length-take-le}
use lib.Dec.{leb}
use borrow.Author.Tests.{leb-true}
use Rattle.std.specs.Prelude.{Result, Ok, Err, Some, None, Option}
use Rattle.settings.specs.declared.Span.{Span}
use Rattle.settings.specs.declared.Entry.{Entry}
use Rattle.settings.specs.declared.SettingsRefusal.{SettingsRefusal}
use Rattle.settings.specs.Entries.{entry_at, entries_from, entries, stored}
use Rattle.settings.specs.Find.{answers, value_of, later, or_else, value_in, found_in, chosen, find, FoundIn, PlacedIn}
use Rattle.settings.proofs.Walks.{by_entries}

exchange : (name version : ℕ) (f g : Option Span) (e : Entry) → or_else (later name version f e) g ≡ later name version (or_else f g) e
unfolding or_else later
exchange name version f g e = go (answers name version e)
  where
    go : (b : Bool) → or_else (cond b (Some (value_of e)) f) g ≡ cond b (Some (value_of e)) (or_else f g)
    go true = refl
    go false = refl

-- one entry more: its value if it answers, else what was found before it
pub value_snoc : (name version : ℕ) (es : List Entry) (e : Entry) → value_in name version (es ++ (e ∷ [])) ≡ later name version (value_in name version es) e
unfolding value_in or_else
value_snoc name version [] e = refl
value_snoc name version (x ∷ es) e =
    ap (λ (f : Option Span). or_else f (later name version None x)) (value_snoc name version es e)
    ∙ exchange name version (value_in name version es) (later name version None x) e

-- what is found lies inside
inside_else : (n : ℕ) (f g : Option Span) → FoundIn n f → FoundIn n g → FoundIn n (or_else f g)
unfolding or_else
inside_else n (Some x) g i j = i
inside_else n None g i j = j

inside_later : (n name version : ℕ) (e : Entry) → e.start ≤ e.end → e.end ≤ n → FoundIn n (later name version None e)
unfolding later
inside_later n name version e h l = go (answers name version e)
  where
    go : (b : Bool) → FoundIn n (cond b (Some (value_of e)) None)
    go true = record { ordered = h; within = l }
    go false = tt

inside_entries : (name version : ℕ) (s : List ℕ) (fuel last at : ℕ) (es : List Entry)
    → entries_from fuel last at s ≡ Some es → FoundIn (length s) (value_in name version es)
unfolding value_in
inside_entries name version s =
    by_entries s (λ last at es. FoundIn (length s) (value_in name version es))
    (λ last at h. tt)
    (λ last at fs h k i. inside_else (length s) (value_in name version fs) (later name version None (entry_at at s)) i
    (inside_later (length s) name version (entry_at at s) k.starts k.inside))

-- the entries of a store: its used length is not beyond its bytes, and what they have lies in the used bytes
pub stored_is : (s : List ℕ) (used : ℕ) (es : List Entry) → stored s used ≡ Some es → (used ≤ length s) × (entries (take used s) ≡ Some es)
unfolding stored
stored_is s used es e = go (leb used (length s)) refl e
  where
    go : (b : Bool) → leb used (length s) ≡ b → cond b (entries (take used s)) None ≡ Some es → (used ≤ length s) × (entries (take used s) ≡ Some es)
    go true t e = (leb-true used (length s) t, e)
    go false t e = let z : ◌≡◌ {A = ℕ} 0 1 = cc in absurd (omega arith)

pub value_inside : (name version : ℕ) (s : List ℕ) (used : ℕ) (es : List Entry) → stored s used ≡ Some es → FoundIn used (value_in name version es)
unfolding entries
value_inside name version s used es e =
    let p = stored_is s used es e in
    rw (length-take-le used s p.0) at (inside_entries name version (take used s) (length (take used s)) 0 0 es p.1)

abbrev ScannedIn : ℕ → Result (Option Span) SettingsRefusal → Type 0
ScannedIn n (Ok f) = FoundIn n f
ScannedIn n (Err r) = Unit {0}

wider : (n m : ℕ) (f : Option Span) → n ≤ m → FoundIn n f → FoundIn m f
wider n m (Some x) h i = let w = i.within in record { ordered = i.ordered; within = omega arith }
wider n m None h i = tt

scan_inside : (name version : ℕ) (s : List ℕ) (used n : ℕ) → (used ≤ length s → used ≤ n) → ScannedIn n (found_in name version (stored s used))
unfolding found_in
scan_inside name version s used n h = go (stored s used) refl
  where
    go : (o : Option (List Entry)) → stored s used ≡ o → ScannedIn n (found_in name version o)
    go None e = tt
    go (Some es) e = wider used n (value_in name version es) (h (stored_is s used es e).0) (value_inside name version s used es e)

chosen_inside : (n m : ℕ) (x y : Result (Option Span) SettingsRefusal) → ScannedIn n x → ScannedIn m y → PlacedIn n m (chosen x y)
unfolding chosen
chosen_inside n m (Err r) y i j = tt
chosen_inside n m (Ok x) (Err r) i j = tt
chosen_inside n m (Ok (Some x)) (Ok y) i j = i
chosen_inside n m (Ok None) (Ok (Some y)) i j = j
chosen_inside n m (Ok None) (Ok None) i j = tt

-- a place lies in the used bytes of its store, and so in its buffer
pub find_used_inside : (name version : ℕ) (b : List ℕ) (bu : ℕ) (d : List ℕ) (du : ℕ) → PlacedIn bu du (find name version b bu d du)
unfolding find
find_used_inside name version b bu d du =
    chosen_inside bu du (found_in name version (stored b bu)) (found_in name version (stored d du))
    (scan_inside name version b bu bu (λ h. omega arith))
    (scan_inside name version d du du (λ h. omega arith))

pub find_inside : (name version : ℕ) (b : List ℕ) (bu : ℕ) (d : List ℕ) (du : ℕ) → PlacedIn (length b) (length d) (find name version b bu d du)
unfolding find
find_inside name version b bu d du =
    chosen_inside (length b) (length d) (found_in name version (stored b bu)) (found_in name version (stored d du))
    (scan_inside name version b bu (length b) (λ h. h))
    (scan_inside name version d du (length d) (λ h. h))
