-- The value of a name at a version (rules 20.4 to 20.6): that of the last entry that answers, in the board's store, else in the defaults.
use Rattle.std.specs.Prelude.{ℕ, ◌+◌, ◌-◌, ◌≤◌, List, [], ◌∷◌, Bool, cond, ◌&&◌, take, drop, leb, eqb, Result, Ok, Err, Some, None, Option}
use Rattle.settings.specs.declared.Span.{Span}
use Rattle.settings.specs.declared.Entry.{Entry}
use Rattle.settings.specs.declared.SettingsRefusal.{SettingsRefusal}
use Rattle.settings.specs.declared.SettingsRefusal.TheVariants.{Malformed, Missing}
use Rattle.settings.specs.declared.Place.{Place}
use Rattle.settings.specs.declared.Place.TheVariants.{Board, Default}
use Rattle.settings.specs.Refusals.{settings_refusal_number}
use Rattle.settings.specs.Entries.{stored}

-- rule 20.4: the entry is of this name and not above this version
unfoldable pub answers : ℕ → ℕ → Entry → Bool
answers name version e = eqb e.name name && leb e.version version

abbrev pub value_of : Entry → Span
value_of e = record { start = e.start; end = e.end }

-- an entry's value where it answers, else what was found before
unfoldable pub later : ℕ → ℕ → Option Span → Entry → Option Span
later name version before e = cond (answers name version e) (Some (value_of e)) before

-- what entries have is what the later ones have, else what the first has: the last that answers
unfoldable pub or_else : Option Span → Option Span → Option Span
or_else (Some x) f = Some x
or_else None f = f

unfoldable pub value_in : ℕ → ℕ → List Entry → Option Span
value_in name version [] = None
value_in name version (e ∷ es) = or_else (value_in name version es) (later name version None e)

unfoldable pub found_in : ℕ → ℕ → Option (List Entry) → Result (Option Span) SettingsRefusal
found_in name version None = Err Malformed
found_in name version (Some es) = Ok (value_in name version es)

-- rules 20.5 and 20.6: 41 before all; the board's value, else the default, else 42
unfoldable pub chosen : Result (Option Span) SettingsRefusal → Result (Option Span) SettingsRefusal → Result Place SettingsRefusal
chosen (Err r) d = Err r
chosen (Ok b) (Err r) = Err r
chosen (Ok (Some x)) (Ok d) = Ok (Board x)
chosen (Ok None) (Ok (Some y)) = Ok (Default y)
chosen (Ok None) (Ok None) = Err Missing

unfoldable pub find : ℕ → ℕ → List ℕ → ℕ → List ℕ → ℕ → Result Place SettingsRefusal
find name version b bu d du = chosen (found_in name version (stored b bu)) (found_in name version (stored d du))

-- rules 20.5 and 20.6, in numbers: the refusal's, 0 where there is none; the store, 1 the board's and 2 the defaults;
-- the value's start and end. What has no meaning is 0
pub record Located : Type 0 where
  pub refusal : ℕ
  pub store : ℕ
  pub start : ℕ
  pub end : ℕ

unfoldable pub located : Result Place SettingsRefusal → Located
located (Ok (Board x)) = record { refusal = 0; store = 1; start = x.start; end = x.end }
located (Ok (Default x)) = record { refusal = 0; store = 2; start = x.start; end = x.end }
located (Err r) = record { refusal = settings_refusal_number r; store = 0; start = 0; end = 0 }

-- what a place means: the refusal's number, the bytes, and in which of the two buffers they lie, from where
unfoldable pub refusal_of : Result Place SettingsRefusal → ℕ
refusal_of (Ok (Board x)) = 0
refusal_of (Ok (Default x)) = 0
refusal_of (Err r) = settings_refusal_number r

unfoldable pub part : Span → List ℕ → List ℕ
part x s = take (x.end - x.start) (drop x.start s)

unfoldable pub bytes_of : Result Place SettingsRefusal → List ℕ → List ℕ → List ℕ
bytes_of (Ok (Board x)) b d = part x b
bytes_of (Ok (Default x)) b d = part x d
bytes_of (Err r) b d = []

-- a pointer is an allocation and an offset in it; a refused lookup gives the board's
unfoldable pub lies_at : {A : Type 0} → Result Place SettingsRefusal → A × ℕ → A × ℕ → A × ℕ
lies_at (Ok (Board x)) b d = (b.0, b.1 + x.start)
lies_at (Ok (Default x)) b d = (d.0, d.1 + x.start)
lies_at (Err r) b d = b

-- a value lies in so many bytes
pub record Inside (n : ℕ) (x : Span) : Type 0 where
  pub ordered : x.start ≤ x.end
  pub within : x.end ≤ n

abbrev pub FoundIn : ℕ → Option Span → Type 0
FoundIn n (Some x) = Inside n x
FoundIn n None = Unit {0}

abbrev pub PlacedIn : ℕ → ℕ → Result Place SettingsRefusal → Type 0
PlacedIn n m (Ok (Board x)) = Inside n x
PlacedIn n m (Ok (Default x)) = Inside m x
PlacedIn n m (Err r) = Unit {0}
