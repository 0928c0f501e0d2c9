-- A store as a run of entries (rules 20.1 to 20.3): what stands at a place, and all entries one behind the other.
use Rattle.std.specs.Prelude.{ℕ, zero, suc, ◌+◌, ◌*◌, List, [], ◌∷◌, Bool, cond, ◌&&◌, length, take, get_or, leb}
use Rattle.std.specs.Prelude.{Result, Ok, Err, Some, None, Option, slice_get}
use Rattle.settings.specs.declared.Entry.{Entry}
use Rattle.settings.specs.declared.SettingsRefusal.{SettingsRefusal}
use Rattle.settings.specs.declared.SettingsRefusal.TheVariants.{Malformed}
use Rattle.settings.specs.Refusals.{settings_refusal_number}

-- rule 20.2, an entry: its version (2 bytes, the lower first), its name (1), its value's length (1), its value
abbrev pub entry_at : ℕ → List ℕ → Entry
entry_at at s =
    record {
      version = get_or s at 0 + 256 * get_or s (at + 1) 0;
      name = get_or s (at + 2) 0;
      start = at + 4;
      end = at + 4 + get_or s (at + 3) 0;
    }

-- rule 20.3, behind an entry of version `last`: it has its four bytes, its value is at most 64 long, its version does not fall, its value ends in s
unfoldable pub entry_fits : ℕ → ℕ → List ℕ → Bool
entry_fits last at s =
    let e = entry_at at s in
    leb (at + 4) (length s) && (leb e.end (at + 68) && (leb last e.version && leb e.end (length s)))

-- the entry at a place, if it fits
unfoldable pub read_entry : ℕ → ℕ → List ℕ → Option Entry
read_entry last at s = cond (entry_fits last at s) (Some (entry_at at s)) None

unfoldable pub in_front : Entry → Option (List Entry) → Option (List Entry)
in_front e None = None
in_front e (Some es) = Some (e ∷ es)

-- the entries from a place to the end of s, behind an entry of version `last`; none where one does not fit. At most `fuel` entries
unfoldable pub entries_from : ℕ → ℕ → ℕ → List ℕ → Option (List Entry)
entries_from zero last at s = cond (leb (length s) at) (Some []) None
entries_from (suc fuel) last at s =
    let e = entry_at at s in
    let rest = in_front e (entries_from fuel e.version e.end s) in
    cond (leb (length s) at) (Some []) (cond (entry_fits last at s) rest None)

unfoldable pub entries : List ℕ → Option (List Entry)
entries s = entries_from (length s) 0 0 s

-- rule 20.1: the entries of a store are those of its used bytes; none where it is malformed
unfoldable pub stored : List ℕ → ℕ → Option (List Entry)
stored s used = cond (leb used (length s)) (entries (take used s)) None

-- the version of the last of these entries, which stand behind one of version `last`
unfoldable pub newest : ℕ → List Entry → ℕ
newest last [] = last
newest last (e ∷ es) = newest e.version es

unfoldable pub last_of : Option (List Entry) → Result ℕ SettingsRefusal
last_of None = Err Malformed
last_of (Some es) = Ok (newest 0 es)

-- rule 20.10: what is told of an entry that is asked for by its number: 41 where the store is malformed; else the
-- entry, if there are so many
pub record EntryTold : Type 0 where
  pub refusal : ℕ
  pub found : Option Entry

unfoldable pub entry_told : Result (Option Entry) SettingsRefusal → EntryTold
entry_told (Ok (Some e)) = record { refusal = 0; found = Some e }
entry_told (Ok None) = record { refusal = 0; found = None }
entry_told (Err r) = record { refusal = settings_refusal_number r; found = None }

unfoldable pub nth_of : ℕ → Option (List Entry) → EntryTold
nth_of n None = record { refusal = 41; found = None }
nth_of n (Some es) = record { refusal = 0; found = slice_get es n }
