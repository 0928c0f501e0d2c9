-- A new entry behind the used bytes (rules 20.7 and 20.8).
use Rattle.std.specs.Prelude.{ℕ, ◌+◌, ◌-◌, List, ◌∷◌, ◌++◌, cond, length, ltb, Result, Ok, Err, Option, Some, None}
use Rattle.layout.specs.Bytes.{bytes, overwrite}
use Rattle.settings.specs.declared.Entry.{Entry}
use Rattle.settings.specs.declared.SettingsRefusal.{SettingsRefusal}
use Rattle.settings.specs.declared.SettingsRefusal.TheVariants.{Malformed, ValueLength, VersionFalls, Full}
use Rattle.settings.specs.Entries.{newest, stored}
use Rattle.settings.specs.Refusals.{settings_refusal_number}

-- the bytes of an entry (rule 20.2)
unfoldable pub entry_bytes : ℕ → ℕ → List ℕ → List ℕ
entry_bytes version name value = bytes 2 version ++ (name ∷ length value ∷ value)

-- what the lent store is then, and what is answered
pub record Stored : Type 0 where
  pub store : List ℕ
  pub answer : Result ℕ SettingsRefusal

abbrev pub refused : List ℕ → SettingsRefusal → Stored
refused s r = record { store = s; answer = Err r }

-- rule 20.8: the entry stands behind the used bytes
abbrev pub added : ℕ → ℕ → List ℕ → List ℕ → ℕ → Stored
added name version value s used = record { store = overwrite used (entry_bytes version name value) s; answer = Ok (used + (4 + length value)) }

-- the same in numbers: the refusal's, 0 where there is none, and the new used length, 0 where it is refused
pub record AddedTo : Type 0 where
  pub store : List ℕ
  pub refusal : ℕ
  pub used : ℕ

unfoldable pub added_to : List ℕ → Result ℕ SettingsRefusal → AddedTo
added_to s (Ok n) = record { store = s; refusal = 0; used = n }
added_to s (Err r) = record { store = s; refusal = settings_refusal_number r; used = 0 }

abbrev pub add_told : Stored → AddedTo
add_told w = added_to w.store w.answer

-- rule 20.7: 41, 43, 44 and 45 in this order
unfoldable pub add_behind : ℕ → ℕ → List ℕ → List ℕ → ℕ → Option (List Entry) → Stored
add_behind name version value s used None = refused s Malformed
add_behind name version value s used (Some es) =
    cond (ltb 64 (length value)) (refused s ValueLength)
    (cond (ltb version (newest 0 es)) (refused s VersionFalls)
    (cond (ltb (length s - used) (4 + length value)) (refused s Full)
    (added name version value s used)))

unfoldable pub add_of : ℕ → ℕ → List ℕ → List ℕ → ℕ → Stored
add_of name version value s used = add_behind name version value s used (stored s used)
