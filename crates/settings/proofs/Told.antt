-- Answers in numbers: no two answers come to the same.
use Prim.Native.Nat.{ℕ, zero, suc, ◌-◌}
use mathlib.Core.Path.{◌≡◌, refl, ap, sym, ◌∙◌}
use mathlib.Core.List.{List, [], ◌∷◌}
use lib.ListN.{get_or}
use Rattle.std.specs.Prelude.{Result, Ok, Err, Some, None, Option}
use Rattle.settings.specs.declared.Entry.{Entry}
use Rattle.settings.specs.declared.Place.{Place}
use Rattle.settings.specs.declared.Place.TheVariants.{Board, Default}
use Rattle.settings.specs.declared.SettingsRefusal.{SettingsRefusal}
use Rattle.settings.specs.declared.SettingsRefusal.TheVariants.{Malformed as Bad, Missing, ValueLength}
use Rattle.settings.specs.declared.SettingsRefusal.TheVariants.{VersionFalls, Full}
use Rattle.settings.specs.Entries.{EntryTold, entry_told}
use Rattle.settings.specs.Refusals.{settings_refusal_number}
use Rattle.settings.specs.Find.{Located, located}
use Rattle.settings.specs.Add.{AddedTo, added_to}
use Rattle.settings.proofs.Rows

-- from a number, the refusal
abbrev refusal_at : ℕ → SettingsRefusal
refusal_at n = get_or (Bad ∷ Missing ∷ ValueLength ∷ VersionFalls ∷ Full ∷ []) (n - 41) Full

refusal_back : (r : SettingsRefusal) → refusal_at (settings_refusal_number r) ≡ r
refusal_back Bad = refl
refusal_back Missing = refl
refusal_back ValueLength = refl
refusal_back VersionFalls = refl
refusal_back Full = refl

pub settings_refusal_number_injective : (r q : SettingsRefusal)
    → settings_refusal_number r ≡ settings_refusal_number q → r ≡ q
settings_refusal_number_injective r q e = sym (refusal_back r) ∙ ap refusal_at e ∙ refusal_back q

-- of a lookup
abbrev place_from : Located → Result Place SettingsRefusal
place_from l =
    get_or
    (Err (refusal_at l.refusal) ∷ Ok (Board (record { start = l.start; end = l.end }))
    ∷ Ok (Default (record { start = l.start; end = l.end })) ∷ [])
    l.store (Err Full)

place_back : (p : Result Place SettingsRefusal) → place_from (located p) ≡ p
unfolding located
place_back (Ok (Board x)) = refl
place_back (Ok (Default x)) = refl
place_back (Err r) = ap Err (refusal_back r)

pub located_injective : (a b : Result Place SettingsRefusal) → located a ≡ located b → a ≡ b
located_injective a b e = sym (place_back a) ∙ ap place_from e ∙ place_back b

-- of an add
added_from : ℕ → ℕ → Result ℕ SettingsRefusal
added_from zero n = Ok n
added_from (suc r) n = Err (refusal_at (suc r))

abbrev answer_from : AddedTo → Result ℕ SettingsRefusal
answer_from a = added_from a.refusal a.used

answer_back : (s : List ℕ) (a : Result ℕ SettingsRefusal) → answer_from (added_to s a) ≡ a
unfolding added_from added_to
answer_back s (Ok n) = refl
answer_back s (Err Bad) = refl
answer_back s (Err Missing) = refl
answer_back s (Err ValueLength) = refl
answer_back s (Err VersionFalls) = refl
answer_back s (Err Full) = refl

store_of : (s : List ℕ) (a : Result ℕ SettingsRefusal) → (added_to s a).store ≡ s
unfolding added_to
store_of s (Ok n) = refl
store_of s (Err r) = refl

pub added_to_injective : (s t : List ℕ) (a b : Result ℕ SettingsRefusal) → added_to s a ≡ added_to t b → (s ≡ t) × (a ≡ b)
added_to_injective s t a b e = (
  sym (store_of s a) ∙ ap (λ (x : AddedTo). x.store) e ∙ store_of t b,
  sym (answer_back s a) ∙ ap answer_from e ∙ answer_back t b,
)

-- of an entry by its number
entry_found : Option Entry → ℕ → Result (Option Entry) SettingsRefusal
entry_found (Some e) n = Ok (Some e)
entry_found None zero = Ok None
entry_found None (suc n) = Err (refusal_at (suc n))

abbrev entry_from : EntryTold → Result (Option Entry) SettingsRefusal
entry_from t = entry_found t.found t.refusal

entry_back : (a : Result (Option Entry) SettingsRefusal) → entry_from (entry_told a) ≡ a
unfolding entry_found entry_told
entry_back (Ok (Some e)) = refl
entry_back (Ok None) = refl
entry_back (Err Bad) = refl
entry_back (Err Missing) = refl
entry_back (Err ValueLength) = refl
entry_back (Err VersionFalls) = refl
entry_back (Err Full) = refl

pub entry_told_injective : (a b : Result (Option Entry) SettingsRefusal) → entry_told a ≡ entry_told b → a ≡ b
entry_told_injective a b e = sym (entry_back a) ∙ ap entry_from e ∙ entry_back b
