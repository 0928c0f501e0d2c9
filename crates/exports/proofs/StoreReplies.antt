-- The numbers of every kind of answer, computed. And a reply's numbers say everything: what was answered is had back from
-- them, so no two answers give the same reply. An add's reply says all but the store, which stands where it was lent.
use Prim.Native.Nat.{ℕ, zero, suc}
use mathlib.Core.Path.{◌≡◌, refl, ap, sym, ◌∙◌}
use mathlib.Core.List.{List, [], ◌∷◌, map}
use Rattle.std.specs.Prelude.{Result, Ok, Err, Some, None, Option}
use Rattle.settings.specs.declared.Entry.{Entry}
use Rattle.settings.specs.declared.SettingsRefusal.TheVariants.{Malformed, Missing, ValueLength, VersionFalls, Full}
use Rattle.settings.specs.declared.Place.{Place}
use Rattle.settings.specs.declared.Place.TheVariants.{Board, Default}
use Rattle.settings.specs.declared.SettingsRefusal.{SettingsRefusal}
use Rattle.settings.specs.Entries.{EntryTold, entry_told}
use Rattle.settings.specs.Find.{Located, located}
use Rattle.settings.specs.Add.{AddedTo, added_to}
use Rattle.settings.proofs.Told.{located_injective, added_to_injective, entry_told_injective}
use Rattle.exports.specs.declared.stores.FindReply.{FindReply}
use Rattle.exports.specs.declared.stores.AddReply.{AddReply}
use Rattle.exports.specs.declared.stores.EntryReply.{EntryReply}
use Rattle.exports.specs.StoreReplies.{find_reply, add_reply, entry_with, entry_reply}

found : ℕ → ℕ → ℕ → ℕ → FindReply
found r s from to = record { refusal = r; store = s; start = from; end = to }

find_rows : map (λ (p : Result Place SettingsRefusal). find_reply (located p))
    (Ok (Board (record { start = 4; end = 9 })) ∷ Ok (Default (record { start = 8; end = 8 })) ∷ Err Malformed
    ∷ Err Missing ∷ [])
    ≡ found 0 1 4 9 ∷ found 0 2 8 8 ∷ found 41 0 0 0 ∷ found 42 0 0 0 ∷ []
unfolding found located
find_rows = refl

added : ℕ → ℕ → AddReply
added r n = record { refusal = r; used = n }

add_rows : map (λ (a : Result ℕ SettingsRefusal). add_reply (added_to [] a))
    (Ok 68 ∷ Err Malformed ∷ Err ValueLength ∷ Err VersionFalls ∷ Err Full ∷ [])
    ≡ added 0 68 ∷ added 41 0 ∷ added 43 0 ∷ added 44 0 ∷ added 45 0 ∷ []
unfolding added added_to
add_rows = refl

entry : ℕ → ℕ → ℕ → ℕ → ℕ → ℕ → EntryReply
entry r t v n from to = record { refusal = r; there = t; version = v; name = n; start = from; end = to }

entry_rows : map (λ (a : Result (Option Entry) SettingsRefusal). entry_reply (entry_told a))
    (Ok (Some (record { version = 513; name = 7; start = 4; end = 6 })) ∷ Ok None ∷ Err Malformed ∷ [])
    ≡ entry 0 1 513 7 4 6 ∷ entry 0 0 0 0 0 0 ∷ entry 41 0 0 0 0 0 ∷ []
unfolding entry entry_told
entry_rows = refl

-- what was answered, from the numbers
abbrev located_from : FindReply → Located
located_from r = record { refusal = r.refusal; store = r.store; start = r.start; end = r.end }

pub find_reply_injective : (a b : Result Place SettingsRefusal) → find_reply (located a) ≡ find_reply (located b) → a ≡ b
find_reply_injective a b e = located_injective a b (ap located_from e)

-- the store is no part of the reply
abbrev stored_with : List ℕ → AddReply → AddedTo
stored_with s r = record { store = s; refusal = r.refusal; used = r.used }

stored_back : (s : List ℕ) (a : Result ℕ SettingsRefusal) → stored_with s (add_reply (added_to s a)) ≡ added_to s a
unfolding added_to
stored_back s (Ok n) = refl
stored_back s (Err r) = refl

pub add_reply_injective : (s : List ℕ) (a b : Result ℕ SettingsRefusal) → add_reply (added_to s a) ≡ add_reply (added_to s b) → a ≡ b
add_reply_injective s a b e =
    (added_to_injective s s a b (sym (stored_back s a) ∙ ap (stored_with s) e ∙ stored_back s b)).1

entry_of : ℕ → EntryReply → Option Entry
entry_of zero r = None
entry_of (suc n) r = Some (record { version = r.version; name = r.name; start = r.start; end = r.end })

abbrev told_from : EntryReply → EntryTold
told_from r = record { refusal = r.refusal; found = entry_of r.there r }

told_back : (n : ℕ) (o : Option Entry) → told_from (entry_with n o) ≡ record { refusal = n; found = o }
unfolding entry_of
told_back n None = refl
told_back n (Some e) = refl

pub entry_reply_injective : (a b : Result (Option Entry) SettingsRefusal) → entry_reply (entry_told a) ≡ entry_reply (entry_told b) → a ≡ b
entry_reply_injective a b e =
    let x = entry_told a in
    let y = entry_told b in
    entry_told_injective a b
    (sym (told_back x.refusal x.found) ∙ ap told_from e ∙ told_back y.refusal y.found)
