-- The definitions computed: stores of no, one and several entries, every way to be malformed, which entry answers, and adding around each refusal.
use mathlib.Core.Path.{◌≡◌, refl}
use mathlib.Core.List.{List, [], ◌∷◌, ◌++◌, map}
use mathlib.Core.Bool.{cond}
use Prim.Native.Nat.{ℕ}
use lib.Dec.{eqb}
use lib.ListN.{take, replicate}
use Rattle.std.specs.Prelude.{Result, Ok, Err, Some, None, Option}
use Rattle.settings.specs.declared.Span.{Span}
use Rattle.settings.specs.declared.Entry.{Entry}
use Rattle.settings.specs.declared.SettingsRefusal.{SettingsRefusal}
use Rattle.settings.specs.declared.SettingsRefusal.TheVariants.{Malformed, Missing, ValueLength, VersionFalls, Full}
use Rattle.settings.specs.declared.Place.TheVariants.{Board, Default}
use Rattle.settings.specs.Refusals.{settings_refusal_number}
use Rattle.settings.specs.Entries.{stored, EntryTold, entry_told, nth_of}
use Rattle.settings.specs.Find.{find, located, refusal_of, bytes_of}
use Rattle.settings.specs.Add.{Stored, entry_bytes, add_of, added_to}
use Rattle.settings.specs.Walks.{walked, given_in, turn, told_at_end, picked}
use Rattle.settings.proofs.Computing.{computing}

entry : ℕ → ℕ → ℕ → ℕ → Entry
entry v n from to = record { version = v; name = n; start = from; end = to }

span : ℕ → ℕ → Span
span from to = record { start = from; end = to }

-- version 513, name 7, a value of two bytes
small : List ℕ
small = 1 ∷ 2 ∷ 7 ∷ 2 ∷ 10 ∷ 11 ∷ []

-- four entries: names 5, 5, 6, 5 at versions 1, 3, 3, 3; the last value is empty
four : List ℕ
four = 1 ∷ 0 ∷ 5 ∷ 1 ∷ 20 ∷ 3 ∷ 0 ∷ 5 ∷ 2 ∷ 21 ∷ 22 ∷ 3 ∷ 0 ∷ 6 ∷ 1 ∷ 23 ∷ 3 ∷ 0 ∷ 5 ∷ 0 ∷ []

-- an entry of version 0 and name 9 with so many bytes
long : ℕ → List ℕ
long n = 0 ∷ 0 ∷ 9 ∷ n ∷ replicate n 1

shown : Unit {0}
unfolding computing entry span small four long
shown = tt

-- no entry, in no bytes and in a buffer; one; four; junk behind the used bytes; values of 0 and 64 bytes; the highest version and name
run_rows : (stored [] 0 ≡ Some [])
    × (stored (255 ∷ 255 ∷ []) 0 ≡ Some [])
    × (stored small 6 ≡ Some (entry 513 7 4 6 ∷ []))
    × (stored (small ++ (1 ∷ [])) 6 ≡ Some (entry 513 7 4 6 ∷ []))
    × (stored four 20 ≡ Some (entry 1 5 4 5 ∷ entry 3 5 9 11 ∷ entry 3 6 15 16 ∷ entry 3 5 20 20 ∷ []))
    × (stored four 11 ≡ Some (entry 1 5 4 5 ∷ entry 3 5 9 11 ∷ []))
    × (stored (long 0) 4 ≡ Some (entry 0 9 4 4 ∷ []))
    × (stored (long 64) 68 ≡ Some (entry 0 9 4 68 ∷ []))
    × (stored (255 ∷ 255 ∷ 255 ∷ 0 ∷ []) 4 ≡ Some (entry 65535 255 4 4 ∷ []))
unfolding shown
run_rows = (refl, refl, refl, refl, refl, refl, refl, refl, refl)

-- malformed: cut at every byte, in the buffer and by the used length; a value of 65 and of 255 bytes; more bytes used than there are; a version that
-- falls in the lower and in the higher byte, behind a good entry; a second entry cut short
malformed_rows : (map (λ (n : ℕ). stored (take n small) n) (1 ∷ 2 ∷ 3 ∷ 4 ∷ 5 ∷ []) ≡ replicate 5 None)
    × (map (stored small) (1 ∷ 2 ∷ 3 ∷ 4 ∷ 5 ∷ []) ≡ replicate 5 None)
    × (stored (long 65) 69 ≡ None)
    × (stored (long 255) 259 ≡ None)
    × (stored [] 1 ≡ None)
    × (stored small 7 ≡ None)
    × (stored four 21 ≡ None)
    × (stored (5 ∷ 0 ∷ 1 ∷ 0 ∷ 4 ∷ 0 ∷ 1 ∷ 0 ∷ []) 8 ≡ None)
    × (stored (0 ∷ 1 ∷ 1 ∷ 0 ∷ 255 ∷ 0 ∷ 2 ∷ 0 ∷ []) 8 ≡ None)
    × (stored (4 ∷ 0 ∷ 1 ∷ 0 ∷ 4 ∷ 0 ∷ 1 ∷ 0 ∷ 3 ∷ 255 ∷ 1 ∷ 0 ∷ 2 ∷ 255 ∷ 1 ∷ 0 ∷ []) 16 ≡ None)
    × (map (stored four) (6 ∷ 7 ∷ 8 ∷ 9 ∷ 10 ∷ 12 ∷ 17 ∷ 19 ∷ []) ≡ replicate 8 None)
unfolding shown
malformed_rows = (refl, refl, refl, refl, refl, refl, refl, refl, refl, refl, refl)

-- the refusals' numbers
number_rows : map settings_refusal_number (Malformed ∷ Missing ∷ ValueLength ∷ VersionFalls ∷ Full ∷ []) ≡ 41 ∷ 42 ∷ 43 ∷ 44 ∷ 45 ∷ []
number_rows = refl

-- the last entry of the name that is not above the version; at equal versions the later; an empty value is one
answer_rows : (find 5 0 four 20 [] 0 ≡ Err Missing)
    × (find 5 1 four 20 [] 0 ≡ Ok (Board (span 4 5)))
    × (find 5 2 four 20 [] 0 ≡ Ok (Board (span 4 5)))
    × (find 5 3 four 11 [] 0 ≡ Ok (Board (span 9 11)))
    × (find 5 3 four 20 [] 0 ≡ Ok (Board (span 20 20)))
    × (find 5 65535 four 20 [] 0 ≡ Ok (Board (span 20 20)))
    × (find 6 2 four 20 [] 0 ≡ Err Missing)
    × (find 6 3 four 20 [] 0 ≡ Ok (Board (span 15 16)))
    × (find 7 65535 four 20 [] 0 ≡ Err Missing)
    × (find 7 512 small 6 [] 0 ≡ Err Missing)
    × (find 7 513 small 6 [] 0 ≡ Ok (Board (span 4 6)))
unfolding shown
answer_rows = (refl, refl, refl, refl, refl, refl, refl, refl, refl, refl, refl)

-- the board comes before the defaults, with an older entry and with an empty value too; the defaults where the board has none that answers; 41 for
-- either store, though the other answers and though neither has the name
store_rows : (find 5 9 four 5 four 20 ≡ Ok (Board (span 4 5)))
    × (find 5 9 four 20 four 5 ≡ Ok (Board (span 20 20)))
    × (find 7 513 four 20 small 6 ≡ Ok (Default (span 4 6)))
    × (find 5 2 (3 ∷ 0 ∷ 5 ∷ 0 ∷ []) 4 four 20 ≡ Ok (Default (span 4 5)))
    × (find 7 512 four 20 small 6 ≡ Err Missing)
    × (find 5 9 four 20 small 5 ≡ Err Malformed)
    × (find 5 9 small 5 four 20 ≡ Err Malformed)
    × (find 8 9 four 20 small 7 ≡ Err Malformed)
    × (find 8 9 [] 0 [] 1 ≡ Err Malformed)
    × (find 8 9 [] 0 [] 0 ≡ Err Missing)
unfolding shown
store_rows = (refl, refl, refl, refl, refl, refl, refl, refl, refl, refl)

-- the bytes where they lie
byte_rows : (bytes_of (find 5 3 four 11 [] 0) four [] ≡ 21 ∷ 22 ∷ [])
    × (bytes_of (find 7 513 four 20 small 6) four small ≡ 10 ∷ 11 ∷ [])
    × (bytes_of (find 5 9 four 20 small 6) four small ≡ [])
    × (bytes_of (find 9 9 (long 64) 68 [] 0) (long 64) [] ≡ replicate 64 1)
    × (bytes_of (find 8 9 four 20 small 6) four small ≡ [])
    × (map refusal_of (Ok (Board (span 0 1)) ∷ Ok (Default (span 0 1)) ∷ Err Missing ∷ []) ≡ 0 ∷ 0 ∷ 42 ∷ [])
unfolding shown
byte_rows = (refl, refl, refl, refl, refl, refl)

kept : List ℕ → ℕ → Stored
kept s n = record { store = s; answer = Ok n }

-- adding: into an empty store, behind an entry, at the same version; the bytes behind stay; exactly enough room
add_rows : (entry_bytes 513 7 (10 ∷ 11 ∷ []) ≡ small)
    × (add_of 7 513 (10 ∷ 11 ∷ []) (replicate 8 99) 0 ≡ kept (small ++ (99 ∷ 99 ∷ [])) 6)
    × (add_of 7 513 [] (small ++ replicate 5 99) 6 ≡ kept (small ++ (1 ∷ 2 ∷ 7 ∷ 0 ∷ 99 ∷ [])) 10)
    × (add_of 255 65535 (8 ∷ []) (small ++ replicate 5 99) 6 ≡ kept (small ++ (255 ∷ 255 ∷ 255 ∷ 1 ∷ 8 ∷ [])) 11)
    × (add_of 9 0 (replicate 64 1) (replicate 68 99) 0 ≡ kept (long 64) 68)
    × (add_of 3 600 [] (small ++ small) 6 ≡ kept (small ++ (88 ∷ 2 ∷ 3 ∷ 0 ∷ 10 ∷ 11 ∷ [])) 10)
unfolding shown kept
add_rows = (refl, refl, refl, refl, refl, refl)

-- the answers where all four refusals hold, the last three, and so on; 45 at one byte less than the entry needs, in an empty and in a full store
refused_rows : ((add_of 7 0 (replicate 65 1) small 5).answer ≡ Err Malformed)
    × ((add_of 7 0 (replicate 65 1) small 7).answer ≡ Err Malformed)
    × ((add_of 7 0 (replicate 65 1) small 6).answer ≡ Err ValueLength)
    × ((add_of 7 600 (replicate 65 1) (replicate 69 0) 0).answer ≡ Err ValueLength)
    × ((add_of 7 0 (replicate 64 1) small 6).answer ≡ Err VersionFalls)
    × ((add_of 7 512 [] (small ++ replicate 4 99) 6).answer ≡ Err VersionFalls)
    × ((add_of 7 513 [] small 6).answer ≡ Err Full)
    × ((add_of 7 513 [] (small ++ replicate 3 99) 6).answer ≡ Err Full)
    × ((add_of 7 0 [] (replicate 3 99) 0).answer ≡ Err Full)
    × ((add_of 7 0 (replicate 64 1) (replicate 67 99) 0).answer ≡ Err Full)
    × (add_of 7 513 (1 ∷ 2 ∷ []) (small ++ replicate 5 99) 6 ≡ record { store = small ++ replicate 5 99; answer = Err Full })
    × ((add_of 7 512 [] (small ++ replicate 4 99) 6).store ≡ small ++ replicate 4 99)
unfolding shown
refused_rows = (refl, refl, refl, refl, refl, refl, refl, refl, refl, refl, refl, refl)

-- an entry by its number: each, the end, none in an empty store, in one cut anywhere, and where more bytes are used
-- than there are
told : ℕ → Option Entry → EntryTold
told r e = record { refusal = r; found = e }

nth_rows : (nth_of 0 (stored four 20) ≡ told 0 (Some (entry 1 5 4 5)))
    × (nth_of 1 (stored four 20) ≡ told 0 (Some (entry 3 5 9 11)))
    × (nth_of 3 (stored four 20) ≡ told 0 (Some (entry 3 5 20 20)))
    × (nth_of 4 (stored four 20) ≡ told 0 None)
    × (nth_of 9 (stored four 20) ≡ told 0 None)
    × (nth_of 0 (stored [] 0) ≡ told 0 None)
    × (nth_of 0 (stored four 10) ≡ told 41 None)
    × (nth_of 0 (stored four 21) ≡ told 41 None)
    × (nth_of 9 (stored small 5) ≡ told 41 None)
    × (map (λ (a : Result (Option Entry) SettingsRefusal). (entry_told a).refusal) (Ok (Some (entry 1 5 4 5)) ∷ Ok None ∷ Err Malformed ∷ []) ≡ 0 ∷ 0 ∷ 41 ∷ [])
unfolding shown told
nth_rows = (refl, refl, refl, refl, refl, refl, refl, refl, refl, refl)

-- an answer's numbers: the store, the span, and each refusal
located_rows : (located (Ok (Board (span 4 9))) ≡ record { refusal = 0; store = 1; start = 4; end = 9 })
    × (located (Ok (Default (span 8 8))) ≡ record { refusal = 0; store = 2; start = 8; end = 8 })
    × (map (λ (r : SettingsRefusal). (located (Err r)).refusal)
    (Malformed ∷ Missing ∷ ValueLength ∷ VersionFalls ∷ Full ∷ [])
    ≡ 41 ∷ 42 ∷ 43 ∷ 44 ∷ 45 ∷ [])
    × (located (Err Missing) ≡ record { refusal = 42; store = 0; start = 0; end = 0 })
    × (added_to small (Ok 6) ≡ record { store = small; refusal = 0; used = 6 })
    × (added_to small (Err Full) ≡ record { store = small; refusal = 45; used = 0 })
unfolding shown
located_rows = (refl, refl, refl, refl, refl, refl)

-- the number of the entry, where it has this name
named : ℕ → ℕ → Entry → Option ℕ
named n k e = cond (eqb e.name n) (Some k) None

-- a walk: each entry once, from the first on, from what stands at the beginning; what is given last, and the number that
-- an entry has; nothing of a malformed store
walk_rows : (walked (λ ps e. e.start ∷ ps) [] (stored four 20) ≡ Ok (20 ∷ 15 ∷ 9 ∷ 4 ∷ []))
    × (walked (λ ps e. e.start ∷ ps) (8 ∷ []) (stored [] 0) ≡ Ok (8 ∷ []))
    × (walked (λ ps e. e.start ∷ ps) [] (stored four 19) ≡ Err Malformed)
    × (map (λ (n : ℕ). given_in (named n) (stored four 20)) (5 ∷ 6 ∷ 7 ∷ []) ≡ Ok (Some 3) ∷ Ok (Some 2) ∷ Ok None ∷ [])
    × (given_in (named 5) (stored four 11) ≡ Ok (Some 1))
    × (given_in (named 5) (stored [] 0) ≡ Ok None)
    × (given_in (named 5) (stored four 19) ≡ Err Malformed)
    × (given_in (picked 2) (stored four 20) ≡ Ok (Some (entry 3 6 15 16)))
    × (walked (turn (named 6)) (0, None) (stored four 20) ≡ Ok (4, Some 2))
    × (walked (turn (named 7)) (3, Some 1) (stored four 11) ≡ Ok (5, Some 1))
    × (told_at_end {T = ℕ} (Ok (4, Some 2)) ≡ Ok (Some 2))
    × (told_at_end {T = ℕ} (Err Malformed) ≡ Err Malformed)
unfolding shown named
walk_rows = (refl, refl, refl, refl, refl, refl, refl, refl, refl, refl, refl, refl)
