-- What a walk over the entries of a store makes of them, one after the other, and what it gives: one thing, of the last
-- entry of which it gives something.
use Rattle.std.specs.Prelude.{ℕ, suc, ◌≡◌, List, [], ◌∷◌, fold, cond, eqb, Result, Ok, Err, Some, None, Option}
use Rattle.std.specs.Option.{option_or}
use Rattle.std.specs.Result.{result_map_both}
use Rattle.settings.specs.declared.Entry.{Entry}
use Rattle.settings.specs.declared.SettingsRefusal.{SettingsRefusal}
use Rattle.settings.specs.declared.SettingsRefusal.TheVariants.{Malformed}
use Rattle.settings.specs.Find.{answers}

-- each call that may be, says this of what it gets and gives, is one of the function h
abbrev pub Acts : {S T : Type 0} → (S → Entry → T → Type 0) → (S → Entry → T) → Type 0
Acts {S} {T} gives h = (a : S) (e : Entry) (b : T) → gives a e b → b ≡ h a e

-- what h makes of the entries, from the first on; none where the store is malformed
abbrev pub walked : {T : Type 0} → (T → Entry → T) → T → Option (List Entry) → Result T SettingsRefusal
walked h begin None = Err Malformed
walked h begin (Some es) = Ok (fold h begin es)

-- what g gives of the last of these entries of which it gives something, where the first has the number n
abbrev pub last_given : {T : Type 0} → (ℕ → Entry → Option T) → ℕ → List Entry → Option T
last_given g n [] = None
last_given g n (e ∷ es) = option_or (last_given g (suc n) es) (g n e)

-- the same of a store's entries, from number 0 on; none where the store is malformed
abbrev pub given_in : {T : Type 0} → (ℕ → Entry → Option T) → Option (List Entry) → Result (Option T) SettingsRefusal
given_in g None = Err Malformed
given_in g (Some es) = Ok (last_given g 0 es)

-- one entry's turn: the number of the next entry, and what g gives of this one, else what was told before
abbrev pub turn : {T : Type 0} → (ℕ → Entry → Option T) → ℕ × Option T → Entry → ℕ × Option T
turn g s e = (suc s.0, option_or (g s.0 e) s.1)

-- what such turns have told at the end
abbrev pub told_at_end : {T : Type 0} → Result (ℕ × Option T) SettingsRefusal → Result (Option T) SettingsRefusal
told_at_end r = result_map_both (λ s. s.1) (λ e. e) r

-- the entry, where it has the number that is asked for
abbrev pub picked : ℕ → ℕ → Entry → Option Entry
picked n k e = cond (eqb k n) (Some e) None

-- the entry, where it answers
abbrev pub answered : ℕ → ℕ → Entry → Option Entry
answered name version e = cond (answers name version e) (Some e) None
