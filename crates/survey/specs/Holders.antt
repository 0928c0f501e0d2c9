-- Which live blocks a record holds.
use Rattle.std.specs.Prelude.{◌≡◌, ℕ, ◌+◌, Bool, true, false, cond, List, [], ◌∷◌, map, slice_set}
use Rattle.accounts.specs.declared.Hold.{Hold}
use Rattle.accounts.specs.Accounts.{HOLDS}
use Rattle.lists.specs.Lists.{all, keep}
use Rattle.model.specs.Consistent.{held}
use Rattle.audit.specs.Keys.{well_formed}
use Rattle.lookup.specs.declared.Met.{Met}
use Rattle.lookup.specs.Walk.{met, live_met}
use Rattle.words.specs.Words.{holds_of}
use Rattle.survey.specs.Index.{Built}

-- a used record has the serial; where a record is not well-formed every serial counts as held, so that nothing is freed
unfoldable pub counts_held : List Hold → ℕ → Bool
counts_held hs n = cond (all well_formed hs) (held hs n) true

-- for each live block that a walk meets, in order, whether it counts as held
unfoldable pub held_flags : List Hold → List ℕ → List Bool
held_flags hs s = map (λ (m : Met). counts_held hs m.serial) (keep live_met (met s))

-- flags are put into a table from place i on, as many as it has room for; the others stay
unfoldable pub put_flags : ℕ → List Bool → List Bool → List Bool
put_flags i [] table = table
put_flags i (x ∷ xs) table = put_flags (i + 1) xs (slice_set table i x)

-- the records are indexed, or one of them is not well-formed
abbrev pub Indexed : List ℕ → Bool → List ℕ → List ℕ → Type 0
Indexed words true heads links = Built words HOLDS heads links × (all well_formed (holds_of words) ≡ true)
Indexed words false heads links = all well_formed (holds_of words) ≡ false
