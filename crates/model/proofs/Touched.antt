-- Which bytes of a heap the calls change; every other byte keeps its value (rule 8.1).
use Prim.Native.Nat.{ℕ, ◌+◌, ◌-◌, min}
use mathlib.Core.List.{List, [], ◌∷◌}
use mathlib.Core.Bool.{Bool, false, cond, ◌&&◌, ◌||◌}
use lib.Dec.{leb, ltb}
use Rattle.accounts.specs.declared.Hold.{Hold}
use Rattle.layout.specs.Blocks.{Block, size, occupied, quarantined}
use Rattle.model.specs.Space.{vacates}

-- i is a place from start up to end
unfoldable pub within : ℕ → ℕ → ℕ → Bool
within start end i = leb start i && ltb i end

-- carving an object of n bytes at a base out of the free block from `at` up to `end` changes only the size of what is left in front; the object
-- with its header, and the header that begins behind it; and the back size of the block behind
unfoldable pub carve_touches : ℕ → ℕ → ℕ → ℕ → ℕ → Bool
carve_touches at end base n i =
    within at (at + 2) i || (within (base - 8) (min (base + n + 8) end) i || within (end + 2) (end + 4) i)

unfoldable pub starts_changed : (Block → Bool) → List Block → Bool
starts_changed p [] = false
starts_changed p (b ∷ bs) = p b

-- where occupied blocks that pass a test become free and join, a byte changes only of such a block, of the header of a free block beside one, and of
-- the back size of the block behind them; `run`: the free run that ends in front of these blocks contains a changed block
unfoldable pub reclaim_touches : (Block → Bool) → Bool → List Block → ℕ → Bool
reclaim_touches p run [] i = false
reclaim_touches p run (b ∷ bs) i =
    let later = reclaim_touches p (cond (occupied b) (p b) run) bs (i - size b) in
    cond (ltb i (size b))
    (p b || (ltb i 8 && cond (occupied b) (run && within 2 4 i) (run || starts_changed p bs)))
    later

-- so with settling a plain heap, and with a sweep
abbrev pub settle_touches : List Hold → List Block → ℕ → Bool
settle_touches hs bs i = reclaim_touches (vacates hs) false bs i

abbrev pub sweep_touches : List Block → ℕ → Bool
sweep_touches bs i = reclaim_touches quarantined false bs i

-- where blocks that pass a test become others as long, and none joins, a byte changes only of such a block
unfoldable pub change_touches : (Block → Bool) → List Block → ℕ → Bool
change_touches p [] i = false
change_touches p (b ∷ bs) i = cond (ltb i (size b)) (p b) (change_touches p bs (i - size b))
