-- The run M (rule 12.1), M1 to M12, of the definitions: one table, one theorem, by computation.
use mathlib.Core.Path.{◌≡◌, refl}
use mathlib.Core.List.{[], ◌∷◌, map}
use lib.ListN.{replicate, take, drop}
use Rattle.model.specs.Marked.{quota_of, call_of, answers, stated, after_open, after_M1, marked}
use Rattle.model.proofs.Computing.{computing}

-- the heap after opening, the twelve answers and remainders, and the two headers after M1
pub marked_run : (after_open.heap ≡ 0x10 ∷ 0x00 ∷ replicate 126 0)
    × (answers after_open.heap after_open.accounts marked ≡ map stated marked)
    × (take 8 after_M1.heap ≡ 0x03 ∷ 0x00 ∷ 0x00 ∷ 0x00 ∷ 0x01 ∷ 0x00 ∷ 0x00 ∷ 0x00 ∷ [])
    × (take 8 (drop 24 after_M1.heap) ≡ 0x0D ∷ 0x00 ∷ 0x03 ∷ 0x00 ∷ 0x00 ∷ 0x00 ∷ 0x00 ∷ 0x00 ∷ [])
unfolding computing answers stated quota_of call_of after_open after_M1 marked
marked_run = (refl, refl, refl, refl)
