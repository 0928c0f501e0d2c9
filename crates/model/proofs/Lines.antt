-- In which order the lines are looked at, of the definitions: each table is one theorem, by computation.
use mathlib.Core.Path.{◌≡◌, refl}
use mathlib.Core.List.{[], ◌∷◌, map}
use Rattle.rounding.specs.Rounding.{unit}
use Rattle.model.specs.Refusals.{first_refusal}
use Rattle.model.specs.Tables.{run, values_of, got, wanted, parts, accounts_of}
use Rattle.model.specs.Cases.{block}
use Rattle.model.specs.Lines.{opening, every_call, one_block, each_refused, filled_from, holders, records_from, full_heap, full_accounts, four_accounts}
use Rattle.model.specs.Lines.{four_objects, barred_accounts, zero_state}
use Rattle.model.specs.Lines.{heap_lengths, openings, first_lines, full_lines, last_lines, permission_lines}
use Rattle.model.proofs.Computing.{computing_but_consistent, computing}

pub openings_run : map opening heap_lengths ≡ openings
unfolding computing parts accounts_of opening openings
openings_run = refl

pub first_lines_run : map (got unit) first_lines ≡ map wanted first_lines
unfolding computing run values_of got wanted parts accounts_of block every_call one_block each_refused first_lines
first_lines_run = refl

-- 8 before 9 before 10; a claim of a quota that has a record needs neither remainder nor record, and is refused by its count alone
pub full_lines_run : (map first_refusal (full_lines 254) ≡ 8 ∷ 9 ∷ 8 ∷ 9 ∷ 8 ∷ 9 ∷ 0 ∷ [])
    × (map first_refusal (full_lines 255) ≡ 8 ∷ 9 ∷ 8 ∷ 9 ∷ 8 ∷ 9 ∷ 7 ∷ [])
unfolding computing_but_consistent accounts_of filled_from holders records_from full_heap full_accounts full_lines
full_lines_run = (refl, refl)

pub last_lines_run : map (got unit) last_lines ≡ map wanted last_lines
unfolding computing run values_of got wanted accounts_of filled_from holders records_from four_accounts four_objects last_lines
last_lines_run = refl

pub permission_lines_run : map (got unit) permission_lines ≡ map wanted permission_lines
unfolding computing run values_of got wanted parts accounts_of block filled_from holders records_from barred_accounts zero_state permission_lines
permission_lines_run = refl
