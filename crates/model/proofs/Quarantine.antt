-- Heaps with quarantine, of the definition: each table is one theorem, by computation.
use mathlib.Core.Path.{◌≡◌, refl}
use mathlib.Core.List.{map}
use Rattle.rounding.specs.Rounding.{unit}
use Rattle.model.specs.Tables.{run, values_of, got, wanted, parts, accounts_of}
use Rattle.model.specs.Inconsistent.{given_refusal, stated_refusal}
use Rattle.model.specs.Quarantine.{waiting_heap, of_kind, waiting, sweeps, judgements}
use Rattle.model.proofs.Computing.{computing}

pub waiting_run : map (got unit) waiting ≡ map wanted waiting
unfolding computing run values_of got wanted parts accounts_of waiting_heap waiting
waiting_run = refl

pub sweeps_run : map (got unit) sweeps ≡ map wanted sweeps
unfolding computing run values_of got wanted parts accounts_of of_kind sweeps
sweeps_run = refl

pub judgements_run : map given_refusal judgements ≡ map stated_refusal judgements
unfolding computing parts accounts_of given_refusal stated_refusal of_kind judgements
judgements_run = refl
