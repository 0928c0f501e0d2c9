-- What calls answer and leave, of the definitions: each table is one theorem, by computation.
use mathlib.Core.Path.{◌≡◌, refl}
use mathlib.Core.List.{map}
use Rattle.rounding.specs.Rounding.{unit}
use Rattle.model.specs.Tables.{run, values_of, got, wanted, parts, accounts_of, written}
use Rattle.model.specs.Cases.{opened_heap, block, with_gaps, used_heap, next_serial_last, shared, held_times, several, sixteen, copying, neighbours}
use Rattle.model.specs.Cases.{narrowed, lengths, allocations, wide, claims, releases, reallocations, walks, clearings}
use Rattle.model.proofs.Computing.{computing}

pub lengths_run : map (got unit) lengths ≡ map wanted lengths
unfolding computing run values_of got wanted parts accounts_of opened_heap block lengths
lengths_run = refl

pub allocations_run : map (got unit) allocations ≡ map wanted allocations
unfolding computing run values_of got wanted parts accounts_of opened_heap with_gaps used_heap next_serial_last allocations
allocations_run = refl

pub wide_run : map (got (λ n. 32)) wide ≡ map wanted wide
unfolding computing run values_of got wanted parts accounts_of used_heap wide
wide_run = refl

pub claims_run : map (got unit) claims ≡ map wanted claims
unfolding computing run values_of got wanted parts accounts_of opened_heap with_gaps held_times claims
claims_run = refl

pub releases_run : map (got unit) releases ≡ map wanted releases
unfolding computing run values_of got wanted parts accounts_of written opened_heap block shared held_times several releases
releases_run = refl

pub reallocations_run : map (got unit) reallocations ≡ map wanted reallocations
unfolding computing run values_of got wanted parts accounts_of written opened_heap sixteen copying reallocations
reallocations_run = refl

pub narrowed_run : map (got unit) narrowed ≡ map wanted narrowed
unfolding computing run values_of got wanted parts accounts_of written opened_heap sixteen neighbours narrowed
narrowed_run = refl

pub walks_run : map (got unit) walks ≡ map wanted walks
unfolding computing run values_of got wanted parts accounts_of opened_heap block with_gaps walks
walks_run = refl

pub clearings_run : map (got unit) clearings ≡ map wanted clearings
unfolding computing run values_of got wanted parts accounts_of opened_heap clearings
clearings_run = refl
