-- Which objects fit their units, of the definition: each list is one theorem, by computation.
use mathlib.Core.Path.{◌≡◌, refl}
use mathlib.Core.List.{[], ◌∷◌, map}
use Rattle.rounding.specs.Rounding.{unit}
use Rattle.model.specs.Units.{gap, heap_with, accounts_with, refusal_with, fitting, unfitting, wide_fitting, wide_unfitting, base_in}
use Rattle.model.proofs.Computing.{computing}

pub fitting_run : map (refusal_with unit) fitting ≡ 0 ∷ 0 ∷ 0 ∷ 0 ∷ 0 ∷ 0 ∷ 0 ∷ 0 ∷ []
unfolding computing gap heap_with accounts_with refusal_with fitting
fitting_run = refl

pub unfitting_run : map (refusal_with unit) unfitting ≡ 2 ∷ 2 ∷ 2 ∷ 2 ∷ 2 ∷ 2 ∷ 2 ∷ 2 ∷ 2 ∷ 2 ∷ 2 ∷ 2 ∷ []
unfolding computing gap heap_with accounts_with refusal_with unfitting
unfitting_run = refl

pub wide_fitting_run : map (refusal_with (λ n. 32)) wide_fitting ≡ 0 ∷ 0 ∷ []
unfolding computing gap heap_with accounts_with refusal_with wide_fitting
wide_fitting_run = refl

pub wide_unfitting_run : map (refusal_with (λ n. 32)) wide_unfitting ≡ 2 ∷ 2 ∷ 2 ∷ 2 ∷ []
unfolding computing gap heap_with accounts_with refusal_with wide_unfitting
wide_unfitting_run = refl

-- both sides of each place at which a request's object length falls into the next row
pub bases_16 : map (base_in 8208) (8184 ∷ 8185 ∷ 8192 ∷ 8193 ∷ []) ≡ 8 ∷ 16 ∷ 16 ∷ 0 ∷ []
unfolding computing base_in
bases_16 = refl

pub bases_32 : map (base_in 16416) (16368 ∷ 16369 ∷ 16384 ∷ 16385 ∷ []) ≡ 16 ∷ 32 ∷ 32 ∷ 0 ∷ []
unfolding computing base_in
bases_32 = refl

pub bases_64 : map (base_in 32768) (32736 ∷ 32737 ∷ []) ≡ 32 ∷ 0 ∷ []
unfolding computing base_in
bases_64 = refl
