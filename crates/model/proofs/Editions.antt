-- Heaps of either edition, of the definitions: each list is one theorem, by computation.
use mathlib.Core.Path.{◌≡◌, refl}
use mathlib.Core.List.{[], ◌∷◌, map}
use Rattle.model.specs.Units.{placed, gap, heap_with, accounts_with}
use Rattle.model.specs.Editions.{own_values, got_values, wanted_values, short_requests, long_requests, longest_requests, other_requests}
use Rattle.model.specs.Editions.{refusal_in, fitting_both, fitting_first}
use Rattle.model.proofs.Computing.{computing}

pub short_requests_run : map got_values short_requests ≡ map wanted_values short_requests
unfolding computing own_values got_values wanted_values short_requests
short_requests_run = refl

pub long_requests_run : map got_values long_requests ≡ map wanted_values long_requests
unfolding computing own_values got_values wanted_values long_requests
long_requests_run = refl

pub longest_requests_run : map got_values longest_requests ≡ map wanted_values longest_requests
unfolding computing own_values got_values wanted_values longest_requests
longest_requests_run = refl

pub other_requests_run : map got_values other_requests ≡ map wanted_values other_requests
unfolding computing own_values got_values wanted_values other_requests
other_requests_run = refl

pub fitting_both_run : (map (refusal_in 0) fitting_both ≡ 0 ∷ 0 ∷ 0 ∷ 0 ∷ 0 ∷ 0 ∷ 0 ∷ []) × (map (refusal_in 1) fitting_both ≡ 0 ∷ 0 ∷ 0 ∷ 0 ∷ 0 ∷ 0 ∷ 0 ∷ [])
unfolding computing gap heap_with accounts_with refusal_in fitting_both
fitting_both_run = (refl, refl)

pub fitting_first_run : (map (refusal_in 0) fitting_first ≡ 0 ∷ 0 ∷ 0 ∷ 0 ∷ 0 ∷ 0 ∷ 0 ∷ 0 ∷ 0 ∷ 0 ∷ 0 ∷ [])
    × (map (refusal_in 1) fitting_first ≡ 2 ∷ 2 ∷ 2 ∷ 2 ∷ 2 ∷ 2 ∷ 2 ∷ 2 ∷ 2 ∷ 2 ∷ 2 ∷ [])
unfolding computing gap heap_with accounts_with refusal_in fitting_first
fitting_first_run = (refl, refl)

-- there are two editions
pub numbers_run : map (λ e. refusal_in e (placed 8 56 0)) (0 ∷ 1 ∷ 2 ∷ 255 ∷ []) ≡ 0 ∷ 0 ∷ 2 ∷ 2 ∷ []
unfolding computing gap heap_with accounts_with refusal_in
numbers_run = refl
