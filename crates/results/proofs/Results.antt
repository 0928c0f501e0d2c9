-- What a result and the heap at the call's exit make together gives both back, so no two results make the same outcome.
use Prim.Native.Nat.{ℕ}
use mathlib.Core.Path.{◌≡◌, ap}
use mathlib.Core.List.{List}
use Rattle.model.specs.Calls.{Outcome}
use Rattle.model.proofs.Answers.{verdict_values_injective, amount_values_injective, handle_values_injective}
use Rattle.results.specs.declared.Opened.{Opened}
use Rattle.results.specs.Results.{AmountResult}
use Rattle.results.specs.Results.{HandleResult}
use Rattle.results.specs.Results.{opened_outcome, amount_outcome, handle_outcome}

pub opened_outcome_injective : (s t : List ℕ) (a b : Opened) → opened_outcome s a ≡ opened_outcome t b → (s ≡ t) × (a ≡ b)
opened_outcome_injective s t a b e =
    let v : a.verdict ≡ b.verdict = verdict_values_injective a.verdict b.verdict (ap (λ (o : Outcome). o.values) e) in
    (λ i. (e i).heap, λ i. record { accounts = (e i).accounts; verdict = v i })

pub amount_outcome_injective : (s t : List ℕ) (a b : AmountResult) → amount_outcome s a ≡ amount_outcome t b → (s ≡ t) × (a ≡ b)
amount_outcome_injective s t a b e =
    let v : a.answer ≡ b.answer = amount_values_injective a.answer b.answer (ap (λ (o : Outcome). o.values) e) in
    (λ i. (e i).heap, λ i. record { accounts = (e i).accounts; answer = v i })

pub handle_outcome_injective : (s t : List ℕ) (a b : HandleResult) → handle_outcome s a ≡ handle_outcome t b → (s ≡ t) × (a ≡ b)
handle_outcome_injective s t a b e =
    let v : a.answer ≡ b.answer = handle_values_injective a.answer b.answer (ap (λ (o : Outcome). o.values) e) in
    (λ i. (e i).heap, λ i. record { accounts = (e i).accounts; answer = v i })
