-- What a call leaves and answers: a result and the heap at the call's exit make one outcome. No two results make the same one (proofs/Results.antt).
use Rattle.model.specs.declared.Refusal.{Refusal}
use Rattle.model.specs.declared.Handle.{Handle}
use Rattle.std.specs.Prelude.{ℕ, List, Result}
use Rattle.accounts.specs.declared.Accounts.{Accounts}
use Rattle.words.specs.Words.{accounts_of}
use Rattle.model.specs.Answers.{Values, verdict_values, amount_values, handle_values}
use Rattle.model.specs.Calls.{Outcome}
use Rattle.results.specs.declared.Opened.{Opened}
use Rattle.results.specs.declared.CallResult.{CallResult}

-- what a call gives that answers an amount, and one that answers a handle
abbrev pub AmountResult : Type 0
AmountResult = CallResult ℕ

abbrev pub HandleResult : Type 0
HandleResult = CallResult Handle

abbrev pub outcome : List ℕ → Accounts → Values → Outcome
outcome s k v = record { heap = s; accounts = k; values = v }

abbrev pub opened_outcome : List ℕ → Opened → Outcome
opened_outcome s r = outcome s r.accounts (verdict_values r.verdict)

abbrev pub amount_outcome : List ℕ → AmountResult → Outcome
amount_outcome s r = outcome s r.accounts (amount_values r.answer)

abbrev pub handle_outcome : List ℕ → HandleResult → Outcome
handle_outcome s r = outcome s r.accounts (handle_values r.answer)

-- a call over words: the accounts that the words hold at its exit, and its answer, as one result
abbrev pub opened_result : List ℕ → Result (Unit {0}) Refusal → Opened
opened_result words verdict = record { accounts = accounts_of words; verdict = verdict }

abbrev pub call_result : {T : Type 0} → List ℕ → Result T Refusal → CallResult T
call_result words answer = record { accounts = accounts_of words; answer = answer }

abbrev pub amount_result : List ℕ → Result ℕ Refusal → AmountResult
amount_result words answer = call_result words answer

abbrev pub handle_result : List ℕ → Result Handle Refusal → HandleResult
handle_result words answer = call_result words answer
