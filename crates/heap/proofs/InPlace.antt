-- What a call in place leaves and answers is what it performs: the values of an answer give it back.
use Prim.Native.Nat.{ℕ}
use mathlib.Core.Path.{◌≡◌, ap, sym, ◌∙◌}
use mathlib.Core.List.{List}
use Rattle.accounts.specs.declared.Accounts.{Accounts}
use Rattle.rounding.specs.Rounding.{table}
use Rattle.words.specs.Words.{edition_of, accounts_of}
use Rattle.model.specs.Answers.{Values, answer_of}
use Rattle.model.specs.Calls.{Outcome}
use Rattle.model.specs.Step.{Answered, step, performed}
use Rattle.model.specs.declared.Answer.{Answer}
use Rattle.model.specs.declared.Call.{Call}
use Rattle.results.specs.Results.{outcome}

abbrev answered : List ℕ → Accounts → Answer → Answered
answered s k a = record { heap = s; accounts = k; answer = a }

-- the call x with the values v, of which the answer a is made
pub made : (words s : List ℕ) {c x : Call} {t : List ℕ} {l : Accounts} {v : Values} {a : Answer}
    → c ≡ x → answer_of x v ≡ a
    → outcome t l v ≡ step (table (edition_of words)) x s (accounts_of words)
    → record { heap = t; accounts = l; answer = a } ≡ performed (table (edition_of words)) c s (accounts_of words)
unfolding performed
made words s {c} {x} {t} {l} e d g =
    ap (answered t l) (sym d) ∙ ap (λ (o : Outcome). answered o.heap o.accounts (answer_of x o.values)) g
    ∙ sym (ap (λ (y : Call). performed (table (edition_of words)) y s (accounts_of words)) e)
