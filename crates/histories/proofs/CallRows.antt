-- Computed rows: lists of calls that the functions make. A plain heap with an allocation and two releases; and a heap
-- of edition 2, whose table gives an object of 4,096 bytes the base 16.
use Rattle.std.specs.Prelude.{Ok, Err}
use Prim.Native.Nat.{ℕ, ◌-◌}
use mathlib.Core.Path.{refl}
use mathlib.Core.List.{List, [], ◌∷◌}
use lib.ListN.{replicate}
use Rattle.accounts.specs.declared.Accounts.{Accounts}
use Rattle.accounts.specs.declared.settings.Settings.{Settings}
use Rattle.accounts.specs.Accounts.{QUOTAS, plain}
use Rattle.model.specs.Answers.{refused, given, amount_of, answer_of}
use Rattle.model.specs.Answers.{verdict_values, answer_values, handle_values, amount_values}
use Rattle.model.specs.Calls.{Outcome, open_heap}
use Rattle.model.specs.Editions.{second}
use Rattle.model.specs.Marked.{handle}
use Rattle.model.specs.Step.{own_step, performed}
use Rattle.model.specs.declared.Answer.TheVariants.{Handle as OfHandle, Amount as OfAmount}
use Rattle.model.specs.declared.Call.TheVariants.{Allocate, Release}
use Rattle.model.specs.declared.Refusal.TheVariants.{NoSuchObject}
use Rattle.model.proofs.Computing.{computing}
use Rattle.ledger.specs.Ledger.{Event, Called}
use Rattle.histories.specs.Performs.{Performs, Opens, Calls}

grants : List ℕ
grants = 5000 ∷ replicate (QUOTAS - 1) 0

fresh : Settings → ℕ → Outcome
fresh g n = open_heap g (replicate n 255) grants

-- what a call leaves behind a state
after : Outcome → Outcome
after t = own_step (Release 0 (handle 8 8 1)) t.heap t.accounts

-- an object of 8 bytes is made, released, and can't be released again
made : Outcome
made = own_step (Allocate 0 8) (fresh plain 64).heap (fresh plain 64).accounts

abbrev ListOf : Settings → List Event → List ℕ → Accounts → Type 0
ListOf g es s k = Performs (λ (x : Accounts). x) g grants es s k

plain_row : ListOf plain
    (Called (Release 0 (handle 8 8 1)) (refused 5) ∷ Called (Release 0 (handle 8 8 1)) (amount_of 16)
    ∷ Called (Allocate 0 8) (given (handle 8 8 1)) ∷ [])
    (fresh plain 64).heap (after made).accounts
unfolding computing performed answer_of verdict_values answer_values handle_values amount_values grants fresh after made
plain_row =
    let opened : ListOf plain [] (fresh plain 64).heap (fresh plain 64).accounts =
    Opens (replicate 64 255) _ _ refl in
    Calls (Calls (Calls opened (Allocate 0 8) (OfHandle (Ok (handle 8 8 1))) made.heap made.accounts refl)
    (Release 0 (handle 8 8 1)) (OfAmount (Ok 16)) (fresh plain 64).heap (after made).accounts refl)
    (Release 0 (handle 8 8 1)) (OfAmount (Err NoSuchObject)) (fresh plain 64).heap (after made).accounts refl

-- by the table of the heap's own edition
long : Outcome
long = own_step (Allocate 0 4089) (fresh second 4112).heap (fresh second 4112).accounts

second_row : ListOf second (Called (Allocate 0 4089) (given (handle 16 4096 1)) ∷ []) long.heap long.accounts
unfolding computing performed answer_of verdict_values answer_values handle_values amount_values grants fresh long
second_row =
    let opened : ListOf second [] (fresh second 4112).heap (fresh second 4112).accounts =
    Opens (replicate 4112 255) _ _ refl in
    Calls opened (Allocate 0 4089) (OfHandle (Ok (handle 16 4096 1))) long.heap long.accounts refl
