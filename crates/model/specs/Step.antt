-- One step of a history: a call on a heap and its accounts; and with its answer in place of the values.
use Rattle.std.specs.Prelude.{ℕ, List}
use Rattle.accounts.specs.declared.Accounts.{Accounts}
use Rattle.rounding.specs.Rounding.{table}
use Rattle.model.specs.Answers.{answer_of}
use Rattle.model.specs.Calls.{Outcome, allocate, allocate_array, claim, release, free_all, reallocate, lend, remaining_of, can_release, list_block}
use Rattle.model.specs.Calls.{clear, sweep}
use Rattle.model.specs.declared.Answer.{Answer}
use Rattle.model.specs.declared.Call.{Call}
use Rattle.model.specs.declared.Call.TheVariants.{Allocate, AllocateArray, Claim, Release, FreeAll, Reallocate, Lend, Remaining, CanRelease, ListBlock}
use Rattle.model.specs.declared.Call.TheVariants.{ClearPermissions, Sweep}

-- what a call leaves, and its answer
pub record Answered : Type 0 where
  pub heap : List ℕ
  pub accounts : Accounts
  pub answer : Answer

module _ (unit : ℕ → ℕ) where
  unfoldable pub step : Call → List ℕ → Accounts → Outcome
  step (Allocate q n) s k = allocate unit s k q n
  step (AllocateArray q count size) s k = allocate_array unit s k q count size
  step (Claim q h) s k = claim unit s k q h
  step (Release q h) s k = release unit s k q h
  step (FreeAll q) s k = free_all unit s k q
  step Sweep s k = sweep unit s k
  step (Reallocate q h n) s k = reallocate unit s k q h n
  step (Lend h) s k = lend unit s k h
  step (Remaining q) s k = remaining_of unit s k q
  step (CanRelease q h) s k = can_release unit s k q h
  step (ListBlock at) s k = list_block unit s k at
  step (ClearPermissions q n) s k = clear unit s k q n

  unfoldable pub performed : Call → List ℕ → Accounts → Answered
  performed c s k =
      let t = step c s k in
      record { heap = t.heap; accounts = t.accounts; answer = answer_of c t.values }

-- rule 23.4: a call goes by the table of the heap's own edition
abbrev pub own_step : Call → List ℕ → Accounts → Outcome
own_step c s k = step (table k.edition) c s k
