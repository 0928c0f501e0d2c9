-- `survey::sharing::held_in` meets its contract. The loop's invariant: the records before place `i` were counted.
use Rattle.accounts.specs.Accounts.{zero_hold}
use Rattle.words.specs.Words.{holds_of}
use Rattle.survey.specs.Shares.{is_own, is_shared}
use Rattle.survey.proofs.Counting.{Counted}
use Rattle.survey.proofs.sharing.held_in.Given as goal

abbrev pub invariant-loop-i : goal.invariant-loop-i
invariant-loop-i l =
    Counted (is_own l.quota) (holds_of l.words) zero_hold l.i l.objects × Counted (is_shared (holds_of l.words) l.quota) (holds_of l.words) zero_hold l.i
    l.shared
