-- `words::drop_holds` meets its contract. The loop's invariant: the quota's records before place `i` are dropped, and padding is as it was.
use Rattle.words.specs.Words.{accounts_of, Padded}
use Rattle.words.proofs.Dropping.{Dropping}
use Rattle.words.proofs.emptying.drop_holds.Given as goal

abbrev pub invariant-loop-at : goal.invariant-loop-at
invariant-loop-at l = Dropping l.quota l.at (accounts_of l.initial.words) (accounts_of l.words) × Padded l.initial.words l.words
