-- `words::open` meets its contract. The loop's invariant: the quotas before place `i` have their grants, and no record is used.
use Rattle.words.specs.Words.{accounts_of, Unpadded}
use Rattle.words.proofs.Openings.{Granting}
use Rattle.words.proofs.opening.open.Given as goal

abbrev pub invariant-loop-i : goal.invariant-loop-i
invariant-loop-i l = Granting l.grant-items l.i (accounts_of l.words) × Unpadded l.words
