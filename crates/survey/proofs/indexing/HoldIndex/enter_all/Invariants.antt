-- `survey::indexing::HoldIndex::enter_all` meets its contract. The loop's invariant is `Passed`: the records before
-- place i are well-formed and in the index. The measure is what is left up to `top`.
use Rattle.survey.proofs.Passes.{Passed}
use Rattle.survey.proofs.indexing.HoldIndex.enter_all.Given as goal

abbrev pub invariant-loop-i : goal.invariant-loop-i
invariant-loop-i l = Passed l.words l.self.heads l.self.links l.top l.i l.low l.blank
