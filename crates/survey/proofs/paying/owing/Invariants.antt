-- `survey::paying::owing` meets its contract. The loop's invariant is `Tallied`: what was met tells whether the quotas
-- before place i are valid, and what each of them owes stands at its place. The measure is what is left of the table.
use Rattle.std.proofs.Common.{◌%◌}
use Rattle.words.specs.Words.{quotas_of}
use Rattle.survey.proofs.Debts.{Tallied}
use Rattle.survey.proofs.paying.owing.Given as goal

abbrev pub invariant-loop-i : goal.invariant-loop-i
invariant-loop-i l = Tallied (quotas_of l.words) l.i l.short (l.bits % 256) l.owed
