-- The invariant: what is found of the quotas from `i` on is found of all from the first one on (`Zeros`).
use mathlib.Core.Path.{◌≡◌}
use lib.ListN.{drop}
use Rattle.words.specs.Words.{quotas_of}
use Rattle.lists.specs.Lists.{all}
use Rattle.image_model.specs.Stream.{no_grant}
use Rattle.image.proofs.entries.no_grants.Given as goal

abbrev pub invariant-loop-i : goal.invariant-loop-i
invariant-loop-i l = all no_grant (drop l.i (quotas_of l.words)) ≡ all no_grant (drop l.from (quotas_of l.words))
