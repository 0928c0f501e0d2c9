-- `words::put_quotas` meets its contract. The loop's invariant: the quotas before place `i` are written.
use Prim.Native.Nat.{ℕ, ◌<◌}
use mathlib.Core.Path.{◌≡◌}
use lib.ListN.{length, get_or}
use Rattle.accounts.specs.Accounts.{zero_quota}
use Rattle.words.specs.Words.{WORDS}
use Rattle.words.specs.Filling.{HasEntry}
use Rattle.words.proofs.filling.put_quotas.Given as goal

abbrev pub invariant-loop-i : goal.invariant-loop-i
invariant-loop-i l = (length l.words ≡ WORDS) × ((q : ℕ) → q < l.i → HasEntry l.words q (get_or l.quota-items q zero_quota))
