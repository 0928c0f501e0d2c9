-- The invariant: the quotas before place `i` have every permission. So one that lacks a permission fails the test, and at the end it holds of all.
use Prim.Native.Nat.{ℕ, ◌<◌}
use mathlib.Core.Path.{◌≡◌}
use mathlib.Core.Bool.{true}
use lib.Dec.{eqb}
use lib.ListN.{get_or}
use Rattle.accounts.specs.Accounts.{ALL_PERMISSIONS, zero_quota}
use Rattle.words.specs.Words.{quotas_of}
use Rattle.image.proofs.entries.are_permitted.Given as goal

abbrev pub invariant-loop-i : goal.invariant-loop-i
invariant-loop-i l = (j : ℕ) → j < l.i → eqb (get_or (quotas_of l.words) j zero_quota).permissions ALL_PERMISSIONS ≡ true
