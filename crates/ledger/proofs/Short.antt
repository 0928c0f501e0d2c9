-- Short lists of calls on a heap of 64 bytes, made by any run: the state that they lead to, their events, and that
-- these are a history. What demand 3 says of them can be computed.
use Prim.Native.Nat.{ℕ, zero, suc, ◌-◌, ◌<◌, ◌^◌}
use native.Mathlib.Omega.{arith}
use mathlib.Core.Path.{◌≡◌, refl}
use mathlib.Core.List.{List, [], ◌∷◌}
use mathlib.Core.Bool.{true}
use lib.ListN.{replicate, get_or}
use lib.Dec.{ltb}
use borrow.Author.Tests.{ltb-true}
use Rattle.accounts.specs.declared.settings.Settings.{Settings}
use Rattle.accounts.specs.declared.settings.Kind.TheVariants.{Plain, Quarantine}
use Rattle.accounts.specs.declared.settings.Edition.TheVariants.{First, Second}
use Rattle.accounts.specs.Accounts.{QUOTAS}
use Rattle.rounding.specs.Rounding.{table}
use Rattle.lists.specs.Lists.{all}
use Rattle.model.specs.Calls.{Outcome, open_heap}
use Rattle.model.specs.declared.Handle.{Handle}
use Rattle.model.specs.declared.Call.{Call}
use Rattle.lists.proofs.Bools.{and_left, and_right}
use Rattle.model.proofs.Computing.{computing}
use Rattle.ledger.specs.Ledger.{Span, Event, Called, empty, ledger_of}
use Rattle.ledger.specs.History.{Run, Begins, Opening, History}
use Rattle.ledger.specs.Demand3.{AsRecorded, Demand3}

unfoldable pub grants : List ℕ
grants = 1000 ∷ replicate (QUOTAS - 1) 0

-- grants that are all below a bound
pub below : (gs : List ℕ) → all (λ g. ltb g (2 ^ 32)) gs ≡ true → (q : ℕ) → get_or gs q 0 < 2 ^ 32
unfolding all
below [] e q = omega arith
below (g ∷ gs) e zero = ltb-true g (2 ^ 32) (and_left (ltb g (2 ^ 32)) (all (λ g. ltb g (2 ^ 32)) gs) e)
below (g ∷ gs) e (suc q) = below gs (and_right (ltb g (2 ^ 32)) (all (λ g. ltb g (2 ^ 32)) gs) e) q

-- heaps opened with some settings
module _ (g : Settings) where
  unfoldable pub fresh : Outcome
  fresh = open_heap g (replicate 64 0) grants

  pub opening : Begins table (empty g grants) fresh.heap fresh.accounts
  unfolding computing grants fresh
  opening =
      Opening g grants refl
      (record { before = replicate 64 0; quotas = refl; narrow = below grants refl; opens = refl })

  -- an opening and these calls, the newest first
  unfoldable pub after : Run → List Call → Outcome
  after run [] = fresh
  after run (c ∷ cs) = run c (after run cs).heap (after run cs).accounts

  unfoldable pub events : Run → List Call → List Event
  events run [] = []
  events run (c ∷ cs) = Called c (run c (after run cs).heap (after run cs).accounts).values ∷ events run cs

  pub history : (run : Run) (cs : List Call)
      → History table run (empty g grants) (events run cs) (after run cs).heap (after run cs).accounts
  unfolding after events
  history run [] = opening
  history run (c ∷ cs) = ((after run cs).heap, (after run cs).accounts, history run cs, refl)

  -- what demand 3 says of such a list
  pub said : (run : Run) → Demand3 table run → (cs : List Call)
      → AsRecorded (table (after run cs).accounts.edition) run (ledger_of (empty g grants) (events run cs)) (after run cs).heap (after run cs).accounts
  said run d cs =
      (d.always (empty g grants) (events run cs) [] (after run cs).heap (after run cs).accounts (history run cs)
      ).agrees

-- the first two objects of 8 bytes
abbrev pub first : Handle
first = record { base = 8; length = 8; serial = 1 }

abbrev pub second : Handle
second = record { base = 24; length = 8; serial = 2 }

-- heaps of the second kind, and the block of the first object
abbrev pub waiting : Settings
waiting = record { kind = Quarantine; edition = First }

abbrev pub block : Span
block = record { from = 0; to = 16 }

-- heaps of edition 2
abbrev pub coarse : Settings
coarse = record { kind = Plain; edition = Second }

-- such lists, unfolded in one word
unfoldable pub listing : Unit {0}
unfolding grants fresh after events
listing = tt
