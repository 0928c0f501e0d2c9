-- What the proof of demand 3 keeps from call to call: a consistent state, and a ledger that matches it.
use Prim.Native.Nat.{ℕ, ◌<◌, ◌^◌}
use mathlib.Core.Path.{◌≡◌}
use mathlib.Core.List.{List, map, Memᴰ}
use mathlib.Core.Bool.{true}
use mathlib.Core.Logic.{◌↔◌}
use lib.ListN.{length, get_or}
use Rattle.accounts.specs.declared.Quota.{Quota}
use Rattle.accounts.specs.declared.Hold.{Hold}
use Rattle.accounts.specs.declared.Accounts.{Accounts}
use Rattle.accounts.specs.Accounts.{QUOTAS, zero_quota}
use Rattle.layout.specs.Bytes.{Octets}
use Rattle.model.specs.Objects.{objects, objects_of}
use Rattle.model.specs.Consistent.{allowed, accounted, serials_differ}
use Rattle.model.specs.Holds.{count_of}
use Rattle.model.specs.Calls.{State, state_of}
use Rattle.model.specs.declared.Handle.{Handle}
use Rattle.invariant.proofs.Good.{Good}
use Rattle.invariant.proofs.Kinded.{Kinded}
use Rattle.ledger.specs.Ledger.{Entry, Span, Ledger, holds_of, spans_from, quarantined_of}
use Rattle.ledger.specs.Demand3.{objects_in, spans_differ}
use Rattle.ledger.proofs.Rows

-- a ledger matches objects and records: the same objects, none twice, and each quota's holds are the count of its record
pub record Matches (l : Ledger) (os : List Handle) (hs : List Hold) : Type 0 where
  pub objects : (o : Handle) → Memᴰ o os ↔ Memᴰ o (objects_in l)
  pub once : serials_differ (objects_in l) ≡ true
  pub quotas : length l.grants ≡ QUOTAS
  pub widths : (e : Entry) → Memᴰ e l.entries → length e.holds ≡ QUOTAS
  pub holds : (e : Entry) → Memᴰ e l.entries → (q : ℕ) → holds_of q e ≡ count_of e.object.serial q hs

-- two lists have the same blocks, the second each once
pub record SameSpans (xs ys : List Span) : Type 0 where
  pub both : (x : Span) → Memᴰ x xs ↔ Memᴰ x ys
  pub once : spans_differ ys ≡ true

-- a ledger and a good state of blocks: the same kind and grants, the same objects and holds, and the same quarantined blocks
pub record Tracks (l : Ledger) (t : State) : Type 0 where
  pub good : Good t
  pub kinded : Kinded t
  pub kind : t.accounts.kind ≡ l.kind
  pub grants : map (λ (x : Quota). x.grant) t.accounts.quotas ≡ l.grants
  pub matches : Matches l (objects t.blocks) t.accounts.holds
  pub waits : SameSpans (spans_from 0 t.blocks) l.quarantined

-- ledger, heap and accounts agree
pub record Agrees (l : Ledger) (s : List ℕ) (k : Accounts) : Type 0 where
  pub extent : allowed (length s) ≡ true
  pub octets : Octets s
  pub passes : accounted s k ≡ true
  pub quotas : length k.quotas ≡ QUOTAS
  pub narrow : (q : ℕ) → (get_or k.quotas q zero_quota).grant < 2 ^ 32
  pub kinded : Kinded (state_of s k)
  pub kind : k.kind ≡ l.kind
  pub grants : map (λ (x : Quota). x.grant) k.quotas ≡ l.grants
  pub matches : Matches l (objects_of s) k.holds
  pub waits : SameSpans (quarantined_of s) l.quarantined
