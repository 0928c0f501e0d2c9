-- Narrowed handles over a history (rules 4.7 and 10.5). A handle that a request answered, made as narrow as one byte, names that object, right after the
-- request and for as long as some quota holds it. So claim, release and lend can be called with it.
use Rattle.std.specs.Prelude.{Some}
use Prim.Native.Nat.{ℕ, ◌*◌}
use mathlib.Core.Path.{◌≡◌}
use mathlib.Core.List.{List, ◌++◌, Memᴰ}
use mathlib.Core.Bool.{true}
use Rattle.accounts.specs.declared.Accounts.{Accounts}
use Rattle.rounding.specs.Rounding.{Units}
use Rattle.model.specs.Objects.{lookup}
use Rattle.model.specs.Calls.{allocate, allocate_array, reallocate}
use Rattle.model.specs.Step.{step}
use Rattle.model.specs.declared.Handle.{Handle}
use Rattle.model.specs.declared.Call.TheVariants.{Allocate, Reallocate}
use Rattle.model.proofs.Lookup.{Narrowed}
use Rattle.model.proofs.Narrowing.{object_found}
use Rattle.ledger.specs.Ledger.{Ledger, Event, unrestored, ledger_of}
use Rattle.ledger.specs.History.{by_own, History}
use Rattle.ledger.specs.Demand3.{objects_in, HeldIn}
use Rattle.ledger.proofs.Agreement.{Agrees}
use Rattle.ledger.proofs.Steps.{step_agrees}
use Rattle.ledger.proofs.NewBytes.{allocated_live_there, reallocated_live_there}
use Rattle.ledger.proofs.Theorem.{history_agrees, demand_3_of}

module _ (unit : ℕ → ℕ) (units : Units unit) where
  -- the handle that a request answers
  module _ (l : Ledger) (s : List ℕ) (k : Accounts) (a : Agrees l s k) (q : ℕ) (h : Handle) where
    pub allocated_found : (n : ℕ) → (allocate unit s k q n).values.refusal ≡ 0 → Narrowed h (allocate unit s k q n).values.handle
        → lookup h (allocate unit s k q n).heap ≡ Some (allocate unit s k q n).values.handle
    unfolding step
    allocated_found n e w =
        object_found (allocate unit s k q n).heap (allocate unit s k q n).accounts (step_agrees unit units (Allocate q n) l s k a).passes h _ w
        (allocated_live_there unit units l s k a q n e)

    pub array_found : (count size : ℕ) → (allocate_array unit s k q count size).values.refusal ≡ 0
        → Narrowed h (allocate_array unit s k q count size).values.handle
        → lookup h (allocate_array unit s k q count size).heap ≡ Some (allocate_array unit s k q count size).values.handle
    unfolding allocate_array
    array_found count size = allocated_found (count * size)

    pub reallocated_found : (old : Handle) (n : ℕ) → (reallocate unit s k q old n).values.refusal ≡ 0 → Narrowed h (reallocate unit s k q old n).values.handle
        → lookup h (reallocate unit s k q old n).heap ≡ Some (reallocate unit s k q old n).values.handle
    unfolding step
    reallocated_found old n e w =
        object_found (reallocate unit s k q old n).heap (reallocate unit s k q old n).accounts
        (step_agrees unit units (Reallocate q old n) l s k a).passes h _ w
        (reallocated_live_there unit units l s k a q old n e)

-- an object of the ledger, and one of an earlier ledger whose serial was held at every point since
module _ (tables : ℕ → ℕ → ℕ) (units : (e : ℕ) → Units (tables e)) where
  module _ (begun : Ledger) (s : List ℕ) (k : Accounts) (h o : Handle) (w : Narrowed h o) where
    pub recorded_found : (es : List Event) → History tables (by_own tables) begun es s k → Memᴰ o (objects_in (ledger_of begun es)) → lookup h s ≡ Some o
    recorded_found es past m = let a = history_agrees tables units begun es s k past in object_found s k a.passes h o w ((a.matches.objects o).1 m)

    pub held_found : (front back : List Event) → History tables (by_own tables) begun (back ++ front) s k → unrestored back ≡ true
        → Memᴰ o (objects_in (ledger_of begun front))
        → ((late early : List Event) → back ≡ late ++ early → HeldIn o.serial (ledger_of begun (early ++ front))) → lookup h s ≡ Some o
    held_found front back past u m since =
        object_found s k (history_agrees tables units begun (back ++ front) s k past).passes h o w
        (((demand_3_of tables units).always begun front back s k past).stays u o m since)
