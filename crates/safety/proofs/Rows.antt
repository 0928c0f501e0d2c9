-- What the definitions give for small cases, by computing.
use Rattle.std.specs.Prelude.{Some, None}
use Prim.Native.Nat.{ℕ, ◌-◌}
use mathlib.Core.Path.{◌≡◌, refl}
use mathlib.Core.List.{List, [], ◌∷◌, map}
use mathlib.Core.Bool.{true, false}
use lib.ListN.{replicate}
use Rattle.accounts.specs.declared.Accounts.{Accounts}
use Rattle.rounding.specs.Rounding.{unit}
use Rattle.layout.specs.Blocks.{Block, QUARANTINED, render}
use Rattle.model.specs.Calls.{Outcome}
use Rattle.model.specs.Tables.{state, quota, quota_with, accounts_of, run}
use Rattle.model.specs.Marked.{handle}
use Rattle.model.specs.declared.Handle.{Handle}
use Rattle.model.specs.declared.Call.{Call}
use Rattle.model.specs.declared.Call.TheVariants.{Allocate, AllocateArray, Claim, Release, FreeAll, Reallocate, Lend, Remaining, CanRelease, ListBlock}
use Rattle.model.specs.declared.Call.TheVariants.{ClearPermissions, Sweep}
use Rattle.model.proofs.Computing.{computing}
use Rattle.safety.specs.Arguments.{quota_of, handle_of}
use Rattle.safety.specs.Stale.{lines_before_5, stale_refusal}
use Rattle.safety.specs.Left.{clean_block, clean, is_zero, blank}
use Rattle.safety.specs.Returned.{all_permitted}
use Rattle.safety.specs.Paid.{live_charges, paid_in}

-- each call once, for quota 3 and with the handle h
pub calls : Handle → List Call
calls h =
    Allocate 3 8 ∷ AllocateArray 3 2 4 ∷ Claim 3 h ∷ Release 3 h ∷ FreeAll 3 ∷ Sweep ∷ Reallocate 3 h 8 ∷ Lend h ∷ Remaining 3 ∷ CanRelease 3 h ∷ ListBlock 0
    ∷ ClearPermissions 3 1 ∷ []

pub quota_rows : (h : Handle) → map quota_of (calls h)
    ≡ Some 3 ∷ Some 3 ∷ Some 3 ∷ Some 3 ∷ Some 3 ∷ None ∷ Some 3 ∷ None ∷ Some 3 ∷ Some 3 ∷ None ∷ Some 3 ∷ []
unfolding calls
quota_rows h = refl

pub handle_rows : (h : Handle) → map handle_of (calls h)
    ≡ None ∷ None ∷ Some h ∷ Some h ∷ None ∷ None ∷ Some h ∷ Some h ∷ None ∷ Some h ∷ None ∷ None ∷ []
unfolding calls
handle_rows h = refl

-- quota 0 has every permission, quota 1 may only free all; there are no quotas from 32 on
pub two_quotas : Accounts
two_quotas = accounts_of (quota_with 7 100 100 ∷ quota_with 4 100 100 ∷ []) 0 []

pub stale_rows : (h : Handle) → map (λ c. stale_refusal c two_quotas)
    (Lend h ∷ Release 0 h ∷ Release 1 h ∷ Release 32 h ∷ CanRelease 1 h ∷ CanRelease 32 h ∷ Claim 0 h ∷ Claim 1 h ∷ Claim 32 h ∷ Reallocate 0 h 8
    ∷ Reallocate 0 h 0 ∷ Reallocate 0 h 32761 ∷ Reallocate 1 h 0 ∷ Reallocate 32 h 0 ∷ [])
    ≡ 5 ∷ 5 ∷ 5 ∷ 3 ∷ 5 ∷ 3 ∷ 5 ∷ 12 ∷ 3 ∷ 5 ∷ 4 ∷ 4 ∷ 12 ∷ 3 ∷ []
unfolding computing accounts_of two_quotas lines_before_5 stale_refusal
stale_rows h = refl

-- blocks of 16 bytes: free, live and quarantined ones, with zeros and with one byte that is not
pub block : ℕ → ℕ → Block
block serial last = record { serial = serial; body = 0 ∷ 0 ∷ 0 ∷ 0 ∷ 0 ∷ 0 ∷ 0 ∷ last ∷ [] }

pub blank_rows : map (clean_block is_zero) (block 0 0 ∷ block 0 1 ∷ block 1 0 ∷ block 1 1 ∷ block QUARANTINED 0 ∷ block QUARANTINED 1 ∷ [])
    ≡ true ∷ false ∷ true ∷ true ∷ true ∷ false ∷ []
unfolding computing block clean_block
blank_rows = refl

-- a heap is blank if all its blocks are
pub heap_rows : map (λ bs. blank (render bs)) ((block 1 1 ∷ block 0 0 ∷ []) ∷ (block 0 0 ∷ block 1 1 ∷ block 0 2 ∷ []) ∷ (block 0 3 ∷ block 1 1 ∷ []) ∷ [])
    ≡ true ∷ false ∷ false ∷ []
unfolding computing block clean_block clean blank
heap_rows = refl

-- permissions are set again, and nothing else
pub permitted_rows : all_permitted two_quotas ≡ accounts_of (quota_with 7 100 100 ∷ quota_with 7 100 100 ∷ []) 0 []
unfolding computing accounts_of two_quotas all_permitted
permitted_rows = refl

-- objects of 8 and 16 bytes, the second held by two quotas
pub shared : Outcome
shared =
    run unit (state (open_heap_of 64) (accounts_of (quota 1000 1000 ∷ quota 100 100 ∷ []) 0 []))
    (Allocate 0 8 ∷ Allocate 0 16 ∷ Claim 1 (handle 24 16 2) ∷ Claim 1 (handle 24 16 2) ∷ [])
  where
    open_heap_of : ℕ → List ℕ
    open_heap_of n = render (record { serial = 0; body = replicate (n - 8) 0 } ∷ [])

pub paid_rows : (live_charges shared.heap ≡ 40) × (paid_in shared.accounts ≡ 64)
unfolding computing run accounts_of shared live_charges paid_in
paid_rows = (refl, refl)
