-- The ledger of short lists of events, computed: what rules 9.2 to 9.5, 13.15 to 13.18, 15.9 and 22.10 to 22.13 make of them.
use Prim.Native.Nat.{ℕ, ◌-◌}
use native.Mathlib.Omega.{arith}
use mathlib.Core.Path.{◌≡◌, refl, ap}
use mathlib.Core.List.Memᴰ
use mathlib.Core.List.{List, [], ◌∷◌, map}
use mathlib.Core.Bool.{true, false}
use lib.ListN.{replicate, get_or}
use Rattle.rounding.specs.Rounding.{unit}
use Rattle.accounts.specs.declared.settings.Settings.{Settings}
use Rattle.accounts.specs.declared.settings.Kind.TheVariants.{Plain, Quarantine}
use Rattle.accounts.specs.declared.settings.Edition.TheVariants.{First, Second}
use Rattle.accounts.specs.Accounts.{QUOTAS, plain}
use Rattle.model.specs.Objects.{objects_of}
use Rattle.model.specs.Answers.{accepted, refused, given, amount_of}
use Rattle.model.specs.Calls.{Outcome, open_heap}
use Rattle.model.specs.Step.{step}
use Rattle.model.specs.declared.Handle.{Handle}
use Rattle.model.specs.declared.Call.{Call}
use Rattle.model.specs.declared.Call.TheVariants.{Allocate, AllocateArray, Claim, Release, FreeAll, Sweep, Reallocate, Lend, ClearPermissions}
use Rattle.model.proofs.Computing.{computing}
use Rattle.ledger.specs.Ledger.{Entry, Span, in_span, block_of, Ledger, Event, Called, Wrote, Saved, Restored, empty, unrestored, ledger_of}
use Rattle.ledger.specs.Same.{Same}
use Rattle.ledger.specs.Demand3.{taken, spans_differ}
use Rattle.ledger.proofs.Recording.{recording}

pub grants : List ℕ
grants = 100 ∷ 1000 ∷ replicate (QUOTAS - 2) 0

pub a : Handle
a = record { base = 8; length = 16; serial = 1 }

pub b : Handle
b = record { base = 32; length = 96; serial = 2 }

-- an object with holds of quotas 0 and 1
pub entry : Handle → ℕ → ℕ → Entry
entry o x y = record { object = o; holds = x ∷ y ∷ replicate (QUOTAS - 2) 0 }

pub entries : List Event → List Entry
entries es = (ledger_of (empty plain grants) es).entries

-- each list, the newest first, and the ledger's objects after it
pub made : List Event
made = Called (Allocate 0 10) (given a) ∷ []

pub claimed : List Event
claimed = Called (Claim 1 a) (amount_of 16) ∷ Called (Claim 1 a) (amount_of 16) ∷ made

pub shared : List Event
shared = Called (AllocateArray 1 12 8) (given b) ∷ claimed

pub ledger_rows : (entries made ≡ entry a 1 0 ∷ [])
    × (entries (Called (Allocate 0 68) (refused 8) ∷ Called (Lend a) accepted ∷ Wrote ∷ made) ≡ entry a 1 0 ∷ [])
    × (entries (Called (ClearPermissions 0 7) (amount_of 0) ∷ Called (FreeAll 0) (refused 12) ∷ made) ≡ entry a 1 0 ∷ [])
    × (entries claimed ≡ entry a 1 2 ∷ [])
    × (entries (Called (Release 0 a) (amount_of 24) ∷ claimed) ≡ entry a 0 2 ∷ [])
    × (entries (Called (Release 1 a) (amount_of 0) ∷ claimed) ≡ entry a 1 1 ∷ [])
    × (entries (Called (Release 0 a) (amount_of 24) ∷ made) ≡ [])
    × (entries (Called (FreeAll 1) (amount_of 128) ∷ shared) ≡ entry a 1 0 ∷ [])
    × (entries (Called (Reallocate 0 a 90) (given b) ∷ claimed) ≡ entry b 1 0 ∷ entry a 0 2 ∷ [])
    × (entries (Called (Reallocate 0 a 90) (given b) ∷ made) ≡ entry b 1 0 ∷ [])
unfolding recording entries grants a b entry made claimed shared
ledger_rows = (refl, refl, refl, refl, refl, refl, refl, refl, refl, refl)

-- a state of two objects, the first held once by quota 0 and twice by quota 1, and the ledger after images of it
pub after : Settings → List Call → Outcome
after g [] = open_heap g (replicate 128 0) grants
after g (c ∷ cs) = step unit c (after g cs).heap (after g cs).accounts

pub state : Outcome
state = after plain (AllocateArray 1 12 8 ∷ Claim 1 a ∷ Claim 1 a ∷ Allocate 0 10 ∷ [])

pub saved : Event
saved = Saved state.heap state.accounts

pub restored : Event
restored = Restored state.heap state.accounts

pub image_rows : (entries (saved ∷ made) ≡ entry a 1 0 ∷ [])
    × (entries (restored ∷ made) ≡ entry a 1 2 ∷ entry b 0 1 ∷ [])
    × (entries (Called (Release 1 a) (amount_of 0) ∷ restored ∷ []) ≡ entry a 1 1 ∷ entry b 0 1 ∷ [])
    × ((ledger_of (empty plain (replicate QUOTAS 5)) (restored ∷ [])).grants ≡ grants)
    × ((ledger_of (empty plain (replicate QUOTAS 5)) (saved ∷ [])).grants ≡ replicate QUOTAS 5)
    × (unrestored (saved ∷ Wrote ∷ made) ≡ true)
    × (unrestored (Wrote ∷ restored ∷ made) ≡ false)
unfolding computing recording entries grants a b entry made after state saved restored
image_rows = (refl, refl, refl, refl, refl, refl, refl)

-- in a heap of the second kind, what is quarantined after each list
pub waiting : Settings
waiting = record { kind = Quarantine; edition = First }

pub spans : List Event → List Span
spans es = (ledger_of (empty waiting grants) es).quarantined

pub span : ℕ → ℕ → Span
span x y = record { from = x; to = y }

pub left : List Event
left = Called (Release 0 a) (amount_of 24) ∷ made

pub quarantine_rows : (spans claimed ≡ [])
    × (spans left ≡ span 0 24 ∷ [])
    × ((ledger_of (empty waiting grants) left).entries ≡ [])
    × ((ledger_of (empty plain grants) left).quarantined ≡ [])
    × (spans (Called (Release 0 a) (amount_of 24) ∷ claimed) ≡ [])
    × (spans (Called (FreeAll 1) (amount_of 128) ∷ shared) ≡ span 24 128 ∷ [])
    × (spans (Called (FreeAll 1) (amount_of 128) ∷ Called (Release 0 a) (amount_of 24) ∷ shared) ≡ span 24 128 ∷ span 0 24 ∷ [])
    × (spans (Called (Reallocate 0 a 90) (given b) ∷ made) ≡ span 0 24 ∷ [])
    × (spans (Called (Allocate 0 10) (given b) ∷ Wrote ∷ Called (Lend a) (refused 5) ∷ left) ≡ span 0 24 ∷ [])
    × (spans (Called Sweep (refused 2) ∷ left) ≡ span 0 24 ∷ [])
    × (spans (Called Sweep (amount_of 24) ∷ left) ≡ [])
    × ((ledger_of (empty waiting grants) (Called Sweep (amount_of 24) ∷ left)).kind ≡ 1)
    × ((ledger_of (empty waiting grants) (Called Sweep (amount_of 0) ∷ made)).entries ≡ entry a 1 0 ∷ [])
unfolding recording waiting spans span left grants a b entry made claimed shared
quarantine_rows = (refl, refl, refl, refl, refl, refl, refl, refl, refl, refl, refl, refl, refl)

-- a state of that kind with two blocks that wait, the first beside a live one, and the ledger that an image of it gives
pub parted : Outcome
parted =
    let d : Handle = record { base = 104; length = 16; serial = 4 } in
    after waiting (Release 0 d ∷ Release 0 a ∷ Allocate 0 16 ∷ AllocateArray 1 3 8 ∷ Allocate 0 32 ∷ Allocate 0 10 ∷ [])

pub read : Ledger
read = ledger_of (empty plain grants) (Restored parted.heap parted.accounts ∷ left)

pub restored_rows : (read.kind ≡ 1)
    × (read.quarantined ≡ span 0 24 ∷ span 96 120 ∷ [])
    × ((ledger_of (empty plain grants) (Called Sweep (amount_of 48) ∷ Restored parted.heap parted.accounts ∷ [])).quarantined ≡ [])
    × ((ledger_of (empty waiting grants) (Restored state.heap state.accounts ∷ left)).quarantined ≡ [])
    × ((ledger_of (empty waiting grants) (Restored state.heap state.accounts ∷ left)).kind ≡ 0)
unfolding computing recording grants a made after waiting span left state parted read
restored_rows = (refl, refl, refl, refl, refl)

-- bytes of blocks: the first waits to 24, a live one stands to 64, one of quota 1 to 96, another waits to 120, and the rest is free
pub taken_rows : (map (λ i. taken i parted.heap) (0 ∷ 23 ∷ 24 ∷ 95 ∷ 96 ∷ 119 ∷ 120 ∷ 127 ∷ [])
    ≡ true ∷ true ∷ true ∷ true ∷ true ∷ true ∷ false ∷ false ∷ [])
    × (map (λ i. in_span i (map block_of (objects_of parted.heap))) (23 ∷ 24 ∷ 95 ∷ 96 ∷ []) ≡ false ∷ true ∷ true ∷ false ∷ [])
    × (map (λ i. in_span i (span 0 24 ∷ span 96 120 ∷ [])) (0 ∷ 23 ∷ 24 ∷ 95 ∷ 96 ∷ 120 ∷ []) ≡ true ∷ true ∷ false ∷ false ∷ true ∷ false ∷ [])
    × (spans_differ (span 0 24 ∷ span 24 48 ∷ span 96 120 ∷ []) ≡ true)
    × (spans_differ (span 24 48 ∷ span 0 24 ∷ span 24 48 ∷ []) ≡ false)
unfolding computing recording in_span taken spans_differ grants a after waiting span parted
taken_rows = (refl, refl, refl, refl, refl)

-- two ledgers that differ in one thing do not say the same (`Same`)
pub coarse : Settings
coarse = record { kind = Plain; edition = Second }

pub same_rows : (Same (empty plain grants) (empty waiting grants) → ⊥)
    × (Same (empty plain grants) (empty coarse grants) → ⊥)
    × (Same (empty plain grants) (empty plain (replicate QUOTAS 5)) → ⊥)
    × (Same (ledger_of (empty plain grants) made) (empty plain grants) → ⊥)
    × (Same (empty plain grants) (ledger_of (empty plain grants) made) → ⊥)
    × (Same (ledger_of (empty plain grants) made) (ledger_of (empty plain grants) claimed) → ⊥)
    × (Same (ledger_of (empty waiting grants) left) (empty waiting grants) → ⊥)
    × (Same (empty waiting grants) (ledger_of (empty waiting grants) left) → ⊥)
unfolding recording waiting coarse grants a made claimed left
same_rows = (
  λ e. (let x : ◌≡◌ {A = ℕ} 0 1 = e.kind in omega arith),
  λ e. (let x : ◌≡◌ {A = ℕ} 0 1 = e.edition in omega arith),
  λ e. (let x : ◌≡◌ {A = ℕ} 100 5 = ap (λ (gs : List ℕ). get_or gs 0 0) e.grants in omega arith),
  λ e. Memᴰ.not-nil ((e.objects a).0 (Memᴰ.head refl)),
  λ e. Memᴰ.not-nil ((e.objects a).1 (Memᴰ.head refl)),
  λ e. (let x : ◌≡◌ {A = ℕ} 0 2 = e.holds _ _ (Memᴰ.head refl) (Memᴰ.head refl) refl 1 in omega arith),
  λ e. Memᴰ.not-nil ((e.quarantined _).0 (Memᴰ.head refl)),
  λ e. Memᴰ.not-nil ((e.quarantined _).1 (Memᴰ.head refl)),
)
