-- Wrong heaps (rule 24.15), one or more for each law: what each does instead of a call. That the law does not hold of it is `proofs/Wrong.antt`.
use Rattle.std.specs.Prelude.{ℕ, ◌+◌, ◌-◌, List, ◌++◌, cond, length, take, drop, set, ltb}
use Rattle.accounts.specs.declared.Accounts.{Accounts}
use Rattle.accounts.specs.Accounts.{remaining, charge, refund, with_last_serial}
use Rattle.model.specs.Answers.{refused}
use Rattle.model.specs.Consistent.{charge_of}
use Rattle.model.specs.Calls.{Outcome, unchanged}
use Rattle.model.specs.Step.{own_step}
use Rattle.model.specs.declared.Call.TheVariants.{FreeAll}
use Rattle.ledger.specs.History.{Run}
use Rattle.ledger.specs.Wrong.{at_allocate, at_release}

-- other accounts, or another heap, than the rules leave
abbrev with_accounts : Accounts → Outcome → Outcome
with_accounts k t = record { heap = t.heap; accounts = k; values = t.values }

abbrev with_heap : List ℕ → Outcome → Outcome
with_heap s t = record { heap = s; accounts = t.accounts; values = t.values }

-- a release hands its serial out again
unfoldable pub reuses_serials : Run
reuses_serials c s k =
    let t = own_step c s k in
    at_release (λ q h. with_accounts (with_last_serial (h.serial - 1) t.accounts) t) c t

-- a release leaves the bytes of the object where they are
unfoldable pub leaves_the_bytes : Run
leaves_the_bytes c s k =
    let t = own_step c s k in
    at_release (λ q h. with_heap (take h.base t.heap ++ (take h.length (drop h.base s) ++ drop (h.base + h.length) t.heap)) t) c t

-- a release keeps the charge of the header
unfoldable pub keeps_eight : Run
keeps_eight c s k =
    let t = own_step c s k in
    at_release (λ q h. with_accounts (charge q 8 t.accounts) t) c t

-- a release leaves the heap as it was
unfoldable pub keeps_the_heap : Run
keeps_the_heap c s k =
    let t = own_step c s k in
    at_release (λ q h. with_heap s t) c t

-- an allocation is refused where the next quota could not pay for it
unfoldable pub asks_the_next : Run
asks_the_next c s k =
    let t = own_step c s k in
    at_allocate (λ q n. cond (ltb (remaining (q + 1) k) (charge_of n)) (unchanged s k (refused 8)) t) c t

-- an allocation takes 8 bytes from the next quota
unfoldable pub charges_the_next : Run
charges_the_next c s k =
    let t = own_step c s k in
    at_allocate (λ q n. with_accounts (charge (q + 1) 8 t.accounts) t) c t

-- a release frees all that the next quota holds
unfoldable pub frees_for_the_next : Run
frees_for_the_next c s k =
    let t = own_step c s k in
    at_release (λ q h. (let u = own_step (FreeAll (q + 1)) t.heap t.accounts in with_accounts u.accounts (with_heap u.heap t))) c t

-- a release writes its serial into the last byte of the heap
unfoldable pub marks_the_heap : Run
marks_the_heap c s k =
    let t = own_step c s k in
    at_release (λ q h. with_heap (set t.heap (length s - 1) h.serial) t) c t

-- an allocation costs nothing
unfoldable pub charges_nothing : Run
charges_nothing c s k =
    let t = own_step c s k in
    at_allocate (λ q n. with_accounts (refund q (charge_of t.values.handle.length) t.accounts) t) c t
