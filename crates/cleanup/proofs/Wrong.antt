-- Neither statement holds of the wrong heaps: each is refuted by a short list of releases that is computed.
use Prim.Native.Nat.{ℕ, zero, suc, ◌^◌}
use native.Mathlib.Omega.{arith}
use mathlib.Core.Path.{◌≡◌, refl, ap}
use mathlib.Core.List.Permᴰ
use mathlib.Core.List.{List, [], ◌∷◌}
use mathlib.Core.Bool.{Bool, true, false, false≢true}
use lib.ListN.{length, get_or}
use lib.Dec.{ltb}
use borrow.Author.Tests.{ltb-true}
use Rattle.accounts.specs.declared.Quota.{Quota}
use Rattle.accounts.specs.declared.Accounts.{Accounts}
use Rattle.accounts.specs.Accounts.{QUOTAS, zero_quota, zero_hold, remaining}
use Rattle.rounding.specs.Rounding.{unit}
use Rattle.lists.specs.Lists.{all}
use Rattle.model.specs.Calls.{Outcome, allocate}
use Rattle.model.specs.Cases.{opened_heap}
use Rattle.model.specs.Quarantine.{waiting_heap}
use Rattle.lists.proofs.Bools.{and_left, and_right}
use Rattle.model.proofs.Computing.{computing}
use Rattle.cleanup.specs.Releases.{Run, own_release, Drop, cleaned, accepted_throughout, Fits}
use Rattle.cleanup.specs.Releases.{SameCleanup, AnyOrder}
use Rattle.cleanup.specs.FreeAll.{all_for, sum_of, Freeing, own_free_all, AsFreeAll, FreeAllByReleases}
use Rattle.cleanup.specs.FreeAll.{releases_of, AllReleased}
use Rattle.cleanup.specs.Wrong.{newest_first, remembers_the_last, close_gap, closes_gaps, tells_the_remainder}
use Rattle.cleanup.specs.Wrong.{sweeps_first, changes_the_edition}
use Rattle.cleanup.specs.Wrong.{keeps_the_heap, pays_nothing, answers_the_remainder}
use Rattle.cleanup.proofs.Answers.{permuted_sum}

-- a heap of 128 bytes in which quota 0 has made four objects, of 8, 16, 8 and 8 bytes
made_in : Outcome → Outcome
made_in a =
    let b = allocate unit a.heap a.accounts 0 8 in
    let c = allocate unit b.heap b.accounts 0 16 in
    let d = allocate unit c.heap c.accounts 0 8 in
    allocate unit d.heap d.accounts 0 8

made : Outcome
made = made_in (opened_heap 128 1000 0)

drop : ℕ → ℕ → ℕ → Drop
drop base length serial = record { quota = 0; handle = record { base = base; length = length; serial = serial } }

first : Drop
first = drop 8 8 1

second : Drop
second = drop 24 16 2

third : Drop
third = drop 48 8 3

fourth : Drop
fourth = drop 64 8 4

-- what all pass, any place does
each : {A : Type 0} (p : A → Bool) (d : A) → p d ≡ true → (xs : List A) → all p xs ≡ true → (i : ℕ) → p (get_or xs i d) ≡ true
unfolding all
each p d e [] a i = e
each p d e (x ∷ xs) a zero = and_left (p x) (all p xs) a
each p d e (x ∷ xs) a (suc i) = each p d e xs (and_right (p x) (all p xs) a) i

-- so tests show that a state fits
tested_fits : (s : List ℕ) (k : Accounts) → all (λ b. ltb b 256) s ≡ true → length k.quotas ≡ QUOTAS
    → all (λ (x : Quota). ltb x.grant (2 ^ 32)) k.quotas ≡ true → Fits s k
tested_fits s k o l n =
    record {
      octets = λ i. ltb-true (get_or s i 0) 256 (each (λ b. ltb b 256) 0 refl s o i);
      quotas = l;
      narrow = λ q. ltb-true (get_or k.quotas q zero_quota).grant (2 ^ 32) (each (λ (x : Quota). ltb x.grant (2 ^ 32)) zero_quota refl k.quotas n q);
    }

fits : Fits made.heap made.accounts
unfolding computing opened_heap made_in made
fits = tested_fits made.heap made.accounts refl refl refl

-- what clean-up in any order says of two releases and of the two exchanged
said_in : (t : Outcome) → Fits t.heap t.accounts → (run : Run) → AnyOrder run → (d e : Drop)
    → accepted_throughout (cleaned run (d ∷ e ∷ []) t.heap t.accounts).answers ≡ true → SameCleanup run (d ∷ e ∷ []) (e ∷ d ∷ []) t.heap t.accounts
said_in t f run always d e a = always.always (d ∷ e ∷ []) (e ∷ d ∷ []) (Permᴰ.swap refl refl) t.heap t.accounts f a

said : (run : Run) → AnyOrder run → (d e : Drop) → accepted_throughout (cleaned run (d ∷ e ∷ []) made.heap made.accounts).answers ≡ true
    → SameCleanup run (d ∷ e ∷ []) (e ∷ d ∷ []) made.heap made.accounts
said = said_in made fits

-- the fourth object and then the third can be released, and not the other way round
pub refuted_newest_first : AnyOrder newest_first → ⊥
unfolding computing opened_heap made_in made drop first second third fourth cleaned accepted_throughout newest_first
refuted_newest_first a = let e : ◌≡◌ {A = Bool} false true = (said newest_first a fourth third refl).accepted in false≢true e

-- the last byte is 2 or 1
pub refuted_remembers_the_last : AnyOrder remembers_the_last → ⊥
unfolding computing opened_heap made_in made drop first second third fourth cleaned accepted_throughout remembers_the_last
refuted_remembers_the_last a =
    let e : ◌≡◌ {A = ℕ} 1 2 = ap (λ (s : List ℕ). get_or s 127 0) (said remembers_the_last a first second refl).heap in
    omega arith

-- the lowest record is of the third or of the fourth object
pub refuted_closes_gaps : AnyOrder closes_gaps → ⊥
unfolding computing opened_heap made_in made drop first second third fourth cleaned accepted_throughout closes_gaps close_gap
refuted_closes_gaps a =
    let e : ◌≡◌ {A = ℕ} 3 4 = ap (λ (k : Accounts). (get_or k.holds 0 zero_hold).serial) (said closes_gaps a first second refl).accounts in
    omega arith

-- the answers are 944 and 968, or 952 and 968
pub refuted_tells_the_remainder : AnyOrder tells_the_remainder → ⊥
unfolding computing opened_heap made_in made drop first second third fourth cleaned accepted_throughout tells_the_remainder sum_of
refuted_tells_the_remainder a =
    let e : ◌≡◌ {A = ℕ} 1912 1920 = permuted_sum (said tells_the_remainder a first second refl).answers in
    omega arith

-- with quarantine: only the block of the last release waits, and the other is free
made_waiting : Outcome
made_waiting = made_in (waiting_heap 128)

fits_waiting : Fits made_waiting.heap made_waiting.accounts
unfolding computing waiting_heap made_in made_waiting
fits_waiting = tested_fits made_waiting.heap made_waiting.accounts refl refl refl

pub refuted_sweeps_first : AnyOrder sweeps_first → ⊥
unfolding computing waiting_heap made_in made_waiting drop first second third fourth cleaned accepted_throughout sweeps_first
refuted_sweeps_first a =
    let e : ◌≡◌ {A = ℕ} 255 0 = ap (λ (s : List ℕ). get_or s 4 0) (said_in made_waiting fits_waiting sweeps_first a first second refl).heap in
    omega arith

-- an object of 4,096 bytes at 8, which edition 2 would not place there, and one of 8 bytes: released first, the short
-- one leaves a heap that is not consistent by edition 2
made_long : Outcome
made_long =
    let a = opened_heap 4120 5000 0 in
    let b = allocate unit a.heap a.accounts 0 4096 in
    allocate unit b.heap b.accounts 0 8

fits_long : Fits made_long.heap made_long.accounts
unfolding computing opened_heap made_long
fits_long = tested_fits made_long.heap made_long.accounts refl refl refl

pub refuted_changes_the_edition : AnyOrder changes_the_edition → ⊥
unfolding computing opened_heap made_long drop cleaned accepted_throughout changes_the_edition
refuted_changes_the_edition a =
    let e : ◌≡◌ {A = Bool} false true =
    (said_in made_long fits_long changes_the_edition a (drop 8 4096 1) (drop 4112 8 2) refl).accepted in
    false≢true e

-- what is said of a free-all and of the four releases
freed : (freeing : Freeing) → FreeAllByReleases own_release freeing
    → (freeing made.heap made.accounts 0).values.refusal ≡ 0
    → AsFreeAll own_release freeing 0 (first ∷ second ∷ third ∷ fourth ∷ []) made.heap made.accounts
unfolding computing opened_heap made_in made drop first second third fourth cleaned accepted_throughout all_for
freed freeing always a = always.always 0 (first ∷ second ∷ third ∷ fourth ∷ []) made.heap made.accounts fits a refl refl refl

-- the header of the first object is still there
pub refuted_keeps_the_heap : FreeAllByReleases own_release keeps_the_heap → ⊥
unfolding computing opened_heap made_in made drop first second third fourth cleaned keeps_the_heap
refuted_keeps_the_heap a = let e : ◌≡◌ {A = ℕ} 16 2 = ap (λ (s : List ℕ). get_or s 0 0) (freed keeps_the_heap a refl).heap in omega arith

-- 928 remain
pub refuted_pays_nothing : FreeAllByReleases own_release pays_nothing → ⊥
unfolding computing opened_heap made_in made drop first second third fourth cleaned pays_nothing
refuted_pays_nothing a = let e : ◌≡◌ {A = ℕ} 1000 928 = ap (remaining 0) (freed pays_nothing a refl).accounts in omega arith

-- 72 bytes are given back
pub refuted_answers_the_remainder : FreeAllByReleases own_release answers_the_remainder → ⊥
unfolding computing opened_heap made_in made drop first second third fourth cleaned sum_of answers_the_remainder
refuted_answers_the_remainder a = let e : ◌≡◌ {A = ℕ} 72 1000 = (freed answers_the_remainder a refl).amount in omega arith

-- the first object can't be released before the others
pub refuted_all_released : AllReleased newest_first own_free_all → ⊥
unfolding computing opened_heap made_in made drop first second third fourth cleaned accepted_throughout newest_first releases_of
refuted_all_released a =
    let all = first ∷ second ∷ third ∷ fourth ∷ [] in
    let e : ◌≡◌ {A = Bool} false true = (a.always 0 made.heap made.accounts fits refl all (Permᴰ.refl all)).0 in
    false≢true e
