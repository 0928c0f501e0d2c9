-- The lines that a checked or ready request has passed: none of the first three, or five, holds of it, so the others decide.
use Rattle.std.specs.Prelude.{Result, Ok}
use Rattle.model.specs.declared.Refusal.{Refusal}
use Prim.Native.Nat.{ℕ, ◌<◌}
use native.Mathlib.Omega.{arith}
use mathlib.Core.Path.{◌≡◌, ◌∙◌}
use mathlib.Core.List.{List, ◌∷◌}
use mathlib.Core.Bool.{not, ◌||◌}
use lib.ListN.{length}
use lib.Dec.{ltb, eqb}
use borrow.Author.Tests.{lt-ltb, le-ltb, eq-eqb, ne_eqb}
use Rattle.accounts.specs.declared.Accounts.{Accounts}
use Rattle.accounts.specs.Accounts.{QUOTAS, ALLOCATE}
use Rattle.layout.specs.Blocks.{QUARANTINED}
use Rattle.model.specs.Answers.{verdict_values}
use Rattle.model.specs.Consistent.{allowed, consistent}
use Rattle.model.specs.Refusals.{Line, first_refusal, line_1, line_2, line_3, line_4, line_12, greatest_length, row_lines}
use Rattle.model.specs.Calls.{unless, check}
use Rattle.lists.proofs.Bools.{or_right}
use Rattle.results.proofs.Lines.{line_refuses, line_passes, line_3_passes, line_12_passes, check_accounted}
use Rattle.model.proofs.Consistent.{consistent_range, range_serial}
use Rattle.allocation.specs.Ready.{Checked, Ready}

-- lines 1 to 3 do not hold of a quota that exists, where the check accepts
pub checked_is : (unit : ℕ → ℕ) (s : List ℕ) (k : Accounts) (v : Result (Unit {0}) Refusal) → verdict_values v ≡ (check unit s k).values
    → v ≡ Ok tt → (q : ℕ) → q < QUOTAS
    → Checked unit s k q
checked_is unit s k v told e q l = let p = check_accounted unit s k v told e in record { extent = p.0; accounted = p.1; consistent = p.2; exists = l }

pub checked_passes : (unit : ℕ → ℕ) (s : List ℕ) (k : Accounts) (q : ℕ) (rest : List Line) → Checked unit s k q
    → first_refusal (line_1 s ∷ line_2 unit s k ∷ line_3 q ∷ rest) ≡ first_refusal rest
unfolding line_1 line_2
checked_passes unit s k q rest c =
    line_passes 1 (not (allowed (length s))) (line_2 unit s k ∷ line_3 q ∷ rest) (rw c.extent)
    ∙ line_passes 2 (not (consistent unit s k)) (line_3 q ∷ rest) (rw c.consistent)
    ∙ line_3_passes q rest c.exists

-- the last serial is below that of a quarantined block
pub checked_serial : (unit : ℕ → ℕ) (s : List ℕ) (k : Accounts) (q : ℕ) → Checked unit s k q → k.last_serial < QUARANTINED
checked_serial unit s k q c = range_serial k (consistent_range unit s k c.consistent)

-- the check accepts it
pub accepted_check : (unit : ℕ → ℕ) (s : List ℕ) (k : Accounts) (q : ℕ) → Checked unit s k q → verdict_values (Ok tt) ≡ (check unit s k).values
unfolding verdict_values check row_lines unless line_1 line_2 first_refusal
accepted_check unit s k q c = rw (c.extent, c.consistent)

-- 4: the length
pub line_4_zero : (n : ℕ) (rest : List Line) → n ≡ 0 → first_refusal (line_4 n ∷ rest) ≡ 4
unfolding line_4
line_4_zero n rest e = line_refuses 4 (eqb n 0 || ltb greatest_length n) rest (rw (eq-eqb n 0 e))

pub line_4_long : (n : ℕ) (rest : List Line) → greatest_length < n → first_refusal (line_4 n ∷ rest) ≡ 4
unfolding line_4
line_4_long n rest l = line_refuses 4 (eqb n 0 || ltb greatest_length n) rest (or_right (eqb n 0) _ (lt-ltb greatest_length n l))

pub ready_passes : (unit : ℕ → ℕ) (s : List ℕ) (k : Accounts) (q n : ℕ) (rest : List Line) → Ready unit s k q n
    → first_refusal (line_1 s ∷ line_2 unit s k ∷ line_3 q ∷ line_12 ALLOCATE k q ∷ line_4 n ∷ rest) ≡ first_refusal rest
unfolding line_4
ready_passes unit s k q n rest r =
    checked_passes unit s k q (line_12 ALLOCATE k q ∷ line_4 n ∷ rest) r.checked
    ∙ line_12_passes ALLOCATE q k (line_4 n ∷ rest) r.permitted
    ∙ line_passes 4 (eqb n 0 || ltb greatest_length n) rest (rw (ne_eqb n 0 (λ e. omega (arith, r.some)), le-ltb greatest_length n r.short))
