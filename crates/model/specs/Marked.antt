-- The run M (rule 12.1): its table, and how such a table is run. That the definitions give it is `proofs/Marked.antt`.
use Rattle.std.specs.Prelude.{ℕ, ◌-◌, List, [], ◌∷◌, replicate}
use Rattle.accounts.specs.declared.Accounts.{Accounts}
use Rattle.accounts.specs.Accounts.{QUOTAS, plain, remaining}
use Rattle.rounding.specs.Rounding.{unit}
use Rattle.model.specs.Answers.{Values, refused, given, amount_of}
use Rattle.model.specs.Calls.{Outcome, open_heap}
use Rattle.model.specs.Step.{step}
use Rattle.model.specs.declared.Handle.{Handle}
use Rattle.model.specs.declared.Call.{Call}
use Rattle.model.specs.declared.Call.TheVariants.{Allocate, Claim, Release, FreeAll}

-- a row: a quota, its call, the answer, and what then remains of the quota
pub data Row : Type 0 where
  row : ℕ → (ℕ → Call) → Values → ℕ → Row

unfoldable pub quota_of : Row → ℕ
quota_of (row q c v n) = q

unfoldable pub call_of : Row → Call
call_of (row q c v n) = c q

-- the answers of these calls, one after the other, and what remains after each
unfoldable pub answers : List ℕ → Accounts → List Row → List (Values × ℕ)
answers s k [] = []
answers s k (r ∷ rs) =
    let t = step unit (call_of r) s k in
    (t.values, remaining (quota_of r) t.accounts) ∷ answers t.heap t.accounts rs

unfoldable pub stated : Row → Values × ℕ
stated (row q c v n) = (v, n)

abbrev pub handle : ℕ → ℕ → ℕ → Handle
handle b l s = record { base = b; length = l; serial = s }

unfoldable pub after_open : Outcome
after_open = open_heap plain (replicate 128 255) (100 ∷ 1000 ∷ replicate (QUOTAS - 2) 0)

unfoldable pub after_M1 : Outcome
after_M1 = step unit (Allocate 0 10) after_open.heap after_open.accounts

unfoldable pub marked : List Row
marked =
    row 0 (λ q. Allocate q 10) (given (handle 8 16 1)) 76
    ∷ row 0 (λ q. Allocate q 68) (refused 8) 76
    ∷ row 1 (λ q. Claim q (handle 8 16 1)) (amount_of 16) 976
    ∷ row 0 (λ q. Release q (handle 8 16 1)) (amount_of 24) 100
    ∷ row 1 (λ q. Allocate q 96) (given (handle 32 96 2)) 872
    ∷ row 1 (λ q. Allocate q 1) (refused 11) 872
    ∷ row 1 (λ q. Release q (handle 8 16 1)) (amount_of 24) 896
    ∷ row 0 (λ q. Allocate q 24) (refused 11) 100
    ∷ row 0 (λ q. Allocate q 16) (given (handle 8 16 3)) 76
    ∷ row 0 (λ q. Release q (handle 8 16 1)) (refused 5) 76
    ∷ row 0 (λ q. Release q (handle 32 96 2)) (refused 6) 76
    ∷ row 1 (λ q. FreeAll q) (amount_of 104) 1000
    ∷ []
