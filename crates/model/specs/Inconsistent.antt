-- Which states are consistent: states that are, and each sentence broken once in a state that else is (rules, section 5). What the check gives is
-- proved by computing, in `proofs/Inconsistent.antt`.
use Rattle.std.specs.Prelude.{ℕ, ◌-◌, List, [], ◌∷◌, ◌++◌, replicate}
use Rattle.accounts.specs.declared.Quota.{Quota}
use Rattle.accounts.specs.declared.Hold.{Hold}
use Rattle.accounts.specs.declared.Accounts.{Accounts}
use Rattle.accounts.specs.Accounts.{QUOTAS, HOLDS, zero_hold}
use Rattle.rounding.specs.Rounding.{unit}
use Rattle.model.specs.Calls.{check}
use Rattle.model.specs.Tables.{head, zeros, parts, quota_with, quota, hold, accounts_of}

-- the refusal that the check gives for heap and accounts
pub data Judged : Type 0 where
  judged : ℕ → List ℕ → Accounts → Judged

unfoldable pub given_refusal : Judged → ℕ
given_refusal (judged n s k) = (check unit s k).values.refusal

unfoldable pub stated_refusal : Judged → ℕ
stated_refusal (judged n s k) = n

-- four headers, each before eight bytes; two objects, with the serials 1 and 3, and a free block behind each
unfoldable pub four : List ℕ → List ℕ → List ℕ → List ℕ → List ℕ
four a b c d = parts (a ∷ zeros 8 ∷ b ∷ zeros 8 ∷ c ∷ zeros 8 ∷ d ∷ zeros 8 ∷ [])

unfoldable pub good_heap : List ℕ
good_heap = four (head 2 0 1) (head 2 2 0) (head 2 2 3) (head 2 2 0)

-- quota 0 holds both objects and quota 1 the second, twice
abbrev pub good_holds : List Hold
good_holds = hold 1 0 1 ∷ hold 3 0 1 ∷ hold 3 1 2 ∷ []

abbrev pub good_quotas : List Quota
good_quotas = quota 100 68 ∷ quota 20 4 ∷ []

unfoldable pub good_accounts : Accounts
good_accounts = accounts_of good_quotas 3 good_holds

unfoldable pub with_records : List Hold → Accounts
with_records hs = accounts_of good_quotas 3 hs

unfoldable pub with_quotas : List Quota → Accounts
with_quotas qs = accounts_of qs 3 good_holds

-- nothing but one free block
unfoldable pub nothing_held : Accounts
nothing_held = accounts_of [] 0 []

unfoldable pub consistent_states : List Judged
consistent_states =
    judged 0 good_heap good_accounts
    -- one free block, which may have any bytes; a free block of 8 bytes; nothing free
    ∷ judged 0 (parts (head 8 0 0 ∷ replicate 56 255 ∷ [])) nothing_held
    ∷ judged 0 (parts (head 7 0 1 ∷ zeros 48 ∷ head 1 7 0 ∷ [])) (accounts_of (quota 56 0 ∷ []) 1 (hold 1 0 1 ∷ []))
    ∷ judged 0 (parts (head 8 0 1 ∷ zeros 56 ∷ [])) (accounts_of (quota 64 0 ∷ []) 1 (hold 1 0 1 ∷ []))
    -- records at any places; a last serial above every object's, a count of 255, and grants of 32 bits
    ∷ judged 0 good_heap (with_records (zero_hold ∷ hold 3 1 2 ∷ zero_hold ∷ hold 3 0 1 ∷ hold 1 0 1 ∷ []))
    ∷ judged 0 good_heap (accounts_of (quota 100 68 ∷ quota 4294967295 4294967279 ∷ []) 4294967294 (hold 1 0 255 ∷ hold 3 0 1 ∷ hold 3 1 255 ∷ []))
    -- the last record and the last quota
    ∷ judged 0 good_heap
    (accounts_of (quota 100 68 ∷ replicate (QUOTAS - 2) (quota 7 7) ++ (quota 16 0 ∷ [])) 3
    (hold 1 0 1 ∷ replicate (HOLDS - 3) zero_hold ++ (hold 3 (QUOTAS - 1) 1 ∷ hold 3 0 1 ∷ [])))
    ∷ []

unfoldable pub broken_cuts : List Judged
broken_cuts =
    -- a size that is not true: one unit more, one less, and 0
    judged 2 (four (head 3 0 1) (head 2 2 0) (head 2 2 3) (head 2 2 0)) good_accounts
    ∷ judged 2 (four (head 2 0 1) (head 1 2 0) (head 2 2 3) (head 2 2 0)) good_accounts
    ∷ judged 2 (four (head 2 0 1) (head 2 2 0) (head 0 2 3) (head 2 2 0)) good_accounts
    -- a back size that is not true, of the first block and of another
    ∷ judged 2 (four (head 2 1 1) (head 2 2 0) (head 2 2 3) (head 2 2 0)) good_accounts
    ∷ judged 2 (four (head 2 0 1) (head 2 2 0) (head 2 1 3) (head 2 2 0)) good_accounts
    -- the last block ends past the heap, and before its end
    ∷ judged 2 (four (head 2 0 1) (head 2 2 0) (head 2 2 3) (head 3 2 0)) good_accounts
    ∷ judged 2 (four (head 2 0 1) (head 2 2 0) (head 2 2 3) (head 1 2 0)) good_accounts
    -- bytes behind the last block: four, which no heap may have, and eight
    ∷ judged 1 (good_heap ++ zeros 4) good_accounts
    ∷ judged 2 (good_heap ++ zeros 8) good_accounts
    -- a live block of 8 bytes
    ∷ judged 2 (parts (head 1 0 1 ∷ head 7 1 0 ∷ zeros 48 ∷ [])) (accounts_of (quota 8 0 ∷ []) 1 (hold 1 0 1 ∷ []))
    -- two free blocks side by side, at the heap's beginning and at its end
    ∷ judged 2 (four (head 2 0 0) (head 2 2 0) (head 2 2 3) (head 2 2 0)) (accounts_of (quota 100 84 ∷ quota 20 4 ∷ []) 3 (hold 3 0 1 ∷ hold 3 1 2 ∷ []))
    ∷ judged 2 (four (head 2 0 1) (head 2 2 3) (head 2 2 0) (head 2 2 0)) good_accounts
    ∷ []

unfoldable pub broken_records : List Judged
broken_records =
    -- two objects with one serial, and an object with a serial above the last
    judged 2 (four (head 2 0 3) (head 2 2 0) (head 2 2 3) (head 2 2 0)) (accounts_of (quota 100 68 ∷ quota 36 4 ∷ []) 3 (hold 3 0 1 ∷ hold 3 1 2 ∷ []))
    ∷ judged 2 good_heap (accounts_of good_quotas 2 good_holds)
    -- a record for no object, for a free block, for a quota that is not there, and with a count of 0
    ∷ judged 2 good_heap (with_records (hold 2 0 1 ∷ good_holds))
    ∷ judged 2 good_heap (with_records (hold 0 0 1 ∷ good_holds))
    ∷ judged 2 good_heap (with_records (hold 1 QUOTAS 1 ∷ good_holds))
    ∷ judged 2 good_heap (with_records (hold 1 0 1 ∷ hold 3 0 1 ∷ hold 3 1 0 ∷ []))
    -- two records of one quota for one object, side by side and apart
    ∷ judged 2 good_heap (with_records (hold 1 0 1 ∷ good_holds))
    ∷ judged 2 good_heap (with_records (good_holds ++ (zero_hold ∷ hold 1 0 2 ∷ [])))
    -- an object without a record
    ∷ judged 2 good_heap (accounts_of (quota 100 84 ∷ quota 20 4 ∷ []) 3 (hold 3 0 1 ∷ hold 3 1 2 ∷ []))
    ∷ []

unfoldable pub broken_balances : List Judged
broken_balances =
    -- one more than there should be, one less; of the first quota, and of the last, which holds nothing
    judged 2 good_heap (with_quotas (quota 100 69 ∷ quota 20 4 ∷ []))
    ∷ judged 2 good_heap (with_quotas (quota 100 67 ∷ quota 20 4 ∷ []))
    ∷ judged 2 good_heap (with_quotas (quota 100 68 ∷ quota 20 4 ∷ replicate (QUOTAS - 3) (quota 0 0) ++ (quota 1 0 ∷ [])))
    -- a charge for each hold, for one object of two, and without the headers
    ∷ judged 2 good_heap (with_quotas (quota 100 68 ∷ quota 36 4 ∷ []))
    ∷ judged 2 good_heap (with_quotas (quota 100 84 ∷ quota 20 4 ∷ []))
    ∷ judged 2 good_heap (with_quotas (quota 100 84 ∷ quota 20 12 ∷ []))
    -- equal only in 32 bits that wrap
    ∷ judged 2 good_heap (with_quotas (quota 5 4294967269 ∷ quota 20 4 ∷ []))
    ∷ []

-- which numbers are permissions (rule 15.2): of the first quota, and of the last
unfoldable pub permission_numbers : List Judged
permission_numbers =
    judged 0 good_heap (with_quotas (quota_with 0 100 68 ∷ quota_with 5 20 4 ∷ []))
    ∷ judged 0 good_heap (with_quotas (quota 100 68 ∷ quota 20 4 ∷ replicate (QUOTAS - 3) (quota 0 0) ++ (quota_with 3 0 0 ∷ [])))
    ∷ judged 2 good_heap (with_quotas (quota_with 8 100 68 ∷ quota 20 4 ∷ []))
    ∷ judged 2 good_heap (with_quotas (quota 100 68 ∷ quota 20 4 ∷ replicate (QUOTAS - 3) (quota 0 0) ++ (quota_with 255 0 0 ∷ [])))
    ∷ []
