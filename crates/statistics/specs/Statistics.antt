-- The statistics of a heap and of a quota (rules, section 25).
use Rattle.std.specs.Prelude.{ℕ, zero, suc, ◌-◌, List, [], ◌∷◌, Bool, not, cond, ◌&&◌, leb, eqb, length}
use Rattle.accounts.specs.declared.Accounts.{Accounts}
use Rattle.accounts.specs.Accounts.{used, quota_at, remaining}
use Rattle.layout.specs.Blocks.{Block, size, free, quarantined, live}
use Rattle.rounding.specs.Rounding.{alignment}
use Rattle.lists.specs.Lists.{total, is_none}
use Rattle.model.specs.Objects.{blocks_of}
use Rattle.model.specs.Refusals.{first_refusal, check_lines, quota_lines, base_for}
use Rattle.survey.specs.Shares.{how_many, is_own, is_shared}
use Rattle.statistics.specs.declared.BlockCount.{BlockCount}
use Rattle.statistics.specs.declared.Statistics.{Statistics}
use Rattle.statistics.specs.declared.QuotaStatistics.{QuotaStatistics}

-- a number where a test holds, else 0
abbrev pub if_so : Bool → ℕ → ℕ
if_so t n = cond t n 0

-- the higher of two numbers, and the greatest of f over the elements, 0 where there is none
unfoldable pub higher : ℕ → ℕ → ℕ
higher a b = cond (leb a b) b a

unfoldable pub most : {A : Type 0} → (A → ℕ) → List A → ℕ
most f [] = 0
most f (x ∷ xs) = higher (f x) (most f xs)

-- rule 25.2: how many blocks pass a test, and how many bytes they have, headers included
unfoldable pub count_of : (Block → Bool) → List Block → BlockCount
count_of p bs = record { blocks = how_many p bs; bytes = total (λ b. if_so (p b) (size b)) bs }

-- rule 25.4: the bytes of the largest free block; and rule 25.5: those of all the others
unfoldable pub largest_free : List Block → ℕ
largest_free bs = most (λ b. if_so (free b) (size b)) bs

unfoldable pub fragmented : List Block → ℕ
fragmented bs = (count_of free bs).bytes - largest_free bs

-- the greatest of the numbers 1 to n that passes a test, 0 where none does
unfoldable pub greatest : (ℕ → Bool) → ℕ → ℕ
greatest p zero = 0
greatest p (suc n) =
    let below = greatest p n in
    cond (p (suc n)) (suc n) below

-- rule 25.6: a request with this alignment has a base; and the greatest such request
unfoldable pub has_base : (ℕ → ℕ) → List ℕ → ℕ → ℕ → Bool
has_base unit s a n = eqb (alignment unit n) a && not (is_none (base_for unit s n))

unfoldable pub largest : (ℕ → ℕ) → List ℕ → ℕ → ℕ
largest unit s a = greatest (has_base unit s a) (length s)

-- rule 25.1: what is refused has zeros beside the refusal's number
abbrev pub no_blocks : BlockCount
no_blocks = record { blocks = 0; bytes = 0 }

abbrev pub no_statistics : ℕ → Statistics
no_statistics n =
    record {
      refusal = n;
      last_serial = 0;
      records = 0;
      free = no_blocks;
      live = no_blocks;
      quarantined = no_blocks;
      largest_free = 0;
      fragmented = 0;
      largest_8 = 0;
      largest_16 = 0;
      largest_32 = 0;
      largest_64 = 0;
    }

-- rules 25.2 to 25.8
unfoldable pub counted : (ℕ → ℕ) → List ℕ → Accounts → Statistics
counted unit s k =
    let bs = blocks_of s in
    record {
      refusal = 0;
      last_serial = k.last_serial;
      records = how_many used k.holds;
      free = count_of free bs;
      live = count_of live bs;
      quarantined = count_of quarantined bs;
      largest_free = largest_free bs;
      fragmented = fragmented bs;
      largest_8 = largest unit s 8;
      largest_16 = largest unit s 16;
      largest_32 = largest unit s 32;
      largest_64 = largest unit s 64;
    }

unfoldable pub unless_refused : ℕ → Statistics → Statistics
unless_refused zero f = f
unless_refused (suc n) f = no_statistics (suc n)

unfoldable pub heap_statistics : (ℕ → ℕ) → List ℕ → Accounts → Statistics
heap_statistics unit s k = unless_refused (first_refusal (check_lines unit s k)) (counted unit s k)

-- rules 25.9 and 25.10
abbrev pub no_quota_statistics : ℕ → QuotaStatistics
no_quota_statistics n = record { refusal = n; grant = 0; remaining = 0; objects = 0; shared = 0 }

unfoldable pub quota_counted : Accounts → ℕ → QuotaStatistics
quota_counted k q =
    record {
      refusal = 0;
      grant = (quota_at q k).grant;
      remaining = remaining q k;
      objects = how_many (is_own q) k.holds;
      shared = how_many (is_shared k.holds q) k.holds;
    }

unfoldable pub quota_unless_refused : ℕ → QuotaStatistics → QuotaStatistics
quota_unless_refused zero f = f
quota_unless_refused (suc n) f = no_quota_statistics (suc n)

unfoldable pub quota_statistics : (ℕ → ℕ) → List ℕ → Accounts → ℕ → QuotaStatistics
quota_statistics unit s k q = quota_unless_refused (first_refusal (quota_lines unit s k q)) (quota_counted k q)
