-- The statistics of small heaps, computed, and the greatest lengths on both sides of each limit.
use Prim.Native.Nat.{ℕ, ◌-◌}
use mathlib.Core.Path.{◌≡◌, refl}
use mathlib.Core.List.{List, [], ◌∷◌, map}
use lib.ListN.{replicate, take}
use Rattle.accounts.specs.declared.Accounts.{Accounts}
use Rattle.accounts.specs.declared.Hold.{Hold}
use Rattle.accounts.specs.Accounts.{QUOTAS, HOLDS}
use Rattle.layout.specs.Blocks.{Block, QUARANTINED, render}
use Rattle.rounding.specs.Rounding.{unit, unit_2}
use Rattle.model.proofs.Computing.{computing}
use Rattle.survey.specs.Survey.{shares}
use Rattle.survey.specs.Shares.{how_many, is_own, is_shared}
use Rattle.statistics.specs.declared.BlockCount.{BlockCount}
use Rattle.statistics.specs.declared.Statistics.{Statistics}
use Rattle.statistics.specs.declared.QuotaStatistics.{QuotaStatistics}
use Rattle.statistics.specs.Statistics.{higher, most, count_of, largest_free, fragmented, greatest}
use Rattle.statistics.specs.Statistics.{has_base, largest, no_statistics, counted, unless_refused, heap_statistics}
use Rattle.statistics.specs.Statistics.{no_quota_statistics, quota_counted, quota_unless_refused, quota_statistics}
use Rattle.statistics.specs.Tallies.{reach}

pub block : ℕ → ℕ → Block
block serial n = record { serial = serial; body = replicate n 0 }

-- 96 bytes: an object of 16 bytes, 24 free bytes, an object of 8, 16 bytes in quarantine and 16 free ones
pub heap : List ℕ
heap = render (block 1 16 ∷ block 0 16 ∷ block 2 8 ∷ block QUARANTINED 8 ∷ block 0 8 ∷ [])

-- quota 0 holds both objects, and quota 1 the first one too
pub hold : ℕ → ℕ → Hold
hold serial q = record { serial = serial; quota = q; count = 1 }

pub accounts : ℕ → Accounts
accounts left = record {
  quotas = record { grant = 100; remainder = left; permissions = 7 } ∷ record { grant = 50; remainder = 26; permissions = 7 }
      ∷ replicate (QUOTAS - 2) record { grant = 0; remainder = 0; permissions = 7 };
  last_serial = 5;
  holds = hold 1 0 ∷ hold 2 0 ∷ hold 1 1 ∷ replicate (HOLDS - 3) record { serial = 0; quota = 0; count = 0 };
  kind = 1;
  edition = 0;
}

pub count : ℕ → ℕ → BlockCount
count n b = record { blocks = n; bytes = b }

pub told : Statistics
told = record {
  refusal = 0;
  last_serial = 5;
  records = 3;
  free = count 2 40;
  live = count 2 40;
  quarantined = count 1 16;
  largest_free = 24;
  fragmented = 16;
  largest_8 = 16;
  largest_16 = 0;
  largest_32 = 0;
  largest_64 = 0;
}

-- rules 25.1 to 25.8: a state, the same with a remainder that is wrong by 1, and with a byte less
pub statistics_rows : (heap_statistics unit heap (accounts 60) ≡ told) × (heap_statistics unit heap (accounts 61) ≡ no_statistics 2)
    × (heap_statistics unit (take 95 heap) (accounts 60) ≡ no_statistics 1)
unfolding computing heap_statistics counted unless_refused count_of largest_free fragmented how_many most higher largest greatest has_base
    heap block accounts hold count told
statistics_rows = (refl, refl, refl)

pub quota_told : ℕ → ℕ → ℕ → ℕ → QuotaStatistics
quota_told grant left n m = record { refusal = 0; grant = grant; remaining = left; objects = n; shared = m }

-- rules 25.9 and 25.10: quotas that share an object, one without anything, and the first number that no quota has
pub quota_rows : (quota_statistics unit heap (accounts 60) 0 ≡ quota_told 100 60 2 1) × (quota_statistics unit heap (accounts 60) 1 ≡ quota_told 50 26 1 1)
    × (quota_statistics unit heap (accounts 60) 31 ≡ quota_told 0 0 0 0) × (quota_statistics unit heap (accounts 60) 32 ≡ no_quota_statistics 3)
    × (quota_statistics unit heap (accounts 61) 0 ≡ no_quota_statistics 2)
unfolding computing quota_statistics quota_counted quota_unless_refused how_many is_own is_shared shares heap block accounts hold quota_told
quota_rows = (refl, refl, refl, refl, refl)

-- rule 25.6: a heap of 64 free bytes, one with no free byte, and the lengths of unit 8 in edition 2
pub largest_rows : (map (largest unit (render (block 0 56 ∷ []))) (8 ∷ 16 ∷ 32 ∷ 64 ∷ []) ≡ 56 ∷ 0 ∷ 0 ∷ 0 ∷ [])
    × (map (largest unit (render (block 1 56 ∷ []))) (8 ∷ 16 ∷ 32 ∷ 64 ∷ []) ≡ 0 ∷ 0 ∷ 0 ∷ 0 ∷ [])
    × (largest unit_2 (render (block 1 8 ∷ block 0 40 ∷ [])) 8 ≡ 40)
unfolding computing largest greatest has_base block
largest_rows = (refl, refl, refl)

-- each limit of edition 1: the room that is one byte short of the first length in a unit, that length, the last length, and more
pub reach_rows : (map (λ r. reach r 8 1023) (7 ∷ 8 ∷ 15 ∷ 8183 ∷ 8184 ∷ 32760 ∷ []) ≡ 0 ∷ 8 ∷ 8 ∷ 8176 ∷ 8184 ∷ 8184 ∷ [])
    × (map (λ r. reach r 16 1023) (8191 ∷ 8192 ∷ 8207 ∷ 8208 ∷ 16368 ∷ 32752 ∷ []) ≡ 0 ∷ 8192 ∷ 8192 ∷ 8208 ∷ 16368 ∷ 16368 ∷ [])
    × (map (λ r. reach r 32 1023) (16383 ∷ 16384 ∷ 16415 ∷ 16416 ∷ 32735 ∷ 32736 ∷ []) ≡ 0 ∷ 16384 ∷ 16384 ∷ 16416 ∷ 32704 ∷ 32736 ∷ [])
    × (map (λ r. reach r 64 1023) (32704 ∷ 32767 ∷ []) ≡ 0 ∷ 0 ∷ [])
unfolding reach
reach_rows = (refl, refl, refl, refl)

-- and of edition 2
pub reach_2_rows : (map (λ r. reach r 8 511) (7 ∷ 8 ∷ 4087 ∷ 4088 ∷ 4096 ∷ []) ≡ 0 ∷ 8 ∷ 4080 ∷ 4088 ∷ 4088 ∷ [])
    × (map (λ r. reach r 16 511) (4095 ∷ 4096 ∷ 8175 ∷ 8176 ∷ 8192 ∷ []) ≡ 0 ∷ 4096 ∷ 8160 ∷ 8176 ∷ 8176 ∷ [])
    × (map (λ r. reach r 32 511) (8191 ∷ 8192 ∷ 16351 ∷ 16352 ∷ 16384 ∷ []) ≡ 0 ∷ 8192 ∷ 16320 ∷ 16352 ∷ 16352 ∷ [])
    × (map (λ r. reach r 64 511) (16383 ∷ 16384 ∷ 32703 ∷ 32704 ∷ []) ≡ 0 ∷ 16384 ∷ 32640 ∷ 32704 ∷ [])
unfolding reach
reach_2_rows = (refl, refl, refl, refl)
