-- Whether a record is a quota's own, and whether another quota has one for the same object, by what is read of it.
use Rattle.std.proofs.Common.{◌≡◌, ℕ, ◌<◌, true, false, eqb, List, refl, arith}
use Rattle.accounts.specs.declared.Hold.{Hold}
use Rattle.accounts.specs.Accounts.{HOLDS, zero_hold}
use Rattle.lists.specs.Lists.{all, any}
use Rattle.audit.specs.Keys.{well_formed}
use Rattle.audit.proofs.Records.{no_serial}
use Rattle.audit.proofs.Tables.{all_at}
use Rattle.words.specs.Words.{hold_in, serial_in, quota_in, holds_of}
use Rattle.words.proofs.Words.{holds_long, holds_at}
use Rattle.survey.specs.Survey.{shares}
use Rattle.survey.specs.Shares.{is_own, is_shared}
use Rattle.survey.proofs.Lowest.{serial_used}

module _ (words : List ℕ) (well : all well_formed (holds_of words) ≡ true) (q at : ℕ) (l : at < HOLDS) where
  well_at : well_formed (hold_in words at) ≡ true
  well_at = let long = holds_long words in rw (holds_at words at l) at (all_at well_formed zero_hold (holds_of words) well at (omega arith))

  pub own_unused : serial_in words at ≡ 0 → is_own q (hold_in words at) ≡ false
  unfolding is_own
  own_unused z = rw (no_serial (hold_in words at) well_at z)

  pub own_used : (serial_in words at ≡ 0 → ⊥) → is_own q (hold_in words at) ≡ eqb (quota_in words at) q
  unfolding is_own
  own_used n = rw (serial_used (hold_in words at) n)

-- another quota's record counts for a quota's own alone
module _ (hs : List Hold) (q : ℕ) (h : Hold) where
  pub shared_own : is_own q h ≡ false → is_shared hs q h ≡ false
  unfolding is_shared
  shared_own e = rw e refl

  pub shared_by : is_own q h ≡ true → is_shared hs q h ≡ any (shares h.serial q) hs
  unfolding is_shared
  shared_by e = rw e refl
