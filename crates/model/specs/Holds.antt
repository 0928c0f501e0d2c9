-- What the calls do to hold records (rules 8.10 to 8.17); what free-all does is `drop_records` of `accounts`.
use Rattle.std.specs.Prelude.{ℕ, ◌+◌, ◌-◌, List, cond, eqb}
use Rattle.accounts.specs.declared.Hold.{Hold}
use Rattle.accounts.specs.Accounts.{zero_hold, unused, is_for}
use Rattle.lists.specs.Lists.{first, change_first, or_else}

-- the count of a quota's record for a serial, 0 where it has none
unfoldable pub count_of : ℕ → ℕ → List Hold → ℕ
count_of serial q hs = (or_else zero_hold (first (is_for serial q) hs)).count

abbrev pub with_count : ℕ → Hold → Hold
with_count n h = record { serial = h.serial; quota = h.quota; count = n }

-- rules 8.10 and 8.14: the first unused record becomes one of count 1
unfoldable pub take_record : ℕ → ℕ → List Hold → List Hold
take_record serial q hs = change_first unused (λ h. record { serial = serial; quota = q; count = 1 }) hs

-- rule 8.13: one hold more
unfoldable pub raise_count : ℕ → ℕ → List Hold → List Hold
raise_count serial q hs = change_first (is_for serial q) (λ h. with_count (h.count + 1) h) hs

-- rules 8.16 and 8.17: one hold less; the last one leaves a record of zeros
unfoldable pub less_one : Hold → Hold
less_one h = cond (eqb h.count 1) zero_hold (with_count (h.count - 1) h)

unfoldable pub lower_count : ℕ → ℕ → List Hold → List Hold
lower_count serial q hs = change_first (is_for serial q) less_one hs
