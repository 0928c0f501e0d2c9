-- Hold records as keys: a record's serial and quota as one number, 0 for an unused record. A key that a live block strikes becomes 0.
use Rattle.std.specs.Prelude.{ℕ, suc, ◌+◌, ◌-◌, ◌*◌, ◌/◌, ◌%◌, List, [], ◌∷◌, map, Bool, not, cond, ◌&&◌, ◌||◌}
use Rattle.std.specs.Prelude.{get_or, set, replicate, ltb, leb, eqb, Option, Some, None}
use Rattle.accounts.specs.declared.Hold.{Hold}
use Rattle.accounts.specs.Accounts.{QUOTAS, used}

-- a record is unused, or it has a serial, a quota below QUOTAS and a count of at least 1
unfoldable pub well_formed : Hold → Bool
well_formed h = not (used h) || (leb 1 h.serial && (ltb h.quota QUOTAS && leb 1 h.count))

-- the key of a well-formed record, and the serial and the quota of a key
abbrev pub key_of : Hold → ℕ
key_of h = h.serial * QUOTAS + h.quota

abbrev pub keys_of : List Hold → List ℕ
keys_of hs = map key_of hs

abbrev pub serial_of : ℕ → ℕ
serial_of key = key / QUOTAS

abbrev pub quota_of : ℕ → ℕ
quota_of key = key % QUOTAS

abbrev pub for_serial : ℕ → ℕ → Bool
for_serial serial key = eqb (serial_of key) serial

-- the keys of a serial are struck; how many there are
unfoldable pub strike : ℕ → List ℕ → List ℕ
strike serial ks = map (λ k. cond (for_serial serial k) 0 k) ks

unfoldable pub struck : ℕ → List ℕ → ℕ
struck serial [] = 0
struck serial (k ∷ ks) =
    let rest = struck serial ks in
    cond (for_serial serial k) (suc rest) rest

-- while one object is paid for: not 0 for each quota that has paid, and what each quota owes
pub record Payment : Type 0 where
  pub seen : List ℕ
  pub owed : List ℕ

-- a quota that has paid already, or that owes less than the charge
unfoldable pub cannot_pay : ℕ → ℕ → Payment → Bool
cannot_pay charge q p = not (eqb (get_or p.seen q 0) 0) || ltb (get_or p.owed q 0) charge

abbrev pub pays : ℕ → ℕ → Payment → Payment
pays charge q p = record { seen = set p.seen q 1; owed = set p.owed q (get_or p.owed q 0 - charge) }

unfoldable pub pay_one : ℕ → ℕ → Option Payment → Option Payment
pay_one charge q None = None
pay_one charge q (Some p) = cond (cannot_pay charge q p) None (Some (pays charge q p))

-- the quota of each key of a serial pays; none where one cannot
unfoldable pub pay : ℕ → ℕ → List ℕ → Option Payment → Option Payment
pay serial charge [] p = p
pay serial charge (k ∷ ks) p = pay serial charge ks (cond (for_serial serial k) (pay_one charge (quota_of k) p) p)

-- before the first has paid
abbrev pub unpaid : List ℕ → Payment
unpaid owed = record { seen = replicate QUOTAS 0; owed = owed }
