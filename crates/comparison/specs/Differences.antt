-- What differs between two states, as a list (rules 14.2 to 14.6): the last serial, the kind, the edition, then quotas by number, hold records by place
-- and, at the end, runs of heap bytes by offset, each as long as can be.
use Rattle.std.specs.Prelude.{ℕ, suc, List, [], ◌∷◌, ◌++◌, map, Bool, cond, ◌&&◌, eqb}
use Rattle.accounts.specs.declared.Quota.{Quota}
use Rattle.accounts.specs.declared.Hold.{Hold}
use Rattle.accounts.specs.declared.Accounts.{Accounts}
use Rattle.image_model.specs.Reading.{heap_in, accounts_in}
use Rattle.comparison.specs.declared.Difference.{Difference}
use Rattle.comparison.specs.declared.Difference.TheVariants.{LastSerial, Kind, Edition, Quota as QuotaAt, Record as RecordAt, Bytes}

-- a heap and its accounts; and those that an image says
pub record State : Type 0 where
  pub heap : List ℕ
  pub accounts : Accounts

unfoldable pub state_in : List ℕ → State
state_in i = record { heap = heap_in i; accounts = accounts_in i }

-- two quotas and two records are the same if all their numbers are
unfoldable pub same_quota : Quota → Quota → Bool
same_quota x y = eqb x.grant y.grant && (eqb x.remainder y.remainder && eqb x.permissions y.permissions)

unfoldable pub same_record : Hold → Hold → Bool
same_record x y = eqb x.serial y.serial && (eqb x.quota y.quota && eqb x.count y.count)

-- a name, where two numbers are not the same
unfoldable pub number_part : Difference → ℕ → ℕ → List Difference
number_part d x y = cond (eqb x y) [] (d ∷ [])

-- the names of the items that are not the same, where the first has the number n
module _ {A : Type 0} (same : A → A → Bool) (name : ℕ → Difference) where
  unfoldable pub differing : ℕ → List A → List A → List Difference
  differing n [] ys = []
  differing n (x ∷ xs) [] = []
  differing n (x ∷ xs) (y ∷ ys) =
      let later = differing (suc n) xs ys in
      cond (same x y) later (name n ∷ later)

unfoldable pub quota_part : ℕ → List Quota → List Quota → List Difference
quota_part = differing same_quota QuotaAt

unfoldable pub record_part : ℕ → List Hold → List Hold → List Difference
record_part = differing same_record RecordAt

-- a run of bytes
pub record Run : Type 0 where
  pub offset : ℕ
  pub length : ℕ

-- the runs with one byte more, which differs and stands at this offset in front of them: it begins the first run, or is a run of its own
unfoldable pub extend : ℕ → List Run → List Run
extend at [] = record { offset = at; length = 1 } ∷ []
extend at (r ∷ rs) =
    let joined : List Run = record { offset = at; length = suc r.length } ∷ rs in
    let apart : List Run = record { offset = at; length = 1 } ∷ r ∷ rs in
    cond (eqb r.offset (suc at)) joined apart

-- the runs of bytes that differ, where the first byte has the offset at
unfoldable pub runs : ℕ → List ℕ → List ℕ → List Run
runs at [] ys = []
runs at (x ∷ xs) [] = []
runs at (x ∷ xs) (y ∷ ys) =
    let later = runs (suc at) xs ys in
    cond (eqb x y) later (extend at later)

abbrev pub bytes_of : Run → Difference
bytes_of r = Bytes r.offset r.length

unfoldable pub byte_part : ℕ → List ℕ → List ℕ → List Difference
byte_part at xs ys = map bytes_of (runs at xs ys)

-- everything that differs, in order
unfoldable pub differences : State → State → List Difference
differences a b =
    number_part LastSerial a.accounts.last_serial b.accounts.last_serial
    ++ (number_part Kind a.accounts.kind b.accounts.kind
    ++ (number_part Edition a.accounts.edition b.accounts.edition
    ++ (quota_part 0 a.accounts.quotas b.accounts.quotas
    ++ (record_part 0 a.accounts.holds b.accounts.holds
    ++ byte_part 0 a.heap b.heap))))
