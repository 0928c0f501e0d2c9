-- The same list from a position on, so that one difference can be asked for after the other (rules 14.11 to 14.13).
use Rattle.std.specs.Prelude.{ℕ, zero, suc, ◌+◌, List, [], ◌∷◌, ◌++◌, drop, Option, Some, None}
use Rattle.comparison.specs.Differences.{State, number_part, quota_part, record_part, byte_part, differences}
use Rattle.comparison.specs.declared.Difference.{Difference}
use Rattle.comparison.specs.declared.Difference.TheVariants.{LastSerial, Kind, Edition, Quota as QuotaAt, Record as RecordAt, Bytes}
use Rattle.comparison.specs.declared.Position.{Position}
use Rattle.comparison.specs.declared.Position.TheVariants.{Start, Kind as FromKind, Edition as FromEdition, Quota, Record, Byte}

-- the bytes from an offset on; the records from a place on, then all bytes; the quotas from a number on, then all records and bytes; the edition
-- and the kind, then all behind it
module _ (a b : State) where
  unfoldable pub from_byte : ℕ → List Difference
  from_byte at = byte_part at (drop at a.heap) (drop at b.heap)

  unfoldable pub from_record : ℕ → List Difference
  from_record p = record_part p (drop p a.accounts.holds) (drop p b.accounts.holds) ++ from_byte 0

  unfoldable pub from_quota : ℕ → List Difference
  from_quota q = quota_part q (drop q a.accounts.quotas) (drop q b.accounts.quotas) ++ from_record 0

  unfoldable pub from_edition : List Difference
  from_edition = number_part Edition a.accounts.edition b.accounts.edition ++ from_quota 0

  unfoldable pub from_kind : List Difference
  from_kind = number_part Kind a.accounts.kind b.accounts.kind ++ from_edition

unfoldable pub differences_from : Position → State → State → List Difference
differences_from Start a b = differences a b
differences_from FromKind a b = from_kind a b
differences_from FromEdition a b = from_edition a b
differences_from (Quota q) a b = from_quota a b q
differences_from (Record p) a b = from_record a b p
differences_from (Byte at) a b = from_byte a b at

-- the position behind a difference
unfoldable pub behind : Difference → Position
behind LastSerial = FromKind
behind Kind = FromEdition
behind Edition = Quota 0
behind (QuotaAt q) = Quota (q + 1)
behind (RecordAt p) = Record (p + 1)
behind (Bytes at n) = Byte (at + n)

-- the first of a list of differences, with the position behind it
unfoldable pub first_of : List Difference → Option (Difference × Position)
first_of [] = None
first_of (d ∷ ds) = Some (d, behind d)

unfoldable pub next_of : Position → State → State → Option (Difference × Position)
next_of p a b = first_of (differences_from p a b)

-- what is made of an answer, nothing where there is no difference
unfoldable pub with_answer : Option (Difference × Position) → (Difference → Position → List Difference) → List Difference
with_answer None f = []
with_answer (Some (d, p)) f = f d p

-- what so many questions give, each from the position behind the answer before
unfoldable pub asked : ℕ → Position → State → State → List Difference
asked zero p a b = []
asked (suc n) p a b = with_answer (next_of p a b) (λ d q. d ∷ asked n q a b)
