-- The numbers of a comparison's answer, and what a position's numbers mean.
use Rattle.std.specs.Prelude.{ℕ, cond, eqb, Option, Some, None}
use Rattle.comparison.specs.declared.Difference.{Difference}
use Rattle.comparison.specs.declared.Difference.TheVariants.{LastSerial, Kind, Edition, Quota as QuotaAt, Record as RecordAt, Bytes}
use Rattle.comparison.specs.declared.Which.{Which}
use Rattle.comparison.specs.declared.Which.TheVariants.{First, Second, Neither}
use Rattle.comparison.specs.declared.Position.{Position}
use Rattle.comparison.specs.declared.Position.TheVariants.{Start, Kind as FromKind, Edition as FromEdition, Quota, Record, Byte}
use Rattle.comparison.specs.Compare.{Compared, Advanced}
use Rattle.exports.specs.declared.comparisons.CompareReply.{CompareReply}
use Rattle.exports.specs.declared.comparisons.NextReply.{NextReply}

-- which image a refusal is about
abbrev pub which_number : Which → ℕ
which_number First = 1
which_number Second = 2
which_number Neither = 0

-- the kind of a difference, its place and its length
abbrev pub difference_number : Difference → ℕ
difference_number LastSerial = 1
difference_number Kind = 5
difference_number Edition = 6
difference_number (QuotaAt q) = 2
difference_number (RecordAt p) = 3
difference_number (Bytes at n) = 4

abbrev pub place_number : Difference → ℕ
place_number LastSerial = 0
place_number Kind = 0
place_number Edition = 0
place_number (QuotaAt q) = q
place_number (RecordAt p) = p
place_number (Bytes at n) = at

abbrev pub length_number : Difference → ℕ
length_number LastSerial = 0
length_number Kind = 0
length_number Edition = 0
length_number (QuotaAt q) = 0
length_number (RecordAt p) = 0
length_number (Bytes at n) = n

-- the reply of compare: zeros where there is no difference
abbrev pub reply_with : ℕ → ℕ → Option Difference → CompareReply
reply_with r w None = record { refusal = r; which = w; kind = 0; place = 0; length = 0 }
reply_with r w (Some d) = record { refusal = r; which = w; kind = difference_number d; place = place_number d; length = length_number d }

abbrev pub compare_reply : Compared → CompareReply
compare_reply c = reply_with c.refusal (which_number c.which) c.found

-- the position with these numbers: a part's number above 5 is read as 3
unfoldable pub position_of : ℕ → ℕ → Position
position_of part at =
    cond (eqb part 0) Start
    (cond (eqb part 1) (Quota at) (cond (eqb part 2) (Record at) (cond (eqb part 4) FromKind (cond (eqb part 5) FromEdition (Byte at)))))

abbrev pub part_number : Position → ℕ
part_number Start = 0
part_number FromKind = 4
part_number FromEdition = 5
part_number (Quota q) = 1
part_number (Record p) = 2
part_number (Byte at) = 3

abbrev pub place_in : Position → ℕ
place_in Start = 0
place_in FromKind = 0
place_in FromEdition = 0
place_in (Quota q) = q
place_in (Record p) = p
place_in (Byte at) = at

-- the reply of the next difference: its numbers and those of the position behind it, zeros where there is none
abbrev pub step_reply : ℕ → ℕ → Option (Difference × Position) → NextReply
step_reply r w (Some (d, p)) =
    record {
      refusal = r;
      which = w;
      kind = difference_number d;
      place = place_number d;
      length = length_number d;
      part = part_number p;
      at = place_in p;
    }
step_reply r w None = record { refusal = r; which = w; kind = 0; place = 0; length = 0; part = 0; at = 0 }

abbrev pub next_reply : Advanced → NextReply
next_reply c = step_reply c.refusal (which_number c.which) c.step
