-- A reply's numbers say everything: what an answer was can be read from them, so no two answers give the same reply; and a position's numbers are
-- read as that position.
use Prim.Native.Nat.{ℕ}
use mathlib.Core.Path.{◌≡◌, refl, ap, sym, ◌∙◌}
use mathlib.Core.List.{[], ◌∷◌}
use Rattle.std.specs.Prelude.{Option, Some, None}
use lib.ListN.{get_or}
use Rattle.comparison.specs.declared.Difference.{Difference}
use Rattle.comparison.specs.declared.Difference.TheVariants.{LastSerial, Kind, Edition, Quota as QuotaAt, Record as RecordAt, Bytes}
use Rattle.comparison.specs.declared.Which.{Which}
use Rattle.comparison.specs.declared.Which.TheVariants.{First, Second, Neither}
use Rattle.comparison.specs.declared.Position.{Position}
use Rattle.comparison.specs.declared.Position.TheVariants.{Start, Kind as FromKind, Edition as FromEdition, Quota, Record, Byte}
use Rattle.comparison.specs.Compare.{Compared, Advanced}
use Rattle.exports.specs.ComparisonReplies.{which_number, difference_number, place_number, length_number, reply_with, compare_reply, position_of}
use Rattle.exports.specs.ComparisonReplies.{part_number, place_in, step_reply, next_reply}
use Rattle.exports.specs.declared.comparisons.CompareReply.{CompareReply}
use Rattle.exports.specs.declared.comparisons.NextReply.{NextReply}

-- from numbers, the difference, the image, the position
abbrev difference_from : ℕ → ℕ → ℕ → Option Difference
difference_from k p n = get_or (None ∷ Some LastSerial ∷ Some (QuotaAt p) ∷ Some (RecordAt p) ∷ Some (Bytes p n) ∷ Some Kind ∷ Some Edition ∷ []) k None

difference_back : (d : Difference) → difference_from (difference_number d) (place_number d) (length_number d) ≡ Some d
difference_back LastSerial = refl
difference_back Kind = refl
difference_back Edition = refl
difference_back (QuotaAt q) = refl
difference_back (RecordAt p) = refl
difference_back (Bytes at n) = refl

abbrev which_from : ℕ → Which
which_from n = get_or (Neither ∷ First ∷ Second ∷ []) n Neither

which_back : (w : Which) → which_from (which_number w) ≡ w
which_back First = refl
which_back Second = refl
which_back Neither = refl

-- so no two outcomes of compare give the same reply
abbrev compared_from : CompareReply → Compared
compared_from r = record { refusal = r.refusal; which = which_from r.which; found = difference_from r.kind r.place r.length }

compared_back : (n : ℕ) (w : Which) (o : Option Difference) → compared_from (reply_with n (which_number w) o) ≡ record { refusal = n; which = w; found = o }
compared_back n w None = λ i. record { refusal = n; which = which_back w i; found = None }
compared_back n w (Some d) = λ i. record { refusal = n; which = which_back w i; found = difference_back d i }

pub compare_reply_injective : (a b : Compared) → compare_reply a ≡ compare_reply b → a ≡ b
compare_reply_injective a b e =
    sym (compared_back a.refusal a.which a.found) ∙ ap compared_from e ∙ compared_back b.refusal b.which b.found

-- a position's numbers are read as that position
pub position_back : (p : Position) → position_of (part_number p) (place_in p) ≡ p
unfolding position_of
position_back Start = refl
position_back FromKind = refl
position_back FromEdition = refl
position_back (Quota q) = refl
position_back (Record p) = refl
position_back (Byte at) = refl

-- and no two outcomes of the next difference give the same reply
step_from : Option Difference → Position → Option (Difference × Position)
step_from None p = None
step_from (Some d) p = Some (d, p)

abbrev advanced_from : NextReply → Advanced
advanced_from r =
    record {
      refusal = r.refusal;
      which = which_from r.which;
      step = step_from (difference_from r.kind r.place r.length) (position_of r.part r.at);
    }

advanced_back : (n : ℕ) (w : Which) (s : Option (Difference × Position))
    → advanced_from (step_reply n (which_number w) s) ≡ record { refusal = n; which = w; step = s }
unfolding step_from
advanced_back n w (Some (d, p)) = λ i.
    record { refusal = n; which = which_back w i; step = step_from (difference_back d i) (position_back p i) }
advanced_back n w None = λ i. record { refusal = n; which = which_back w i; step = None }

pub next_reply_injective : (a b : Advanced) → next_reply a ≡ next_reply b → a ≡ b
next_reply_injective a b e =
    sym (advanced_back a.refusal a.which a.step) ∙ ap advanced_from e
    ∙ advanced_back b.refusal b.which b.step
