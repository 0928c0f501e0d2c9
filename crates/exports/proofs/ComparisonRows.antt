-- The numbers of every kind of answer, computed.
use mathlib.Core.Path.{◌≡◌, refl}
use mathlib.Core.List.{[], ◌∷◌, map}
use Prim.Native.Nat.{ℕ}
use Rattle.comparison.specs.declared.Difference.TheVariants.{LastSerial, Kind, Edition, Quota as QuotaAt, Record as RecordAt, Bytes}
use Rattle.comparison.specs.declared.Which.TheVariants.{First, Second, Neither}
use Rattle.comparison.specs.declared.Position.TheVariants.{Start, Kind as FromKind, Edition as FromEdition, Quota, Record, Byte}
use Rattle.std.specs.Prelude.{Some, None}
use Rattle.exports.specs.ComparisonReplies.{compare_reply, position_of, next_reply}
use Rattle.exports.specs.declared.comparisons.CompareReply.{CompareReply}
use Rattle.exports.specs.declared.comparisons.NextReply.{NextReply}

reply : ℕ → ℕ → ℕ → ℕ → ℕ → CompareReply
reply r w k p n = record { refusal = r; which = w; kind = k; place = p; length = n }

compare_rows : map compare_reply
    (record { refusal = 0; which = Neither; found = None }
    ∷ record { refusal = 0; which = Neither; found = Some LastSerial }
    ∷ record { refusal = 0; which = Neither; found = Some Kind }
    ∷ record { refusal = 0; which = Neither; found = Some Edition }
    ∷ record { refusal = 0; which = Neither; found = Some (QuotaAt 7) }
    ∷ record { refusal = 0; which = Neither; found = Some (RecordAt 511) }
    ∷ record { refusal = 0; which = Neither; found = Some (Bytes 8 24) }
    ∷ record { refusal = 22; which = First; found = None }
    ∷ record { refusal = 26; which = Second; found = None }
    ∷ record { refusal = 27; which = Neither; found = None }
    ∷ record { refusal = 29; which = Neither; found = None }
    ∷ [])
    ≡ reply 0 0 0 0 0 ∷ reply 0 0 1 0 0 ∷ reply 0 0 5 0 0 ∷ reply 0 0 6 0 0 ∷ reply 0 0 2 7 0 ∷ reply 0 0 3 511 0 ∷ reply 0 0 4 8 24
    ∷ reply 22 1 0 0 0 ∷ reply 26 2 0 0 0 ∷ reply 27 0 0 0 0 ∷ reply 29 0 0 0 0 ∷ []
unfolding reply
compare_rows = refl

position_rows : (position_of 0 5 ≡ Start) × (position_of 1 5 ≡ Quota 5) × (position_of 2 5 ≡ Record 5) × (position_of 3 5 ≡ Byte 5)
    × (position_of 4 5 ≡ FromKind) × (position_of 5 5 ≡ FromEdition) × (position_of 6 5 ≡ Byte 5)
unfolding position_of
position_rows = (refl, refl, refl, refl, refl, refl, refl)

next : ℕ → ℕ → ℕ → ℕ → ℕ → NextReply
next k p n part at = record { refusal = 0; which = 0; kind = k; place = p; length = n; part = part; at = at }

next_rows : map (λ s. next_reply (record { refusal = 0; which = Neither; step = s }))
    (None ∷ Some (LastSerial, FromKind) ∷ Some (Kind, FromEdition) ∷ Some (Edition, Quota 0)
    ∷ Some (QuotaAt 7, Quota 8) ∷ Some (RecordAt 3, Record 4) ∷ Some (Bytes 8 24, Byte 32) ∷ [])
    ≡ next 0 0 0 0 0 ∷ next 1 0 0 4 0 ∷ next 5 0 0 5 0 ∷ next 6 0 0 1 0 ∷ next 2 7 0 1 8 ∷ next 3 3 0 2 4 ∷ next 4 8 24 3 32 ∷ []
unfolding next
next_rows = refl

not_next : ℕ → ℕ → NextReply
not_next r w = record { refusal = r; which = w; kind = 0; place = 0; length = 0; part = 0; at = 0 }

not_next_rows : map next_reply
    (record { refusal = 22; which = First; step = None }
    ∷ record { refusal = 26; which = Second; step = None }
    ∷ record { refusal = 29; which = Neither; step = None }
    ∷ [])
    ≡ not_next 22 1 ∷ not_next 26 2 ∷ not_next 29 0 ∷ []
unfolding not_next
not_next_rows = refl
