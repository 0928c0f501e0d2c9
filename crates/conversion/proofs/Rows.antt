-- Moves computed at a small heap: what is written either way, and each refusal on both sides of its line.
use mathlib.Core.Path.{◌≡◌, refl}
use mathlib.Core.List.{List, [], ◌∷◌, ◌++◌, map}
use Prim.Native.Nat.{ℕ, ◌-◌}
use lib.ListN.{set, replicate}
use Rattle.accounts.specs.declared.Accounts.{Accounts}
use Rattle.accounts.specs.Accounts.{QUOTAS, HOLDS, zero_hold, with_permissions, with_quotas, with_holds, with_kind, with_edition}
use Rattle.framing.specs.Frames.{cut}
use Rattle.image_model.specs.Stream.{form_1, form_2, stream, image_of}
use Rattle.image_model.proofs.Rows.{heap, quota, hold, lent, written, not_written, small}
use Rattle.conversion.specs.Moves.{line_from, move_lines, moved, move_up, move_down}

-- an object that quotas 0 and 7 hold, by records 3 and 127
accounts : Accounts
accounts =
    record {
      quotas = quota 100 84 ∷ replicate 6 (quota 0 0) ++ (quota 50 34 ∷ replicate (QUOTAS - 8) (quota 0 0));
      last_serial = 1;
      holds = replicate 3 zero_hold ++ (hold 1 0 1 ∷ replicate 123 zero_hold ++ (hold 1 7 2 ∷ replicate (HOLDS - 128) zero_hold));
      kind = 0;
      edition = 0;
    }

-- its images, and those of their streams with another byte at a place
first : List ℕ
first = image_of form_1 heap accounts

second : List ℕ
second = image_of form_2 heap accounts

first_but : ℕ → ℕ → List ℕ
first_but at b = cut (set (stream form_1 heap accounts) at b)

second_but : ℕ → ℕ → List ℕ
second_but at b = cut (set (stream form_2 heap accounts) at b)

moving : Unit {0}
unfolding small lent written not_written line_from move_lines moved accounts first second first_but second_but
moving = tt

-- up and down, into as many bytes as the image has and into more
move_rows : (move_up first (lent 5120) ≡ written second 5120)
    × (move_up first (lent 5123) ≡ written (second ++ lent 3) 5120)
    × (move_down second (lent 1536) ≡ written first 1536)
    × (move_down second (lent 1539) ≡ written (first ++ lent 3) 1536)
unfolding moving
move_rows = (refl, refl, refl, refl)

-- a refusal leaves the lent bytes
refused_rows : (move_up first (lent 5119) ≡ not_written (lent 5119) 25)
    × (move_up second (lent 5120) ≡ not_written (lent 5120) 23)
    × (move_down second (lent 1535) ≡ not_written (lent 1535) 25)
    × (move_down first (lent 1536) ≡ not_written (lent 1536) 23)
unfolding moving
refused_rows = (refl, refl, refl, refl)

up : List ℕ → ℕ
up i = (move_up i []).refusal

down : List ℕ → ℕ
down i = (move_down i []).refusal

-- up: no bytes; a byte changed in a frame; another number, the other form's number, each byte behind it; a spare byte of the first record; a remainder that is
-- too high; and nothing but the room
up_rows : map up ([] ∷ set first 600 9 ∷ first_but 0 3 ∷ first_but 0 2 ∷ first_but 2 1 ∷ first_but 3 1 ∷ first_but 82 9 ∷ first_but 16 85 ∷ first ∷ [])
    ≡ 21 ∷ 22 ∷ 23 ∷ 23 ∷ 23 ∷ 23 ∷ 24 ∷ 26 ∷ 25 ∷ []
unfolding moving up
up_rows = refl

-- an image of the other form is refused so behind 21 and 22, and before 24, 26 and 25
other_rows : (map up (set second 600 9 ∷ second_but 20 8 ∷ second_but 16 85 ∷ []) ≡ 22 ∷ 23 ∷ 23 ∷ [])
    × (map down ([] ∷ set first 600 9 ∷ first_but 82 9 ∷ first_but 16 85 ∷ []) ≡ 21 ∷ 22 ∷ 23 ∷ 23 ∷ [])
unfolding moving up down
other_rows = (refl, refl)

-- the same accounts with a permission cleared, with a grant of quota 8, with a record at place 128, of the second kind, of edition 2
barred : Accounts
barred = with_quotas (set accounts.quotas 31 (with_permissions 3 (quota 0 0))) accounts

granted_8 : Accounts
granted_8 = with_quotas (set accounts.quotas 8 (quota 5 5)) accounts

held_128 : Accounts
held_128 = with_holds (set (set accounts.holds 127 zero_hold) 128 (hold 1 7 2)) accounts

waiting : Accounts
waiting = with_kind 1 accounts

edited : Accounts
edited = with_edition 1 accounts

-- down: 28 before 25, and 26 before both; no third kind and no third edition
down_rows : map down
    (second_but 0 1 ∷ second_but 3 2 ∷ second_but 2 2 ∷ second_but 2 255 ∷ second_but 20 8 ∷ second_but 16 85
    ∷ image_of form_2 heap barred ∷ image_of form_2 heap granted_8 ∷ image_of form_2 heap held_128 ∷ image_of form_2 heap waiting ∷ second_but 3 1
    ∷ image_of form_2 heap edited ∷ second_but 2 1
    ∷ cut (set (stream form_2 heap barred) 16 85) ∷ cut (set (stream form_2 heap waiting) 16 85)
    ∷ cut (set (stream form_2 heap edited) 16 85) ∷ second ∷ [])
    ≡ 23 ∷ 23 ∷ 23 ∷ 23 ∷ 24 ∷ 26 ∷ 28 ∷ 28 ∷ 28 ∷ 28 ∷ 28 ∷ 28 ∷ 28 ∷ 26 ∷ 26 ∷ 26 ∷ 25 ∷ []
unfolding moving down barred granted_8 held_128 waiting edited
down_rows = refl
