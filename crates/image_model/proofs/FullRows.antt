-- The definitions computed at a small heap, in form 2: the head in full and each frame's check, what is written and read, and each refusal of the reader
-- on both sides of its line. Form 1 is `Rows`.
use mathlib.Core.Path.{◌≡◌, refl}
use mathlib.Core.List.{List, [], ◌∷◌, ◌++◌, map}
use Prim.Native.Nat.{ℕ, zero, suc, ◌+◌, ◌*◌, ◌-◌}
use lib.ListN.{take, drop, set, get_or, replicate}
use Rattle.accounts.specs.declared.Accounts.{Accounts}
use Rattle.accounts.specs.Accounts.{QUOTAS, HOLDS, zero_quota, zero_hold, with_permissions}
use Rattle.layout.specs.Bytes.{number}
use Rattle.framing.specs.Frames.{cut_from, cut}
use Rattle.image_model.specs.Stream.{form_1, form_2, head_of, stream, image_of}
use Rattle.image_model.specs.Images.{write_image, read_image}
use Rattle.image_model.proofs.Rows.{heap, quota, hold, lent, written, not_written, Refused, ◌into◌is◌, got, wanted, small}

-- quota 0 may not allocate, the last quota has a grant and no permission, and the last record is used
accounts : Accounts
accounts =
    record {
      quotas = with_permissions 6 (quota 100 84) ∷ quota 1000 984 ∷ replicate (QUOTAS - 3) (quota 0 0) ++ (with_permissions 0 (quota 5 5) ∷ []);
      last_serial = 1;
      holds = hold 1 0 1 ∷ replicate (HOLDS - 2) zero_hold ++ (hold 1 1 3 ∷ []);
      kind = 0;
      edition = 0;
    }

times : ℕ → List ℕ → List ℕ
times zero s = []
times (suc n) s = s ++ times n s

-- number and marks, heap length, last serial, entries, records
head_row : head_of form_2 64 accounts
    ≡ 2 ∷ 0 ∷ 0 ∷ 0 ∷ 64 ∷ 0 ∷ 0 ∷ 0 ∷ 1 ∷ 0 ∷ 0 ∷ 0
    ∷ 100 ∷ 0 ∷ 0 ∷ 0 ∷ 84 ∷ 0 ∷ 0 ∷ 0 ∷ 6 ∷ 0 ∷ 0 ∷ 0 ∷ 232 ∷ 3 ∷ 0 ∷ 0 ∷ 216 ∷ 3 ∷ 0 ∷ 0 ∷ 7 ∷ 0 ∷ 0 ∷ 0
    ∷ times 29 (replicate 8 0 ++ (7 ∷ 0 ∷ 0 ∷ 0 ∷ [])) ++ (5 ∷ 0 ∷ 0 ∷ 0 ∷ 5 ∷ replicate 7 0
    ++ (1 ∷ 0 ∷ 0 ∷ 0 ∷ 0 ∷ 1 ∷ replicate 4082 0 ++ (1 ∷ 0 ∷ 0 ∷ 0 ∷ 1 ∷ 3 ∷ 0 ∷ 0 ∷ [])))
unfolding small accounts times
head_row = refl

image : List ℕ
image = image_of form_2 heap accounts

carried : List ℕ
carried = stream form_2 heap accounts

check_row : map (λ b. number (take 4 (drop (512 * b + 508) image))) (0 ∷ 1 ∷ 2 ∷ 3 ∷ 4 ∷ 5 ∷ 6 ∷ 7 ∷ 8 ∷ 9 ∷ [])
    ≡ 658078 ∷ 655361 ∷ 655362 ∷ 655363 ∷ 655364 ∷ 655365 ∷ 655366 ∷ 655367 ∷ 202771225 ∷ 655367 ∷ []
unfolding small accounts image
check_row = refl

but : ℕ → ℕ → List ℕ
but at b = cut (set carried at b)

-- form 2 carries what form 1 does not
write_rows : (write_image form_2 (lent 5120) heap accounts ≡ written image 5120)
    × (write_image form_2 (lent 5122) heap accounts ≡ written (image ++ lent 2) 5120)
    × (write_image form_2 (lent 5119) heap accounts ≡ not_written (lent 5119) 25)
    × (write_image form_1 (lent 5120) heap accounts ≡ not_written (lent 5120) 28)
    × (write_image form_2 [] (replicate 56 0) accounts ≡ not_written [] 1)
    × (write_image form_2 [] (replicate 64 0) accounts ≡ not_written [] 2)
unfolding small accounts image lent written not_written
write_rows = (refl, refl, refl, refl, refl, refl)

-- the reader gives back what was written, and the permissions that an entry says
permissions_of : List ℕ → ℕ → ℕ
permissions_of i q = (get_or (read_image i (lent 64)).accounts.quotas q zero_quota).permissions

read_rows : (read_image image (lent 64) ≡ record { heap = heap; accounts = accounts; refusal = 0 })
    × (map (permissions_of (but 392 7)) (0 ∷ 30 ∷ 31 ∷ []) ≡ 6 ∷ 7 ∷ 7 ∷ [])
unfolding small accounts image carried but lent permissions_of
read_rows = (refl, refl)

refused : List Refused
refused =
    -- 23: another form, a byte behind it; 24: form 1 with too many frames for it
    (but 0 3 into 64 is 23)
    ∷ (but 1 1 into 64 is 23)
    ∷ (but 2 2 into 64 is 23)
    ∷ (but 3 2 into 64 is 23)
    ∷ (but 0 1 into 64 is 24)
    -- 24: permissions above 7 of the first quota and the last; each byte behind them; spare bytes of the first record and the last; a frame too many;
    -- a byte behind the heap; the same where the lent heap has another length
    ∷ (but 20 8 into 64 is 24)
    ∷ (but 392 8 into 64 is 24)
    ∷ (but 21 1 into 64 is 24)
    ∷ (but 22 1 into 64 is 24)
    ∷ (but 395 1 into 64 is 24)
    ∷ (but 402 9 into 64 is 24)
    ∷ (but 4491 9 into 64 is 24)
    ∷ (cut_from 11 0 11 carried into 64 is 24)
    ∷ (cut (carried ++ (9 ∷ [])) into 64 is 24)
    ∷ (but 20 8 into 72 is 24)
    -- 25: a lent heap that is longer; 26: a remainder that is too high, a quota that there is not
    ∷ (image into 72 is 25)
    ∷ (but 16 85 into 64 is 26)
    ∷ (but 400 32 into 64 is 26)
    ∷ []

refused_rows : map got refused ≡ map wanted refused
unfolding small lent got wanted accounts image carried but refused
refused_rows = refl
