-- The definitions computed at small heaps, in form 1: two images in full, and each refusal of the writer and the reader on both sides of its line.
-- Form 2 is `FullRows`, heaps of the second kind are `KindRows`, and those of edition 2 `EditionRows`.
use mathlib.Core.Path.{◌≡◌, refl}
use mathlib.Core.List.{List, [], ◌∷◌, ◌++◌, map}
use Prim.Native.Nat.{ℕ, ◌-◌}
use lib.ListN.{take, set, get_or, replicate}
use Rattle.accounts.specs.declared.Accounts.{Accounts}
use Rattle.accounts.specs.declared.Quota.{Quota}
use Rattle.accounts.specs.declared.Hold.{Hold}
use Rattle.accounts.specs.Accounts.{QUOTAS, HOLDS, zero_quota, zero_hold, zero_accounts, with_permissions, with_quotas, with_holds, plain, opened}
use Rattle.framing.specs.Frames.{frame_of, cut_from, cut}
use Rattle.image_model.specs.Stream.{form_1, form_2, stream, image_of, image_length, head_length}
use Rattle.image_model.specs.Answers.{Imaged, RestoredTo}
use Rattle.image_model.specs.Images.{write_image, read_image, restore_image}
use Rattle.image_model.proofs.Computing.{computing}

-- a fresh heap
fresh : List ℕ
fresh = 8 ∷ replicate 63 0

fresh_accounts : Accounts
fresh_accounts = opened plain (100 ∷ 1000 ∷ replicate (QUOTAS - 2) 0)

-- an object of 8 bytes with the serial 1, which quotas 0 and 1 hold, in the records 0 and 53; the free block behind it ends with bytes that are not zero
unfoldable pub heap : List ℕ
heap = 2 ∷ 0 ∷ 0 ∷ 0 ∷ 1 ∷ 0 ∷ 0 ∷ 0 ∷ 1 ∷ 2 ∷ 3 ∷ 4 ∷ 5 ∷ 6 ∷ 7 ∷ 8 ∷ 6 ∷ 0 ∷ 2 ∷ replicate 37 0 ++ replicate 8 255

unfoldable pub quota : ℕ → ℕ → Quota
quota g r = record { grant = g; remainder = r; permissions = 7 }

unfoldable pub hold : ℕ → ℕ → ℕ → Hold
hold s q c = record { serial = s; quota = q; count = c }

accounts : Accounts
accounts =
    record {
      quotas = quota 100 84 ∷ quota 1000 984 ∷ replicate (QUOTAS - 2) (quota 0 0);
      last_serial = 1;
      holds = hold 1 0 1 ∷ replicate 52 zero_hold ++ (hold 1 1 3 ∷ replicate (HOLDS - 54) zero_hold);
      kind = 0;
      edition = 0;
    }

unfoldable pub small : Unit {0}
unfolding computing fresh fresh_accounts heap quota hold accounts
small = tt

-- both images: three frames, each with its number, the count and its check; the third has 156 bytes of the stream
fresh_image : image_of form_1 fresh fresh_accounts
    ≡ 0 ∷ 0 ∷ 3 ∷ 0 ∷ 1 ∷ 0 ∷ 0 ∷ 0 ∷ 64 ∷ replicate 7 0 ++ (100 ∷ 0 ∷ 0 ∷ 0 ∷ 100 ∷ 0 ∷ 0 ∷ 0 ∷ 232 ∷ 3 ∷ 0 ∷ 0 ∷ 232 ∷ 3 ∷ replicate 478 0 ++ (217 ∷ 8 ∷ 3 ∷ 0
    ∷ 1 ∷ 0 ∷ 3 ∷ replicate 505 0 ++ (1 ∷ 0 ∷ 3 ∷ 0
    ∷ 2 ∷ 0 ∷ 3 ∷ replicate 93 0 ++ (8 ∷ replicate 411 0 ++ (10 ∷ 0 ∷ 3 ∷ 0 ∷ [])))))
unfolding small
fresh_image = refl

-- record 53 has its serial at the end of frame 0, and its quota and count at the front of frame 1; the third check wraps
held_image : image_of form_1 heap accounts
    ≡ 0 ∷ 0 ∷ 3 ∷ 0 ∷ 1 ∷ 0 ∷ 0 ∷ 0 ∷ 64 ∷ 0 ∷ 0 ∷ 0 ∷ 1 ∷ 0 ∷ 0 ∷ 0 ∷ 100 ∷ 0 ∷ 0 ∷ 0 ∷ 84 ∷ 0 ∷ 0 ∷ 0 ∷ 232 ∷ 3 ∷ 0 ∷ 0 ∷ 216 ∷ 3 ∷ replicate 50 0
    ++ (1 ∷ 0 ∷ 0 ∷ 0 ∷ 0 ∷ 1 ∷ replicate 418 0 ++ (1 ∷ 0 ∷ 0 ∷ 0 ∷ 188 ∷ 9 ∷ 3 ∷ 0
    ∷ 1 ∷ 0 ∷ 3 ∷ 0 ∷ 1 ∷ 3 ∷ replicate 502 0 ++ (2 ∷ 3 ∷ 3 ∷ 0
    ∷ 2 ∷ 0 ∷ 3 ∷ replicate 93 0 ++ (heap ++ (replicate 348 0 ++ (15 ∷ 8 ∷ 15 ∷ 12 ∷ []))))))
unfolding small
held_image = refl

-- the lengths of both heads, and of images on both sides of a frame more
pub head_rows : (head_length form_1 ≡ 1100) × (head_length form_2 ≡ 4492)
unfolding small
head_rows = (refl, refl)

lengths : (image_length form_1 64 ≡ 1536) × (image_length form_1 412 ≡ 1536) × (image_length form_1 413 ≡ 2048) × (image_length form_1 32768 ≡ 34816)
    × (image_length form_2 64 ≡ 5120) × (image_length form_2 548 ≡ 5120) × (image_length form_2 549 ≡ 5632) × (image_length form_2 32768 ≡ 37888)
unfolding small
lengths = (refl, refl, refl, refl, refl, refl, refl, refl)

-- a lent buffer with bytes of its own
unfoldable pub lent : ℕ → List ℕ
lent n = replicate n 170

unfoldable pub written : List ℕ → ℕ → Imaged
written o n = record { image = o; refusal = 0; length = n }

unfoldable pub not_written : List ℕ → ℕ → Imaged
not_written o n = record { image = o; refusal = n; length = 0 }

-- the same accounts without a permission of the first quota, and of the last that form 1 carries
cleared_first : Accounts
cleared_first = with_quotas (set accounts.quotas 0 (with_permissions 3 (quota 100 84))) accounts

cleared_last : Accounts
cleared_last = with_quotas (set accounts.quotas 7 (with_permissions 6 (quota 0 0))) accounts

-- the writer: into as many bytes as the image has, into more, into fewer; 28 for a permission that is cleared; and 1 and 2 before 28 before 25
write_rows : (write_image form_1 (lent 1536) heap accounts ≡ written (image_of form_1 heap accounts) 1536)
    × (write_image form_1 (lent 1540) heap accounts ≡ written (image_of form_1 heap accounts ++ lent 4) 1536)
    × (write_image form_1 (lent 1535) heap accounts ≡ not_written (lent 1535) 25)
    × (write_image form_1 (lent 1536) heap cleared_first ≡ not_written (lent 1536) 28)
    × (write_image form_1 (lent 1536) heap cleared_last ≡ not_written (lent 1536) 28)
    × (write_image form_1 [] heap cleared_last ≡ not_written [] 28)
    × (write_image form_1 [] (replicate 56 0) cleared_last ≡ not_written [] 1)
    × (write_image form_1 [] (replicate 64 0) cleared_last ≡ not_written [] 2)
unfolding small lent written not_written cleared_first cleared_last
write_rows = (refl, refl, refl, refl, refl, refl, refl, refl)

-- 28 for a grant from quota 8 on, for a record from place 128 on, and for a permission that any quota lacks, right before 25 and behind 2
quotas_with : List Quota → Accounts
quotas_with qs = with_quotas qs accounts

granted_at : ℕ → Accounts
granted_at q = quotas_with (set accounts.quotas q (quota 5 5))

holder_at : ℕ → Accounts
holder_at i = with_holds (set (set accounts.holds 53 zero_hold) i (hold 1 1 3)) accounts

barred : ℕ → ℕ → Accounts
barred q p = quotas_with (set accounts.quotas q (with_permissions p (get_or accounts.quotas q zero_quota)))

refusal_of : List ℕ → Accounts → ℕ
refusal_of s k = (write_image form_1 [] s k).refusal

carried_rows : (map (refusal_of heap) (granted_at 7 ∷ granted_at 8 ∷ granted_at 31 ∷ []) ≡ 25 ∷ 28 ∷ 28 ∷ [])
    × (map (refusal_of heap) (holder_at 127 ∷ holder_at 128 ∷ holder_at 511 ∷ []) ≡ 25 ∷ 28 ∷ 28 ∷ [])
    × (map (refusal_of heap) (barred 0 6 ∷ barred 1 5 ∷ barred 7 3 ∷ barred 8 0 ∷ barred 31 6 ∷ barred 31 7 ∷ []) ≡ 28 ∷ 28 ∷ 28 ∷ 28 ∷ 28 ∷ 25 ∷ [])
    × (map (λ s. refusal_of s (barred 0 6)) (replicate 56 0 ∷ replicate 64 0 ∷ []) ≡ 1 ∷ 2 ∷ [])
unfolding small quotas_with granted_at holder_at barred refusal_of
carried_rows = (refl, refl, refl, refl)

-- the reader gives back what was written
read_rows : (read_image (image_of form_1 heap accounts) (lent 64) ≡ record { heap = heap; accounts = accounts; refusal = 0 })
    × (read_image (image_of form_1 fresh fresh_accounts) (lent 64) ≡ record { heap = fresh; accounts = fresh_accounts; refusal = 0 })
unfolding small lent
read_rows = (refl, refl)

-- restored where heap and accounts are in use: the image's, or those of before
restore_rows : (restore_image (image_of form_1 heap accounts) fresh fresh_accounts
    ≡ record { heap = heap; accounts = accounts; refusal = 0 })
    × (restore_image (image_of form_1 fresh fresh_accounts) heap accounts
    ≡ record { heap = fresh; accounts = fresh_accounts; refusal = 0 })
    × (restore_image [] heap accounts ≡ record { heap = heap; accounts = accounts; refusal = 21 })
    × (restore_image (image_of form_1 heap accounts) (lent 72) fresh_accounts
    ≡ record { heap = lent 72; accounts = fresh_accounts; refusal = 25 })
unfolding small lent
restore_rows = (refl, refl, refl, refl)

-- an image that is refused: the image, how many bytes of heap are lent, and the number
pub data Refused : Type 0 where
  ◌into◌is◌ : List ℕ → ℕ → ℕ → Refused

infix 5 ◌into◌is◌
unfoldable pub got : Refused → RestoredTo
got (i into n is r) = read_image i (lent n)

-- the lent heap as it was, and accounts of zeros
unfoldable pub wanted : Refused → RestoredTo
wanted (i into n is r) = record { heap = lent n; accounts = zero_accounts; refusal = r }

-- the image and its stream; and the image of a stream with another byte at a place
image : List ℕ
image = image_of form_1 heap accounts

carried : List ℕ
carried = stream form_1 heap accounts

but : ℕ → ℕ → List ℕ
but at b = cut (set carried at b)

refused : List Refused
refused =
    -- 21: no bytes, a byte too few, a byte too many
    ([] into 64 is 21)
    ∷ (take 1535 image into 64 is 21)
    ∷ (image ++ (0 ∷ []) into 64 is 21)
    -- 22: a byte of the stream, of the check; frames numbered from 1; another count; a frame behind; a frame missing; the same before 23
    ∷ (set image 600 9 into 64 is 22)
    ∷ (set image 1535 9 into 64 is 22)
    ∷ (cut_from 3 1 3 carried into 64 is 22)
    ∷ (cut_from 3 0 4 carried into 64 is 22)
    ∷ (image ++ frame_of 3 3 [] into 64 is 22)
    ∷ (take 1024 image into 64 is 22)
    ∷ (set (but 0 3) 1535 9 into 64 is 22)
    -- 23: another form in each byte, a byte behind it, also where the heap's length is wrong
    ∷ (but 0 0 into 64 is 23)
    ∷ (but 0 3 into 64 is 23)
    ∷ (but 1 1 into 64 is 23)
    ∷ (but 2 1 into 64 is 23)
    ∷ (but 3 1 into 64 is 23)
    ∷ (cut (set (set carried 3 1) 4 65) into 64 is 23)
    -- 24: form 2 with too few frames for it; a heap length that is not allowed; one with other frames; a frame too many; a byte behind the heap; spare
    -- bytes of the first and the last record, also where the lent heap has another length and the accounts are not consistent
    ∷ (but 0 2 into 64 is 24)
    ∷ (but 4 65 into 65 is 24)
    ∷ (but 4 56 into 56 is 24)
    ∷ (but 5 128 into 64 is 24)
    ∷ (but 5 2 into 576 is 24)
    ∷ (cut_from 4 0 4 carried into 64 is 24)
    ∷ (cut (carried ++ (9 ∷ [])) into 64 is 24)
    ∷ (cut_from 3 0 3 (carried ++ (replicate 347 0 ++ (9 ∷ []))) into 64 is 24)
    ∷ (but 82 9 into 64 is 24)
    ∷ (but 1099 9 into 64 is 24)
    ∷ (cut (set (set carried 82 9) 80 8) into 72 is 24)
    -- 25: a lent heap that is longer or shorter; another length that is allowed and has as many frames; also where the accounts are not consistent
    ∷ (image into 72 is 25)
    ∷ (image into 63 is 25)
    ∷ (but 4 72 into 64 is 25)
    ∷ (but 80 8 into 72 is 25)
    -- 26: that length with a heap of that length; a record that is used and says nothing, a quota with no grant, one that there is not, a remainder
    -- that is too high
    ∷ (but 4 72 into 72 is 26)
    ∷ (but 96 3 into 64 is 26)
    ∷ (but 80 8 into 64 is 26)
    ∷ (but 80 32 into 64 is 26)
    ∷ (but 16 85 into 64 is 26)
    ∷ []

refused_rows : map got refused ≡ map wanted refused
unfolding small lent got wanted image carried but refused
refused_rows = refl
