-- The definitions computed at heaps of the second kind, in both forms: what is written and read, and the refusals on both sides of their lines.
use mathlib.Core.Path.{◌≡◌, refl}
use mathlib.Core.List.{List, [], ◌∷◌, ◌++◌, map}
use Prim.Native.Nat.{ℕ, ◌-◌}
use lib.ListN.{take, drop, replicate}
use Rattle.accounts.specs.declared.Accounts.{Accounts}
use Rattle.accounts.specs.Accounts.{QUOTAS, with_kind, with_last_serial, plain, opened}
use Rattle.layout.specs.Bytes.{overwrite}
use Rattle.framing.specs.Frames.{cut}
use Rattle.image_model.specs.Stream.{form_1, form_2, head_of, stream, image_of}
use Rattle.image_model.specs.Images.{write_image, read_image}
use Rattle.image_model.proofs.Rows.{small, lent, written, not_written, Refused, ◌into◌is◌, got, wanted}

-- two quarantined blocks of 16 bytes and a free one; and a free block alone
unfoldable pub waiting : List ℕ
waiting = 2 ∷ 0 ∷ 0 ∷ 0 ∷ replicate 4 255 ++ (replicate 8 0 ++ (2 ∷ 0 ∷ 2 ∷ 0 ∷ replicate 4 255 ++ (replicate 8 9 ++ (4 ∷ 0 ∷ 2 ∷ replicate 29 0))))

unfoldable pub empty : List ℕ
empty = 8 ∷ replicate 63 0

-- nothing is held, in a heap of a kind
unfoldable pub of_kind : ℕ → Accounts
of_kind n = with_kind n (with_last_serial 7 (opened plain (100 ∷ replicate (QUOTAS - 1) 0)))

-- byte 3 is the kind in form 2, and zero in form 1
head_rows : (map (λ n. take 12 (head_of form_2 64 (of_kind n))) (0 ∷ 1 ∷ [])
    ≡ (2 ∷ 0 ∷ 0 ∷ 0 ∷ 64 ∷ 0 ∷ 0 ∷ 0 ∷ 7 ∷ 0 ∷ 0 ∷ 0 ∷ []) ∷ (2 ∷ 0 ∷ 0 ∷ 1 ∷ 64 ∷ 0 ∷ 0 ∷ 0 ∷ 7 ∷ 0 ∷ 0 ∷ 0 ∷ []) ∷ [])
    × (take 12 (head_of form_1 64 (of_kind 1)) ≡ 1 ∷ 0 ∷ 0 ∷ 0 ∷ 64 ∷ 0 ∷ 0 ∷ 0 ∷ 7 ∷ 0 ∷ 0 ∷ 0 ∷ [])
    × (drop 12 (head_of form_2 64 (of_kind 1)) ≡ drop 12 (head_of form_2 64 (of_kind 0)))
unfolding small of_kind
head_rows = (refl, refl, refl)

image : List ℕ
image = image_of form_2 waiting (of_kind 1)

-- form 2 carries the second kind; form 1 does not, also where no block waits, and 1 and 2 come before 28 and that before 25
write_rows : (write_image form_2 (lent 5122) waiting (of_kind 1) ≡ written (image ++ lent 2) 5120)
    × (write_image form_2 (lent 5119) waiting (of_kind 1) ≡ not_written (lent 5119) 25)
    × (write_image form_1 (lent 1536) waiting (of_kind 1) ≡ not_written (lent 1536) 28)
    × (write_image form_1 [] empty (of_kind 1) ≡ not_written [] 28)
    × (write_image form_1 [] empty (of_kind 0) ≡ not_written [] 25)
    × (map (λ n. (write_image form_1 [] waiting (of_kind n)).refusal) (0 ∷ 2 ∷ 255 ∷ []) ≡ 2 ∷ 2 ∷ 2 ∷ [])
    × (map (λ n. (write_image form_2 [] waiting (of_kind n)).refusal) (0 ∷ 2 ∷ 255 ∷ []) ≡ 2 ∷ 2 ∷ 2 ∷ [])
    × (write_image form_1 [] (replicate 56 0) (of_kind 1) ≡ not_written [] 1)
unfolding small of_kind waiting empty image lent written not_written
write_rows = (refl, refl, refl, refl, refl, refl, refl, refl)

-- the image of a stream with other bytes from a place on
unfoldable pub but : List ℕ → ℕ → List ℕ → List ℕ
but t at bs = cut (overwrite at bs t)

two : List ℕ
two = stream form_2 waiting (of_kind 1)

one : List ℕ
one = stream form_1 empty (of_kind 0)

-- the reader gives back what was written; byte 3 says the kind; the last serial may be 4,294,967,294
read_rows : (read_image image (lent 64) ≡ record { heap = waiting; accounts = of_kind 1; refusal = 0 })
    × (read_image (cut one) (lent 64) ≡ record { heap = empty; accounts = of_kind 0; refusal = 0 })
    × (read_image (cut (stream form_2 empty (of_kind 0))) (lent 64) ≡ record { heap = empty; accounts = of_kind 0; refusal = 0 })
    × (read_image (but (stream form_2 empty (of_kind 0)) 3 (1 ∷ [])) (lent 64) ≡ record { heap = empty; accounts = of_kind 1; refusal = 0 })
    × (map (λ t. (read_image (but t 8 (254 ∷ 255 ∷ 255 ∷ 255 ∷ [])) (lent 64)).accounts.last_serial) (one ∷ two ∷ []) ≡ 4294967294 ∷ 4294967294 ∷ [])
unfolding small of_kind waiting empty image but two one lent
read_rows = (refl, refl, refl, refl, refl)

refused : List Refused
refused =
    -- 23: another kind, a byte in front of a right one, any kind in form 1; also where the heap's length is wrong
    (but two 3 (2 ∷ []) into 64 is 23)
    ∷ (but two 3 (255 ∷ []) into 64 is 23)
    ∷ (but two 2 (2 ∷ []) into 64 is 23)
    ∷ (but two 2 (2 ∷ 0 ∷ []) into 64 is 23)
    ∷ (but two 3 (2 ∷ 65 ∷ []) into 64 is 23)
    ∷ (but one 3 (1 ∷ []) into 64 is 23)
    ∷ (but (stream form_1 waiting (of_kind 1)) 3 (1 ∷ []) into 64 is 23)
    -- 24 and 25 in the second kind
    ∷ (but two 4 (65 ∷ []) into 65 is 24)
    ∷ (image into 72 is 25)
    -- 26: a quarantined block in a plain heap, of either form; the last serial 4,294,967,295
    ∷ (but two 3 (0 ∷ []) into 64 is 26)
    ∷ (cut (stream form_1 waiting (of_kind 0)) into 64 is 26)
    ∷ (but two 8 (replicate 4 255) into 64 is 26)
    ∷ (but one 8 (replicate 4 255) into 64 is 26)
    ∷ []

refused_rows : map got refused ≡ map wanted refused
unfolding small of_kind waiting empty image but two one lent got wanted refused
refused_rows = refl
