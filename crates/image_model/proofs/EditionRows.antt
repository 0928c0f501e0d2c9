-- The definitions computed at heaps of edition 2, in both forms: what is written and read, the refusals on both sides of their lines, and objects that fit
-- their unit by one edition and not by the other.
use mathlib.Core.Path.{◌≡◌, refl}
use mathlib.Core.List.{List, [], ◌∷◌, ◌++◌, map}
use Prim.Native.Nat.{ℕ, ◌+◌, ◌-◌}
use lib.ListN.{take, drop, replicate}
use Rattle.accounts.specs.declared.Accounts.{Accounts}
use Rattle.accounts.specs.Accounts.{QUOTAS, HOLDS, zero_hold, with_edition}
use Rattle.framing.specs.Frames.{cut}
use Rattle.model.specs.Units.{placed, gap, heap_with}
use Rattle.image_model.specs.Stream.{form_1, form_2, head_of, stream, image_of}
use Rattle.image_model.specs.Images.{write_image, read_image}
use Rattle.image_model.proofs.Rows.{quota, hold, small, lent, written, not_written, Refused, ◌into◌is◌, got, wanted}
use Rattle.image_model.proofs.KindRows.{waiting, empty, of_kind, but}

-- nothing is held, in a heap of an edition and a kind
of_both : ℕ → ℕ → Accounts
of_both e n = with_edition e (of_kind n)

-- byte 2 is the edition in form 2, and zero in form 1
head_rows : (map (λ e. take 12 (head_of form_2 64 (of_both e 1))) (0 ∷ 1 ∷ [])
    ≡ (2 ∷ 0 ∷ 0 ∷ 1 ∷ 64 ∷ 0 ∷ 0 ∷ 0 ∷ 7 ∷ 0 ∷ 0 ∷ 0 ∷ []) ∷ (2 ∷ 0 ∷ 1 ∷ 1 ∷ 64 ∷ 0 ∷ 0 ∷ 0 ∷ 7 ∷ 0 ∷ 0 ∷ 0 ∷ []) ∷ [])
    × (take 12 (head_of form_2 64 (of_both 1 0)) ≡ 2 ∷ 0 ∷ 1 ∷ 0 ∷ 64 ∷ 0 ∷ 0 ∷ 0 ∷ 7 ∷ 0 ∷ 0 ∷ 0 ∷ [])
    × (take 12 (head_of form_1 64 (of_both 1 0)) ≡ 1 ∷ 0 ∷ 0 ∷ 0 ∷ 64 ∷ 0 ∷ 0 ∷ 0 ∷ 7 ∷ 0 ∷ 0 ∷ 0 ∷ [])
    × (drop 12 (head_of form_2 64 (of_both 1 0)) ≡ drop 12 (head_of form_2 64 (of_both 0 0)))
unfolding small of_kind of_both
head_rows = (refl, refl, refl, refl)

image : List ℕ
image = image_of form_2 waiting (of_both 1 1)

-- form 2 carries edition 2, in both kinds; form 1 does not; 1 and 2 come before 28 and that before 25
write_rows : (write_image form_2 (lent 5122) waiting (of_both 1 1) ≡ written (image ++ lent 2) 5120)
    × (write_image form_2 (lent 5119) empty (of_both 1 0) ≡ not_written (lent 5119) 25)
    × (write_image form_1 (lent 1536) empty (of_both 1 0) ≡ not_written (lent 1536) 28)
    × (write_image form_1 [] empty (of_both 1 0) ≡ not_written [] 28)
    × (write_image form_1 [] empty (of_both 0 0) ≡ not_written [] 25)
    × (map (λ e. (write_image form_1 [] empty (of_both e 0)).refusal) (2 ∷ 255 ∷ []) ≡ 2 ∷ 2 ∷ [])
    × (map (λ e. (write_image form_2 [] empty (of_both e 0)).refusal) (2 ∷ 255 ∷ []) ≡ 2 ∷ 2 ∷ [])
    × (write_image form_1 [] (replicate 56 0) (of_both 1 0) ≡ not_written [] 1)
unfolding small of_kind of_both waiting empty image lent written not_written
write_rows = (refl, refl, refl, refl, refl, refl, refl, refl)

two : List ℕ
two = stream form_2 waiting (of_both 1 1)

one : List ℕ
one = stream form_1 empty (of_both 0 0)

-- the reader gives back what was written; byte 2 says the edition
read_rows : (read_image image (lent 64) ≡ record { heap = waiting; accounts = of_both 1 1; refusal = 0 })
    × (read_image (cut (stream form_2 empty (of_both 1 0))) (lent 64) ≡ record { heap = empty; accounts = of_both 1 0; refusal = 0 })
    × (read_image (but (stream form_2 empty (of_both 0 0)) 2 (1 ∷ [])) (lent 64) ≡ record { heap = empty; accounts = of_both 1 0; refusal = 0 })
    × (read_image (but two 2 (0 ∷ [])) (lent 64) ≡ record { heap = waiting; accounts = of_both 0 1; refusal = 0 })
    × ((read_image (cut one) (lent 64)).accounts.edition ≡ 0)
unfolding small of_kind of_both waiting empty image but two one lent
read_rows = (refl, refl, refl, refl, refl)

refused : List Refused
refused =
    -- 23: another edition, also with another kind; a right one in front of another kind; any edition in form 1; also where the heap's length is wrong
    (but two 2 (2 ∷ []) into 64 is 23)
    ∷ (but two 2 (255 ∷ []) into 64 is 23)
    ∷ (but two 2 (2 ∷ 2 ∷ []) into 64 is 23)
    ∷ (but two 2 (1 ∷ 2 ∷ []) into 64 is 23)
    ∷ (but two 2 (2 ∷ 1 ∷ 65 ∷ []) into 64 is 23)
    ∷ (but one 2 (1 ∷ []) into 64 is 23)
    ∷ (but one 2 (1 ∷ 1 ∷ []) into 64 is 23)
    -- 24, 25 and 26 in edition 2
    ∷ (but two 4 (65 ∷ []) into 65 is 24)
    ∷ (image into 72 is 25)
    ∷ (but two 3 (0 ∷ []) into 64 is 26)
    ∷ []

refused_rows : map got refused ≡ map wanted refused
unfolding small of_kind of_both waiting empty image but two one lent got wanted refused
refused_rows = refl

-- an object of 4,096 bytes at a base, which quota 0 holds, in a heap of an edition
long : ℕ → List ℕ
long base = heap_with (placed base 4096 0)

holding : ℕ → Accounts
holding e =
    record {
      quotas = quota 4104 0 ∷ replicate (QUOTAS - 1) (quota 0 0);
      last_serial = 1;
      holds = hold 1 0 1 ∷ replicate (HOLDS - 1) zero_hold;
      kind = 0;
      edition = e;
    }

written_at : ℕ → ℕ → List ℕ
written_at e base = map (λ f. (write_image f [] (long base) (holding e)).refusal) (form_1 ∷ form_2 ∷ [])

read_at : ℕ → ℕ → ℕ
read_at e base = (read_image (image_of form_2 (long base) (holding e)) (lent (base + 4096))).refusal

-- a base of 8 fits in edition 1 alone, one of 16 in both: the state is judged by the edition in the accounts, and by the one that the image says
own_rows : (map (written_at 0) (8 ∷ 16 ∷ []) ≡ (25 ∷ 25 ∷ []) ∷ (25 ∷ 25 ∷ []) ∷ [])
    × (map (written_at 1) (8 ∷ 16 ∷ []) ≡ (2 ∷ 2 ∷ []) ∷ (28 ∷ 25 ∷ []) ∷ [])
    × (map (read_at 0) (8 ∷ 16 ∷ []) ≡ 0 ∷ 0 ∷ [])
    × (map (read_at 1) (8 ∷ 16 ∷ []) ≡ 26 ∷ 0 ∷ [])
    × ((read_image (but (stream form_2 (long 8) (holding 0)) 2 (1 ∷ [])) (lent 4104)).refusal ≡ 26)
    × ((read_image (but (stream form_2 (long 8) (holding 1)) 2 (0 ∷ [])) (lent 4104)).refusal ≡ 0)
unfolding small gap heap_with long holding written_at read_at but lent
own_rows = (refl, refl, refl, refl, refl, refl)
