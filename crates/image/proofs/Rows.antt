-- The definitions computed at small images.
use mathlib.Core.Path.{◌≡◌, refl}
use mathlib.Core.List.{List, [], ◌∷◌, map}
use Prim.Native.Nat.{ℕ, ◌-◌}
use lib.ListN.{replicate, take}
use Rattle.accounts.specs.declared.Accounts.{Accounts}
use Rattle.accounts.specs.Accounts.{QUOTAS, zero_accounts, plain, opened}
use Rattle.image_model.specs.Stream.{form_1, form_2, image_of}
use Rattle.image_model.specs.declared.ImageRefusal.TheVariants.{Contents}
use Rattle.image_model.proofs.Computing.{computing}
use Rattle.std.specs.Prelude.{Ok, Err}
use Rattle.image.specs.Parsing.{Parts, shape_parts, unless_parts, parts_in, examined_in, length_for}

accounts : Accounts
accounts = opened plain (100 ∷ 1000 ∷ replicate (QUOTAS - 2) 0)

-- a heap that is not consistent with the accounts: only its own bytes count here
image : List ℕ
image = image_of form_1 (replicate 64 7) accounts

no_parts : ℕ → Parts
no_parts n = record { refusal = n; form = form_1; size = 0; accounts = zero_accounts }

parts_rows : (parts_in image ≡ record { refusal = 0; form = form_1; size = 64; accounts = accounts })
    × (parts_in [] ≡ no_parts 21) × (parts_in (take 512 image) ≡ no_parts 22)
unfolding computing parts_in unless_parts accounts image no_parts
parts_rows = (refl, refl, refl)

-- examined, its state counts too
examined_rows : (examined_in image ≡ no_parts 26) × (examined_in (take 512 image) ≡ no_parts 22)
    × (examined_in (image_of form_1 (8 ∷ replicate 63 0) accounts) ≡ record { refusal = 0; form = form_1; size = 64; accounts = accounts })
unfolding computing examined_in unless_parts accounts image no_parts
examined_rows = (refl, refl, refl)

shape_rows : (shape_parts (Ok (form_1, 64)) accounts ≡ record { refusal = 0; form = form_1; size = 64; accounts = accounts })
    × (shape_parts (Err Contents) zero_accounts ≡ no_parts 24)
unfolding shape_parts no_parts
shape_rows = (refl, refl)

-- no heap has 63 bytes, or 32,776; a frame more from 416 on, and in form 2 from 552 on
length_rows : (map (length_for form_1) (63 ∷ 64 ∷ 408 ∷ 416 ∷ 32768 ∷ 32776 ∷ []) ≡ 0 ∷ 1536 ∷ 1536 ∷ 2048 ∷ 34816 ∷ 0 ∷ [])
    × (map (length_for form_2) (63 ∷ 64 ∷ 544 ∷ 552 ∷ 32768 ∷ 32776 ∷ []) ≡ 0 ∷ 5120 ∷ 5120 ∷ 5632 ∷ 37888 ∷ 0 ∷ [])
unfolding computing length_for
length_rows = (refl, refl)
