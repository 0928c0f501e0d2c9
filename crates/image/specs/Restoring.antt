-- What a restore where accounts are in use does to their words (rule 13.19).
use Rattle.std.specs.Prelude.{ℕ, zero, suc, ◌≡◌, List}
use Rattle.words.specs.Words.{Unpadded}

-- by its refusal's number: accepted, their padding is zero; refused, every word is as it was
abbrev pub Left : ℕ → List ℕ → List ℕ → Type 0
Left zero before after = Unpadded after
Left (suc n) before after = after ≡ before
