-- Comparing two images (rules 14.1, 14.7 to 14.12): the refusals of both, each with the image that it is about, then
-- the difference that was asked for, by its number or from a position on.
use Rattle.std.specs.Prelude.{ℕ, zero, suc, List, [], ◌∷◌, not, eqb, Option, Some, None, Result, Ok, Err, slice_get}
use Rattle.model.specs.Refusals.{Line, ◌when◌, first_refusal}
use Rattle.image_model.specs.Reading.{form_of, size_in}
use Rattle.image_model.specs.Answers.{image_refusal_number}
use Rattle.image_model.specs.declared.ImageRefusal.{ImageRefusal}
use Rattle.image_model.specs.Images.{examine_lines}
use Rattle.comparison.specs.Differences.{state_in, differences}
use Rattle.comparison.specs.Positions.{next_of, with_answer}
use Rattle.comparison.specs.declared.Difference.{Difference}
use Rattle.comparison.specs.declared.Which.{Which}
use Rattle.comparison.specs.declared.Which.TheVariants.{First, Second, Neither}
use Rattle.comparison.specs.declared.Position.{Position}

-- why two images are not compared: a refusal's number, 0 where there is none, and which image it is about
pub record Why : Type 0 where
  pub refusal : ℕ
  pub which : Which

unfoldable pub paired : Result Unit (ImageRefusal × Which) → Why
paired (Ok tt) = record { refusal = 0; which = Neither }
paired (Err (r, w)) = record { refusal = image_refusal_number r; which = w }

-- 29: the images are of two forms
unfoldable pub line_29 : List ℕ → List ℕ → Line
line_29 i j = 29 when not (eqb (form_of i).number (form_of j).number)

-- 27: the heaps have two lengths
unfoldable pub line_27 : List ℕ → List ℕ → Line
line_27 i j = 27 when not (eqb (size_in i) (size_in j))

-- the lines of two images that are accepted
unfoldable pub pair_lines : List ℕ → List ℕ → List Line
pair_lines i j = line_29 i j ∷ line_27 i j ∷ []

-- the refusal of one image, and which it is; else what comes behind it
unfoldable pub first_why : ℕ → Which → Why → Why
first_why zero w later = later
first_why (suc n) w later = record { refusal = suc n; which = w }

-- rules 14.7 and 14.8: the refusals of the first image, those of the second, then those of both together
unfoldable pub why_both : List ℕ → List ℕ → Why
why_both i j = record { refusal = first_refusal (pair_lines i j); which = Neither }

unfoldable pub why_second : List ℕ → List ℕ → Why
why_second i j = first_why (first_refusal (examine_lines j)) Second (why_both i j)

unfoldable pub why_not : List ℕ → List ℕ → Why
why_not i j = first_why (first_refusal (examine_lines i)) First (why_second i j)

-- what is found where there is no refusal; else what stands for nothing
unfoldable pub unless_refused : {A : Type 0} → ℕ → A → A → A
unless_refused zero nothing found = found
unless_refused (suc n) nothing found = nothing

-- what compare comes to: the refusal, and the difference, if there is one
pub record Compared : Type 0 where
  pub refusal : ℕ
  pub which : Which
  pub found : Option Difference

unfoldable pub compared : Result (Option Difference) (ImageRefusal × Which) → Compared
compared (Ok (Some d)) = record { refusal = 0; which = Neither; found = Some d }
compared (Ok None) = record { refusal = 0; which = Neither; found = None }
compared (Err (r, w)) = record { refusal = image_refusal_number r; which = w; found = None }

-- the n-th difference, from 0, of the states that two images say
unfoldable pub nth_of : List ℕ → List ℕ → ℕ → Compared
nth_of i j n = record { refusal = 0; which = Neither; found = slice_get (differences (state_in i) (state_in j)) n }

-- rules 14.1 and 14.10
unfoldable pub compare_of : List ℕ → List ℕ → ℕ → Compared
compare_of i j n =
    let w = why_not i j in
    record { refusal = w.refusal; which = w.which; found = unless_refused w.refusal None (nth_of i j n).found }

-- what the next difference comes to: the refusal, and the step
pub record Advanced : Type 0 where
  pub refusal : ℕ
  pub which : Which
  pub step : Option (Difference × Position)

unfoldable pub stepped : Option (Difference × Position) → Advanced
stepped s = record { refusal = 0; which = Neither; step = s }

unfoldable pub advanced : Result (Option (Difference × Position)) (ImageRefusal × Which) → Advanced
advanced (Ok s) = stepped s
advanced (Err (r, w)) = record { refusal = image_refusal_number r; which = w; step = None }

-- rule 14.11: refused as compare is; else the first difference from a position on
unfoldable pub advance_of : List ℕ → List ℕ → Position → Advanced
advance_of i j p =
    let w = why_not i j in
    let due = next_of p (state_in i) (state_in j) in
    record { refusal = w.refusal; which = w.which; step = unless_refused w.refusal None due }

-- rule 14.12: what so many questions give, each from the position behind the answer before
unfoldable pub walked : ℕ → Position → List ℕ → List ℕ → List Difference
walked zero p i j = []
walked (suc n) p i j = with_answer (advance_of i j p).step (λ d q. d ∷ walked n q i j)
