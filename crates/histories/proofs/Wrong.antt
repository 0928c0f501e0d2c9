-- `ReadAnywhere` does not hold of the wrong readers. Each reads an image of a heap with one object; that the right
-- reader gives it back is `read_anywhere`, and what the wrong one makes of that is computed.
use Prim.Native.Nat.{ℕ}
use native.Mathlib.Omega.{arith}
use mathlib.Core.Path.{◌≡◌, refl, subst}
use mathlib.Core.List.Memᴰ
use mathlib.Core.List.{List, [], ◌∷◌}
use lib.ListN.{replicate}
use Rattle.accounts.specs.declared.settings.Settings.{Settings}
use Rattle.accounts.specs.Accounts.{plain}
use Rattle.rounding.specs.Rounding.{table}
use Rattle.model.specs.Calls.{Outcome}
use Rattle.model.specs.declared.Call.{Call}
use Rattle.model.specs.declared.Call.TheVariants.{Allocate}
use Rattle.ledger.specs.Ledger.{Event, empty}
use Rattle.ledger.specs.History.{by_own}
use Rattle.ledger.proofs.Recording.{recording}
use Rattle.ledger.proofs.Short.{grants, after, events, history, listing, coarse}
use Rattle.image_model.specs.Stream.{form_2}
use Rattle.image_model.specs.Answers.{RestoredTo}
use Rattle.image_model.specs.Images.{write_image, read_image}
use Rattle.image_model.proofs.Computing.{computing}
use Rattle.image_model.proofs.Places.{known_2}
use Rattle.histories.specs.Restores.{written_image, Reader, Elsewhere, ReadAnywhere}
use Rattle.histories.specs.Wrong.{bare, forgets_holds, of_edition_1, forgets_edition}
use Rattle.histories.proofs.Elsewhere.{read_anywhere}

-- a heap of 64 bytes with an object of 8, which quota 0 holds; an image of it fits 5,120 bytes
module _ (g : Settings) where
  calls : List Call
  calls = Allocate 0 8 ∷ []

  made : Outcome
  made = after g (by_own table) calls

  led : List Event
  led = events g (by_own table) calls

  -- the writer accepts it
  abbrev Saved : Type 0
  Saved = (write_image form_2 (replicate 5120 0) made.heap made.accounts).refusal ≡ 0

  image : List ℕ
  image = written_image form_2 (replicate 5120 0) made.heap made.accounts

  -- what the statement says of a reader that gives this image back
  abbrev Gives : RestoredTo → Type 0
  Gives r = Elsewhere table (empty g grants) led made.heap made.accounts made.heap r

  read_as : (read : Reader) → ReadAnywhere table read → Saved → Gives (read image made.heap)
  unfolding calls made led image
  read_as read d saved =
      d.always (empty g grants) led made.heap made.accounts (history g (by_own table) calls)
      form_2 (replicate 5120 0) made.heap known_2 saved refl

  -- and of one that changes what the right reader gives
  given_back : (read : Reader) (change : RestoredTo → RestoredTo)
      → ((i h : List ℕ) → read i h ≡ change (read_image i h)) → ReadAnywhere table read → Saved
      → Gives (change (record { heap = made.heap; accounts = made.accounts; refusal = 0 }))
  given_back read change is d saved =
      subst (λ (r : RestoredTo). Gives (change r)) (read_as read_image read_anywhere saved).state
      (subst Gives (is image made.heap) (read_as read d saved))

-- `ledger`: an object on which quota 0 has no hold
pub refuted_forgets_holds : ReadAnywhere table forgets_holds → ⊥
unfolding computing recording listing calls made led bare forgets_holds
refuted_forgets_holds d =
    let x : ◌≡◌ {A = ℕ} 0 1 =
    (given_back plain forgets_holds bare (λ i h. refl) d refl).ledger.holds
    _ _ (Memᴰ.head refl) (Memᴰ.head refl) refl 0 in
    omega arith

-- `ledger`: a heap of edition 2 comes back as one of edition 1
pub refuted_forgets_edition : ReadAnywhere table forgets_edition → ⊥
unfolding computing recording listing calls made led of_edition_1 forgets_edition
refuted_forgets_edition d =
    let e = given_back coarse forgets_edition of_edition_1 (λ i h. refl) d refl in
    let x : ◌≡◌ {A = ℕ} 0 1 = e.ledger.edition in
    omega arith
