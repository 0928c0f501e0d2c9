-- What the contracts map answers through tells every two answers apart: an image refusal has a number of its own, and of an answer the number
-- and the value give it back.
use mathlib.Core.Path.{◌≡◌, refl, ap, sym, ◌∙◌}
use mathlib.Core.List.{List, [], ◌∷◌, map}
use mathlib.Core.Bool.{true, false, cond}
use Prim.Native.Nat.{ℕ, ◌-◌, ◌≤◌}
use native.Mathlib.Omega.{arith}
use lib.ListN.{get_or}
use lib.Dec.{eqb, ltb}
use borrow.Author.Tests.{ne_eqb, lt-ltb}
use Rattle.accounts.specs.declared.Accounts.{Accounts}
use Rattle.model.specs.Answers.{refusal_number, refusal_at}
use Rattle.model.proofs.Answers.{refusal_number_is}
use Rattle.image_model.specs.Answers.{Imaged, RestoredTo, image_refusal_number, imaged, restored_to}
use Rattle.image_model.specs.declared.ImageRefusal.{ImageRefusal}
use Rattle.image_model.specs.declared.ImageRefusal.TheVariants.{Call, ImageLength, FrameWrong, FormNumber, Contents, Room, Unsound}
use Rattle.image_model.specs.declared.ImageRefusal.TheVariants.{HeapLengths, NotCarried, FormsDiffer}
use Rattle.std.specs.Prelude.{Result, Ok, Err}

-- the images' own refusals in the order of their numbers, from 21 on; and the refusal with a number
abbrev pub own_refusals : List ImageRefusal
own_refusals = ImageLength ∷ FrameWrong ∷ FormNumber ∷ Contents ∷ Room ∷ Unsound ∷ HeapLengths ∷ NotCarried ∷ FormsDiffer ∷ []

pub own_numbers : map image_refusal_number own_refusals ≡ 21 ∷ 22 ∷ 23 ∷ 24 ∷ 25 ∷ 26 ∷ 27 ∷ 28 ∷ 29 ∷ []
own_numbers = refl

abbrev pub image_refusal_at : ℕ → ImageRefusal
image_refusal_at n = cond (ltb n 21) (Call (refusal_at n)) (get_or own_refusals (n - 21) ImageLength)

pub image_refusal_is : (r : ImageRefusal) → (image_refusal_at (image_refusal_number r) ≡ r) × (1 ≤ image_refusal_number r)
image_refusal_is (Call r) =
    let w = refusal_number_is r in
    let l : ltb (refusal_number r) 21 ≡ true = lt-ltb (refusal_number r) 21 (omega (arith, w.2)) in
    (rw (l, w.0), w.1)
image_refusal_is ImageLength = (refl, omega arith)
image_refusal_is FrameWrong = (refl, omega arith)
image_refusal_is FormNumber = (refl, omega arith)
image_refusal_is Contents = (refl, omega arith)
image_refusal_is Room = (refl, omega arith)
image_refusal_is Unsound = (refl, omega arith)
image_refusal_is HeapLengths = (refl, omega arith)
image_refusal_is NotCarried = (refl, omega arith)
image_refusal_is FormsDiffer = (refl, omega arith)

pub image_refusal_number_injective : (r t : ImageRefusal) → image_refusal_number r ≡ image_refusal_number t → r ≡ t
image_refusal_number_injective r t e = sym (image_refusal_is r).0 ∙ ap image_refusal_at e ∙ (image_refusal_is t).0

-- the answer with a refusal's number: what is given where it is 0, or else the refusal
abbrev pub image_answer : {A : Type 0} → A → (ImageRefusal → A) → ℕ → A
image_answer a refuse n = cond (eqb n 0) a (refuse (image_refusal_at n))

pub image_answer_refused : {A : Type 0} (a : A) (refuse : ImageRefusal → A) (r : ImageRefusal) → image_answer a refuse (image_refusal_number r) ≡ refuse r
image_answer_refused a refuse r =
    let n = image_refusal_is r in
    let e : eqb (image_refusal_number r) 0 ≡ false = ne_eqb (image_refusal_number r) 0 (λ z. omega (arith, z, n.1)) in
    rw (e, n.0)

abbrev pub write_from : Imaged → Result ℕ ImageRefusal
write_from w = image_answer (Ok w.length) Err w.refusal

abbrev pub read_from : RestoredTo → Result Unit ImageRefusal
read_from r = image_answer (Ok tt) Err r.refusal

write_back : (o : List ℕ) (a : Result ℕ ImageRefusal) → write_from (imaged o a) ≡ a
unfolding imaged
write_back o (Ok n) = refl
write_back o (Err r) = image_answer_refused (Ok 0) Err r

image_is : (o : List ℕ) (a : Result ℕ ImageRefusal) → (imaged o a).image ≡ o
unfolding imaged
image_is o (Ok n) = refl
image_is o (Err r) = refl

read_back : (s : List ℕ) (k : Accounts) (a : Result Unit ImageRefusal) → read_from (restored_to s k a) ≡ a
unfolding restored_to
read_back s k (Ok tt) = refl
read_back s k (Err r) = image_answer_refused (Ok tt) Err r

state_is : (s : List ℕ) (k : Accounts) (a : Result Unit ImageRefusal) → ((restored_to s k a).heap ≡ s) × ((restored_to s k a).accounts ≡ k)
unfolding restored_to
state_is s k (Ok tt) = (refl, refl)
state_is s k (Err r) = (refl, refl)

-- so neither two answers nor two images, heaps or accounts come to the same
pub imaged_injective : (o p : List ℕ) (a c : Result ℕ ImageRefusal) → imaged o a ≡ imaged p c → (o ≡ p) × (a ≡ c)
imaged_injective o p a c e = (sym (image_is o a) ∙ ap (λ (w : Imaged). w.image) e ∙ image_is p c, sym (write_back o a) ∙ ap write_from e ∙ write_back p c)

pub restored_to_injective : (s t : List ℕ) (k l : Accounts) (a c : Result Unit ImageRefusal) → restored_to s k a ≡ restored_to t l c
    → (s ≡ t) × (k ≡ l) × (a ≡ c)
restored_to_injective s t k l a c e =
    let x = state_is s k a in
    let y = state_is t l c in (
      sym x.0 ∙ ap (λ (r : RestoredTo). r.heap) e ∙ y.0,
      sym x.1 ∙ ap (λ (r : RestoredTo). r.accounts) e ∙ y.1,
      sym (read_back s k a) ∙ ap read_from e ∙ read_back t l c,
    )
