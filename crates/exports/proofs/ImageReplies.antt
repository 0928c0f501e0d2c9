-- The numbers of an image's own bytes, computed. And a reply's numbers say everything: what a reply makes gives it back,
-- so no two make the same.
use Prim.Native.Nat.{ℕ, zero, suc, ◌≤◌}
use native.Mathlib.Omega.{arith}
use mathlib.Core.Path.{◌≡◌, refl}
use mathlib.Core.List.{List}
use Rattle.std.specs.Prelude.{Result, Ok, Err}
use Rattle.accounts.specs.declared.Accounts.{Accounts}
use Rattle.words.specs.Words.{accounts_of}
use Rattle.image_model.specs.declared.ImageRefusal.{ImageRefusal}
use Rattle.image_model.specs.Answers.{restored_to, image_refusal_number}
use Rattle.exports.specs.HeapReplies.{number_in}
use Rattle.exports.specs.declared.images.ImageReply.{ImageReply}
use Rattle.exports.specs.ImageReplies.{image_reply, read_into, numbers_unless}

numbers_rows : (numbers_unless 0 1 64 ≡ record { refusal = 0; form = 1; heap_length = 64 })
    × (numbers_unless 24 1 64 ≡ record { refusal = 24; form = 0; heap_length = 0 })
unfolding numbers_unless
numbers_rows = (refl, refl)

pub image_reply_injective : (o p : List ℕ) (a b : ImageReply) → image_reply o a ≡ image_reply p b
    → (o ≡ p) × (a ≡ b)
image_reply_injective o p a b e = (λ i. (e i).image, λ i. record { refusal = (e i).refusal; length = (e i).length })

pub read_into_injective : (s t w x : List ℕ) (m n : ℕ) → read_into s w m ≡ read_into t x n
    → (s ≡ t) × (accounts_of w ≡ accounts_of x) × (m ≡ n)
read_into_injective s t w x m n e = (λ i. (e i).heap, λ i. (e i).accounts, λ i. (e i).refusal)

-- a refusal's numbers
pub numbers_refused : (m form length : ℕ) → 1 ≤ m
    → record { refusal = m; form = 0; heap_length = 0 } ≡ numbers_unless m form length
unfolding numbers_unless
numbers_refused zero form length h = absurd (omega arith)
numbers_refused (suc m) form length h = refl

-- what the generic number says of the reader's refusal
pub number_says : (s : List ℕ) (k : Accounts) (n : ℕ) (a : Result (Unit {0}) ImageRefusal) → n ≡ number_in image_refusal_number a
    → record { heap = s; accounts = k; refusal = n } ≡ restored_to s k a
unfolding restored_to
number_says s k n (Ok tt) e = λ i. record { heap = s; accounts = k; refusal = e i }
number_says s k n (Err r) e = λ i. record { heap = s; accounts = k; refusal = e i }
