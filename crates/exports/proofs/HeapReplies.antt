-- A reply's numbers say everything: what a reply makes gives it back, so no two make the same. Of a block's reply the
-- values give it back because it is exact. And the check's outcome is its values, since it changes nothing.
use Rattle.std.specs.Prelude.{Option, Some, None, Result, Ok, Err}
use Prim.Native.Nat.{ℕ}
use mathlib.Core.Path.{◌≡◌, refl, ap, sym, subst⁻¹, ◌∙◌}
use mathlib.Core.List.{List}
use Rattle.accounts.specs.declared.Accounts.{Accounts}
use Rattle.model.specs.declared.Handle.{Handle}
use Rattle.model.specs.declared.ListedBlock.{ListedBlock}
use Rattle.model.specs.declared.Refusal.{Refusal}
use Rattle.model.specs.Answers.{Values, zero_handle, refused, refusal_number, verdict_values, handle_values}
use Rattle.model.specs.Calls.{check}
use Rattle.model.proofs.Refusals.{changes_nothing}
use Rattle.words.specs.Words.{accounts_of}
use Rattle.results.specs.Results.{outcome}
use Rattle.exports.specs.HeapReplies.{left, number_in, handle_in, handle_numbers, amount_numbers, range_numbers}
use Rattle.exports.specs.HeapReplies.{block_numbers, found_block, reply_with, Exact}
use Rattle.exports.specs.declared.replies.HandleReply.{HandleReply}
use Rattle.exports.specs.declared.replies.AmountReply.{AmountReply}
use Rattle.exports.specs.declared.replies.RangeReply.{RangeReply}
use Rattle.exports.specs.declared.replies.BlockReply.{BlockReply}

-- the heap, the accounts and the values that a call leaves
pub left_injective : (s t w x : List ℕ) (u v : Values) → left s w u ≡ left t x v
    → (s ≡ t) × (accounts_of w ≡ accounts_of x) × (u ≡ v)
left_injective s t w x u v e = (λ i. (e i).heap, λ i. (e i).accounts, λ i. (e i).values)

-- the number of open, write, can release and check
pub refused_injective : (m n : ℕ) → refused m ≡ refused n → m ≡ n
refused_injective m n e = ap (λ (v : Values). v.refusal) e

-- the reply with these values
pub handle_numbers_injective : (a b : HandleReply) → handle_numbers a ≡ handle_numbers b → a ≡ b
handle_numbers_injective a b e = λ i. record { refusal = (e i).refusal; handle = (e i).handle }

pub amount_numbers_injective : (a b : AmountReply) → amount_numbers a ≡ amount_numbers b → a ≡ b
amount_numbers_injective a b e = λ i. record { refusal = (e i).refusal; amount = (e i).amount }

pub range_numbers_injective : (a b : RangeReply) → range_numbers a ≡ range_numbers b → a ≡ b
range_numbers_injective a b e = λ i.
    record { refusal = (e i).refusal; start = (e i).range.start; end = (e i).range.end }

pub block_numbers_injective : (a b : BlockReply) → Exact a → Exact b → block_numbers a ≡ block_numbers b → a ≡ b
block_numbers_injective a b x y e = x ∙ ap (λ (v : Values). reply_with v.refusal v.block) e ∙ sym y

-- a reply that is made of a block, or of none, is exact
pub reply_exact : (n : ℕ) (b : Option ListedBlock) (r : BlockReply) → r ≡ reply_with n b → Exact r
unfolding found_block reply_with
reply_exact n None r e = subst⁻¹ Exact e refl
reply_exact n (Some b) r e = subst⁻¹ Exact e refl

-- what the generic number and the generic reply of a handle say, of the refusals of the heap's calls
pub number_says : (n : ℕ) (a : Result (Unit {0}) Refusal) → n ≡ number_in refusal_number a → refused n ≡ verdict_values a
unfolding verdict_values
number_says n (Ok tt) e = ap refused e
number_says n (Err r) e = ap refused e

pub handle_says : (r : HandleReply) (a : Result Handle Refusal) → r ≡ handle_in refusal_number a → handle_numbers r ≡ handle_values a
unfolding handle_values
handle_says r (Ok h) e = ap handle_numbers e
handle_says r (Err x) e = ap handle_numbers e

-- the values of the check are its whole outcome
pub check_whole : (unit : ℕ → ℕ) (s : List ℕ) (k : Accounts) (n : ℕ) → refused n ≡ (check unit s k).values
    → outcome s k (refused n) ≡ check unit s k
check_whole unit s k n e =
    let kept = (changes_nothing unit s k 0 zero_handle 0).4 in
    λ i. outcome (sym kept.0 i) (sym kept.1 i) (e i)
