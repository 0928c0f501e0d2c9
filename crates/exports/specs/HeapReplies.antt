-- What the numbers of a heap's replies mean: the values of `model`, and with heap and words at exit the outcome. Values
-- that a reply has no number for are zero or none.
use Rattle.std.specs.Prelude.{ℕ, zero, suc, ◌≡◌, List, cond, eqb, Option, Some, None, Result, Ok, Err}
use Rattle.accounts.specs.declared.Accounts.{Accounts}
use Rattle.accounts.specs.declared.settings.Kind.{Kind}
use Rattle.accounts.specs.declared.settings.Kind.TheVariants.{Plain, Quarantine}
use Rattle.accounts.specs.declared.settings.Edition.{Edition}
use Rattle.accounts.specs.declared.settings.Edition.TheVariants.{First, Second}
use Rattle.accounts.specs.declared.settings.Settings.{Settings}
use Rattle.rounding.specs.Rounding.{table}
use Rattle.words.specs.Words.{edition_of, accounts_of}
use Rattle.model.specs.declared.Handle.{Handle}
use Rattle.model.specs.declared.ListedBlock.{ListedBlock}
use Rattle.model.specs.Answers.{Values, zero_handle, zero_range}
use Rattle.model.specs.Calls.{Outcome}
use Rattle.results.specs.Results.{outcome}
use Rattle.exports.specs.declared.replies.HandleReply.{HandleReply}
use Rattle.exports.specs.declared.replies.AmountReply.{AmountReply}
use Rattle.exports.specs.declared.replies.RangeReply.{RangeReply}
use Rattle.exports.specs.declared.replies.BlockReply.{BlockReply}

-- what an opening chooses, as two numbers: 0 is plain, and any other number the second kind; 0 is edition 1, and any
-- other number edition 2
unfoldable pub kind_by : ℕ → Kind
kind_by n = cond (eqb n 0) Plain Quarantine

unfoldable pub edition_by : ℕ → Edition
edition_by n = cond (eqb n 0) First Second

abbrev pub settings_by : ℕ → ℕ → Settings
settings_by kind edition = record { kind = kind_by kind; edition = edition_by edition }

-- a call over a heap and the accounts that its words hold, with the table of their edition (rule 23.5)
abbrev pub on_words : {X : Type 0} → ((ℕ → ℕ) → List ℕ → Accounts → X) → List ℕ → List ℕ → X
on_words call s w = call (table (edition_of w)) s (accounts_of w)

-- what a call leaves: a heap, the accounts that words hold, and values
abbrev pub left : List ℕ → List ℕ → Values → Outcome
left s w v = outcome s (accounts_of w) v

-- allocate, allocate array and reallocate
abbrev pub handle_numbers : HandleReply → Values
handle_numbers r =
    record { refusal = r.refusal; handle = r.handle; amount = 0; range = zero_range; block = None }

abbrev pub no_handle : ℕ → HandleReply
no_handle n = record { refusal = n; handle = zero_handle }

-- the number of an answer, where f gives the number of a refusal: 0 where there is none
abbrev pub number_in : {R : Type 0} → (R → ℕ) → Result (Unit {0}) R → ℕ
number_in f (Ok tt) = 0
number_in f (Err r) = f r

-- the reply with a handle, or with the number of the refusal in place of one
abbrev pub handle_in : {R : Type 0} → (R → ℕ) → Result Handle R → HandleReply
handle_in f (Ok h) = record { refusal = 0; handle = h }
handle_in f (Err r) = no_handle (f r)

-- claim, release, free-all, clear permissions, sweep and remaining
abbrev pub amount_numbers : AmountReply → Values
amount_numbers r =
    record { refusal = r.refusal; handle = zero_handle; amount = r.amount; range = zero_range; block = None }

-- lend
abbrev pub range_numbers : RangeReply → Values
range_numbers r =
    record {
      refusal = r.refusal;
      handle = zero_handle;
      amount = 0;
      range = record { start = r.start; end = r.end };
      block = None;
    }

-- the listing: no block where found is 0
unfoldable pub found_block : ℕ → ListedBlock → Option ListedBlock
found_block zero b = None
found_block (suc n) b = Some b

abbrev pub block_in : BlockReply → Option ListedBlock
block_in r = found_block r.found (record { offset = r.offset; size = r.size; serial = r.serial })

abbrev pub block_numbers : BlockReply → Values
block_numbers r =
    record { refusal = r.refusal; handle = zero_handle; amount = 0; range = zero_range; block = block_in r }

-- the numbers that say whether there is a block, and which: 1 and the block's, or zeros
unfoldable pub reply_with : ℕ → Option ListedBlock → BlockReply
reply_with n None = record { refusal = n; found = 0; offset = 0; size = 0; serial = 0 }
reply_with n (Some b) =
    record { refusal = n; found = 1; offset = b.offset; size = b.size; serial = b.serial }

-- found is 0 or 1, and where it is 0 the block's numbers are zero
abbrev pub Exact : BlockReply → Type 0
Exact r = r ≡ reply_with r.refusal (block_in r)
