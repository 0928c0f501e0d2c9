-- The changes of the accounts by the words that are written for them.
use Prim.Native.Nat.{ℕ, ◌+◌, ◌*◌, ◌/◌, ◌%◌, ◌≤◌, ◌<◌}
use mathlib.Core.Path.{◌≡◌, refl, ap, sym, ◌∙◌}
use mathlib.Core.List.{List}
use native.Mathlib.Omega.{arith}
use lib.ListN.{length, get_or, set}
use lib.Seq.{get_or-set_same, get_or-set_other}
use Rattle.accounts.specs.declared.Accounts.{Accounts}
use Rattle.accounts.specs.declared.Quota.{Quota}
use Rattle.accounts.specs.declared.Hold.{Hold}
use Rattle.accounts.specs.Accounts.{QUOTAS, HOLDS, zero_quota, quota_at, put_quota, change_quota, remaining}
use Rattle.accounts.specs.Accounts.{with_remainder, without, left_permissions, clear_permissions, put_hold}
use Rattle.accounts.proofs.Laws.{change_there, change_no_quota}
use Rattle.words.specs.Words.{WORDS, grant_in, remainder_in}
use Rattle.words.specs.Words.{spare_in, permissions_in, entry_in, rest_in, quotas_of, accounts_of, Padded}
use Rattle.words.proofs.Words.{quotas_at}
use Rattle.words.proofs.Readings.{remaining_is}
use Rattle.words.proofs.Writing.{put_entry, put_remainder, put_record, held}
use Rattle.words.proofs.Padding.{padded_same, padded_remainder, padded_spare, padded_record}

-- what a change does: the accounts that the words hold then, and padding as it was
abbrev pub Changed : List ℕ → List ℕ → Accounts → Type 0
Changed words words' k = (accounts_of words' ≡ k) × Padded words words'

-- another remainder
module _ (words : List ℕ) (q : ℕ) (f : ℕ → ℕ) where
  abbrev of_remainder : Quota → Quota
  of_remainder x = with_remainder (f x.remainder) x

  pub remainder_none : QUOTAS ≤ q → Changed words words (change_quota q of_remainder (accounts_of words))
  remainder_none h = (sym (change_no_quota q of_remainder (accounts_of words) h), padded_same words)

  pub remainder_made : q < QUOTAS → length words ≡ WORDS → (r : ℕ) → r ≡ f (remainder_in words q)
      → Changed words (set words (3 * q + 1) r) (change_quota q of_remainder (accounts_of words))
  unfolding remaining
  remainder_made few long r e =
      let is : r ≡ f (remaining q (accounts_of words)) = e ∙ ap f (remaining_is words q few) in (
        put_remainder words long q r few
            ∙ ap (λ (x : ℕ). put_quota q (with_remainder x (quota_at q (accounts_of words))) (accounts_of words)) is
            ∙ sym (change_there q of_remainder (accounts_of words) few),
        padded_remainder words q r few,
      )

-- permissions
pub low_byte : (h b : ℕ) → b < 256 → ((256 * h + b) % 256 ≡ b) × ((256 * h + b) / 256 ≡ h)
low_byte h b l = (omega arith, omega arith)

module _ (words : List ℕ) (q n : ℕ) where
  pub clears_none : QUOTAS ≤ q → Changed words words (clear_permissions q n (accounts_of words))
  unfolding clear_permissions
  clears_none h = (sym (change_no_quota q (without n) (accounts_of words) h), padded_same words)

  module _ (few : q < QUOTAS) (long : length words ≡ WORDS) (left : ℕ) (small : left < 256) (is : left ≡ left_permissions q n (accounts_of words)) where
    abbrev word : ℕ
    word = 256 * (spare_in words q / 256) + left

    abbrev after : List ℕ
    after = set words (3 * q + 2) word

    other : (x : ℕ) → (x ≡ 3 * q + 2 → ⊥) → get_or after x 0 ≡ get_or words x 0
    other x d = get_or-set_other words (3 * q + 2) x word 0 d

    spare_after : spare_in after q ≡ word
    spare_after = get_or-set_same words (3 * q + 2) word 0 (omega (arith, long))

    entry_after : entry_in after q ≡ without n (quota_at q (accounts_of words))
    entry_after =
        let at = quotas_at words q few in
        let g : grant_in after q ≡ (get_or (quotas_of words) q zero_quota).grant = other (3 * q) (λ e. omega arith) ∙ sym (ap (λ (x : Quota). x.grant) at) in
        let r : remainder_in after q ≡ (get_or (quotas_of words) q zero_quota).remainder = other (3 * q + 1) (λ e. omega arith)
        ∙ sym (ap (λ (x : Quota). x.remainder) at) in
        let p : permissions_in after q ≡ left_permissions q n (accounts_of words) =
        ap (λ (x : ℕ). x % 256) spare_after ∙ (low_byte (spare_in words q / 256) left small).0 ∙ is in
        λ i. record { grant = g i; remainder = r i; permissions = p i }

    pub clears : Changed words after (clear_permissions q n (accounts_of words))
    unfolding clear_permissions
    clears =
        let done = put_entry words (3 * q + 2) word q few
        (λ j d. (other (3 * j) (λ e. omega arith), other (3 * j + 1) (λ e. omega arith), other (3 * j + 2) (λ e. d (omega arith)))) (omega arith)
        (without n (quota_at q (accounts_of words))) entry_after in (
          done ∙ sym (change_there q (without n) (accounts_of words) few),
          padded_spare words long q word few (low_byte (spare_in words q / 256) left small).1,
        )

-- a record's second word: quota and count below what was there
pub two_bytes : (h c q : ℕ) → c < 256 → q < 256
    → ((65536 * h + (256 * c + q)) % 256 ≡ q) × ((65536 * h + (256 * c + q)) / 256 % 256 ≡ c) × ((65536 * h + (256 * c + q)) / 65536 ≡ h)
two_bytes h c q l m = (omega arith, omega arith, omega arith)

module _ (words : List ℕ) (long : length words ≡ WORDS) (p : ℕ) (l : p < HOLDS) (h : Hold) where
  pub puts : (c q : ℕ) → c ≡ h.count → q ≡ h.quota → c < 256 → q < 256
      → Changed words (held words long p h.serial (65536 * (rest_in words p / 65536) + (256 * c + q)) l) (put_hold p h (accounts_of words))
  puts c q ec eq lc lq =
      let b = two_bytes (rest_in words p / 65536) c q lc lq in
      let rest = 65536 * (rest_in words p / 65536) + (256 * c + q) in (
        put_record words long p h.serial rest l h refl (b.0 ∙ eq) (b.1 ∙ ec),
        padded_record words long p h.serial rest l b.2,
      )
