-- The changes of an opening and of a restore.
use Rattle.std.specs.Prelude.{ℕ, ◌≡◌, List, length, get_or, set}
use Rattle.accounts.specs.declared.Quota.{Quota}
use Rattle.accounts.specs.declared.Accounts.{Accounts}
use Rattle.accounts.specs.Accounts.{granted, with_quotas, with_kind, with_edition}
use Rattle.words.specs.Words.{WORDS}

-- all words are 0
abbrev pub Blank : List ℕ → Type 0
Blank words = (length words ≡ WORDS) × ((j : ℕ) → get_or words j 0 ≡ 0)

-- another quota with a number, and one that has its grant whole; a number out of range changes nothing
abbrev pub with_quota : ℕ → Quota → Accounts → Accounts
with_quota q x k = with_quotas (set k.quotas q x) k

abbrev pub with_grant : ℕ → ℕ → Accounts → Accounts
with_grant q g k = with_quota q (granted g) k

abbrev pub with_kinds : ℕ → ℕ → Accounts → Accounts
with_kinds kind edition k = with_edition edition (with_kind kind k)
