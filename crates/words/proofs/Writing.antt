-- Words that are written: the accounts that they hold then.
use Prim.Native.Nat.{ℕ, ◌+◌, ◌*◌, ◌/◌, ◌%◌, ◌<◌}
use mathlib.Core.Path.{◌≡◌, ap, sym, ◌∙◌}
use mathlib.Core.List.{List}
use native.Mathlib.Omega.{arith}
use lib.ListN.{length, get_or, set, length-set}
use lib.Seq.{get_or-set_same, get_or-set_other}
use Rattle.accounts.specs.declared.Quota.{Quota}
use Rattle.accounts.specs.declared.Hold.{Hold}
use Rattle.accounts.specs.Accounts.{QUOTAS, HOLDS, zero_hold, zero_quota, quota_at, put_quota, with_remainder, put_hold, with_last_serial}
use Rattle.words.specs.Words.{WORDS, LAST, FIRST, KINDS, serial_in, rest_in}
use Rattle.words.specs.Words.{hold_in, grant_in, remainder_in, spare_in, permissions_in, entry_in}
use Rattle.words.specs.Words.{holds_of, quotas_of, accounts_of}
use Rattle.words.specs.Filling.{HasEntry}
use Rattle.words.proofs.Words.{quotas_at, table_put, table_same}

-- the words of a record, of a quota
abbrev pub SameHold : List ℕ → List ℕ → ℕ → Type 0
SameHold words words' j = (serial_in words' j ≡ serial_in words j) × (rest_in words' j ≡ rest_in words j)

abbrev pub SameEntry : List ℕ → List ℕ → ℕ → Type 0
SameEntry words words' j = (grant_in words' j ≡ grant_in words j) × (remainder_in words' j ≡ remainder_in words j) × (spare_in words' j ≡ spare_in words j)

-- one record differs, or none; one quota, or none
module _ (words words' : List ℕ) where
  hold_same : (j : ℕ) → SameHold words words' j → hold_in words' j ≡ hold_in words j
  hold_same j e = λ i. record { serial = e.0 i; quota = e.1 i % 256; count = e.1 i / 256 % 256 }

  entry_same : (j : ℕ) → SameEntry words words' j → entry_in words' j ≡ entry_in words j
  entry_same j e = λ i. record { grant = e.0 i; remainder = e.1 i; permissions = e.2 i % 256 }

  pub holds_put : (p : ℕ) → p < HOLDS → ((j : ℕ) → j < HOLDS → (j ≡ p → ⊥) → SameHold words words' j)
      → holds_of words' ≡ set (holds_of words) p (hold_in words' p)
  unfolding holds_of
  holds_put p l same = table_put HOLDS (hold_in words) (hold_in words') p zero_hold l (λ j h n. hold_same j (same j h n))

  pub holds_kept : ((j : ℕ) → j < HOLDS → SameHold words words' j) → holds_of words' ≡ holds_of words
  unfolding holds_of
  holds_kept same = table_same HOLDS (hold_in words') (hold_in words) zero_hold (λ j h. hold_same j (same j h))

  pub quotas_put : (q : ℕ) → q < QUOTAS → ((j : ℕ) → j < QUOTAS → (j ≡ q → ⊥) → SameEntry words words' j)
      → quotas_of words' ≡ set (quotas_of words) q (entry_in words' q)
  unfolding quotas_of
  quotas_put q l same = table_put QUOTAS (entry_in words) (entry_in words') q zero_quota l (λ j h n. entry_same j (same j h n))

  pub quotas_kept : ((j : ℕ) → j < QUOTAS → SameEntry words words' j) → quotas_of words' ≡ quotas_of words
  unfolding quotas_of
  quotas_kept same = table_same QUOTAS (entry_in words') (entry_in words) zero_quota (λ j h. entry_same j (same j h))

-- one word is written; the others are as they were
module _ (words : List ℕ) (at v : ℕ) where
  other : (x : ℕ) → (x ≡ at → ⊥) → get_or (set words at v) x 0 ≡ get_or words x 0
  other x n = get_or-set_other words at x v 0 n

  -- a word of no record, of no quota, and not the last serial or kind and edition
  same_hold : (j : ℕ) → (FIRST + 2 * j ≡ at → ⊥) → (FIRST + 2 * j + 1 ≡ at → ⊥) → SameHold words (set words at v) j
  same_hold j a b = (other (FIRST + 2 * j) a, other (FIRST + 2 * j + 1) b)

  same_entry : (j : ℕ) → (3 * j ≡ at → ⊥) → (3 * j + 1 ≡ at → ⊥) → (3 * j + 2 ≡ at → ⊥) → SameEntry words (set words at v) j
  same_entry j a b c = (other (3 * j) a, other (3 * j + 1) b, other (3 * j + 2) c)

-- a word of a quota
module _ (words : List ℕ) (at v q : ℕ) (few : q < QUOTAS) where
  pub put_entry : ((j : ℕ) → (j ≡ q → ⊥) → SameEntry words (set words at v) j) → at < LAST → (x : Quota) → entry_in (set words at v) q ≡ x
      → accounts_of (set words at v) ≡ put_quota q x (accounts_of words)
  put_entry others low x e =
      let hs = holds_kept words (set words at v) (λ j h. same_hold words at v j (λ e. omega arith) (λ e. omega arith)) in
      let qs : quotas_of (set words at v) ≡ set (quotas_of words) q x =
      quotas_put words (set words at v) q few (λ j h n. others j n) ∙ ap (set (quotas_of words) q) e in
      let last = other words at v LAST (λ e. omega arith) in
      let kinds = other words at v KINDS (λ e. omega arith) in
      λ i. record { quotas = qs i; last_serial = last i; holds = hs i; kind = kinds i % 256; edition = kinds i / 256 % 256 }

-- the remainder of a quota
module _ (words : List ℕ) (long : length words ≡ WORDS) (q v : ℕ) (few : q < QUOTAS) where
  abbrev pub owing : List ℕ
  owing = set words (3 * q + 1) v

  entry_owing : entry_in owing q ≡ with_remainder v (get_or (quotas_of words) q zero_quota)
  entry_owing =
      let at = quotas_at words q few in
      let g : grant_in owing q ≡ (get_or (quotas_of words) q zero_quota).grant = other words (3 * q + 1) v (3 * q) (λ e. omega arith)
      ∙ sym (ap (λ (x : Quota). x.grant) at) in
      let r : remainder_in owing q ≡ v = get_or-set_same words (3 * q + 1) v 0 (omega (arith, long)) in
      let p : permissions_in owing q ≡ (get_or (quotas_of words) q zero_quota).permissions =
      ap (λ (x : ℕ). x % 256) (other words (3 * q + 1) v (3 * q + 2) (λ e. omega arith)) ∙ sym (ap (λ (x : Quota). x.permissions) at) in
      λ i. record { grant = g i; remainder = r i; permissions = p i }

  pub put_remainder : accounts_of owing ≡ put_quota q (with_remainder v (quota_at q (accounts_of words))) (accounts_of words)
  put_remainder =
      put_entry words (3 * q + 1) v q few (λ j n. same_entry words (3 * q + 1) v j (λ e. omega arith) (λ e. n (omega arith)) (λ e. omega arith))
      (omega arith) (with_remainder v (quota_at q (accounts_of words))) entry_owing

-- the three words of a quota
module _ (words : List ℕ) (long : length words ≡ WORDS) (i : ℕ) (x : Quota) (few : i < QUOTAS) where
  abbrev pub entered : List ℕ
  entered = set (set (set words (3 * i) x.grant) (3 * i + 1) x.remainder) (3 * i + 2) x.permissions

  pub entered_other : (j : ℕ) → (j ≡ 3 * i → ⊥) → (j ≡ 3 * i + 1 → ⊥) → (j ≡ 3 * i + 2 → ⊥) → get_or entered j 0 ≡ get_or words j 0
  entered_other j a b c =
      get_or-set_other (set (set words (3 * i) x.grant) (3 * i + 1) x.remainder) (3 * i + 2) j x.permissions 0 c
      ∙ get_or-set_other (set words (3 * i) x.grant) (3 * i + 1) j x.remainder 0 b
      ∙ get_or-set_other words (3 * i) j x.grant 0 a

  pub entered_here : HasEntry entered i x
  entered_here =
      let one = set words (3 * i) x.grant in
      let two = set one (3 * i + 1) x.remainder in
      let m : length one ≡ WORDS = length-set words (3 * i) x.grant ∙ long in
      let n : length two ≡ WORDS = length-set one (3 * i + 1) x.remainder ∙ m in (
        get_or-set_other two (3 * i + 2) (3 * i) x.permissions 0 (λ e. omega arith)
            ∙ get_or-set_other one (3 * i + 1) (3 * i) x.remainder 0 (λ e. omega arith)
            ∙ get_or-set_same words (3 * i) x.grant 0 (omega (arith, long)),
        get_or-set_other two (3 * i + 2) (3 * i + 1) x.permissions 0 (λ e. omega arith) ∙ get_or-set_same one (3 * i + 1) x.remainder 0 (omega (arith, m)),
        get_or-set_same two (3 * i + 2) x.permissions 0 (omega (arith, n)),
      )

-- the last serial
module _ (words : List ℕ) (long : length words ≡ WORDS) (v : ℕ) where
  pub put_last : accounts_of (set words LAST v) ≡ with_last_serial v (accounts_of words)
  put_last =
      let hs = holds_kept words (set words LAST v) (λ j h. same_hold words LAST v j (λ e. omega arith) (λ e. omega arith)) in
      let qs = quotas_kept words (set words LAST v) (λ j h. same_entry words LAST v j (λ e. omega arith) (λ e. omega arith) (λ e. omega arith)) in
      let last = get_or-set_same words LAST v 0 (omega (arith, long)) in
      let kinds = other words LAST v KINDS (λ e. omega arith) in
      λ i. record { quotas = qs i; last_serial = last i; holds = hs i; kind = kinds i % 256; edition = kinds i / 256 % 256 }

-- both words of a record
module _ (words : List ℕ) (long : length words ≡ WORDS) (p serial rest : ℕ) (l : p < HOLDS) where
  abbrev pub renamed : List ℕ
  renamed = set words (FIRST + 2 * p) serial

  abbrev pub held : List ℕ
  held = set renamed (FIRST + 2 * p + 1) rest

  pub held_other : (x : ℕ) → (x ≡ FIRST + 2 * p → ⊥) → (x ≡ FIRST + 2 * p + 1 → ⊥) → get_or held x 0 ≡ get_or words x 0
  held_other x a b = get_or-set_other renamed (FIRST + 2 * p + 1) x rest 0 b ∙ get_or-set_other words (FIRST + 2 * p) x serial 0 a

  pub held_serial : serial_in held p ≡ serial
  held_serial =
      get_or-set_other renamed (FIRST + 2 * p + 1) (FIRST + 2 * p) rest 0 (λ e. omega arith) ∙ get_or-set_same words (FIRST + 2 * p) serial 0
      (omega (arith, long))

  pub held_rest : rest_in held p ≡ rest
  held_rest = get_or-set_same renamed (FIRST + 2 * p + 1) rest 0 (omega (arith, length-set words (FIRST + 2 * p) serial ∙ long))

  pub put_record : (h : Hold) → serial ≡ h.serial → rest % 256 ≡ h.quota → rest / 256 % 256 ≡ h.count → accounts_of held ≡ put_hold p h (accounts_of words)
  unfolding put_hold
  put_record h s q c =
      let hold : hold_in held p ≡ h =
      (λ i. record {
        serial = (held_serial ∙ s) i;
        quota = (ap (λ (x : ℕ). x % 256) held_rest ∙ q) i;
        count =
            (ap (λ (x : ℕ). x / 256 % 256) held_rest ∙ c) i;
      }) in
      let hs : holds_of held ≡ set (holds_of words) p h =
      holds_put words held p l
      (λ j b n. (
        held_other (FIRST + 2 * j) (λ e. n (omega arith)) (λ e. omega arith),
        held_other (FIRST + 2 * j + 1) (λ e. omega arith)
            (λ e. n (omega arith)),
      ))
      ∙ ap (set (holds_of words) p) hold in
      let qs = quotas_kept words held
      (λ j b. (
        held_other (3 * j) (λ e. omega arith) (λ e. omega arith),
        held_other (3 * j + 1) (λ e. omega arith) (λ e. omega arith),
        held_other
            (3 * j + 2) (λ e. omega arith) (λ e. omega arith),
      )) in
      let last = held_other LAST (λ e. omega arith) (λ e. omega arith) in
      let kinds = held_other KINDS (λ e. omega arith) (λ e. omega arith) in
      λ i. record { quotas = qs i; last_serial = last i; holds = hs i; kind = kinds i % 256; edition = kinds i / 256 % 256 }
