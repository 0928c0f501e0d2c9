-- The words at opening.
use Prim.Native.Nat.{ℕ, ◌+◌, ◌*◌, ◌/◌, ◌%◌, ◌≤◌, ◌<◌}
use mathlib.Core.Path.{◌≡◌, refl, ap, sym, ◌∙◌}
use mathlib.Core.List.{List, map}
use native.Mathlib.Omega.{arith}
use lib.ListN.{length, get_or, set, length-set, replicate, length-replicate, get_or-replicate}
use lib.Seq.{get_or-set_same, get_or-set_other, set_out, ext_get_or}
use Rattle.accounts.specs.declared.Accounts.{Accounts}
use Rattle.accounts.specs.declared.Quota.{Quota}
use Rattle.accounts.specs.declared.settings.Settings.{Settings}
use Rattle.accounts.specs.Accounts.{QUOTAS, HOLDS, zero_quota, zero_hold, zero_accounts}
use Rattle.accounts.specs.Accounts.{with_permissions, with_quotas, granted, kind_number, edition_number, opened}
use Rattle.accounts.proofs.Laws.{mapped_more, mapped_all}
use Rattle.words.specs.Words.{WORDS, LAST, FIRST, KINDS, spare_in, entry_in, holds_of, quotas_of, kinds_of, accounts_of, Padded}
use Rattle.words.specs.Opening.{Blank, with_quota, with_grant, with_kinds}
use Rattle.words.proofs.Words.{holds_long, holds_at, quotas_long, quotas_at}
use Rattle.words.proofs.Padding.{padded_same, padded_on, padded_grant, padded_remainder, padded_spare, padded_kinds}
use Rattle.words.proofs.Changes.{Changed, low_byte, two_bytes}
use Rattle.words.proofs.Writing.{holds_kept, quotas_kept, quotas_put, entered, entered_other, entered_here}

-- words of zeros hold accounts of zeros
pub blank_zero : (words : List ℕ) → Blank words → accounts_of words ≡ zero_accounts
blank_zero words b =
    let z = b.1 in
    let qs : quotas_of words ≡ replicate QUOTAS zero_quota =
    ext_get_or zero_quota (quotas_of words) (replicate QUOTAS zero_quota) (quotas_long words ∙ sym (length-replicate QUOTAS zero_quota))
    (λ j l.
    let f : j < QUOTAS = omega (arith, l, quotas_long words) in
    quotas_at words j f ∙ (λ i. record { grant = z (3 * j) i; remainder = z (3 * j + 1) i; permissions = z (3 * j + 2) i % 256 })
    ∙ sym (get_or-replicate QUOTAS j zero_quota zero_quota f)) in
    let hs : holds_of words ≡ replicate HOLDS zero_hold =
    ext_get_or zero_hold (holds_of words) (replicate HOLDS zero_hold) (holds_long words ∙ sym (length-replicate HOLDS zero_hold))
    (λ j l.
    let f : j < HOLDS = omega (arith, l, holds_long words) in
    holds_at words j f
    ∙ (λ i. record { serial = z (FIRST + 2 * j) i; quota = z (FIRST + 2 * j + 1) i % 256; count = z (FIRST + 2 * j + 1) i / 256 % 256 })
    ∙ sym (get_or-replicate HOLDS j zero_hold zero_hold f)) in
    λ i. record { quotas = qs i; last_serial = z LAST i; holds = hs i; kind = z KINDS i % 256; edition = z KINDS i / 256 % 256 }

-- a quota's three words, the last with the permissions below what was there
module _ (words : List ℕ) (long : length words ≡ WORDS) (q : ℕ) (x : Quota) (few : q < QUOTAS) (v : ℕ) where
  abbrev pub three : List ℕ
  three = entered words long q (with_permissions v x) few

  kept : (x : ℕ) → (x ≡ 3 * q → ⊥) → (x ≡ 3 * q + 1 → ⊥) → (x ≡ 3 * q + 2 → ⊥) → get_or three x 0 ≡ get_or words x 0
  kept = entered_other words long q (with_permissions v x) few

  put_three : v % 256 ≡ x.permissions → accounts_of three ≡ with_quota q x (accounts_of words)
  put_three low =
      let e = entered_here words long q (with_permissions v x) few in
      let new : entry_in three q ≡ x =
      (λ i. record { grant = e.0 i; remainder = e.1 i; permissions = (ap (λ (n : ℕ). n % 256) e.2 ∙ low) i }) in
      let hs = holds_kept words three
      (λ j h. (
        kept (FIRST + 2 * j) (λ e. omega arith) (λ e. omega arith) (λ e. omega arith),
        kept (FIRST + 2 * j + 1) (λ e. omega arith) (λ e. omega arith) (λ e. omega arith),
      )) in
      let qs : quotas_of three ≡ set (quotas_of words) q x =
      quotas_put words three q few
      (λ j h n. (
        kept (3 * j) (λ e. n (omega arith)) (λ e. omega arith) (λ e. omega arith),
        kept (3 * j + 1) (λ e. omega arith) (λ e. n (omega arith)) (λ e. omega arith),
        kept (3 * j + 2) (λ e. omega arith) (λ e. omega arith) (λ e. n (omega arith)),
      ))
      ∙ ap (set (quotas_of words) q) new in
      let last = kept LAST (λ e. omega arith) (λ e. omega arith) (λ e. omega arith) in
      let kinds = kept KINDS (λ e. omega arith) (λ e. omega arith) (λ e. omega arith) in
      λ i. record { quotas = qs i; last_serial = last i; holds = hs i; kind = kinds i % 256; edition = kinds i / 256 % 256 }

  three_padded : v / 256 ≡ spare_in words q / 256 → Padded words three
  three_padded rest =
      let one = set words (3 * q) x.grant in
      let two = set one (3 * q + 1) x.remainder in
      let n : length two ≡ WORDS = length-set one (3 * q + 1) x.remainder ∙ length-set words (3 * q) x.grant ∙ long in
      let same : spare_in two q ≡ spare_in words q =
      get_or-set_other one (3 * q + 1) (3 * q + 2) x.remainder 0 (λ e. omega arith)
      ∙ get_or-set_other words (3 * q) (3 * q + 2) x.grant 0 (λ e. omega arith) in
      padded_on (padded_on (padded_grant words q x.grant few) (padded_remainder one q x.remainder few))
      (padded_spare two n q v few (rest ∙ sym (ap (λ (n : ℕ). n / 256) same)))

-- a quota is put; a number out of range changes nothing
pub put_quota_is : (words : List ℕ) (long : length words ≡ WORDS) (q : ℕ) (x : Quota) (few : q < QUOTAS) (p : ℕ) → p ≡ x.permissions → p < 256
    → Changed words (three words long q x few (256 * (spare_in words q / 256) + p)) (with_quota q x (accounts_of words))
put_quota_is words long q x few p e narrow =
    let v = 256 * (spare_in words q / 256) + p in
    let b = low_byte (spare_in words q / 256) p narrow in
    (put_three words long q x few v (b.0 ∙ e), three_padded words long q x few v b.1)

pub put_quota_out : (words : List ℕ) (q : ℕ) (x : Quota) → QUOTAS ≤ q → Changed words words (with_quota q x (accounts_of words))
put_quota_out words q x l = (
  sym (ap (λ (qs : List Quota). with_quotas qs (accounts_of words)) (set_out (quotas_of words) q x (omega (arith, quotas_long words, l)))),
  padded_same words,
)

-- kind and edition, below what was there
pub put_kinds_is : (words : List ℕ) → length words ≡ WORDS → (kind edition low high : ℕ) → low ≡ kind → high ≡ edition → low < 256 → high < 256
    → Changed words (set words KINDS (65536 * (kinds_of words / 65536) + (256 * high + low))) (with_kinds kind edition (accounts_of words))
put_kinds_is words long kind edition low high a b l m =
    let v = 65536 * (kinds_of words / 65536) + (256 * high + low) in
    let t = set words KINDS v in
    let other : (x : ℕ) → (x ≡ KINDS → ⊥) → get_or t x 0 ≡ get_or words x 0 = (λ x n. get_or-set_other words KINDS x v 0 n) in
    let hs = holds_kept words t (λ j h. (other (FIRST + 2 * j) (λ e. omega arith), other (FIRST + 2 * j + 1) (λ e. omega arith))) in
    let qs = quotas_kept words t (λ j h. (other (3 * j) (λ e. omega arith), other (3 * j + 1) (λ e. omega arith), other (3 * j + 2) (λ e. omega arith))) in
    let last = other LAST (λ e. omega arith) in
    let now = get_or-set_same words KINDS v 0 (omega (arith, long)) in
    let p = two_bytes (kinds_of words / 65536) high low m l in
    let k = ap (λ (x : ℕ). x % 256) now ∙ p.0 ∙ a in
    let d = ap (λ (x : ℕ). x / 256 % 256) now ∙ p.1 ∙ b in
    (λ i. record { quotas = qs i; last_serial = last i; holds = hs i; kind = k i; edition = d i }, padded_kinds words long v p.2)

-- the quotas before place i have their grants
pub record Granting (gs : List ℕ) (i : ℕ) (k : Accounts) : Type 0 where
  pub long : length k.quotas ≡ QUOTAS
  pub done : (j : ℕ) → j < i → get_or k.quotas j (granted 0) ≡ granted (get_or gs j 0)
  pub records : k.holds ≡ replicate HOLDS zero_hold
  pub last : k.last_serial ≡ 0

pub granting_start : (gs : List ℕ) (k : Accounts) → k ≡ zero_accounts → Granting gs 0 k
granting_start gs k e = record {
  long = ap (λ (x : Accounts). length x.quotas) e ∙ length-replicate QUOTAS zero_quota;
  done = λ j l. absurd (omega arith);
  records = ap (λ (x : Accounts). x.holds) e;
  last = ap (λ (x : Accounts). x.last_serial) e;
}

pub granting_more : (gs : List ℕ) (i : ℕ) (k r : Accounts) → Granting gs i k → i < QUOTAS → r ≡ with_grant i (get_or gs i 0) k → Granting gs (i + 1) r
granting_more gs i k r g l e =
    let qs : r.quotas ≡ set k.quotas i (granted (get_or gs i 0)) = ap (λ (x : Accounts). x.quotas) e in
    record {
      long = ap length qs ∙ length-set k.quotas i (granted (get_or gs i 0)) ∙ g.long;
      done = λ j b. ap (λ (x : List Quota). get_or x j (granted 0)) qs
          ∙ mapped_more granted 0 (granted 0) refl gs k.quotas i g.done (omega (arith, g.long)) (granted (get_or gs i 0)) refl j b;
      records = ap (λ (x : Accounts). x.holds) e ∙ g.records;
      last = ap (λ (x : Accounts). x.last_serial) e ∙ g.last;
    }

pub granting_all : (gs : List ℕ) → length gs ≡ QUOTAS → (i : ℕ) (k : Accounts) → Granting gs i k → QUOTAS ≤ i → (s : Settings) (kind edition : ℕ)
    → kind ≡ kind_number s.kind → edition ≡ edition_number s.edition → with_kinds kind edition k ≡ opened s gs
unfolding opened
granting_all gs long i k g l s kind edition a b =
    let qs : k.quotas ≡ map granted gs = mapped_all granted 0 (granted 0) refl gs k.quotas i g.done (g.long ∙ sym long) (omega (arith, g.long)) in
    λ j. record { quotas = qs j; last_serial = g.last j; holds = g.records j; kind = a j; edition = b j }
