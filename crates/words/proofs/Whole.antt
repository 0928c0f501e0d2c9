-- The accounts and the padding are all that words hold: words with the same accounts and the same padding are the same. So a call that leaves both as they were
-- changes no word.
use Prim.Native.Nat.{ℕ, ◌+◌, ◌-◌, ◌*◌, ◌/◌, ◌%◌, ◌≤◌, ◌<◌}
use mathlib.Core.Path.{◌≡◌, refl, ap, sym, subst, ◌∙◌}
use mathlib.Core.List.{List}
use mathlib.Core.Bool.{Bool, true, false}
use native.Mathlib.Omega.{arith}
use borrow.Author.Tests.{ltb-true, ltb-false}
use lib.Dec.{ltb}
use lib.ListN.{length, get_or}
use lib.Seq.{ext_get_or}
use Rattle.lists.proofs.Bools.{by_eq}
use Rattle.accounts.specs.declared.Accounts.{Accounts}
use Rattle.accounts.specs.declared.Quota.{Quota}
use Rattle.accounts.specs.declared.Hold.{Hold}
use Rattle.accounts.specs.Accounts.{QUOTAS, HOLDS, quota_at, hold_at}
use Rattle.words.specs.Words.{WORDS, LAST, FIRST, KINDS, rest_in, hold_in, spare_in, entry_in, kinds_of, accounts_of, Padded}
use Rattle.words.proofs.Readings.{hold_is, quota_is}

-- a number by its lowest byte, or its two lowest, and the rest
byte_rest : (x y : ℕ) → x % 256 ≡ y % 256 → x / 256 ≡ y / 256 → x ≡ y
byte_rest x y a b = omega arith

twice : (x : ℕ) → x / 256 / 256 ≡ x / 65536
twice x = omega arith

two_rest : (x y : ℕ) → x % 256 ≡ y % 256 → x / 256 % 256 ≡ y / 256 % 256 → x / 65536 ≡ y / 65536 → x ≡ y
two_rest x y a b c = byte_rest x y a (byte_rest (x / 256) (y / 256) b (twice x ∙ c ∙ sym (twice y)))

module _ (words words' : List ℕ) (same : accounts_of words' ≡ accounts_of words) (pad : Padded words words') where
  entries : (q : ℕ) → q < QUOTAS → entry_in words' q ≡ entry_in words q
  entries q l = quota_is words' q l ∙ ap (quota_at q) same ∙ sym (quota_is words q l)

  records : (p : ℕ) → p < HOLDS → hold_in words' p ≡ hold_in words p
  records p l = hold_is words' p l ∙ ap (hold_at p) same ∙ sym (hold_is words p l)

  spares : (q : ℕ) → q < QUOTAS → spare_in words' q ≡ spare_in words q
  spares q l = byte_rest (spare_in words' q) (spare_in words q) (ap (λ (x : Quota). x.permissions) (entries q l)) (pad.of_quotas q l)

  rests : (p : ℕ) → p < HOLDS → rest_in words' p ≡ rest_in words p
  rests p l =
      let e = records p l in
      two_rest (rest_in words' p) (rest_in words p) (ap (λ (x : Hold). x.quota) e) (ap (λ (x : Hold). x.count) e) (pad.of_holds p l)

  abbrev Same : ℕ → Type 0
  Same j = get_or words' j 0 ≡ get_or words j 0

  at : (i j : ℕ) → i ≡ j → Same i → Same j
  at i j e s = subst Same e s

  by_rest : (j : ℕ) → j < 3 * QUOTAS → Same j
  by_rest j l =
      let q = j / 3 in
      by_eq (j % 3) 0
      (λ e. at (3 * q) j (omega arith) (ap (λ (x : Quota). x.grant) (entries q (omega arith))))
      (λ a. by_eq (j % 3) 1
      (λ e. at (3 * q + 1) j (omega arith) (ap (λ (x : Quota). x.remainder) (entries q (omega arith))))
      (λ b. at (3 * q + 2) j (omega arith) (spares q (omega arith))))

  by_record : (j : ℕ) → FIRST ≤ j → j < KINDS → Same j
  by_record j a l =
      let p = (j - FIRST) / 2 in
      by_eq ((j - FIRST) % 2) 0
      (λ e. at (FIRST + 2 * p) j (omega arith) (ap (λ (x : Hold). x.serial) (records p (omega arith))))
      (λ e. at (FIRST + 2 * p + 1) j (omega arith) (rests p (omega arith)))

  each : (j : ℕ) → j < WORDS → Same j
  each j l = go (ltb j (3 * QUOTAS)) refl
    where
      last : Same LAST
      last = ap (λ (k : Accounts). k.last_serial) same

      kinds : Same KINDS
      kinds = two_rest (kinds_of words') (kinds_of words) (ap (λ (k : Accounts). k.kind) same) (ap (λ (k : Accounts). k.edition) same) pad.of_kinds

      go : (t : Bool) → ltb j (3 * QUOTAS) ≡ t → Same j
      go true e = by_rest j (ltb-true j (3 * QUOTAS) e)
      go false e =
          let b = ltb-false j (3 * QUOTAS) e in
          by_eq j LAST
          (λ z. at LAST j (sym z) last)
          (λ n. by_eq j KINDS (λ z. at KINDS j (sym z) kinds) (λ m. by_record j (omega arith) (omega arith)))

  pub same_words : length words ≡ WORDS → length words' ≡ WORDS → words' ≡ words
  same_words a b = ext_get_or 0 words' words (b ∙ sym a) (λ j l. each j (omega arith))
