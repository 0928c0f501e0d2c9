-- Padding stays as it was where one word is written.
use Prim.Native.Nat.{ℕ, ◌+◌, ◌*◌, ◌/◌, ◌<◌}
use mathlib.Core.Path.{◌≡◌, refl, ap, subst, sym, ◌∙◌}
use mathlib.Core.List.{List}
use native.Mathlib.Omega.{arith}
use lib.ListN.{length, get_or, set}
use lib.Seq.{get_or-set_same, get_or-set_other}
use Rattle.lists.proofs.Bools.{by_eq}
use Rattle.accounts.specs.Accounts.{QUOTAS, HOLDS}
use Rattle.words.specs.Words.{WORDS, LAST, FIRST, KINDS, rest_in, spare_in, kinds_of, Padded, Unpadded}
use Rattle.words.specs.Opening.{Blank}
use Rattle.words.proofs.Writing.{held, held_other, held_rest}

pub padded_same : (words : List ℕ) → Padded words words
padded_same words = record { of_holds = λ p l. refl; of_quotas = λ q l. refl; of_kinds = refl }

pub padded_on : {a b c : List ℕ} → Padded a b → Padded b c → Padded a c
padded_on f g = record {
  of_holds = λ p l. g.of_holds p l ∙ f.of_holds p l;
  of_quotas = λ q l. g.of_quotas q l ∙ f.of_quotas q l;
  of_kinds = g.of_kinds ∙ f.of_kinds;
}

-- padding that was zero stays zero; it is zero where all words are
pub unpadded_on : {a b : List ℕ} → Unpadded a → Padded a b → Unpadded b
unpadded_on f g = record {
  of_holds = λ p l. g.of_holds p l ∙ f.of_holds p l;
  of_quotas = λ q l. g.of_quotas q l ∙ f.of_quotas q l;
  of_kinds = g.of_kinds ∙ f.of_kinds;
}

pub blank_unpadded : {words : List ℕ} → Blank words → Unpadded words
blank_unpadded b = record {
  of_holds = λ p l. ap (λ (x : ℕ). x / 65536) (b.1 (FIRST + 2 * p + 1));
  of_quotas = λ q l. ap (λ (x : ℕ). x / 256) (b.1 (3 * q + 2));
  of_kinds = ap (λ (x : ℕ). x / 65536) (b.1 KINDS);
}

-- the word at a place that has no padding
module _ (words : List ℕ) (at v : ℕ) where
  other : (x : ℕ) → (x ≡ at → ⊥) → get_or (set words at v) x 0 ≡ get_or words x 0
  other x n = get_or-set_other words at x v 0 n

  plain : ((p : ℕ) → p < HOLDS → FIRST + 2 * p + 1 ≡ at → ⊥) → ((q : ℕ) → q < QUOTAS → 3 * q + 2 ≡ at → ⊥) → (KINDS ≡ at → ⊥) → Padded words (set words at v)
  plain a b c = record {
    of_holds = λ p l. ap (λ (x : ℕ). x / 65536) (other (FIRST + 2 * p + 1) (a p l));
    of_quotas = λ q l. ap (λ (x : ℕ). x / 256) (other (3 * q + 2) (b q l));
    of_kinds = ap (λ (x : ℕ). x / 65536) (other KINDS c);
  }

pub padded_remainder : (words : List ℕ) (q v : ℕ) → q < QUOTAS → Padded words (set words (3 * q + 1) v)
padded_remainder words q v l = plain words (3 * q + 1) v (λ p h e. omega arith) (λ p h e. omega arith) (λ e. omega arith)

pub padded_grant : (words : List ℕ) (q v : ℕ) → q < QUOTAS → Padded words (set words (3 * q) v)
padded_grant words q v l = plain words (3 * q) v (λ p h e. omega arith) (λ p h e. omega arith) (λ e. omega arith)

pub padded_last : (words : List ℕ) (v : ℕ) → Padded words (set words LAST v)
padded_last words v = plain words LAST v (λ p h e. omega arith) (λ p h e. omega arith) (λ e. omega arith)

-- the word of permissions
pub padded_spare : (words : List ℕ) → length words ≡ WORDS → (q v : ℕ) → q < QUOTAS → v / 256 ≡ spare_in words q / 256 → Padded words (set words (3 * q + 2) v)
padded_spare words long q v l e = record {
  of_holds = λ p h. ap (λ (x : ℕ). x / 65536) (other words (3 * q + 2) v (FIRST + 2 * p + 1) (λ z. omega arith));
  of_quotas = λ j h. by_eq j q
      (λ z.
      let same : spare_in (set words (3 * q + 2) v) q / 256 ≡ spare_in words q / 256 = ap (λ (x : ℕ). x / 256)
      (get_or-set_same words (3 * q + 2) v 0 (omega (arith, long))) ∙ e in
      subst (λ (x : ℕ). spare_in (set words (3 * q + 2) v) x / 256 ≡ spare_in words x / 256) (sym z) same)
      (λ n. ap (λ (x : ℕ). x / 256) (other words (3 * q + 2) v (3 * j + 2) (λ z. n (omega arith))));
  of_kinds = ap (λ (x : ℕ). x / 65536) (other words (3 * q + 2) v KINDS (λ z. omega arith));
}

-- the word of kind and edition
pub padded_kinds : (words : List ℕ) → length words ≡ WORDS → (v : ℕ) → v / 65536 ≡ kinds_of words / 65536 → Padded words (set words KINDS v)
padded_kinds words long v e = record {
  of_holds = λ p h. ap (λ (x : ℕ). x / 65536) (other words KINDS v (FIRST + 2 * p + 1) (λ z. omega arith));
  of_quotas = λ q h. ap (λ (x : ℕ). x / 256) (other words KINDS v (3 * q + 2) (λ z. omega arith));
  of_kinds = ap (λ (x : ℕ). x / 65536) (get_or-set_same words KINDS v 0 (omega (arith, long))) ∙ e;
}

-- both words of a record
pub padded_record : (words : List ℕ) (long : length words ≡ WORDS) (p serial rest : ℕ) (l : p < HOLDS) → rest / 65536 ≡ rest_in words p / 65536
    → Padded words (held words long p serial rest l)
padded_record words long p serial rest l e =
    let h = held words long p serial rest l in
    record {
      of_holds = λ j b. by_eq j p
          (λ z.
          let same : rest_in h p / 65536 ≡ rest_in words p / 65536 = ap (λ (x : ℕ). x / 65536) (held_rest words long p serial rest l) ∙ e in
          subst (λ (x : ℕ). rest_in h x / 65536 ≡ rest_in words x / 65536) (sym z) same)
          (λ n. ap (λ (x : ℕ). x / 65536) (held_other words long p serial rest l (FIRST + 2 * j + 1) (λ z. omega arith) (λ z. n (omega arith))));
      of_quotas = λ j b. ap (λ (x : ℕ). x / 256) (held_other words long p serial rest l (3 * j + 2) (λ z. omega arith) (λ z. omega arith));
      of_kinds = ap (λ (x : ℕ). x / 65536) (held_other words long p serial rest l KINDS (λ z. omega arith) (λ z. omega arith));
    }
