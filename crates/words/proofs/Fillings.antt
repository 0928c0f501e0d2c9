-- The words that hold some accounts: they hold these and no others.
use Prim.Native.Nat.{ℕ, zero, suc, ◌+◌, ◌*◌, ◌/◌, ◌%◌, ◌<◌, ◌^◌}
use mathlib.Core.Path.{◌≡◌, refl, ap, sym, ◌∙◌}
use mathlib.Core.List.{List, [], ◌∷◌, ◌++◌}
use native.Mathlib.Omega.{arith}
use lib.ListN.{length, get_or, set, length-set, length-append, get_or-append}
use lib.Seq.{get_or-set_same, get_or-set_other, get_or-append-add, get_or_at, ext_get_or}
use Rattle.accounts.specs.declared.Quota.{Quota}
use Rattle.accounts.specs.declared.Hold.{Hold}
use Rattle.accounts.specs.declared.Accounts.{Accounts}
use Rattle.accounts.specs.Accounts.{QUOTAS, HOLDS, zero_quota, zero_hold}
use Rattle.words.specs.Words.{WORDS, LAST, FIRST, KINDS, quotas_of, holds_of, accounts_of, quota_words, hold_words, words_of}
use Rattle.words.specs.Filling.{Packable, HasEntry, HasQuotas, HasHolds, Filled}
use Rattle.words.proofs.Words.{quotas_long, quotas_at, holds_long, holds_at}
use Rattle.words.proofs.Writing.{quotas_kept, holds_kept}
use Rattle.words.proofs.Whole.{same_words}

-- the words of the quotas, and of the records, by their places
quotas_count : (qs : List Quota) → length (quota_words qs) ≡ 3 * length qs
unfolding quota_words
quotas_count [] = refl
quotas_count (x ∷ qs) = let e = quotas_count qs in omega arith

holds_count : (hs : List Hold) → length (hold_words hs) ≡ 2 * length hs
unfolding hold_words
holds_count [] = refl
holds_count (h ∷ hs) = let e = holds_count hs in omega arith

quota_there : (qs : List Quota) (q : ℕ) → q < length qs → HasEntry (quota_words qs) q (get_or qs q zero_quota)
unfolding quota_words
quota_there [] q l = absurd (omega arith)
quota_there (x ∷ qs) zero l = (refl, refl, refl)
quota_there (x ∷ qs) (suc q) l =
    let t = quota_there qs q (omega arith) in
    let at : ℕ → ℕ = λ j. get_or (quota_words (x ∷ qs)) j 0 in
    let a : 3 * suc q ≡ suc (suc (suc (3 * q))) = omega arith in
    let b : 3 * suc q + 1 ≡ suc (suc (suc (3 * q + 1))) = omega arith in
    let d : 3 * suc q + 2 ≡ suc (suc (suc (3 * q + 2))) = omega arith in
    (ap at a ∙ t.0, ap at b ∙ t.1, ap at d ∙ t.2)

hold_there : (hs : List Hold) (p : ℕ) → p < length hs → let h = get_or hs p zero_hold in
    (get_or (hold_words hs) (2 * p) 0 ≡ h.serial) × (get_or (hold_words hs) (2 * p + 1) 0 ≡ 256 * h.count + h.quota)
unfolding hold_words
hold_there [] p l = absurd (omega arith)
hold_there (h ∷ hs) zero l = (refl, refl)
hold_there (h ∷ hs) (suc p) l =
    let t = hold_there hs p (omega arith) in
    let at : ℕ → ℕ = λ j. get_or (hold_words (h ∷ hs)) j 0 in
    let a : 2 * suc p ≡ suc (suc (2 * p)) = omega arith in
    let b : 2 * suc p + 1 ≡ suc (suc (2 * p + 1)) = omega arith in
    (ap at a ∙ t.0, ap at b ∙ t.1)

-- the words of some accounts hold them with padding 0
module _ (k : Accounts) (qn : length k.quotas ≡ QUOTAS) (hn : length k.holds ≡ HOLDS) where
  abbrev front : List ℕ
  front = quota_words k.quotas

  abbrev middle : List ℕ
  middle = hold_words k.holds

  abbrev end : List ℕ
  end = (256 * k.edition + k.kind) ∷ []

  front_long : length front ≡ LAST
  front_long = quotas_count k.quotas ∙ ap (λ (n : ℕ). 3 * n) qn

  middle_long : length middle ≡ 2 * HOLDS
  middle_long = holds_count k.holds ∙ ap (λ (n : ℕ). 2 * n) hn

  abbrev all : List ℕ
  all = front ++ (k.last_serial ∷ (middle ++ end))

  in_front : (j : ℕ) → j < LAST → get_or all j 0 ≡ get_or front j 0
  in_front j l = get_or-append front (k.last_serial ∷ (middle ++ end)) 0 j (omega (arith, front_long))

  behind : (j : ℕ) → get_or all (FIRST + j) 0 ≡ get_or (middle ++ end) j 0
  behind j =
      let e : FIRST + j ≡ length front + suc j = omega (arith, front_long) in
      ap (λ (x : ℕ). get_or all x 0) e ∙ get_or-append-add front (k.last_serial ∷ (middle ++ end)) (suc j) 0

  in_middle : (j : ℕ) → j < 2 * HOLDS → get_or all (FIRST + j) 0 ≡ get_or middle j 0
  in_middle j l = behind j ∙ get_or-append middle end 0 j (omega (arith, middle_long))

  pub words_filled : Filled k (words_of k)
  unfolding words_of
  words_filled =
      record {
        long = length-append front (k.last_serial ∷ (middle ++ end)) ∙ (let e = length-append middle end in omega (arith, front_long, middle_long, e));
        entries = λ q l.
            let t = quota_there k.quotas q (omega (arith, qn)) in
            (in_front (3 * q) (omega arith) ∙ t.0, in_front (3 * q + 1) (omega arith) ∙ t.1, in_front (3 * q + 2) (omega arith) ∙ t.2);
        records = λ p l.
            let t = hold_there k.holds p (omega (arith, hn)) in
            let e : FIRST + 2 * p + 1 ≡ FIRST + (2 * p + 1) = omega arith in
            (in_middle (2 * p) (omega arith) ∙ t.0, ap (λ (x : ℕ). get_or all x 0) e ∙ in_middle (2 * p + 1) (omega arith) ∙ t.1);
        last = get_or_at front k.last_serial (middle ++ end) 0 LAST front_long;
        kinds = behind (2 * HOLDS) ∙ get_or_at middle (256 * k.edition + k.kind) [] 0 (2 * HOLDS) middle_long;
      }

-- words that hold the same accounts with padding 0 are the same
module _ {k : Accounts} {words words' : List ℕ} (f : Filled k words) (g : Filled k words') where
  pub filled_same : words' ≡ words
  filled_same =
      let qs = quotas_kept words words' (λ j l.
      let a = f.entries j l in
      let b = g.entries j l in
      (b.0 ∙ sym a.0, b.1 ∙ sym a.1, b.2 ∙ sym a.2)) in
      let hs = holds_kept words words' (λ j l.
      let a = f.records j l in
      let b = g.records j l in
      (b.0 ∙ sym a.0, b.1 ∙ sym a.1)) in
      let last = g.last ∙ sym f.last in
      let kinds = g.kinds ∙ sym f.kinds in
      same_words words words'
      (λ i. record { quotas = qs i; last_serial = last i; holds = hs i; kind = kinds i % 256; edition = kinds i / 256 % 256 })
      (record {
        of_holds = λ p l. ap (λ (x : ℕ). x / 65536) ((g.records p l).1 ∙ sym (f.records p l).1);
        of_quotas = λ q l. ap (λ (x : ℕ). x / 256) ((g.entries q l).2 ∙ sym (f.entries q l).2);
        of_kinds = ap (λ (x : ℕ). x / 65536) kinds;
      })
      f.long g.long

-- they hold the accounts, where words can hold these
two_bytes : (a b : ℕ) → a < 2 ^ 8 → b < 2 ^ 8 → ((256 * a + b) % 256 ≡ b) × ((256 * a + b) / 256 % 256 ≡ a)
two_bytes a b l m = (omega arith, omega arith)

one_byte : (a : ℕ) → a < 2 ^ 8 → a % 256 ≡ a
one_byte a l = omega arith

module _ {k : Accounts} (t : Packable k) where
  pub filled_accounts : {words : List ℕ} → Filled k words → accounts_of words ≡ k
  filled_accounts {words} f =
      let qs : quotas_of words ≡ k.quotas = ext_get_or zero_quota (quotas_of words) k.quotas (quotas_long words ∙ sym t.quotas) (λ j b.
      let l : j < QUOTAS = omega (arith, quotas_long words) in
      let e = f.entries j l in
      let p = ap (λ (x : ℕ). x % 256) e.2 ∙ one_byte (get_or k.quotas j zero_quota).permissions (t.permissions j) in
      quotas_at words j l ∙ (λ i. record { grant = e.0 i; remainder = e.1 i; permissions = p i })) in
      let hs : holds_of words ≡ k.holds = ext_get_or zero_hold (holds_of words) k.holds (holds_long words ∙ sym t.holds) (λ j b.
      let l : j < HOLDS = omega (arith, holds_long words) in
      let e = f.records j l in
      let h = get_or k.holds j zero_hold in
      let w = two_bytes h.count h.quota (t.count j) (t.quota j) in
      let q = ap (λ (x : ℕ). x % 256) e.1 ∙ w.0 in
      let c = ap (λ (x : ℕ). x / 256 % 256) e.1 ∙ w.1 in
      holds_at words j l ∙ (λ i. record { serial = e.0 i; quota = q i; count = c i })) in
      let w = two_bytes k.edition k.kind t.edition t.kind in
      let kind = ap (λ (x : ℕ). x % 256) f.kinds ∙ w.0 in
      let edition = ap (λ (x : ℕ). x / 256 % 256) f.kinds ∙ w.1 in
      λ i. record { quotas = qs i; last_serial = f.last i; holds = hs i; kind = kind i; edition = edition i }

  pub accounts_again : accounts_of (words_of k) ≡ k
  accounts_again = filled_accounts (words_filled k t.quotas t.holds)

  pub words_long : length (words_of k) ≡ WORDS
  words_long = (words_filled k t.quotas t.holds).long

-- the last serial, then kind and edition
module _ (k : Accounts) (words words' : List ℕ) (rest : ℕ) (is : rest ≡ 256 * k.edition + k.kind)
    (a : HasQuotas k.quotas words) (b : HasHolds k.holds words words') where
  abbrev pub finished : List ℕ
  finished = set (set words' LAST k.last_serial) KINDS rest

  unchanged : (j : ℕ) → (j ≡ LAST → ⊥) → (j ≡ KINDS → ⊥) → get_or finished j 0 ≡ get_or words' j 0
  unchanged j x y = get_or-set_other (set words' LAST k.last_serial) KINDS j rest 0 y ∙ get_or-set_other words' LAST j k.last_serial 0 x

  as_before : (j : ℕ) → j < LAST → get_or finished j 0 ≡ get_or words j 0
  as_before j l = unchanged j (λ z. omega arith) (λ z. omega arith) ∙ b.2 j (omega arith)

  pub finished_filled : Filled k finished
  finished_filled =
      let n : length (set words' LAST k.last_serial) ≡ WORDS = length-set words' LAST k.last_serial ∙ b.0 in
      record {
        long = length-set (set words' LAST k.last_serial) KINDS rest ∙ n;
        entries = λ q l.
            let t = a.1 q l in
            (as_before (3 * q) (omega arith) ∙ t.0, as_before (3 * q + 1) (omega arith) ∙ t.1, as_before (3 * q + 2) (omega arith) ∙ t.2);
        records = λ p l.
            let t = b.1 p l in (
              unchanged (FIRST + 2 * p) (λ z. omega arith) (λ z. omega arith) ∙ t.0,
              unchanged (FIRST + 2 * p + 1) (λ z. omega arith) (λ z. omega arith) ∙ t.1,
            );
        last = get_or-set_other (set words' LAST k.last_serial) KINDS LAST rest 0 (λ z. omega arith)
            ∙ get_or-set_same words' LAST k.last_serial 0 (omega (arith, b.0));
        kinds = get_or-set_same (set words' LAST k.last_serial) KINDS rest 0 (omega (arith, n)) ∙ is;
      }
