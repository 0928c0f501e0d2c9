-- Parts that are written side by side make an entry, a record or the whole head.
use mathlib.Core.Path.{◌≡◌, refl, ap, sym, ◌∙◌}
use mathlib.Core.List.{List, ◌++◌, append_assoc, append-nil}
use mathlib.Core.Bool.{Bool, true, false, cond}
use Prim.Native.Nat.{ℕ, ◌+◌, ◌*◌, ◌/◌, ◌≤◌, ◌<◌}
use native.Mathlib.Omega.{arith}
use native.Mathlib.Nat.{mod-eq_of_lt, zero-add, suc-mul, mul-le-mul_right}
use lib.ListN.{length, take, drop, set, replicate, length-append}
use lib.Seq.{length-take-le, drop-length, drop-drop}
use Rattle.accounts.specs.Accounts.{QUOTAS, HOLDS}
use Rattle.accounts.specs.declared.Quota.{Quota}
use Rattle.accounts.specs.declared.Hold.{Hold}
use Rattle.accounts.specs.declared.Accounts.{Accounts}
use Rattle.layout.specs.Bytes.{bytes, overwrite, write_number}
use Rattle.layout.proofs.Numbers.{bytes_length}
use Rattle.layout.proofs.Overwrite.{overwrite_two, overwrite_fits, overwrite_one}
use Rattle.image_model.specs.declared.Form.{Form}
use Rattle.image_model.specs.Items.{many}
use Rattle.image.specs.Parsing.{FormFits}
use Rattle.image_model.specs.Stream.{entry_tail, tail_width, marks_of, record_bytes, entry_bytes, entry_width, head_length, head_of}
use Rattle.image_model.proofs.Items.{many_length}
use Rattle.image_model.proofs.Entries.{entry_length, record_length}
use Rattle.image.proofs.Rows

-- two parts, the second behind k bytes
pub beside : (at k : ℕ) (a b s s' s'' : List ℕ) → length a ≡ k → at + (k + length b) ≤ length s → s' ≡ overwrite at a s → s'' ≡ overwrite (at + k) b s'
    → s'' ≡ overwrite at (a ++ b) s
beside at k a b s s' s'' e h f g = g ∙ rw (f, ← e) (overwrite_two at a b s (rw e h))

pub one_byte : (at b : ℕ) (s : List ℕ) → b < 256 → at < length s → set s at b ≡ overwrite at (bytes 1 b) s
unfolding bytes
one_byte at b s l h = rw (mod-eq_of_lt l) (overwrite_one at b s h)

two_zeros : bytes 2 0 ≡ replicate 2 0
unfolding bytes
two_zeros = refl

-- a byte as a number of four
pub four_of_one : (p : ℕ) → p < 256 → bytes 4 p ≡ bytes 1 p ++ replicate 3 0
unfolding bytes
four_of_one p h = let d : p / 256 ≡ 0 = omega arith in rw d

module _ (at : ℕ) (s₀ s₁ s₂ : List ℕ) (h : at + 8 ≤ length s₀) where
  module _ (f : Form) (q : Quota) (e₁ : s₁ ≡ write_number 4 at q.grant s₀) (e₂ : s₂ ≡ write_number 4 (at + 4) q.remainder s₁) where
    front : List ℕ
    front = bytes 4 q.grant ++ bytes 4 q.remainder

    front_written : s₂ ≡ overwrite at front s₀
    unfolding front write_number
    front_written =
        let a = bytes_length 4 q.grant in
        let b = bytes_length 4 q.remainder in
        beside at 4 (bytes 4 q.grant) (bytes 4 q.remainder) s₀ s₁ s₂ a (omega arith) e₁ e₂

    pub entry_written : f.full ≡ false → s₂ ≡ overwrite at (entry_bytes f q) s₀
    unfolding front entry_bytes entry_tail
    entry_written e = rw (e, append-nil) front_written

    pub full_entry_written : (s₃ : List ℕ) → f.full ≡ true → at + 12 ≤ length s₀ → s₃ ≡ overwrite (at + 8) (bytes 1 q.permissions ++ replicate 3 0) s₂
        → s₃ ≡ overwrite at (entry_bytes f q) s₀
    unfolding front entry_bytes entry_tail
    full_entry_written s₃ e l e₃ =
        let t = bytes 1 q.permissions ++ replicate 3 0 in
        let n : length front ≡ 8 = simp (length-append, bytes_length) in
        let m : length t ≡ 4 = simp (length-append, bytes_length) in
        rw (e, ← append_assoc (bytes 4 q.grant) (bytes 4 q.remainder) t) (beside at 8 front t s₀ s₂ s₃ n (omega arith) front_written e₃)

  pub record_written : (s₃ s₄ : List ℕ) (r : Hold) → s₁ ≡ write_number 4 at r.serial s₀ → s₂ ≡ overwrite (at + 4) (bytes 1 r.quota) s₁
      → s₃ ≡ overwrite (at + 5) (bytes 1 r.count) s₂
      → s₄ ≡ write_number 2 (at + 6) 0 s₃ → s₄ ≡ overwrite at (record_bytes r) s₀
  unfolding write_number record_bytes
  record_written s₃ s₄ r e₁ e₂ e₃ e₄ =
      let a = bytes_length 4 r.serial in
      let b = bytes_length 1 r.quota in
      let c = bytes_length 1 r.count in
      let z : length (bytes 2 0) ≡ 2 = bytes_length 2 0 in
      let ab : length (bytes 4 r.serial ++ bytes 1 r.quota) ≡ 5 = simp (length-append, a, b) in
      let abc : length ((bytes 4 r.serial ++ bytes 1 r.quota) ++ bytes 1 r.count) ≡ 6 = simp (length-append, a, b, c) in
      let two = beside at 4 (bytes 4 r.serial) (bytes 1 r.quota) s₀ s₁ s₂ a (omega arith) e₁ e₂ in
      let three = beside at 5 (bytes 4 r.serial ++ bytes 1 r.quota) (bytes 1 r.count) s₀ s₂ s₃ ab (omega arith) two e₃ in
      let four = beside at 6 ((bytes 4 r.serial ++ bytes 1 r.quota) ++ bytes 1 r.count) (bytes 2 0) s₀ s₃ s₄ abc (omega arith) three e₄ in
      four ∙ rw (append_assoc, append_assoc, two_zeros)

-- an entry lies in front of those behind it
pub entry_inside : (i count w n : ℕ) → i < count → 12 + count * w ≤ n → 12 + (i * w + w) ≤ n
entry_inside i count w n h l = omega (arith, mul-le-mul_right w h, suc-mul i w)

-- the place of an entry
pub entry_place : (f : Form) (t : List ℕ) (i r : ℕ) → r ≡ 12 + i * entry_width f → drop r t ≡ drop (i * entry_width f) (drop 12 t)
entry_place f t i r g = ap (λ (n : ℕ). drop n t) g ∙ sym (drop-drop (i * entry_width f) 12 t)

-- a head is never longer than the longest
pub head_short : (f : Form) → FormFits f → head_length f ≤ 4492
unfolding head_length tail_width
head_short f fits = go f.full
  where
    go : (x : Bool) → 12 + f.quotas * (8 + cond x 4 0) + f.records * 8 ≤ 4492
    go true = omega (arith, fits.quotas, fits.records)
    go false = omega (arith, fits.quotas, fits.records)

-- a part behind the first k bytes
behind : (k : ℕ) (a b s s' s'' : List ℕ) → length a ≡ k → k + length b ≤ length s → s' ≡ overwrite 0 a s → s'' ≡ overwrite k b s' → s'' ≡ overwrite 0 (a ++ b) s
behind k a b s s' s'' e h f g = beside 0 k a b s s' s'' e (omega arith) f (g ∙ ap (λ (n : ℕ). overwrite n b s') (sym (zero-add k)))

whole : (x s : List ℕ) → length x ≡ length s → overwrite 0 x s ≡ x
whole x s e = rw (overwrite_fits 0 x s (omega arith), zero-add (length x), e, drop-length s) (append-nil x)

-- the parts of a head, one behind the other, are the head
module _ (f : Form) (fits : FormFits f) (n : ℕ) (k : Accounts) (qs : length k.quotas ≡ QUOTAS) (hs : length k.holds ≡ HOLDS) where
  entries : List ℕ
  entries = many (entry_bytes f) (take f.quotas k.quotas)

  records : List ℕ
  records = many record_bytes (take f.records k.holds)

  entries_long : length entries ≡ f.quotas * entry_width f
  unfolding entries
  entries_long =
      many_length (entry_bytes f) (entry_width f) (entry_length f) (take f.quotas k.quotas)
      ∙ ap (λ (x : ℕ). x * entry_width f) (length-take-le f.quotas k.quotas (omega (arith, fits.quotas)))

  records_long : length records ≡ f.records * 8
  unfolding records
  records_long =
      many_length record_bytes 8 record_length (take f.records k.holds)
      ∙ ap (λ (x : ℕ). x * 8) (length-take-le f.records k.holds (omega (arith, fits.records)))

  pub head_written : (s₀ s₁ s₂ s₃ s₄ s₅ s₆ : List ℕ) → length s₀ ≡ head_length f → s₁ ≡ write_number 2 0 f.number s₀
      → (m : ℕ) → bytes 2 m ≡ marks_of f k → s₂ ≡ write_number 2 2 m s₁
      → s₃ ≡ write_number 4 4 n s₂
      → s₄ ≡ write_number 4 8 k.last_serial s₃ → s₅ ≡ overwrite 12 (many (entry_bytes f) (take f.quotas k.quotas)) s₄
      → s₆ ≡ overwrite (12 + f.quotas * entry_width f) (many record_bytes (take f.records k.holds)) s₅ → s₆ ≡ head_of f n k
  unfolding write_number head_of entries records head_length
  head_written s₀ s₁ s₂ s₃ s₄ s₅ s₆ l e₁ v me e₂ e₃ e₄ e₅ e₆ =
      let h : length s₀ ≡ 12 + length entries + length records = rw (entries_long, records_long) l in
      let a = bytes 2 f.number in
      let m = a ++ bytes 2 v in
      let c = m ++ bytes 4 n in
      let d = c ++ bytes 4 k.last_serial in
      let x = d ++ entries in
      let al : length a ≡ 2 = bytes_length 2 f.number in
      let zl : length (bytes 2 v) ≡ 2 = bytes_length 2 v in
      let nl : length (bytes 4 n) ≡ 4 = bytes_length 4 n in
      let sl : length (bytes 4 k.last_serial) ≡ 4 = bytes_length 4 k.last_serial in
      let ml : length m ≡ 4 = omega (arith, length-append a (bytes 2 v)) in
      let cl : length c ≡ 8 = omega (arith, length-append m (bytes 4 n)) in
      let dl : length d ≡ 12 = omega (arith, length-append c (bytes 4 k.last_serial)) in
      let xl : length x ≡ 12 + length entries = omega (arith, length-append d entries) in
      let two = behind 2 a (bytes 2 v) s₀ s₁ s₂ al (omega arith) e₁ e₂ in
      let three = behind 4 m (bytes 4 n) s₀ s₂ s₃ ml (omega arith) two e₃ in
      let four = behind 8 c (bytes 4 k.last_serial) s₀ s₃ s₄ cl (omega arith) three e₄ in
      let five = behind 12 d entries s₀ s₄ s₅ dl (omega arith) four e₅ in
      let last : s₆ ≡ overwrite (12 + length entries) records s₅ = e₆ ∙ ap (λ (z : ℕ). overwrite (12 + z) records s₅) (sym entries_long) in
      let six = behind (12 + length entries) x records s₀ s₅ s₆ xl (omega arith) five last in
      let yl : length (x ++ records) ≡ length s₀ = omega (arith, length-append x records) in
      six ∙ whole (x ++ records) s₀ yl ∙ rw (append_assoc, append_assoc, append_assoc, append_assoc, me)
