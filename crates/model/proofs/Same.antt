-- Bytes that stay: two lists of bytes, equally long, that agree wherever a test fails, so the test says which bytes may differ.
-- Bytes put together from parts stay where the parts' bytes do; a write changes nothing outside the place that it writes; and of blocks that
-- stand behind another block only the back size of the first depends on it.
use mathlib.Core.Path.{◌≡◌, refl, sym, ap, ◌∙◌}
use Prim.Native.Nat.{ℕ, zero, suc, ◌+◌, ◌-◌, ◌≤◌, ◌<◌}
use native.Mathlib.Omega.{arith}
use mathlib.Core.List.{List, [], ◌∷◌, ◌++◌}
use mathlib.Core.Bool.{Bool, true, false, cond, ◌&&◌, true≢false}
use mathlib.Core.Logic.{◌⊎◌, inl, inr}
use lib.ListN.{length, get_or, replicate, length-append, length-replicate, get_or-append, get_or-eq_default}
use lib.Seq.{get_or-append-add}
use lib.Dec.{leb, ltb}
use borrow.Author.Tests.{leb-false, lt-leb, ltb-true, ltb-false, le-ltb}
use Rattle.layout.specs.Bytes.{bytes, overwrite, zero_part, write_number}
use Rattle.layout.specs.Blocks.{Block, units, header_of, header_bytes, write_header, render_from}
use Rattle.layout.specs.declared.Header.{Header}
use Rattle.layout.proofs.Numbers.{bytes_length}
use Rattle.layout.proofs.Overwrite.{length_overwrite, get_d_front, get_or_behind}
use Rattle.layout.proofs.Fields.{header_length}
use Rattle.model.proofs.Touched.{within}
use Rattle.model.proofs.Rows
use Rattle.lists.proofs.Bools.{and_no}

-- a place that is not from start up to end is before start or from end on, and the other way round
pub within_out : (start end i : ℕ) → within start end i ≡ false → (i < start) ⊎ (end ≤ i)
unfolding within
within_out start end i e = go (leb start i) refl e
  where
    go : (x : Bool) → leb start i ≡ x → (x && ltb i end) ≡ false → (i < start) ⊎ (end ≤ i)
    go true f e = inr (ltb-false i end e)
    go false f e = inl (leb-false start i f)

pub out_within : (start end i : ℕ) → (i < start) ⊎ (end ≤ i) → within start end i ≡ false
unfolding within
out_within start end i (inl h) = rw (lt-leb start i h)
out_within start end i (inr h) = and_no (leb start i) (ltb i end) (le-ltb i end h)

-- so it is outside of one range if it, or a place beside it, is outside of another that reaches as far on both sides
pub within_moved : (start end i start' end' i' : ℕ) → (i < start → i' < start') → (end ≤ i → end' ≤ i') → within start end i ≡ false
    → within start' end' i' ≡ false
within_moved start end i start' end' i' f g e = out_within start' end' i' (go (within_out start end i e))
  where
    go : (i < start) ⊎ (end ≤ i) → (i' < start') ⊎ (end' ≤ i')
    go (inl p) = inl (f p)
    go (inr p) = inr (g p)

-- s and s' are equally long, and hold the same byte wherever t fails
pub record Same (t : ℕ → Bool) (s s' : List ℕ) : Type 0 where
  pub long : length s ≡ length s'
  pub same : (i : ℕ) → t i ≡ false → get_or s i 0 ≡ get_or s' i 0

-- it is enough to look at places below the length
pub same_below : {t : ℕ → Bool} {s s' : List ℕ} → length s ≡ length s' → ((i : ℕ) → i < length s → t i ≡ false → get_or s i 0 ≡ get_or s' i 0)
    → Same t s s'
same_below {t} {s} {s'} l f = record { long = l; same = λ i e. go i e (ltb i (length s)) refl }
  where
    go : (i : ℕ) → t i ≡ false → (x : Bool) → ltb i (length s) ≡ x → get_or s i 0 ≡ get_or s' i 0
    go i e true h = f i (ltb-true i (length s) h) e
    go i e false h =
        let k = ltb-false i (length s) h in
        let k' : length s' ≤ i = omega arith in
        get_or-eq_default s 0 k ∙ sym (get_or-eq_default s' 0 k')

-- bytes are the same as themselves, and the same as bytes that are the same as others are the same as those
pub same_refl : (t : ℕ → Bool) (s : List ℕ) → Same t s s
same_refl t s = record { long = refl; same = λ i e. refl }

pub same_then : {t : ℕ → Bool} {a b c : List ℕ} → Same t a b → Same t b c → Same t a c
same_then x y = record { long = x.long ∙ y.long; same = λ i e. x.same i e ∙ y.same i e }

-- a test that holds wherever another does allows as much
pub same_wider : {t u : ℕ → Bool} {s s' : List ℕ} → ((i : ℕ) → i < length s → u i ≡ false → t i ≡ false) → Same t s s' → Same u s s'
same_wider f x = same_below x.long (λ i h e. x.same i (f i h e))

-- a test that always holds allows everything
pub same_any : {t : ℕ → Bool} {s s' : List ℕ} → ((i : ℕ) → t i ≡ true) → length s ≡ length s' → Same t s s'
same_any f l = same_below l (λ i h e. absurd (true≢false (sym (f i) ∙ e)))

-- bytes of two parts, the second behind the first
pub same_append : {t : ℕ → Bool} {p p' q q' : List ℕ} → Same t p p' → Same (λ i. t (length p + i)) q q' → Same t (p ++ q) (p' ++ q')
same_append {t} {p} {p'} {q} {q'} x y =
    record { long = simp (length-append, x.long, y.long); same = λ i e. go i e (ltb i (length p)) refl }
  where
    go : (i : ℕ) → t i ≡ false → (z : Bool) → ltb i (length p) ≡ z → get_or (p ++ q) i 0 ≡ get_or (p' ++ q') i 0
    go i e true h =
        let k = ltb-true i (length p) h in
        let k' : i < length p' = omega (arith, x.long) in
        get_or-append p q 0 i k ∙ x.same i e ∙ sym (get_or-append p' q' 0 i k')
    go i e false h =
        let k = ltb-false i (length p) h in
        let j = i - length p in
        let f : i ≡ length p + j = omega arith in
        let f' : i ≡ length p' + j = omega (arith, x.long) in
        ap (λ (n : ℕ). get_or (p ++ q) n 0) f
        ∙ get_or-append-add p q j 0
        ∙ y.same j (rw (← f) e)
        ∙ sym (ap (λ (n : ℕ). get_or (p' ++ q') n 0) f' ∙ get_or-append-add p' q' j 0)

-- a write changes no byte outside its place
pub same_overwrite : (at : ℕ) (new s : List ℕ) → Same (within at (at + length new)) (overwrite at new s) s
same_overwrite at new s = record { long = length_overwrite at new s; same = λ i e. go i (within_out at (at + length new) i e) }
  where
    go : (i : ℕ) → (i < at) ⊎ (at + length new ≤ i) → get_or (overwrite at new s) i 0 ≡ get_or s i 0
    go i (inl h) = get_d_front at new s i h
    go i (inr h) = get_or_behind at new s i h

-- so with a header, a number and zeros
pub same_header : (at : ℕ) (h : Header) (s : List ℕ) → Same (within at (at + 8)) (write_header at h s) s
unfolding write_header
same_header at h s = rw (header_length h) at (same_overwrite at (header_bytes h) s)

pub same_number : (k at n : ℕ) (s : List ℕ) → Same (within at (at + k)) (write_number k at n s) s
unfolding write_number
same_number k at n s = rw (bytes_length k n) at (same_overwrite at (bytes k n) s)

pub same_zero : (start end : ℕ) (s : List ℕ) → start ≤ end → Same (within start end) (zero_part start end s) s
unfolding zero_part
same_zero start end s h =
    let e : start + (end - start) ≡ end = omega arith in
    rw (length-replicate, e) at (same_overwrite start (replicate (end - start) 0) s)

-- and with a write that is made only if a test holds
pub same_when : {t : ℕ → Bool} {s s' : List ℕ} (x : Bool) → Same t s s' → Same t (cond x s s') s'
same_when true w = w
same_when {t} {s'} false w = same_refl t s'

-- headers that differ only in the size, and only in the back size
pub header_sizes : (m n back serial : ℕ)
    → Same (within 0 2) (header_bytes (record { size = m; back = back; serial = serial }))
    (header_bytes (record { size = n; back = back; serial = serial }))
unfolding header_bytes bytes within
header_sizes m n back serial = record { long = refl; same = go }
  where
    go : (i : ℕ) → within 0 2 i ≡ false
        → get_or (header_bytes (record { size = m; back = back; serial = serial })) i 0
        ≡ get_or (header_bytes (record { size = n; back = back; serial = serial })) i 0
    go zero e = absurd (true≢false e)
    go (suc zero) e = absurd (true≢false e)
    go (suc (suc i)) e = refl

pub header_backs : (n u v serial : ℕ)
    → Same (within 2 4) (header_bytes (record { size = n; back = u; serial = serial }))
    (header_bytes (record { size = n; back = v; serial = serial }))
unfolding header_bytes bytes within
header_backs n u v serial = record { long = refl; same = go }
  where
    go : (i : ℕ) → within 2 4 i ≡ false
        → get_or (header_bytes (record { size = n; back = u; serial = serial })) i 0
        ≡ get_or (header_bytes (record { size = n; back = v; serial = serial })) i 0
    go zero e = refl
    go (suc zero) e = refl
    go (suc (suc zero)) e = absurd (true≢false e)
    go (suc (suc (suc zero))) e = absurd (true≢false e)
    go (suc (suc (suc (suc i)))) e = refl

-- the bytes of blocks behind a block of u units and behind one of v units
pub render_backs : (u v : ℕ) (bs : List Block) → Same (within 2 4) (render_from u bs) (render_from v bs)
unfolding render_from
render_backs u v [] = same_refl (within 2 4) []
render_backs u v (b ∷ bs) =
    same_append (header_backs (units b) u v b.serial) (same_refl (λ i. within 2 4 (length (header_bytes (header_of u b)) + i))
    (b.body ++ render_from (units b) bs))
