-- The base of a new object is that of rule 8.6: the lowest multiple of the alignment whose bytes lie in the heap and in no occupied block.
-- The search goes through the multiples in order, so what it finds passes and nothing before it does; it ends at H, and above H nothing fits.
-- Two ranges of bytes that overlap share the later of their two starts, so comparing ends is the same as looking at every byte.
use Rattle.std.specs.Prelude.{Option, Some, None}
use mathlib.Core.Path.{◌≡◌, refl, sym, ◌∙◌}
use Prim.Native.Nat.{ℕ, zero, suc, ◌+◌, ◌*◌, ◌-◌, ◌/◌, ◌%◌, ◌≤◌, ◌<◌, max}
use native.Mathlib.Nat.{not-suc-le-zero, le_of_suc-le-suc, suc-mul, zero-mul, mul-mod_left, div-add-mod', div-lt_iff_lt-mul, le-div_iff_mul-le, zero-add}
use native.Mathlib.Omega.{arith}
use mathlib.Core.List.{List, [], ◌∷◌}
use mathlib.Core.Bool.{Bool, true, false, not, ◌&&◌, ◌||◌, true≢false}
use mathlib.Core.Logic.{◌↔◌}
use lib.Dec.{leb, ltb}
use borrow.Author.Tests.{leb-true, leb-false, ltb-true, ltb-false, le-leb, lt-leb, lt-ltb, le-ltb}
use Rattle.std.proofs.lemmas.Option.{none-some}
use Rattle.layout.specs.Blocks.{Block, size, occupied}
use Rattle.model.specs.Space.{outside_occupied, suitable, first_candidate, lowest_base}
use Rattle.model.proofs.Rows
use Rattle.lists.proofs.Bools.{and_left, and_right, and_both, and_no, or_neither, fails}

-- b is so many steps behind the start, passes the test, and no earlier candidate does
pub record First (p : ℕ → Bool) (count step from b : ℕ) : Type 0 where
  pub steps : ℕ
  pub within : steps < count
  pub place : b ≡ from + steps * step
  pub passes : p b ≡ true
  pub earlier : (i : ℕ) → i < steps → p (from + i * step) ≡ false

at_start : (p : ℕ → Bool) (step from : ℕ) → p from ≡ false → p (from + 0 * step) ≡ false
at_start p step from h = let e : from + 0 * step ≡ from = simp zero-mul (omega arith) in rw e h

at_next : (p : ℕ → Bool) (step from i : ℕ) → p (from + step + i * step) ≡ false → p (from + suc i * step) ≡ false
at_next p step from i h = let e : from + suc i * step ≡ from + step + i * step = simp suc-mul (omega arith) in rw e h

some_cons : (p : ℕ → Bool) (count step from b : ℕ) (x : Bool) → p from ≡ x → first_candidate p (suc count) step from ≡ Some b
    → (first_candidate p count step (from + step) ≡ Some b → First p count step (from + step) b) → First p (suc count) step from b
unfolding first_candidate
some_cons p count step from b true ep e ih =
    let eq : from ≡ b = cc in
    record { steps = 0; within = omega arith; place = simp zero-mul (omega arith); passes = rw (← eq) ep; earlier = λ i h. absurd (not-suc-le-zero h) }
some_cons p count step from b false ep e ih =
    let f = ih (rw ep at e) in
    record {
      steps = suc f.steps;
      within = omega (arith, f.within);
      place = simp suc-mul (omega (arith, f.place));
      passes = f.passes;
      earlier = elim [ zero ↦ λ h. at_start p step from ep | suc i ↦ λ h. at_next p step from i (f.earlier i (le_of_suc-le-suc h)) ];
    }

-- what the search finds is the first candidate that passes
pub candidate_some : (p : ℕ → Bool) (count step from b : ℕ) → first_candidate p count step from ≡ Some b → First p count step from b
unfolding first_candidate
candidate_some p zero step from b e = absurd (none-some b e)
candidate_some p (suc count) step from b e = some_cons p count step from b (p from) refl e (candidate_some p count step (from + step) b)

none_cons : (p : ℕ → Bool) (count step from : ℕ) (x : Bool) → p from ≡ x → first_candidate p (suc count) step from ≡ None
    → (p from ≡ false) × (first_candidate p count step (from + step) ≡ None)
unfolding first_candidate
none_cons p count step from true ep e = (cc, cc)
none_cons p count step from false ep e = (ep, rw ep at e)

-- where it finds none, no candidate passes
pub candidate_none : (p : ℕ → Bool) (count step from i : ℕ) → first_candidate p count step from ≡ None → i < count → p (from + i * step) ≡ false
candidate_none p zero step from i e h = absurd (not-suc-le-zero h)
candidate_none p (suc count) step from zero e h = at_start p step from (none_cons p count step from (p from) refl e).0
candidate_none p (suc count) step from (suc i) e h =
    at_next p step from i (candidate_none p count step (from + step) i (none_cons p count step from (p from) refl e).1 (le_of_suc-le-suc h))

-- b is the lowest suitable multiple of the alignment a
pub record Lowest (H : ℕ) (bs : List Block) (a n b : ℕ) : Type 0 where
  pub multiple : b % a ≡ 0
  pub fits : suitable H bs n b ≡ true
  pub lower : (b' : ℕ) → b' % a ≡ 0 → b' < b → suitable H bs n b' ≡ false

-- above H nothing is suitable
beyond : (H : ℕ) (bs : List Block) (n b : ℕ) → H < b → suitable H bs n b ≡ false
unfolding suitable
beyond H bs n b h = and_no (leb 8 b) _ (rw (lt-leb (b + n) H (omega arith)))

module _ (H : ℕ) (bs : List Block) (a n : ℕ) (some-step : 0 < a) where
  -- a multiple of a is a candidate by its quotient
  quotient : (b : ℕ) → b % a ≡ 0 → 0 + b / a * a ≡ b
  quotient b m = omega (arith, div-add-mod' b a)

  -- the base that is found is the lowest suitable multiple of the alignment
  pub lowest_some : (b : ℕ) → lowest_base H bs a n ≡ Some b → Lowest H bs a n b
  unfolding lowest_base
  lowest_some b e =
      let f = candidate_some (suitable H bs n) (suc (H / a)) a 0 b e in
      let place : b ≡ f.steps * a = f.place ∙ zero-add _ in
      record {
        multiple = rw place (mul-mod_left f.steps a);
        fits = f.passes;
        lower =
            λ c m h.
            let q : c / a < f.steps = (div-lt_iff_lt-mul some-step).1 (rw place at h) in
            rw (quotient c m) at (f.earlier (c / a) q);
      }

  -- where none is found, no multiple of the alignment is suitable
  pub lowest_none : lowest_base H bs a n ≡ None → (b : ℕ) → b % a ≡ 0 → suitable H bs n b ≡ false
  unfolding lowest_base
  lowest_none e b m = go (leb b H) refl
    where
      go : (x : Bool) → leb b H ≡ x → suitable H bs n b ≡ false
      go true h =
          let low : b / a * a ≤ H = omega (arith, quotient b m, leb-true b H h) in
          let q : b / a ≤ H / a = (le-div_iff_mul-le some-step).1 low in
          rw (quotient b m) at (candidate_none (suitable H bs n) (suc (H / a)) a 0 (b / a) e (omega arith))
      go false h = beyond H bs n b (leb-false b H h)

  -- the lowest suitable multiple of the alignment is found
  pub some_lowest : (b : ℕ) → Lowest H bs a n b → lowest_base H bs a n ≡ Some b
  some_lowest b l = go (lowest_base H bs a n) refl
    where
      same : (c : ℕ) → Lowest H bs a n c → (x y : Bool) → ltb b c ≡ x → ltb c b ≡ y → b ≡ c
      same c k true y e f = absurd (true≢false (sym l.fits ∙ k.lower b l.multiple (ltb-true b c e)))
      same c k false true e f = absurd (true≢false (sym k.fits ∙ l.lower c k.multiple (ltb-true c b f)))
      same c k false false e f = omega (arith, ltb-false b c e, ltb-false c b f)

      go : (o : Option ℕ) → lowest_base H bs a n ≡ o → lowest_base H bs a n ≡ Some b
      go None e = absurd (true≢false (sym l.fits ∙ lowest_none e b l.multiple))
      go (Some c) e = rw (same c (lowest_some c e) (ltb b c) (ltb c b) refl refl) e

  -- where no multiple of the alignment is suitable, none is found
  pub none_lowest : ((b : ℕ) → b % a ≡ 0 → suitable H bs n b ≡ false) → lowest_base H bs a n ≡ None
  none_lowest f = go (lowest_base H bs a n) refl
    where
      go : (o : Option ℕ) → lowest_base H bs a n ≡ o → lowest_base H bs a n ≡ None
      go None e = e
      go (Some c) e = let l = lowest_some c e in absurd (true≢false (sym l.fits ∙ f c l.multiple))

-- the byte at i lies in an occupied block, where the first block starts at a place
unfoldable pub in_occupied : ℕ → ℕ → List Block → Bool
in_occupied i at [] = false
in_occupied i at (b ∷ bs) = (occupied b && (leb at i && ltb i (at + size b))) || in_occupied i (at + size b) bs

-- a range that ends before a block or begins behind it has no byte of it
apart_byte : (start end i at s : ℕ) (x : Bool) → (not x || (leb end at || leb (at + s) start)) ≡ true → start ≤ i → i < end
    → (x && (leb at i && ltb i (at + s))) ≡ false
apart_byte start end i at s false e low high = refl
apart_byte start end i at s true e low high = go (leb end at) refl
  where
    go : (y : Bool) → leb end at ≡ y → (leb at i && ltb i (at + s)) ≡ false
    go true h = rw (lt-leb at i (omega (arith, leb-true end at h)))
    go false h = and_no (leb at i) _ (le-ltb i (at + s) (omega (arith, leb-true (at + s) start (rw h at e))))

-- no byte of a range outside every occupied block lies in one
pub outside_bytes : (start end at : ℕ) (bs : List Block) → outside_occupied start end at bs ≡ true
    → (i : ℕ) → start ≤ i → i < end → in_occupied i at bs ≡ false
unfolding outside_occupied in_occupied
outside_bytes start end at [] e i low high = refl
outside_bytes start end at (b ∷ bs) e i low high =
    let here = not (occupied b) || (leb end at || leb (at + size b) start) in
    let rest = outside_occupied start end (at + size b) bs in
    rw (apart_byte start end i at (size b) (occupied b) (and_left here rest e) low high)
    (outside_bytes start end (at + size b) bs (and_right here rest e) i low high)

-- ranges that share no byte are apart: their shared byte would be the later start
byte_apart : (start end at s : ℕ) (x : Bool) → start < end → 0 < s → ((i : ℕ) → start ≤ i → i < end → (x && (leb at i && ltb i (at + s))) ≡ false)
    → (not x || (leb end at || leb (at + s) start)) ≡ true
byte_apart start end at s false h p f = refl
byte_apart start end at s true h p f = go (leb end at) (leb (at + s) start) refl refl
  where
    go : (y z : Bool) → leb end at ≡ y → leb (at + s) start ≡ z → (y || z) ≡ true
    go true z ey ez = refl
    go false true ey ez = refl
    go false false ey ez =
        let m = max start at in
        let l₁ = leb-false end at ey in
        let l₂ = leb-false (at + s) start ez in
        let inside = and_both (leb at m) (ltb m (at + s)) (le-leb at m (omega arith)) (lt-ltb m (at + s) (omega arith)) in
        absurd (true≢false (sym inside ∙ f m (omega arith) (omega arith)))

-- a range none of whose bytes lies in an occupied block is outside every one
pub bytes_outside : (start end at : ℕ) (bs : List Block) → start < end → ((i : ℕ) → start ≤ i → i < end → in_occupied i at bs ≡ false)
    → outside_occupied start end at bs ≡ true
unfolding outside_occupied in_occupied
bytes_outside start end at [] h f = refl
bytes_outside start end at (b ∷ bs) h f =
    let here : ℕ → Bool = λ i. occupied b && (leb at i && ltb i (at + size b)) in
    let rest : ℕ → Bool = λ i. in_occupied i (at + size b) bs in
    and_both _ (outside_occupied start end (at + size b) bs)
    (byte_apart start end at (size b) (occupied b) h (omega arith) (λ i low high. (or_neither (here i) (rest i) (f i low high)).0))
    (bytes_outside start end (at + size b) bs h (λ i low high. (or_neither (here i) (rest i) (f i low high)).1))

-- the bytes from b - 8 up to b + n lie in a heap of H bytes, and none of them in an occupied block
pub record Suits (H : ℕ) (bs : List Block) (n b : ℕ) : Type 0 where
  pub low : 8 ≤ b
  pub high : b + n ≤ H
  pub clear : (i : ℕ) → b ≤ i + 8 → i < b + n → in_occupied i 0 bs ≡ false

-- suitable is the condition of rule 8.6, byte by byte
pub suitable_bytes : (H : ℕ) (bs : List Block) (n b : ℕ) → suitable H bs n b ≡ true → Suits H bs n b
unfolding suitable
suitable_bytes H bs n b e =
    let more = leb (b + n) H && outside_occupied (b - 8) (b + n) 0 bs in
    let e₂ = and_right (leb 8 b) more e in
    record {
      low = leb-true 8 b (and_left (leb 8 b) more e);
      high = leb-true (b + n) H (and_left (leb (b + n) H) (outside_occupied (b - 8) (b + n) 0 bs) e₂);
      clear = λ i l h. outside_bytes (b - 8) (b + n) 0 bs (and_right (leb (b + n) H) (outside_occupied (b - 8) (b + n) 0 bs) e₂) i (omega arith) h;
    }

-- and the condition, byte by byte, is suitable
pub bytes_suitable : (H : ℕ) (bs : List Block) (n b : ℕ) → Suits H bs n b → suitable H bs n b ≡ true
unfolding suitable
bytes_suitable H bs n b s =
    let low = s.low in
    let out = bytes_outside (b - 8) (b + n) 0 bs (omega arith) (λ i l h. s.clear i (omega arith) h) in
    rw (le-leb 8 b low, le-leb (b + n) H s.high) out

-- rule 8.6 as one law: b may be the base of n bytes
pub record Possible (H : ℕ) (bs : List Block) (a n b : ℕ) : Type 0 where
  pub multiple : b % a ≡ 0
  pub suits : Suits H bs n b

-- the lowest such base, or none where there is no such base
abbrev pub LowestOf : ℕ → List Block → ℕ → ℕ → Option ℕ → Type 0
LowestOf H bs a n None = (b : ℕ) → Possible H bs a n b → ⊥
LowestOf H bs a n (Some b) = Possible H bs a n b × ((c : ℕ) → c < b → Possible H bs a n c → ⊥)

module _ (H : ℕ) (bs : List Block) (a n : ℕ) (some-step : 0 < a) where
  -- what is not suitable is no such base, and what is no such base is not suitable
  impossible : (b : ℕ) → (b % a ≡ 0 → suitable H bs n b ≡ false) → Possible H bs a n b → ⊥
  impossible b f p = true≢false (sym (bytes_suitable H bs n b p.suits) ∙ f p.multiple)

  unsuitable : (b : ℕ) → (Possible H bs a n b → ⊥) → b % a ≡ 0 → suitable H bs n b ≡ false
  unsuitable b f m = fails (suitable H bs n b) (λ e. f (record { multiple = m; suits = suitable_bytes H bs n b e }))

  pub base_is : (o : Option ℕ) → (lowest_base H bs a n ≡ o) ↔ LowestOf H bs a n o
  base_is None = (
    λ e b. impossible b (lowest_none H bs a n some-step e b),
    λ f. none_lowest H bs a n some-step (λ b. unsuitable b (f b)),
  )
  base_is (Some b) = (
    λ e.
        (let l = lowest_some H bs a n some-step b e in
        (record { multiple = l.multiple; suits = suitable_bytes H bs n b l.fits }, λ c h. impossible c (λ m. l.lower c m h))),
    λ r.
        some_lowest H bs a n some-step b
        (record { multiple = r.0.multiple; fits = bytes_suitable H bs n b r.0.suits; lower = λ c m h. unsuitable c (r.1 c h) m }),
  )
