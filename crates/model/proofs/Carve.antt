-- Carving: a suitable run lies in one free block, and cutting it out there adds exactly that object and changes nothing else.
-- A live block that the run does not touch ends before it or starts behind it. A free block that does not hold the whole run ends before it,
-- because the block behind it is live. So the walk comes to the one free block that holds the run, and what is left of that block in front and
-- behind is nothing or at least a header, since all places and sizes are multiples of 8.
use mathlib.Core.Path.{◌≡◌, refl, ap, sym, ◌∙◌}
use Prim.Native.Nat.{ℕ, zero, suc, ◌+◌, ◌-◌, ◌%◌, ◌≤◌, ◌<◌}
use native.Mathlib.Nat.{add-zero, add_assoc}
use native.Mathlib.Omega.{arith}
use mathlib.Core.List.Memᴰ
use mathlib.Core.List.{List, [], ◌∷◌, ◌++◌, append_assoc, Memᴰ}
use mathlib.Core.Bool.{Bool, true, false, not, ◌&&◌, ◌||◌, false≢true, true≢false}
use mathlib.Core.Logic.{◌⊎◌, inl, inr}
use lib.ListN.{length, take, drop, replicate, length-replicate, length-take, length-drop}
use lib.Dec.{leb}
use borrow.Author.Tests.{le-leb, lt-leb, leb-true, leb-false, eqb-true, eq-eqb, ne_eqb, not-true}
use Rattle.layout.specs.Blocks.{Block, size, live, occupied, QUARANTINED}
use Rattle.lists.specs.Lists.{all, total}
use Rattle.model.specs.Objects.{objects_from, objects}
use Rattle.model.specs.Consistent.{long_enough, starts_free, free_apart, well_cut}
use Rattle.model.specs.Space.{outside_occupied, suitable, left_over, cut_block, carve_from, carve}
use Rattle.model.specs.declared.Handle.{Handle}
use Rattle.model.proofs.Rows
use Rattle.lists.proofs.Bools.{and_left, and_right, and_both, and_no, or_right}
use Rattle.lists.proofs.Lists.{all_append, total_append}
use Rattle.model.proofs.Blocks.{whole_size, Whole, whole_total, objects_live, objects_free, objects_append, apart_head, apart_tail, apart_cons}
use Rattle.model.proofs.Blocks.{apart_replaced, apart_back, free_not_live}

-- cs is bs with an object of n bytes cut out at base, in one free block that holds it and its header
pub record Carved (base n serial at : ℕ) (bs cs : List Block) : Type 0 where
  pub front : List Block
  pub block : Block
  pub back : List Block
  pub split : bs ≡ front ++ (block ∷ back)
  pub free : occupied block ≡ false
  pub low : at + total size front + 8 ≤ base
  pub high : base + n ≤ at + total size front + size block
  pub now : cs ≡ front ++ (cut_block base n serial (at + total size front) block ++ back)

-- os' is os with the object o at one place
pub record Added (o : Handle) (os os' : List Handle) : Type 0 where
  pub front : List Handle
  pub back : List Handle
  pub old : os ≡ front ++ back
  pub now : os' ≡ front ++ (o ∷ back)

module _ (base n serial : ℕ) where
  outside_tail : (at : ℕ) (b : Block) (bs : List Block) → outside_occupied (base - 8) (base + n) at (b ∷ bs) ≡ true
      → outside_occupied (base - 8) (base + n) (at + size b) bs ≡ true
  unfolding outside_occupied
  outside_tail at b bs out = and_right (not (occupied b) || (leb (base + n) at || leb (at + size b) (base - 8))) _ out

  -- a live block that starts before the end of the run ends before the run
  live_past : (at : ℕ) (b : Block) (bs : List Block) → occupied b ≡ true → at < base + n → 8 ≤ base
      → outside_occupied (base - 8) (base + n) at (b ∷ bs) ≡ true
      → at + size b + 8 ≤ base
  unfolding outside_occupied
  live_past at b bs eb h first out =
      let here = and_left (not (occupied b) || (leb (base + n) at || leb (at + size b) (base - 8))) _ out in
      let behind : leb (at + size b) (base - 8) ≡ true = rw (eb, lt-leb (base + n) at h) at here in
      omega (arith, leb-true (at + size b) (base - 8) behind)

  -- a free block that does not hold the whole run ends before it, since the block behind it is live
  free_past : (at : ℕ) (b : Block) (bs : List Block) → occupied b ≡ false → at + size b < base + n → 8 ≤ base → base + n ≤ at + total size (b ∷ bs)
      → free_apart (b ∷ bs) ≡ true → outside_occupied (base - 8) (base + n) (at + size b) bs ≡ true → at + size b + 8 ≤ base
  unfolding total starts_free
  free_past at b [] eb more first high apart out = absurd (omega arith)
  free_past at b (c ∷ cs) eb more first high apart out = go (occupied c) refl
    where
      go : (x : Bool) → occupied c ≡ x → at + size b + 8 ≤ base
      go true ec = omega (arith, live_past (at + size b) c cs ec more first out)
      go false ec = absurd (false≢true (rw (eb, ec) at (apart_head b (c ∷ cs) apart)))

  carve_here : (at : ℕ) (b : Block) (bs : List Block) → occupied b ≡ false → at + 8 ≤ base → base + n ≤ at + size b
      → carve_from base n serial at (b ∷ bs) ≡ cut_block base n serial at b ++ bs
  unfolding carve_from
  carve_here at b bs eb low high = rw (eb, le-leb (at + 8) base low, le-leb (base + n) (at + size b) high)

  carve_past : (at : ℕ) (b : Block) (bs : List Block) → at + size b + 8 ≤ base
      → carve_from base n serial at (b ∷ bs) ≡ b ∷ carve_from base n serial (at + size b) bs
  unfolding carve_from
  carve_past at b bs h = rw (
    lt-leb (base + n) (at + size b) (omega arith),
    and_no (leb (at + 8) base) false refl,
    and_no (not (occupied b)) false
        refl,
  )

  carved_later : (at : ℕ) (b : Block) (bs cs : List Block) → Carved base n serial (at + size b) bs cs → Carved base n serial at (b ∷ bs) (b ∷ cs)
  unfolding total
  carved_later at b bs cs c =
      let place : at + size b + total size c.front ≡ at + total size (b ∷ c.front) = add_assoc at (size b) (total size c.front) in
      record {
        front = b ∷ c.front;
        block = c.block;
        back = c.back;
        split = ap (λ (l : List Block). b ∷ l) c.split;
        free = c.free;
        low = rw place at c.low;
        high = rw place at c.high;
        now = ap (λ (l : List Block). b ∷ l) (rw place at c.now);
      }

  carved_cons : (at : ℕ) (b : Block) (bs : List Block) → at + 8 ≤ base → base + n ≤ at + total size (b ∷ bs) → free_apart (b ∷ bs) ≡ true
      → outside_occupied (base - 8) (base + n) at (b ∷ bs) ≡ true
      → (at + size b + 8 ≤ base → Carved base n serial (at + size b) bs (carve_from base n serial (at + size b) bs))
      → (x y : Bool) → occupied b ≡ x → leb (base + n) (at + size b) ≡ y → Carved base n serial at (b ∷ bs) (carve_from base n serial at (b ∷ bs))
  unfolding total
  carved_cons at b bs low high apart out ih true y eb ey =
      let past = live_past at b bs eb (omega arith) (omega arith) out in
      rw (carve_past at b bs past) (carved_later at b bs (carve_from base n serial (at + size b) bs) (ih past))
  carved_cons at b bs low high apart out ih false true eb ey =
      let fits : base + n ≤ at + size b = leb-true (base + n) (at + size b) ey in
      let place : at + 0 ≡ at = add-zero at in
      rw (carve_here at b bs eb low fits)
      (record { front = []; block = b; back = bs; split = refl; free = eb; low = rw place low; high = rw place fits; now = rw place refl })
  carved_cons at b bs low high apart out ih false false eb ey =
      let past = free_past at b bs eb (leb-false (base + n) (at + size b) ey) (omega arith) high apart (outside_tail at b bs out) in
      rw (carve_past at b bs past) (carved_later at b bs (carve_from base n serial (at + size b) bs) (ih past))

  -- a run outside every occupied block lies in one free block, where carving cuts it out
  pub carved_from : (at : ℕ) (bs : List Block) → at + 8 ≤ base → base + n ≤ at + total size bs → free_apart bs ≡ true
      → outside_occupied (base - 8) (base + n) at bs ≡ true → Carved base n serial at bs (carve_from base n serial at bs)
  unfolding total
  carved_from at [] low high apart out = absurd (omega arith)
  carved_from at (b ∷ bs) low high apart out =
      carved_cons at b bs low high apart out
      (λ past. carved_from (at + size b) bs past (omega arith) (apart_tail b bs apart) (outside_tail at b bs out))
      (occupied b) (leb (base + n) (at + size b)) refl refl

  -- a suitable run of a heap lies in one free block, where carving cuts it out
  pub carved : (bs : List Block) → free_apart bs ≡ true → suitable (total size bs) bs n base ≡ true
      → Carved base n serial 0 bs (carve base n serial bs)
  unfolding suitable carve
  carved bs apart fits =
      let out = outside_occupied (base - 8) (base + n) 0 bs in
      let more = and_right (leb 8 base) (leb (base + n) (total size bs) && out) fits in
      let low = leb-true 8 base (and_left (leb 8 base) (leb (base + n) (total size bs) && out) fits) in
      let high = leb-true (base + n) (total size bs) (and_left (leb (base + n) (total size bs)) out more) in
      carved_from 0 bs (omega arith) (omega arith) apart (and_right (leb (base + n) (total size bs)) out more)

-- what is left over is k bytes, header included: nothing where k is 0, else a free block
left_total : (k : ℕ) (body : List ℕ) → (0 < k → k ≡ 8 + length body) → total size (left_over k body) ≡ k
unfolding left_over total
left_total zero body e = refl
left_total (suc k) body e = omega (arith, e (omega arith))

left_objects : (at k : ℕ) (body : List ℕ) → objects_from at (left_over k body) ≡ []
unfolding left_over objects_from
left_objects at zero body = refl
left_objects at (suc k) body = refl

left_all : (p : Block → Bool) (k : ℕ) (body : List ℕ) → (0 < k → p (record { serial = 0; body = body }) ≡ true) → all p (left_over k body) ≡ true
unfolding left_over all
left_all p zero body e = refl
left_all p (suc k) body e = rw (e (omega arith))

left_apart : (k : ℕ) (body : List ℕ) (bs : List Block) → starts_free bs ≡ false → free_apart bs ≡ true → free_apart (left_over k body ++ bs) ≡ true
unfolding left_over
left_apart zero body bs e a = a
left_apart (suc k) body bs e a = apart_cons (record { serial = 0; body = body }) bs (rw e) a

-- the block of the new object: its bytes are n zeros
abbrev pub new_block : ℕ → ℕ → Block
new_block n serial = record { serial = serial; body = replicate n 0 }

-- it is live, since its serial is not 0
pub new_occupied : (n serial : ℕ) → 0 < serial → occupied (new_block n serial) ≡ true
new_occupied n serial h = rw (ne_eqb serial 0 (λ e. omega arith))

pub new_live : (n serial : ℕ) → 0 < serial → serial < QUARANTINED → live (new_block n serial) ≡ true
new_live n serial h l = rw (ne_eqb serial 0 (λ e. omega arith), ne_eqb serial QUARANTINED (λ e. omega arith))

module _ (base n serial at : ℕ) (b : Block) where
  -- what is left of a block in front of the new object
  abbrev pub front_rest : List Block
  front_rest = left_over (base - 8 - at) (take (base - 16 - at) b.body)

  -- what is left of it behind the new object
  abbrev pub back_rest : List Block
  back_rest = left_over (at + size b - (base + n)) (drop (base + n - at) b.body)

  -- a cut block passes a test of all blocks if its parts do
  pub cut_all : (p : Block → Bool) → p (new_block n serial) ≡ true →
      (0 < base - 8 - at → p (record { serial = 0; body = take (base - 16 - at) b.body }) ≡ true)
      → (0 < at + size b - (base + n) → p (record { serial = 0; body = drop (base + n - at) b.body }) ≡ true)
      → all p (cut_block base n serial at b) ≡ true
  unfolding cut_block all
  cut_all p new f g =
      rw (all_append p front_rest (new_block n serial ∷ back_rest), left_all p (base - 8 - at) (take (base - 16 - at) b.body) f, new)
      (left_all p (at + size b - (base + n)) (drop (base + n - at) b.body) g)

  module _ (here : at % 8 ≡ 0) (sized : size b % 8 ≡ 0) (aligned : base % 8 ≡ 0) (even : n % 8 ≡ 0) (low : at + 8 ≤ base)
      (high : base + n ≤ at + size b) where
    -- what is left over in front, and behind, is a header and a body
    pub front_size : 0 < base - 8 - at → base - 8 - at ≡ 8 + length (take (base - 16 - at) b.body)
    front_size p =
        let e : length (take (base - 16 - at) b.body) ≡ base - 16 - at = simp length-take (omega arith) in
        rw e (omega arith)

    pub back_size : 0 < at + size b - (base + n) → at + size b - (base + n) ≡ 8 + length (drop (base + n - at) b.body)
    back_size p = simp length-drop (omega arith)

    front_total : total size front_rest ≡ base - 8 - at
    front_total = left_total (base - 8 - at) (take (base - 16 - at) b.body) front_size

    back_total : total size back_rest ≡ at + size b - (base + n)
    back_total = left_total (at + size b - (base + n)) (drop (base + n - at) b.body) back_size

    cut_total : total size (cut_block base n serial at b) ≡ size b
    unfolding cut_block total
    cut_total = rw (total_append size front_rest (new_block n serial ∷ back_rest), front_total, back_total, length-replicate) (omega arith)

    cut_objects : live (new_block n serial) ≡ true → objects_from at (cut_block base n serial at b)
        ≡ record { base = base; length = n; serial = serial } ∷ []
    unfolding cut_block
    cut_objects new =
        let base_is : at + (base - 8 - at) + 8 ≡ base = omega arith in
        let length-is : length (new_block n serial).body ≡ n = length-replicate n 0 in
        let behind = at + (base - 8 - at) + size (new_block n serial) in
        rw (
          objects_append at front_rest (new_block n serial ∷ back_rest),
          left_objects at (base - 8 - at) (take (base - 16 - at) b.body),
          front_total,
          objects_live (at + (base - 8 - at)) (new_block n serial) back_rest new,
          left_objects behind (at + size b - (base + n)) (drop (base + n - at) b.body),
        )
        (λ i. record { base = base_is i; length = length-is i; serial = serial } ∷ [])

    cut_whole : all whole_size (cut_block base n serial at b) ≡ true
    unfolding whole_size
    cut_whole =
        cut_all whole_size (eq-eqb (size (new_block n serial) % 8) 0 (rw length-replicate (omega arith)))
        (λ p. eq-eqb (size (record { serial = 0; body = take (base - 16 - at) b.body }) % 8) 0 (rw (← front_size p) (omega arith)))
        (λ p. eq-eqb (size (record { serial = 0; body = drop (base + n - at) b.body }) % 8) 0 (rw (← back_size p) (omega arith)))

  cut_long : 8 ≤ n → all long_enough (cut_block base n serial at b) ≡ true
  unfolding long_enough
  cut_long h =
      cut_all long_enough (or_right (not (occupied (new_block n serial))) _
      (le-leb 16 (size (new_block n serial)) (rw length-replicate (omega arith))))
      (λ p. refl) (λ p. refl)

  cut_apart : (bs : List Block) → occupied b ≡ false → occupied (new_block n serial) ≡ true → free_apart (b ∷ bs) ≡ true → free_apart
      (cut_block base n serial at b ++ bs) ≡ true
  unfolding cut_block starts_free
  cut_apart bs eb new a =
      let apart : starts_free bs ≡ false = not-true (starts_free bs) (rw eb at (apart_head b bs a)) in
      let back = left_apart (at + size b - (base + n)) (drop (base + n - at) b.body) bs apart (apart_tail b bs a) in
      rw (append_assoc front_rest (new_block n serial ∷ back_rest) bs)
      (left_apart (base - 8 - at) (take (base - 16 - at) b.body) (new_block n serial ∷ (back_rest ++ bs)) (rw new)
      (apart_cons (new_block n serial) (back_rest ++ bs) (rw new) back))

module _ {base n serial at : ℕ} {bs cs : List Block} (c : Carved base n serial at bs cs) where
  -- where the block that is cut starts
  abbrev pub place : ℕ
  place = at + total size c.front

  -- the blocks in front and behind stay; between them stand the new object's block, of n zeros, and what is left over
  pub carved_parts : cs ≡ c.front ++ (front_rest base n serial place c.block
      ++ (new_block n serial ∷ (back_rest base n serial place c.block ++ c.back)))
  unfolding cut_block
  carved_parts = rw append_assoc at c.now

  -- every live block stays
  pub carved_keeps : (b : Block) → occupied b ≡ true → Memᴰ b bs → Memᴰ b cs
  carved_keeps b e m = rw c.now (go (Memᴰ.append_cases c.front (rw c.split at m)))
    where
      cut : List Block
      cut = cut_block base n serial place c.block

      behind : (b ≡ c.block) ⊎ Memᴰ b c.back → Memᴰ b (cut ++ c.back)
      behind (inl q) = absurd (true≢false (sym e ∙ rw q c.free))
      behind (inr k) = Memᴰ.append_right cut k

      go : Memᴰ b c.front ⊎ Memᴰ b (c.block ∷ c.back) → Memᴰ b (c.front ++ (cut ++ c.back))
      go (inl k) = Memᴰ.append_left (cut ++ c.back) k
      go (inr k) = Memᴰ.append_right c.front (behind (Memᴰ.cases_cons k))

  all_front : (p : Block → Bool) → all p bs ≡ true → all p c.front ≡ true
  all_front p a = and_left (all p c.front) _ (rw (c.split, all_append p c.front (c.block ∷ c.back)) at a)

  all_behind : (p : Block → Bool) → all p bs ≡ true → (p c.block && all p c.back) ≡ true
  unfolding all
  all_behind p a = and_right (all p c.front) _ (rw (c.split, all_append p c.front (c.block ∷ c.back)) at a)

  -- a test of all blocks still holds if it holds of the new ones
  pub carved_all : (p : Block → Bool) → all p bs ≡ true → all p (cut_block base n serial place c.block) ≡ true → all p cs ≡ true
  carved_all p a e =
      let cut = cut_block base n serial place c.block in
      rw (c.now, all_append p c.front (cut ++ c.back), all_append p cut c.back, all_front p a, e)
      (and_right (p c.block) (all p c.back) (all_behind p a))

  -- every block is long enough, the new one from 8 bytes on
  pub carved_long : 8 ≤ n → all long_enough bs ≡ true → all long_enough cs ≡ true
  carved_long h a = carved_all long_enough a (cut_long base n serial place c.block h)

  -- no two free blocks stand side by side
  pub carved_apart : 0 < serial → free_apart bs ≡ true → free_apart cs ≡ true
  carved_apart new a =
      let old = rw c.split at a in
      let here = apart_back c.front (c.block ∷ c.back) old in
      rw c.now
      (apart_replaced c.front c.block c.back (cut_block base n serial place c.block ++ c.back) c.free old
      (cut_apart base n serial place c.block c.back c.free (new_occupied n serial new) here))

  -- rule 5.2: the blocks stay well cut
  pub carved_cut : 0 < serial → 8 ≤ n → well_cut bs ≡ true → well_cut cs ≡ true
  unfolding well_cut
  carved_cut new h w =
      and_both (all long_enough cs) (free_apart cs) (carved_long h (and_left (all long_enough bs) (free_apart bs) w))
      (carved_apart new (and_right (all long_enough bs) (free_apart bs) w))

  module _ (here : at % 8 ≡ 0) (whole : Whole bs) (aligned : base % 8 ≡ 0) (even : n % 8 ≡ 0) where
    -- the block that is cut starts at a multiple of 8, and its size is one
    pub place_whole : place % 8 ≡ 0
    place_whole = omega (arith, here, whole_total c.front (all_front whole_size whole))

    pub block_whole : size c.block % 8 ≡ 0
    unfolding whole_size
    block_whole = eqb-true (size c.block % 8) 0 (and_left (whole_size c.block) (all whole_size c.back) (all_behind whole_size whole))

    -- every size stays a multiple of 8
    pub carved_whole : Whole cs
    carved_whole = carved_all whole_size whole (cut_whole base n serial place c.block place_whole block_whole aligned even c.low c.high)

    the_total : total size (cut_block base n serial place c.block) ≡ size c.block
    the_total = cut_total base n serial place c.block place_whole block_whole aligned even c.low c.high

    -- the sizes add up to the same
    pub carved_total : total size cs ≡ total size bs
    unfolding total
    carved_total =
        let cut = cut_block base n serial place c.block in
        rw (
          c.now,
          c.split,
          total_append size c.front (cut ++ c.back),
          total_append size cut c.back,
          total_append size c.front
              (c.block ∷ c.back),
          the_total,
        )

    -- the objects are the old ones, in order, with the new one at one place
    pub carved_objects : 0 < serial → serial < QUARANTINED → Added (record { base = base; length = n; serial = serial }) (objects_from at bs)
        (objects_from at cs)
    carved_objects new low =
        let cut = cut_block base n serial place c.block in
        let rest = objects_from (place + size c.block) c.back in
        let o : Handle = record { base = base; length = n; serial = serial } in
        let the_cut = cut_objects base n serial place c.block place_whole block_whole aligned even c.low c.high
        (new_live n serial new low) in
        let between : objects_from place (cut ++ c.back) ≡ o ∷ rest = rw (objects_append place cut c.back, the_cut, the_total) in
        record {
          front = objects_from at c.front;
          back = rest;
          old = rw (
            c.split,
            objects_append at c.front (c.block ∷ c.back),
            objects_free place c.block c.back
                (free_not_live c.block c.free),
          );
          now = rw (c.now, objects_append at c.front (cut ++ c.back), between);
        }

-- carving a suitable run out of a heap's blocks adds exactly the new object
pub carve_objects : (base n serial : ℕ) (bs : List Block) → free_apart bs ≡ true → suitable (total size bs) bs n base ≡ true → Whole bs → base % 8 ≡ 0
    → n % 8 ≡ 0 → 0 < serial → serial < QUARANTINED
    → Added (record { base = base; length = n; serial = serial }) (objects bs) (objects (carve base n serial bs))
unfolding objects
carve_objects base n serial bs apart fits whole aligned even new low =
    carved_objects (carved base n serial bs apart fits) refl whole aligned even new low
