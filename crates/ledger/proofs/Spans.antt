-- Where quarantined blocks stand, and what each change of blocks does to them. Joining, carving and copying leave each of them at its place; settling leaves
-- one more, in a heap of the second kind, for each object that no record holds any more; and a sweep leaves none.
use Prim.Native.Nat.{ℕ, ◌+◌, ◌-◌, ◌%◌, ◌<◌}
use native.Mathlib.Nat.{add-zero, add_assoc}
use native.Mathlib.Omega.{arith}
use mathlib.Core.Path.{◌≡◌, refl, ap, sym, ◌∙◌}
use mathlib.Core.List.Memᴰ
use mathlib.Core.List.{List, [], ◌∷◌, ◌++◌, map, Memᴰ}
use mathlib.Core.Bool.{Bool, true, false, not, cond, true≢false}
use mathlib.Core.Logic.{◌↔◌, ◌⊎◌, inl, inr, ⊎_elim}
use lib.ListN.{length, take, drop, length-replicate, length-append, length-take, length-drop}
use lib.Dec.{eqb}
use borrow.Author.Tests.{eqb-true, not-true, ne_eqb}
use Rattle.accounts.specs.declared.Hold.{Hold}
use Rattle.layout.specs.Blocks.{Block, size, occupied, QUARANTINED, quarantined, live}
use Rattle.lists.specs.Lists.{all, total, keep}
use Rattle.model.specs.Objects.{object, objects_from}
use Rattle.model.specs.Consistent.{held}
use Rattle.model.specs.Space.{cut_block, join_front, join_free, vacate, changed, reclaim, settle, swept, copy_into, not_quarantined}
use Rattle.model.specs.declared.Handle.{Handle}
use Rattle.lists.proofs.Bools.{and_left, and_right}
use Rattle.lists.proofs.Lists.{total_append}
use Rattle.model.proofs.Blocks.{Whole, objects_live, objects_free}
use Rattle.model.proofs.Carve.{Carved, cut_all, carved_total, place}
use Rattle.model.proofs.Join.{joined, joined_size, join_elim}
use Rattle.model.proofs.Settle.{object_held, vacate_unheld}
use Rattle.model.proofs.Sweep.{quarantined_occupied, swept_none}
use Rattle.ledger.specs.Ledger.{Span, block_of, spans_from}

-- the bytes of a block that starts at a place
abbrev pub span : ℕ → Block → Span
span at b = record { from = at; to = at + size b }

-- a quarantined block stands in front of the others, and any other block is passed by
spans_quarantined : (at : ℕ) (b : Block) (bs : List Block) → quarantined b ≡ true → spans_from at (b ∷ bs) ≡ span at b ∷ spans_from (at + size b) bs
unfolding spans_from
spans_quarantined at b bs e = rw e

spans_passed : (at : ℕ) (b : Block) (bs : List Block) → quarantined b ≡ false → spans_from at (b ∷ bs) ≡ spans_from (at + size b) bs
unfolding spans_from
spans_passed at b bs e = rw e

spans_cong : (at : ℕ) (b : Block) (xs ys : List Block) → spans_from (at + size b) xs ≡ spans_from (at + size b) ys
    → spans_from at (b ∷ xs) ≡ spans_from at (b ∷ ys)
unfolding spans_from
spans_cong at b xs ys e = rw e

-- a quarantined block is the first one, or one of the others
pub spans_cases : (at : ℕ) (b : Block) (bs : List Block) (x : Span) → Memᴰ x (spans_from at (b ∷ bs))
    → ((quarantined b ≡ true) × (x ≡ span at b)) ⊎ Memᴰ x (spans_from (at + size b) bs)
unfolding spans_from
spans_cases at b bs x m = go (quarantined b) refl m
  where
    go : (t : Bool) → quarantined b ≡ t → Memᴰ x (cond t (span at b ∷ spans_from (at + size b) bs) (spans_from (at + size b) bs))
        → ((quarantined b ≡ true) × (x ≡ span at b)) ⊎ Memᴰ x (spans_from (at + size b) bs)
    go true t m = ⊎_elim (λ e. inl (t, e)) (λ i. inr i) (Memᴰ.cases_cons m)
    go false t m = inr m

-- the quarantined blocks of two lists, the second behind the first
spans_append : (at : ℕ) (xs ys : List Block) → spans_from at (xs ++ ys) ≡ spans_from at xs ++ spans_from (at + total size xs) ys
unfolding spans_from total
spans_append at [] ys = rw add-zero
spans_append at (b ∷ bs) ys = go (quarantined b) refl (spans_append (at + size b) bs ys)
  where
    go : (x : Bool) → quarantined b ≡ x → spans_from (at + size b) (bs ++ ys) ≡ spans_from (at + size b) bs ++ spans_from (at + size b + total size bs) ys
        → spans_from at (b ∷ bs ++ ys) ≡ spans_from at (b ∷ bs) ++ spans_from (at + (size b + total size bs)) ys
    go true e ih = rw (e, ih, add_assoc at (size b) (total size bs))
    go false e ih = rw (e, ih, add_assoc at (size b) (total size bs))

-- none of blocks that are not quarantined
none_spans : (at : ℕ) (bs : List Block) → all not_quarantined bs ≡ true → spans_from at bs ≡ []
unfolding spans_from all
none_spans at [] a = refl
none_spans at (b ∷ bs) a =
    rw (not-true (quarantined b) (and_left (not_quarantined b) (all not_quarantined bs) a))
    (none_spans (at + size b) bs (and_right (not_quarantined b) (all not_quarantined bs) a))

-- a free block is not quarantined
free_not_quarantined : (b : Block) → occupied b ≡ false → quarantined b ≡ false
free_not_quarantined b e = go (quarantined b) refl
  where
    go : (x : Bool) → quarantined b ≡ x → x ≡ false
    go true q = absurd (true≢false (sym (quarantined_occupied b q) ∙ e))
    go false q = refl

-- joining leaves them
front_spans : (at : ℕ) (b : Block) (cs : List Block) → spans_from at (join_front b cs) ≡ spans_from at (b ∷ cs)
front_spans at b cs =
    join_elim (λ l. spans_from at l ≡ spans_from at (b ∷ cs)) b cs (λ e. refl)
    (λ d ds eb ed e.
    (rw (
      e,
      spans_passed at b (d ∷ ds) (free_not_quarantined b eb),
      spans_passed (at + size b) d ds (free_not_quarantined d ed),
      spans_passed at (joined b d) ds refl,
    )
    (ap (λ (k : ℕ). spans_from k ds) (omega (arith, joined_size b d)))))

join_spans : (at : ℕ) (bs : List Block) → spans_from at (join_free bs) ≡ spans_from at bs
unfolding join_free
join_spans at [] = refl
join_spans at (b ∷ bs) = front_spans at b (join_free bs) ∙ spans_cong at b (join_free bs) bs (join_spans (at + size b) bs)

-- carving leaves them: what is cut is free, and the new block is not quarantined
pub carved_spans : {base n serial at : ℕ} {bs cs : List Block} → Carved base n serial at bs cs → serial < QUARANTINED → at % 8 ≡ 0 → Whole bs
    → base % 8 ≡ 0 → n % 8 ≡ 0 → spans_from at cs ≡ spans_from at bs
unfolding total
carved_spans {base} {n} {serial} {at} {bs} {cs} c low here whole aligned even =
    let cut = cut_block base n serial (place c) c.block in
    let none : all not_quarantined cut ≡ true =
    cut_all base n serial (place c) c.block not_quarantined (rw (ne_eqb serial QUARANTINED (λ e. omega arith))) (λ p. refl) (λ p. refl) in
    let old : total size bs ≡ total size c.front + (size c.block + total size c.back) =
    ap (total size) c.split ∙ total_append size c.front (c.block ∷ c.back) in
    let new : total size cs ≡ total size c.front + (total size cut + total size c.back) =
    ap (total size) c.now ∙ total_append size c.front (cut ++ c.back) ∙ ap (λ (k : ℕ). total size c.front + k) (total_append size cut c.back) in
    let same : total size cut ≡ size c.block = omega (arith, carved_total c here whole aligned even) in
    rw (
      c.now,
      c.split,
      spans_append at c.front (cut ++ c.back),
      spans_append at c.front (c.block ∷ c.back),
      spans_append (place c) cut c.back,
      none_spans (place c) cut none,
      same,
      spans_passed (place c) c.block c.back (free_not_quarantined c.block c.free),
    )

-- a sweep leaves none
pub swept_spans : (at : ℕ) (bs : List Block) → spans_from at (swept bs) ≡ []
swept_spans at bs = none_spans at (swept bs) (swept_none bs)

-- copying leaves them
pub copied_spans : (serial : ℕ) (new : List ℕ) (at : ℕ) (bs : List Block) → spans_from at (copy_into serial new bs) ≡ spans_from at bs
unfolding copy_into
copied_spans serial new at [] = refl
copied_spans serial new at (b ∷ bs) = go (eqb b.serial serial) refl (copied_spans serial new (at + size b) bs)
  where
    copied : Block
    copied = record { serial = serial; body = take (length b.body) new ++ drop (length new) b.body }

    as_long : length (take (length b.body) new ++ drop (length new) b.body) ≡ length b.body
    as_long = simp (length-append, length-take, length-drop) (omega arith)

    here : (q : Bool) → quarantined b ≡ q → eqb serial QUARANTINED ≡ q → spans_from (at + size b) (copy_into serial new bs) ≡ spans_from (at + size b) bs
        → spans_from at (copied ∷ copy_into serial new bs) ≡ spans_from at (b ∷ bs)
    here true e f ih = rw (spans_quarantined at copied (copy_into serial new bs) f, spans_quarantined at b bs e, as_long, ih)
    here false e f ih = rw (spans_passed at copied (copy_into serial new bs) f, spans_passed at b bs e, as_long, ih)

    go : (t : Bool) → eqb b.serial serial ≡ t → spans_from (at + size b) (copy_into serial new bs) ≡ spans_from (at + size b) bs
        → spans_from at (cond t copied b ∷ copy_into serial new bs) ≡ spans_from at (b ∷ bs)
    go true t ih = here (quarantined b) refl (ap (λ (n : ℕ). eqb n QUARANTINED) (sym (eqb-true b.serial serial t))) ih
    go false t ih = spans_cong at b (copy_into serial new bs) bs ih

-- the members of one list are those of two others
abbrev pub Split : List Span → List Span → List Span → Type 0
Split xs ys zs = (x : Span) → Memᴰ x xs ↔ (Memᴰ x ys ⊎ Memᴰ x zs)

split_left : (a : Span) (xs ys zs : List Span) → Split xs ys zs → Split (a ∷ xs) (a ∷ ys) zs
split_left a xs ys zs f x = (λ m. there (Memᴰ.cases_cons m), back)
  where
    there : (x ≡ a) ⊎ Memᴰ x xs → Memᴰ x (a ∷ ys) ⊎ Memᴰ x zs
    there (inl e) = inl (Memᴰ.head e)
    there (inr m) = ⊎_elim (λ i. inl (Memᴰ.tail i)) (λ i. inr i) ((f x).0 m)

    back : Memᴰ x (a ∷ ys) ⊎ Memᴰ x zs → Memᴰ x (a ∷ xs)
    back (inl m) = ⊎_elim (λ e. Memᴰ.head e) (λ i. Memᴰ.tail ((f x).1 (inl i))) (Memᴰ.cases_cons m)
    back (inr m) = Memᴰ.tail ((f x).1 (inr m))

split_right : (a : Span) (xs ys zs : List Span) → Split xs ys zs → Split (a ∷ xs) ys (a ∷ zs)
split_right a xs ys zs f x = (λ m. there (Memᴰ.cases_cons m), back)
  where
    there : (x ≡ a) ⊎ Memᴰ x xs → Memᴰ x ys ⊎ Memᴰ x (a ∷ zs)
    there (inl e) = inr (Memᴰ.head e)
    there (inr m) = ⊎_elim (λ i. inl i) (λ i. inr (Memᴰ.tail i)) ((f x).0 m)

    back : Memᴰ x ys ⊎ Memᴰ x (a ∷ zs) → Memᴰ x (a ∷ xs)
    back (inl m) = Memᴰ.tail ((f x).1 (inl m))
    back (inr m) = ⊎_elim (λ e. Memᴰ.head e) (λ i. Memᴰ.tail ((f x).1 (inr i))) (Memᴰ.cases_cons m)

-- the blocks that objects leave quarantined: none in a plain heap
unfoldable pub behind : ℕ → List Handle → List Span
behind kind os = cond (eqb kind 0) [] (map block_of os)

behind_plain : (kind : ℕ) (os : List Handle) → eqb kind 0 ≡ true → behind kind os ≡ []
unfolding behind
behind_plain kind os e = rw e

behind_cons : (kind : ℕ) (o : Handle) (os : List Handle) → eqb kind 0 ≡ false → behind kind (o ∷ os) ≡ block_of o ∷ behind kind os
unfolding behind
behind_cons kind o os e = rw e

-- the block of a block's object
object_span : (at : ℕ) (b : Block) → block_of (object at b) ≡ span at b
unfolding block_of
object_span at b =
    let from : at + 8 - 8 ≡ at = omega arith in
    λ i. record { from = from i; to = add_assoc at 8 (length b.body) i }

-- a live block is not quarantined
live_not_quarantined : (b : Block) → live b ≡ true → quarantined b ≡ false
live_not_quarantined b e = not-true (quarantined b) (and_right (occupied b) (not_quarantined b) e)

-- no record holds this object
abbrev pub unheld : List Hold → Handle → Bool
unheld hs o = not (object_held hs o)

-- settling: what is quarantined was, or is the block of an object that no record holds
module _ (kind : ℕ) (hs : List Hold) where
  vacated_size : (b : Block) → size (vacate kind b) ≡ size b
  unfolding vacate
  vacated_size b = rw length-replicate

  vacated_free : (b : Block) → eqb kind 0 ≡ true → quarantined (vacate kind b) ≡ false
  unfolding vacate
  vacated_free b e = rw e

  vacated_quarantined : (b : Block) → eqb kind 0 ≡ false → quarantined (vacate kind b) ≡ true
  unfolding vacate
  vacated_quarantined b e = rw e

  vacated_spans_cons : (at : ℕ) (b : Block) (bs : List Block)
      → Split (spans_from (at + size b) (vacate_unheld kind hs bs)) (behind kind (keep (unheld hs) (objects_from (at + size b) bs)))
      (spans_from (at + size b) bs)
      → (x y z : Bool) → live b ≡ x → held hs b.serial ≡ y → eqb kind 0 ≡ z
      → Split (spans_from at (vacate_unheld kind hs (b ∷ bs))) (behind kind (keep (unheld hs) (objects_from at (b ∷ bs)))) (spans_from at (b ∷ bs))
  unfolding changed keep
  vacated_spans_cons at b bs ih false y z eb eh ez = rw (eb, objects_free at b bs eb) (go (quarantined b) refl)
    where
      go : (q : Bool) → quarantined b ≡ q
          → Split (spans_from at (b ∷ vacate_unheld kind hs bs)) (behind kind (keep (unheld hs) (objects_from (at + size b) bs))) (spans_from at (b ∷ bs))
      go true q = rw (spans_quarantined at b (vacate_unheld kind hs bs) q, spans_quarantined at b bs q) (split_right (span at b) _ _ _ ih)
      go false q = rw (spans_passed at b (vacate_unheld kind hs bs) q, spans_passed at b bs q) ih
  vacated_spans_cons at b bs ih true true z eb eh ez =
      let e = live_not_quarantined b eb in
      rw (eb, eh, objects_live at b bs eb, eh, spans_passed at b (vacate_unheld kind hs bs) e, spans_passed at b bs e) ih
  vacated_spans_cons at b bs ih true false z eb eh ez =
      rw (eb, eh, objects_live at b bs eb, eh, spans_passed at b bs (live_not_quarantined b eb)) (go z ez ih)
    where
      rest : List Handle
      rest = keep (unheld hs) (objects_from (at + size b) bs)

      go : (z : Bool) → eqb kind 0 ≡ z → Split (spans_from (at + size b) (vacate_unheld kind hs bs)) (behind kind rest) (spans_from (at + size b) bs)
          → Split (spans_from at (vacate kind b ∷ vacate_unheld kind hs bs)) (behind kind (object at b ∷ rest)) (spans_from (at + size b) bs)
      go true ez ih =
          rw (spans_passed at (vacate kind b) (vacate_unheld kind hs bs) (vacated_free b ez), vacated_size b, behind_plain kind (object at b ∷ rest) ez)
          (rw (behind_plain kind rest ez) at ih)
      go false ez ih =
          rw (
            spans_quarantined at (vacate kind b) (vacate_unheld kind hs bs) (vacated_quarantined b ez),
            vacated_size b,
            behind_cons kind (object at b) rest ez,
            object_span at b,
          )
          (split_left (span at b) _ _ _ ih)

  behind_none : behind kind [] ≡ []
  unfolding behind
  behind_none = go (eqb kind 0)
    where
      go : (z : Bool) → cond z [] (map block_of []) ≡ []
      go true = refl
      go false = refl

  vacated_spans : (at : ℕ) (bs : List Block)
      → Split (spans_from at (vacate_unheld kind hs bs)) (behind kind (keep (unheld hs) (objects_from at bs))) (spans_from at bs)
  unfolding changed objects_from keep spans_from
  vacated_spans at [] = λ x. (λ m. inr m, λ m. ⊎_elim (λ i. rw behind_none at i) (λ i. i) m)
  vacated_spans at (b ∷ bs) = vacated_spans_cons at b bs (vacated_spans (at + size b) bs) (live b) (held hs b.serial) (eqb kind 0) refl refl refl

  pub settled_spans : (at : ℕ) (bs : List Block)
      → Split (spans_from at (settle kind hs bs)) (behind kind (keep (unheld hs) (objects_from at bs))) (spans_from at bs)
  unfolding settle reclaim
  settled_spans at bs = rw (join_spans at (vacate_unheld kind hs bs)) (vacated_spans at bs)
