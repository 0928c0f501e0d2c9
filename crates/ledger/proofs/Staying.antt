-- The live blocks that each change leaves: carving adds one with a new serial, settling and joining make no live block, and copying changes one.
use Prim.Native.Nat.{ℕ, zero, suc, ◌-◌}
use mathlib.Core.Path.{◌≡◌, refl, ap, sym, ◌∙◌}
use mathlib.Core.List.Memᴰ
use mathlib.Core.List.{List, [], ◌∷◌, ◌++◌, Memᴰ}
use mathlib.Core.Bool.{Bool, true, false, not, cond, ◌&&◌, true≢false}
use mathlib.Core.Logic.{◌⊎◌, inl, inr, ⊎_elim}
use lib.ListN.{length, take, drop, replicate}
use lib.Dec.{eqb}
use borrow.Author.Tests.{eqb-true, eqb-false}
use Rattle.accounts.specs.declared.Hold.{Hold}
use Rattle.layout.specs.Blocks.{Block, quarantined, live}
use Rattle.model.specs.Consistent.{held}
use Rattle.model.specs.Space.{left_over, cut_block, vacate, changed, reclaim, join_front, join_free, settle, unquarantine, swept, body_of, copy_into}
use Rattle.model.proofs.Carve.{Carved}
use Rattle.model.proofs.Join.{joined, join_elim}
use Rattle.model.proofs.Settle.{vacate_unheld, vacated_dead}
use Rattle.model.proofs.Sweep.{unquarantine_all}

-- a free block is not live
free_not : {A : Type 0} (b c : Block) → live b ≡ true → live c ≡ false → b ≡ c → A
free_not b c l f e = absurd (true≢false (sym l ∙ ap (λ (x : Block). live x) e ∙ f))

-- what is left over is free
left_free : (n : ℕ) (body : List ℕ) (b : Block) → live b ≡ true → Memᴰ b (left_over n body) → ⊥
unfolding left_over
left_free zero body b l m = Memᴰ.not-nil m
left_free (suc n) body b l m = free_not b (record { serial = 0; body = body }) l refl (Memᴰ.eq_of_singleton m)

-- the one live block of a cut is the new one
cut_live : (base n serial at : ℕ) (f b : Block) → live b ≡ true → Memᴰ b (cut_block base n serial at f) → b
    ≡ record { serial = serial; body = replicate n 0 }
unfolding cut_block
cut_live base n serial at f b l m =
    ⊎_elim (λ x. absurd (left_free _ _ b l x)) (λ y. ⊎_elim (λ e. e) (λ z. absurd (left_free _ _ b l z)) (Memᴰ.cases_cons y))
    (Memᴰ.append_cases (left_over (base - 8 - at) (take (base - 16 - at) f.body)) m)

-- carving: a live block is the new one or was there
pub carved_live : {base n serial at : ℕ} {bs cs : List Block} (c : Carved base n serial at bs cs) (b : Block) → live b ≡ true → Memᴰ b cs
    → (b ≡ record { serial = serial; body = replicate n 0 }) ⊎ Memᴰ b bs
carved_live {base} {n} {serial} {at} {bs} {cs} c b l m =
    ⊎_elim (λ x. inr (rw c.split (Memᴰ.append_left (c.block ∷ c.back) x)))
    (λ y. ⊎_elim (λ z. inl (cut_live base n serial _ c.block b l z)) (λ z. inr (rw c.split (Memᴰ.append_right c.front (Memᴰ.tail z))))
    (Memᴰ.append_cases (cut_block base n serial _ c.block) y))
    (Memᴰ.append_cases c.front (rw c.now at m))

-- joining: a live block was there
join_live : (c : Block) (cs : List Block) (b : Block) → live b ≡ true → Memᴰ b (join_front c cs) → Memᴰ b (c ∷ cs)
join_live c cs b l =
    join_elim (λ (x : List Block). Memᴰ b x → Memᴰ b (c ∷ cs)) c cs (λ e m. m)
    (λ d ds fc fd e m. ⊎_elim (λ x. free_not b (joined c d) l refl x) (λ y. rw e (Memᴰ.tail (Memᴰ.tail y))) (Memᴰ.cases_cons m))

joined_live : (bs : List Block) (b : Block) → live b ≡ true → Memᴰ b (join_free bs) → Memᴰ b bs
unfolding join_free
joined_live [] b l m = m
joined_live (c ∷ cs) b l m = ⊎_elim (λ x. Memᴰ.head x) (λ y. Memᴰ.tail (joined_live cs b l y))
    (Memᴰ.cases_cons (join_live c (join_free cs) b l m))

vacated_live : (kind : ℕ) (hs : List Hold) (bs : List Block) (b : Block) → live b ≡ true → Memᴰ b (vacate_unheld kind hs bs) → Memᴰ b bs
unfolding changed
vacated_live kind hs [] b l m = m
vacated_live kind hs (c ∷ cs) b l m = go (live c && not (held hs c.serial)) (Memᴰ.cases_cons m) (vacated_live kind hs cs b l)
  where
    go : (t : Bool) → (b ≡ cond t (vacate kind c) c) ⊎ Memᴰ b (vacate_unheld kind hs cs)
        → (Memᴰ b (vacate_unheld kind hs cs) → Memᴰ b cs) → Memᴰ b (c ∷ cs)
    go true (inl e) ih = free_not b (vacate kind c) l (vacated_dead kind c) e
    go true (inr x) ih = Memᴰ.tail (ih x)
    go false (inl e) ih = Memᴰ.head e
    go false (inr x) ih = Memᴰ.tail (ih x)

-- settling: a live block was there
pub settled_live : (kind : ℕ) (hs : List Hold) (bs : List Block) (b : Block) → live b ≡ true → Memᴰ b (settle kind hs bs) → Memᴰ b bs
unfolding settle reclaim
settled_live kind hs bs b l m = vacated_live kind hs bs b l (joined_live (vacate_unheld kind hs bs) b l m)

-- a sweep: a live block was there
unquarantined_live : (bs : List Block) (b : Block) → live b ≡ true → Memᴰ b (unquarantine_all bs) → Memᴰ b bs
unfolding changed
unquarantined_live [] b l m = m
unquarantined_live (c ∷ cs) b l m = go (quarantined c) (Memᴰ.cases_cons m) (unquarantined_live cs b l)
  where
    go : (t : Bool) → (b ≡ cond t (unquarantine c) c) ⊎ Memᴰ b (unquarantine_all cs)
        → (Memᴰ b (unquarantine_all cs) → Memᴰ b cs) → Memᴰ b (c ∷ cs)
    go true (inl e) ih = free_not b (unquarantine c) l refl e
    go true (inr x) ih = Memᴰ.tail (ih x)
    go false (inl e) ih = Memᴰ.head e
    go false (inr x) ih = Memᴰ.tail (ih x)

pub swept_live : (bs : List Block) (b : Block) → live b ≡ true → Memᴰ b (swept bs) → Memᴰ b bs
unfolding swept reclaim
swept_live bs b l m = unquarantined_live bs b l (joined_live (unquarantine_all bs) b l m)

-- copying: a live block with another serial was there, and one with this serial has the bytes copied in front of its own
pub copied_live : (serial : ℕ) (new : List ℕ) (bs : List Block) (b : Block) → live b ≡ true → Memᴰ b (copy_into serial new bs)
    → (Memᴰ b bs × (b.serial ≡ serial → ⊥)) ⊎ ((c : Block) × Memᴰ c bs × (c.serial ≡ serial)
    × (b ≡ record { serial = serial; body = take (length c.body) new ++ drop (length new) c.body }))
unfolding copy_into
copied_live serial new [] b l m = absurd (Memᴰ.not-nil m)
copied_live serial new (c ∷ cs) b l m = go (eqb c.serial serial) refl (Memᴰ.cases_cons m) (copied_live serial new cs b l)
  where
    Copied : List Block → Type 0
    Copied bs = (c : Block) × Memᴰ c bs × (c.serial ≡ serial) ×
        (b ≡ record { serial = serial; body = take (length c.body) new ++ drop (length new) c.body })

    Left : List Block → Type 0
    Left bs = Memᴰ b bs × (b.serial ≡ serial → ⊥)

    later : Left cs ⊎ Copied cs → Left (c ∷ cs) ⊎ Copied (c ∷ cs)
    later (inl x) = inl (Memᴰ.tail x.0, x.1)
    later (inr y) = inr (y.0, Memᴰ.tail y.1, y.2, y.3)

    go : (t : Bool) → eqb c.serial serial ≡ t
        → (b ≡ cond t (record { serial = serial; body = take (length c.body) new ++ drop (length new) c.body }) c) ⊎ Memᴰ b
        (copy_into serial new cs)
        → (Memᴰ b (copy_into serial new cs) → Left cs ⊎ Copied cs) → Left (c ∷ cs) ⊎ Copied (c ∷ cs)
    go true t (inl e) ih = inr (c, Memᴰ.head refl, eqb-true c.serial serial t, e)
    go true t (inr x) ih = later (ih x)
    go false t (inl e) ih = inl (Memᴰ.head e, λ z. eqb-false c.serial serial t (ap (λ (x : Block). x.serial) (sym e) ∙ z))
    go false t (inr x) ih = later (ih x)

-- the bytes of the first block with a serial, where there is one
pub body_there : (serial : ℕ) (bs : List Block) (b : Block) → Memᴰ b bs → b.serial ≡ serial
    → (c : Block) × Memᴰ c bs × (c.serial ≡ serial) × (body_of serial bs ≡ c.body)
unfolding body_of
body_there serial [] b m e = absurd (Memᴰ.not-nil m)
body_there serial (c ∷ cs) b m e = go (eqb c.serial serial) refl (Memᴰ.cases_cons m) (λ x. body_there serial cs b x e)
  where
    Found : List Block → List ℕ → Type 0
    Found bs body = (c : Block) × Memᴰ c bs × (c.serial ≡ serial) × (body ≡ c.body)

    go : (t : Bool) → eqb c.serial serial ≡ t → (b ≡ c) ⊎ Memᴰ b cs → (Memᴰ b cs → Found cs (body_of serial cs))
        → Found (c ∷ cs) (cond t c.body (body_of serial cs))
    go true t x ih = (c, Memᴰ.head refl, eqb-true c.serial serial t, refl)
    go false t (inl x) ih = absurd (eqb-false c.serial serial t (ap (λ (z : Block). z.serial) (sym x) ∙ e))
    go false t (inr x) ih = let r = ih x in (r.0, Memᴰ.tail r.1, r.2, r.3)
