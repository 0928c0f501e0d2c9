-- Blocks that are live or whose bytes pass a test that 0 passes: what the changes of the rules leave of them. A new object is cut out of a free block, and
-- what is left over of it has bytes of that block; an object that leaves becomes zero, and so does each header that vanishes; a copy changes the new object
-- alone.
use Prim.Native.Nat.{ℕ, zero, suc, ◌+◌, ◌-◌, ◌<◌}
use mathlib.Core.Path.{◌≡◌, refl, ap, sym, ◌∙◌}
use mathlib.Core.List.{List, [], ◌∷◌, ◌++◌}
use mathlib.Core.Bool.{Bool, true, false, cond, ◌&&◌}
use lib.ListN.{length, get_or, take, drop, replicate}
use lib.Dec.{eqb}
use borrow.Author.Tests.{eqb-true}
use Rattle.accounts.specs.declared.Hold.{Hold}
use Rattle.layout.specs.Blocks.{Block, size, QUARANTINED, quarantined, live}
use Rattle.lists.specs.Lists.{all, total}
use Rattle.model.specs.Consistent.{free_apart}
use Rattle.model.specs.Space.{suitable, carve, vacate, unquarantine, changed, join_front, join_free, reclaim, settle, swept, copy_into}
use Rattle.lists.proofs.Bools.{and_left, and_right, and_both, or_right}
use Rattle.model.proofs.Blocks.{free_not_live}
use Rattle.lists.proofs.Lists.{all_append}
use Rattle.model.proofs.Carve.{new_block, new_live, cut_all, place, carved, carved_all}
use Rattle.model.proofs.Join.{joined, join_elim}
use Rattle.model.proofs.Settle.{vacate_unheld, vacated_all}
use Rattle.model.proofs.Sweep.{quarantined_dead}
use Rattle.safety.specs.Left.{clean_block, is_zero}
use Rattle.safety.proofs.Wrong

-- lists of zeros
pub zeros_are : (xs : List ℕ) → all is_zero xs ≡ true → xs ≡ replicate (length xs) 0
unfolding all
zeros_are [] z = refl
zeros_are (x ∷ xs) z =
    let e = eqb-true x 0 (and_left (eqb x 0) _ z) in
    let r = zeros_are xs (and_right (eqb x 0) _ z) in
    λ i. e i ∷ r i

pub zero_at : (xs : List ℕ) (i : ℕ) → all is_zero xs ≡ true → get_or xs i 0 ≡ 0
unfolding all
zero_at [] i z = refl
zero_at (x ∷ xs) zero z = eqb-true x 0 (and_left (eqb x 0) _ z)
zero_at (x ∷ xs) (suc i) z = zero_at xs i (and_right (eqb x 0) _ z)

-- parts of a list that passes
module _ (p : ℕ → Bool) where
  all_take : (n : ℕ) (xs : List ℕ) → all p xs ≡ true → all p (take n xs) ≡ true
  unfolding all
  all_take zero xs a = refl
  all_take (suc n) [] a = refl
  all_take (suc n) (x ∷ xs) a = and_both (p x) _ (and_left (p x) _ a) (all_take n xs (and_right (p x) _ a))

  all_drop : (n : ℕ) (xs : List ℕ) → all p xs ≡ true → all p (drop n xs) ≡ true
  unfolding all
  all_drop zero xs a = a
  all_drop (suc n) [] a = refl
  all_drop (suc n) (x ∷ xs) a = all_drop n xs (and_right (p x) _ a)

  -- one block
  pub clean_passes : (b : Block) → live b ≡ false → clean_block p b ≡ true → all p b.body ≡ true
  unfolding clean_block
  clean_passes b f e = rw f at e

  pub passes_clean : (b : Block) → all p b.body ≡ true → clean_block p b ≡ true
  unfolding clean_block
  passes_clean b a = or_right (live b) _ a

  pub live_clean : (b : Block) → live b ≡ true → clean_block p b ≡ true
  unfolding clean_block
  live_clean b e = rw e

-- these blocks are clean
abbrev pub Clean : (ℕ → Bool) → List Block → Type 0
Clean p bs = all (clean_block p) bs ≡ true

module _ (p : ℕ → Bool) (z : p 0 ≡ true) where
  pub all_zeros : (n : ℕ) → all p (replicate n 0) ≡ true
  unfolding all
  all_zeros zero = refl
  all_zeros (suc n) = and_both (p 0) _ z (all_zeros n)

  all_joined : (xs ys : List ℕ) → all p xs ≡ true → all p ys ≡ true → all p (xs ++ ys) ≡ true
  all_joined xs ys a b = rw (all_append p xs ys, a) b

  -- joining
  front_clean : (b : Block) (cs : List Block) → clean_block p b ≡ true → Clean p cs → Clean p (join_front b cs)
  unfolding all
  front_clean b cs e a =
      join_elim (Clean p) b cs (λ k. and_both (clean_block p b) _ e a)
      (λ d ds eb ed k.
      (let x : (clean_block p d && all (clean_block p) ds) ≡ true = rw k at a in
      and_both (clean_block p (joined b d)) _
      (passes_clean p (joined b d)
      (all_joined b.body _ (clean_passes p b (free_not_live b eb) e)
      (all_joined (replicate 8 0) d.body (all_zeros 8) (clean_passes p d (free_not_live d ed) (and_left _ _ x)))))
      (and_right (clean_block p d) _ x)))

  join_clean : (bs : List Block) → Clean p bs → Clean p (join_free bs)
  unfolding join_free all
  join_clean [] a = refl
  join_clean (b ∷ bs) a = front_clean b (join_free bs) (and_left (clean_block p b) _ a) (join_clean bs (and_right (clean_block p b) _ a))

  pub settle_clean : (kind : ℕ) (hs : List Hold) (bs : List Block) → Clean p bs → Clean p (settle kind hs bs)
  unfolding settle reclaim vacate
  settle_clean kind hs bs a =
      join_clean (vacate_unheld kind hs bs)
      (vacated_all kind (clean_block p) (λ b l e. passes_clean p (vacate kind b) (all_zeros (length b.body))) hs bs a)

  -- a quarantined block that becomes free keeps its bytes
  unquarantined_clean : (bs : List Block) → Clean p bs → Clean p (changed quarantined unquarantine bs)
  unfolding changed all
  unquarantined_clean [] a = refl
  unquarantined_clean (b ∷ bs) a =
      and_both _ _ (go (quarantined b) refl (and_left (clean_block p b) _ a)) (unquarantined_clean bs (and_right (clean_block p b) _ a))
    where
      go : (t : Bool) → quarantined b ≡ t → clean_block p b ≡ true → clean_block p (cond t (unquarantine b) b) ≡ true
      go true t e = passes_clean p (unquarantine b) (clean_passes p b (quarantined_dead b t) e)
      go false t e = e

  pub swept_clean : (bs : List Block) → Clean p bs → Clean p (swept bs)
  unfolding swept reclaim
  swept_clean bs a = join_clean (changed quarantined unquarantine bs) (unquarantined_clean bs a)

  -- copying into a live block
  pub copy_clean : (serial : ℕ) (new : List ℕ) → 0 < serial → serial < QUARANTINED → (bs : List Block) → Clean p bs → Clean p (copy_into serial new bs)
  unfolding copy_into all
  copy_clean serial new g n [] a = refl
  copy_clean serial new g n (b ∷ bs) a =
      and_both _ _ (go (eqb b.serial serial) (and_left (clean_block p b) _ a)) (copy_clean serial new g n bs (and_right (clean_block p b) _ a))
    where
      go : (t : Bool) → clean_block p b ≡ true
          → clean_block p (cond t (record { serial = serial; body = take (length b.body) new ++ drop (length new) b.body }) b) ≡ true
      go true e = live_clean p _ (new_live 0 serial g n)
      go false e = e

  -- cutting a new object out
  cut_clean : (bs front : List Block) (b : Block) (back : List Block) → bs ≡ front ++ (b ∷ back) → Clean p bs → clean_block p b ≡ true
  unfolding all
  cut_clean bs front b back e a =
      and_left (clean_block p b) _
      (and_right (all (clean_block p) front) _ (sym (all_append (clean_block p) front (b ∷ back)) ∙ (sym (ap (all (clean_block p)) e) ∙ a)))

  pub carve_clean : (base n serial : ℕ) (bs : List Block) → 0 < serial → serial < QUARANTINED → free_apart bs ≡ true
      → suitable (total size bs) bs n base ≡ true → Clean p bs → Clean p (carve base n serial bs)
  carve_clean base n serial bs g w f x a =
      let c = carved base n serial bs f x in
      let y = clean_passes p c.block (free_not_live c.block c.free) (cut_clean bs c.front c.block c.back c.split a) in
      carved_all c (clean_block p) a
      (cut_all base n serial (place c) c.block (clean_block p) (live_clean p (new_block n serial) (new_live n serial g w))
      (λ l. passes_clean p _ (all_take p (base - 16 - place c) c.block.body y))
      (λ l. passes_clean p _ (all_drop p (base + n - place c) c.block.body y)))
