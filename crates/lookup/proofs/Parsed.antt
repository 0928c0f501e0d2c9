-- On a heap that is cut into blocks the walk meets exactly these blocks, at their places, and what a search finds among them is one of them.
-- Reading the blocks and walking over them take the same steps: each goes by the header at the place, and on behind its block.
use Rattle.std.specs.Prelude.{Option, Some, None}
use mathlib.Core.Path.{◌≡◌, refl, ap, sym, ◌∙◌}
use mathlib.Core.List.{List, [], ◌∷◌, ◌++◌, append_assoc}
use mathlib.Core.Bool.{Bool, true, false}
use Prim.Native.Nat.{ℕ, zero, suc, ◌+◌, ◌*◌, ◌≤◌, ◌<◌}
use native.Mathlib.Omega.{arith}
use lib.Dec.{leb, eqb}
use borrow.Author.Tests.{leb-true, leb-false, eqb-true, eqb-false}
use lib.ListN.{length, drop}
use Rattle.layout.specs.Blocks.{Block, size, units, total_size, back_after, read_block, start_at, in_front, parse, cut}
use Rattle.layout.specs.declared.Header.{Header}
use Rattle.layout.proofs.Starts.{start_found}
use Rattle.layout.proofs.Fuel.{cut_end, cut_nothing, cut_at, cut_other, block_at, size_at, units_at}
use Rattle.layout.proofs.Render.{size_append}
use Rattle.layout.proofs.Parse.{parse_cut}
use Rattle.lists.specs.Lists.{first}
use Rattle.lookup.specs.declared.Met.{Met}
use Rattle.lookup.specs.Walk.{met_at, met_from, met}
use Rattle.lookup.proofs.Walk.{met_block, met_known}

-- a block at a place, behind a block of `back` units
abbrev pub placed : ℕ → ℕ → Block → Met
placed at back b = record { at = at; size = size b; back = back; serial = b.serial }

-- blocks one after the other from a place on, the first behind a block of `back` units
unfoldable pub met_of : ℕ → ℕ → List Block → List Met
met_of at back [] = []
met_of at back (b ∷ bs) = placed at back b ∷ met_of (at + size b) (units b) bs

-- the walk from a place on meets these blocks, and they end where s does
record Walked (fuel back at : ℕ) (s : List ℕ) (bs : List Block) : Type 0 where
  meets : met_from fuel at s ≡ met_of at back bs
  ends : at ≤ length s → at + total_size bs ≡ length s

-- at the end of s there is no block
walked_end : (fuel back at : ℕ) (s : List ℕ) (bs : List Block) → length s ≤ at → cut back (drop at s) ≡ Some bs → Walked fuel back at s bs
unfolding met_from met_of total_size
walked_end fuel back at s bs h e =
    let q : [] ≡ bs = cc (cut_end back at s h) in
    let known : Walked fuel back at s [] = record { meets = nothing fuel; ends = λ l. omega arith } in
    rw q at known
  where
    missing : (x : Option Met) → met_at at s ≡ x → met_at at s ≡ None
    missing None p = p
    missing (Some m) p = let k = met_known at s m p in absurd (omega arith)

    nothing : (k : ℕ) → met_from k at s ≡ []
    nothing zero = refl
    nothing (suc k) = rw (missing (met_at at s) refl)

-- a block that starts at a place, and the walk behind it
walked_block : (fuel back at : ℕ) (s : List ℕ) (rs : List Block) (h : Header) → start_at at s ≡ Some h → h.back ≡ back
    → Walked fuel h.size (at + 8 * h.size) s rs → Walked (suc fuel) back at s (read_block (drop at s) ∷ rs)
unfolding met_from met_of total_size
walked_block fuel back at s rs h e q w =
    let f = start_found at s h e in
    let z = size_at at s h f in
    let t : (read_block (drop at s)).serial ≡ h.serial = ap (λ (b : Block). b.serial) (block_at at s h f) in
    let i = f.inside in
    record { meets = rw (met_block at s h e, w.meets, units_at at s h f, z, t, q); ends = λ l. omega (arith, w.ends i) }

walked_step : (fuel back at : ℕ) (s : List ℕ) (bs : List Block) → cut back (drop at s) ≡ Some bs
    → ((n next : ℕ) (rs : List Block) → at < next → cut n (drop next s) ≡ Some rs → Walked fuel n next s rs)
    → (x : Option Header) → start_at at s ≡ x → Walked (suc fuel) back at s bs
unfolding in_front
walked_step fuel back at s bs e rest None p = go (leb (length s) at) refl
  where
    go : (y : Bool) → leb (length s) at ≡ y → Walked (suc fuel) back at s bs
    go true y = walked_end (suc fuel) back at s bs (leb-true (length s) at y) e
    go false y = let z : ◌≡◌ {A = ℕ} 0 1 = cc (cut_nothing back at s (leb-false (length s) at y) p) in absurd (omega arith)
walked_step fuel back at s bs e rest (Some h) p = go (eqb h.back back) refl
  where
    block : Block
    block = read_block (drop at s)

    behind : (o : Option (List Block)) → cut h.size (drop (at + 8 * h.size) s) ≡ o → h.back ≡ back → in_front block o ≡ Some bs
        → Walked (suc fuel) back at s bs
    behind None r q t = let z : ◌≡◌ {A = ℕ} 0 1 = cc in absurd (omega arith)
    behind (Some rs) r q t =
        let eq : block ∷ rs ≡ bs = cc in
        let n = (start_found at s h p).some_size in
        rw eq at (walked_block fuel back at s rs h p q (rest h.size (at + 8 * h.size) rs (omega arith) r))

    go : (y : Bool) → eqb h.back back ≡ y → Walked (suc fuel) back at s bs
    go true y =
        let q = eqb-true h.back back y in
        behind (cut h.size (drop (at + 8 * h.size) s)) refl q (sym (cut_at back at s h p q) ∙ e)
    go false y = let z : ◌≡◌ {A = ℕ} 0 1 = cc (cut_other back at s h p (eqb-false h.back back y)) in absurd (omega arith)

walked : (fuel back at : ℕ) (s : List ℕ) (bs : List Block) → length s ≤ at + fuel → cut back (drop at s) ≡ Some bs → Walked fuel back at s bs
walked zero back at s bs h e = walked_end zero back at s bs (omega arith) e
walked (suc fuel) back at s bs h e = walked_step fuel back at s bs e (λ n next rs l. walked fuel n next s rs (omega arith)) (start_at at s) refl

module _ (s : List ℕ) (bs : List Block) (e : parse s ≡ Some bs) where
  whole_walk : Walked (length s) 0 0 s bs
  whole_walk = walked (length s) 0 0 s bs (omega arith) (sym (parse_cut s) ∙ e)

  -- the walk over a heap that is cut into blocks meets these blocks
  pub met_parsed : met s ≡ met_of 0 0 bs
  unfolding met
  met_parsed = whole_walk.meets

  -- and their sizes add up to the heap's length
  pub total_parsed : total_size bs ≡ length s
  total_parsed = omega (arith, whole_walk.ends (omega arith))

-- a block that was met is one of the blocks: where it stands among them
pub record Stands (bs : List Block) (m : Met) : Type 0 where
  pub front : List Block
  pub block : Block
  pub behind : List Block
  pub split : bs ≡ front ++ (block ∷ behind)
  pub place : m.at ≡ total_size front
  pub sized : m.size ≡ size block
  pub back : m.back ≡ back_after 0 front
  pub serial : m.serial ≡ block.serial

back_last : (back : ℕ) (xs : List Block) (b : Block) → back_after back (xs ++ (b ∷ [])) ≡ units b
unfolding back_after
back_last back [] b = refl
back_last back (x ∷ xs) b = back_last (units x) xs b

size_last : (xs : List Block) (b : Block) → total_size (xs ++ (b ∷ [])) ≡ total_size xs + size b
unfolding total_size
size_last xs b = size_append xs (b ∷ []) ∙ omega arith

-- so is what a search finds behind the blocks xs
found_stands : (p : Met → Bool) (xs bs : List Block) (m : Met) → first p (met_of (total_size xs) (back_after 0 xs) bs) ≡ Some m → Stands (xs ++ bs) m
unfolding first met_of
found_stands p xs [] m e = let z : ◌≡◌ {A = ℕ} 0 1 = cc in absurd (omega arith)
found_stands p xs (b ∷ bs) m e = go (p (placed (total_size xs) (back_after 0 xs) b)) refl (found_stands p (xs ++ (b ∷ [])) bs m)
  where
    here : Stands (xs ++ (b ∷ bs)) (placed (total_size xs) (back_after 0 xs) b)
    here = record { front = xs; block = b; behind = bs; split = refl; place = refl; sized = refl; back = refl; serial = refl }

    go : (x : Bool) → p (placed (total_size xs) (back_after 0 xs) b) ≡ x
        → (first p (met_of (total_size (xs ++ (b ∷ []))) (back_after 0 (xs ++ (b ∷ []))) bs) ≡ Some m → Stands (xs ++ (b ∷ []) ++ bs) m)
        → Stands (xs ++ (b ∷ bs)) m
    go true t ih =
        let q : placed (total_size xs) (back_after 0 xs) b ≡ m = cc in
        rw q at here
    go false t ih = rw append_assoc at (ih (rw (size_last xs b, back_last 0 xs b) (rw t at e)))

module _ (s : List ℕ) (bs : List Block) (e : parse s ≡ Some bs) where
  -- what a search in the heap finds is one of its blocks
  pub search_stands : (p : Met → Bool) (m : Met) → first p (met s) ≡ Some m → Stands bs m
  unfolding total_size back_after
  search_stands p m q = found_stands p [] bs m (rw (met_parsed s bs e) at q)
