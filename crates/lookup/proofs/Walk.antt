-- The walk: what is known of a block that it meets, and how a search among the blocks that are met goes on from a place. A walk that meets no
-- block finds nothing there, one that meets a block of which the test holds has found it, and any other goes on behind the block. The size that is
-- read at a place is enough to go on: where no block is met, it leads behind the heap.
use Rattle.std.specs.Prelude.{Some, None, Option}
use mathlib.Core.Path.{◌≡◌, refl, ap, sym, ◌∙◌}
use mathlib.Core.List.{List}
use mathlib.Core.Bool.{Bool, true, false, cond}
use Prim.Native.Nat.{ℕ, zero, suc, ◌+◌, ◌*◌, ◌≤◌, ◌<◌}
use native.Mathlib.Omega.{arith}
use lib.Dec.{leb}
use borrow.Author.Tests.{leb-true, leb-false}
use lib.ListN.{length, drop}
use Rattle.layout.specs.Bytes.{read_number}
use Rattle.layout.specs.Blocks.{read_header, start_at}
use Rattle.layout.specs.declared.Header.{Header}
use Rattle.layout.proofs.Fields.{read_fits, read_three}
use Rattle.layout.proofs.Starts.{start_yes, start_found}
use Rattle.lists.specs.Lists.{first}
use Rattle.lookup.specs.declared.Met.{Met}
use Rattle.lookup.specs.Walk.{headed, met_start, met_at, met_from, met}

-- a block that was met at a place of s: it has a header, ends in s, and its numbers are those that are read there
pub record MetAt (at : ℕ) (s : List ℕ) (m : Met) : Type 0 where
  pub place : m.at ≡ at
  pub header : 8 ≤ m.size
  pub inside : at + m.size ≤ length s
  pub units : m.size ≡ 8 * read_number 2 at s
  pub back : m.back ≡ read_number 2 (at + 2) s
  pub serial : m.serial ≡ read_number 4 (at + 4) s

module _ (at : ℕ) (s : List ℕ) where
  -- where no block starts, none is met
  pub met_nothing : start_at at s ≡ None → met_at at s ≡ None
  unfolding met_at
  met_nothing e = rw e

  -- where one starts, it is met
  pub met_block : (h : Header) → start_at at s ≡ Some h → met_at at s ≡ Some (headed at h)
  unfolding met_at
  met_block h e = rw e

  -- so what is met starts there
  pub met_known : (m : Met) → met_at at s ≡ Some m → MetAt at s m
  unfolding met_at
  met_known m = go (start_at at s) refl
    where
      go : (x : Option Header) → start_at at s ≡ x → met_start at x ≡ Some m → MetAt at s m
      go None e t = let z : ◌≡◌ {A = ℕ} 0 1 = cc in absurd (omega arith)
      go (Some h) e t =
          let q : headed at h ≡ m = cc in
          let f = start_found at s h e in
          let p = f.some_size in
          let l = f.inside in
          let r = read_three at s (omega arith) ∙ f.header in
          let z : read_number 2 at s ≡ h.size = ap (λ (x : Header). x.size) r in
          let b : read_number 2 (at + 2) s ≡ h.back = ap (λ (x : Header). x.back) r in
          let n : read_number 4 (at + 4) s ≡ h.serial = ap (λ (x : Header). x.serial) r in
          let known : MetAt at s (headed at h) = record { place = refl; header = omega arith; inside = l; units = omega arith; back = sym b; serial = sym n } in
          rw q at known

  -- where no block can be met, none is
  met_not : ((m : Met) → met_at at s ≡ Some m → ⊥) → met_at at s ≡ None
  met_not f = go (met_at at s) refl
    where
      go : (x : Option Met) → met_at at s ≡ x → met_at at s ≡ None
      go None e = e
      go (Some m) e = absurd (f m e)

  -- where no header fits, none is met
  pub met_short : length s < at + 8 → met_at at s ≡ None
  met_short l = met_not (λ m e. let k = met_known m e in omega arith)

  -- where it is not 0 and none is met, the block would end behind s
  met_past : met_at at s ≡ None → 0 < read_number 2 at s → length s < at + 8 * read_number 2 at s
  unfolding read_header
  met_past e p = go (leb (at + 8 * read_number 2 at s) (length s)) refl
    where
      go : (x : Bool) → leb (at + 8 * read_number 2 at s) (length s) ≡ x → length s < at + 8 * read_number 2 at s
      go false f = leb-false (at + 8 * read_number 2 at s) (length s) f
      go true t =
          let l = leb-true (at + 8 * read_number 2 at s) (length s) t in
          let r : read_number 2 at s ≡ (read_header (drop at s)).size = read_fits 2 at s (omega arith) in
          let b = met_block (read_header (drop at s)) (start_yes at s (omega arith) (omega arith)) in
          let z : ◌≡◌ {A = ℕ} 0 1 = cc in
          absurd (omega arith)

-- a search that came to a place: it goes on there as the whole search does, with fuel enough for the rest of s
pub record Searching (p : Met → Bool) (s : List ℕ) (at : ℕ) : Type 0 where
  pub fuel : ℕ
  pub enough : length s ≤ at + fuel
  pub same : first p (met s) ≡ first p (met_from fuel at s)

module _ (p : Met → Bool) (s : List ℕ) where
  -- it starts at 0
  pub search_start : Searching p s 0
  unfolding met
  search_start = record { fuel = length s; enough = omega arith; same = refl }

  -- what it finds is met where it stands
  pub search_met : (m : Met) → first p (met s) ≡ Some m → met_at m.at s ≡ Some m
  unfolding met met_from first
  search_met m = go (length s) 0
    where
      Ends : ℕ → Type 0
      Ends k = (x : ℕ) → first p (met_from k x s) ≡ Some m → met_at m.at s ≡ Some m

      by_test : (k x : ℕ) → Ends k → (b : Met) → met_at x s ≡ Some b → (t : Bool)
          → cond t (Some b) (first p (met_from k (b.at + b.size) s)) ≡ Some m → met_at m.at s ≡ Some m
      by_test k x ih b e true f = let q : b ≡ m = cc in rw q at (ap (λ (n : ℕ). met_at n s) (met_known x s b e).place ∙ e)
      by_test k x ih b e false f = ih (b.at + b.size) f

      step : (k x : ℕ) → Ends k → (o : Option Met) → met_at x s ≡ o → first p (met_from (suc k) x s) ≡ Some m → met_at m.at s ≡ Some m
      step k x ih None e f = let n = rw e at f in let z : ◌≡◌ {A = ℕ} 0 1 = cc in absurd (omega arith)
      step k x ih (Some b) e f = by_test k x ih b e (p b) (rw e at f)

      go : (k : ℕ) → Ends k
      go zero x f = let z : ◌≡◌ {A = ℕ} 0 1 = cc in absurd (omega arith)
      go (suc k) x f = step k x (go k) (met_at x s) refl f

  module _ (at : ℕ) (w : Searching p s at) where
    -- where it meets no block, it finds none
    pub search_ended : met_at at s ≡ None → first p (met s) ≡ None
    unfolding met_from first
    search_ended e = w.same ∙ go w.fuel
      where
        go : (k : ℕ) → first p (met_from k at s) ≡ None
        go zero = refl
        go (suc k) = rw e

    -- where the test holds of no block from there on, it finds none
    pub search_none : ((x : ℕ) (m : Met) → at ≤ x → met_at x s ≡ Some m → p m ≡ false) → first p (met s) ≡ None
    unfolding met_from first
    search_none f = w.same ∙ go w.fuel at (omega arith)
      where
        step : (k x : ℕ) → at ≤ x → ((y : ℕ) → at ≤ y → first p (met_from k y s) ≡ None) → (o : Option Met) → met_at x s ≡ o
            → first p (met_from (suc k) x s) ≡ None
        step k x l ih None e = rw e
        step k x l ih (Some m) e = let n = met_known x s m e in rw (e, f x m l e) (ih (m.at + m.size) (omega arith))

        go : (k x : ℕ) → at ≤ x → first p (met_from k x s) ≡ None
        go zero x l = refl
        go (suc k) x l = step k x l (go k) (met_at x s) refl

    module _ (m : Met) (e : met_at at s ≡ Some m) where
      -- a block of which the test holds is found
      pub search_found : p m ≡ true → first p (met s) ≡ Some m
      unfolding met_from first
      search_found t = w.same ∙ go w.fuel w.enough
        where
          go : (k : ℕ) → length s ≤ at + k → first p (met_from k at s) ≡ Some m
          go zero h = let l = met_known at s m e in absurd (omega arith)
          go (suc k) h = rw (e, t)

      -- any other is passed
      pub search_passed : p m ≡ false → Searching p s (at + m.size)
      unfolding met_from first
      search_passed t = go w.fuel w.enough w.same
        where
          go : (k : ℕ) → length s ≤ at + k → first p (met s) ≡ first p (met_from k at s) → Searching p s (at + m.size)
          go zero h q = let l = met_known at s m e in absurd (omega arith)
          go (suc k) h q =
              let l = met_known at s m e in
              record { fuel = k; enough = omega arith; same = q ∙ rw (e, t, l.place) }

    -- the size alone leads on: past a block of which the test does not hold, or behind s
    pub search_stepped : (size : ℕ) → size ≡ 8 * read_number 2 at s → 0 < size → ((m : Met) → met_at at s ≡ Some m → p m ≡ false) → Searching p s (at + size)
    unfolding met_from first
    search_stepped size q n f = go (met_at at s) refl
      where
        go : (x : Option Met) → met_at at s ≡ x → Searching p s (at + size)
        go None e = let l = met_past at s e (omega arith) in record { fuel = 0; enough = omega arith; same = search_ended e }
        go (Some m) e =
            let k = met_known at s m e in
            let z : m.size ≡ size = omega arith in
            rw z at (search_passed m e (f m e))
