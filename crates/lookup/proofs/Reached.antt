-- The search for the block whose object a handle names: blocks that end at or before the handle's base are passed, the last one that starts a header or more
-- in front of the base is compared, and no block behind that is named.
use Rattle.std.specs.Prelude.{Option, Some, None}
use mathlib.Core.Path.{◌≡◌, refl, ap, ◌∙◌}
use mathlib.Core.List.{List}
use mathlib.Core.Logic.{◌⊎◌, inl, ⊎_elim}
use mathlib.Core.Bool.{Bool, true, false, cond}
use Prim.Native.Nat.{ℕ, ◌+◌, ◌*◌, ◌-◌, ◌≤◌, ◌<◌}
use native.Mathlib.Omega.{arith}
use lib.ListN.{length}
use Rattle.lists.specs.Lists.{first}
use Rattle.model.specs.Objects.{names, whole}
use Rattle.model.specs.declared.Handle.{Handle}
use Rattle.lists.proofs.Bools.{and_right, fails}
use Rattle.model.proofs.Lookup.{Narrowed, names_exactly, whole_exactly}
use Rattle.layout.specs.Bytes.{read_number}
use Rattle.lists.proofs.Lists.{first_some}
use Rattle.lookup.specs.declared.Met.{Met}
use Rattle.lookup.specs.Walk.{met_at, met, live_met, object_met, holds_named, looked_up, named_met, whole_met, find_object, find_whole}
use Rattle.lookup.proofs.Walk.{MetAt, met_known, search_met, Searching}
use Rattle.lookup.proofs.Walk.{search_start, search_ended, search_found, search_passed, search_stepped, search_none}

-- a handle that names a block's object has its base in the block
named_parts : (h : Handle) (m : Met) → holds_named h m ≡ true → Narrowed h (object_met m)
unfolding holds_named
named_parts h m e = (names_exactly h (object_met m)).0 (and_right (live_met m) (names h (object_met m)) e)

pub behind_block : (h : Handle) (m : Met) → 8 ≤ m.size → m.at + m.size ≤ h.base → holds_named h m ≡ false
behind_block h m z l = fails (holds_named h m) (λ e. let n = named_parts h m e in let a = n.some_byte in let b = n.high in omega arith)

pub before_block : (h : Handle) (m : Met) → h.base < m.at + 8 → holds_named h m ≡ false
before_block h m l = fails (holds_named h m) (λ e. let n = named_parts h m e in let a = n.low in omega arith)

module _ (h : Handle) (s : List ℕ) where
  -- no object has a base in the first header, or behind the heap
  pub object_low : h.base < 8 → find_object h s ≡ None
  unfolding find_object
  object_low l = ap looked_up (search_none (holds_named h) s 0 (search_start (holds_named h) s) (λ x m g e. before_block h m (omega arith)))

  pub object_high : length s < h.base → find_object h s ≡ None
  unfolding find_object
  object_high l =
      ap looked_up (search_none (holds_named h) s 0 (search_start (holds_named h) s)
      (λ x m g e. (let k = met_known x s m e in let p = k.place in let i = k.inside in behind_block h m k.header (omega arith))))

  module _ (at : ℕ) (w : Searching (holds_named h) s at) where
    -- a search that ends on the way
    pub object_ended : met_at at s ≡ None → find_object h s ≡ None
    unfolding find_object
    object_ended e = ap looked_up (search_ended (holds_named h) s at w e)

    -- one that came to the last block that starts far enough in front of the base: no block behind it is named
    pub object_here : h.base < at + 8 * read_number 2 at s + 8 → find_object h s ≡ named_met h (met_at at s)
    unfolding find_object
    object_here l = go (met_at at s) refl
      where
        by_test : (m : Met) → met_at at s ≡ Some m → (t : Bool) → holds_named h m ≡ t → looked_up (first (holds_named h) (met s)) ≡ cond t (Some m) None
        by_test m e true t = ap looked_up (search_found (holds_named h) s at w m e t)
        by_test m e false t =
            let k = met_known at s m e in
            let z = k.units in
            ap looked_up (search_none (holds_named h) s (at + m.size) (search_passed (holds_named h) s at w m e t)
            (λ x b g f. (let n = met_known x s b f in let p = n.place in before_block h b (omega arith))))

        go : (x : Option Met) → met_at at s ≡ x → looked_up (first (holds_named h) (met s)) ≡ named_met h x
        go None e = ap looked_up (search_ended (holds_named h) s at w e)
        go (Some m) e = by_test m e (holds_named h m) refl

-- the walk by sizes is at a place: behind a block of a size, to whose start the search came; at 0, behind none
pub record Walked (h : Handle) (s : List ℕ) (at size : ℕ) : Type 0 where
  pub start : ℕ
  pub place : at ≡ start + size
  pub came : Searching (holds_named h) s start
  pub read : ((size ≡ 0) × (at ≡ 0)) ⊎ ((0 < size) × (size ≡ 8 * read_number 2 start s))

module _ (h : Handle) (s : List ℕ) where
  pub walked_start : Walked h s 0 0
  walked_start = record { start = 0; place = refl; came = search_start (holds_named h) s; read = inl (refl, refl) }

  module _ (at size : ℕ) (w : Walked h s at size) where
    -- where the place is not behind the base, the search comes to it
    pub walked_to : at ≤ h.base → Searching (holds_named h) s at
    walked_to l =
        let place = w.place in
        ⊎_elim (λ none. (let same : w.start ≡ at = omega (arith, none.0) in rw same at w.came))
        (λ some.
        (let r = some.1 in
        rw (← place) at (search_stepped (holds_named h) s w.start w.came size r some.0
        (λ m q. (let k = met_known w.start s m q in let p = k.place in let z = k.units in behind_block h m k.header (omega arith))))))
        w.read

module _ (h : Handle) (s : List ℕ) where
  -- the block that is found is met where it stands
  pub found_met : (m : Met) → find_object h s ≡ Some m → MetAt m.at s m
  unfolding find_object
  found_met m = go (first (holds_named h) (met s)) refl
    where
      go : (x : Option Met) → first (holds_named h) (met s) ≡ x → looked_up x ≡ Some m → MetAt m.at s m
      go None e f = let z : ◌≡◌ {A = ℕ} 0 1 = cc in absurd (omega arith)
      go (Some b) e f = let q : b ≡ m = cc in met_known m.at s m (search_met (holds_named h) s m (rw q at e))

  -- its object is named by the handle
  pub found_narrowed : (m : Met) → find_object h s ≡ Some m → Narrowed h (object_met m)
  unfolding find_object
  found_narrowed m = go (first (holds_named h) (met s)) refl
    where
      go : (x : Option Met) → first (holds_named h) (met s) ≡ x → looked_up x ≡ Some m → Narrowed h (object_met m)
      go None e f = let z : ◌≡◌ {A = ℕ} 0 1 = cc in absurd (omega arith)
      go (Some b) e f = let q : b ≡ m = cc in named_parts h m (first_some (holds_named h) (met s) m (rw q at e)).1

  -- the handle is the whole of its object, or not: a range inside it that is as long begins where it begins
  pub whole_same : (m : Met) → find_object h s ≡ Some m → h.length ≡ m.size - 8 → find_whole h s ≡ Some m
  unfolding find_whole
  whole_same m e l =
      ap (whole_met h) e
      ∙ ap (λ (t : Bool). cond t (Some m) None) ((whole_exactly h (object_met m)).1 (λ i. record { base = b i; length = l i; serial = n.serial i }))
    where
      n : Narrowed h (object_met m)
      n = found_narrowed m e

      b : h.base ≡ m.at + 8
      b = let low = n.low in let high = n.high in omega arith

  pub whole_other : (m : Met) → find_object h s ≡ Some m → (h ≡ object_met m → ⊥) → find_whole h s ≡ None
  unfolding find_whole
  whole_other m e d =
      ap (whole_met h) e
      ∙ ap (λ (t : Bool). cond t (Some m) None) (fails (whole h (object_met m)) (λ w. d ((whole_exactly h (object_met m)).0 w)))

  -- what find-whole gives was found, and the handle is its object
  pub whole_found : (m : Met) → find_whole h s ≡ Some m → (find_object h s ≡ Some m) × (h ≡ object_met m)
  unfolding find_whole
  whole_found m = go (find_object h s) refl
    where
      test : (b : Met) (t : Bool) → whole h (object_met b) ≡ t → find_object h s ≡ Some b → cond t (Some b) None ≡ Some m
          → (find_object h s ≡ Some m) × (h ≡ object_met m)
      test b true t e f =
          let q : b ≡ m = cc in let r : (find_object h s ≡ Some b) × (h ≡ object_met b) = (e, (whole_exactly h (object_met b)).0 t) in rw q at r
      test b false t e f = let z : ◌≡◌ {A = ℕ} 0 1 = cc in absurd (omega arith)

      go : (x : Option Met) → find_object h s ≡ x → whole_met h x ≡ Some m → (find_object h s ≡ Some m) × (h ≡ object_met m)
      go None e f = let z : ◌≡◌ {A = ℕ} 0 1 = cc in absurd (omega arith)
      go (Some b) e f = test b (whole h (object_met b)) refl e f
