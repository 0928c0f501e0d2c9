-- A block that a walk met or that a handle names is the one by the header at its place.
use Rattle.layout.specs.declared.Header.{Header}
use Rattle.std.specs.Prelude.{Option, Some, None}
use Rattle.std.proofs.Common.{◌≡◌, ℕ, ◌+◌, List, length, refl, ap, ◌∙◌, arith, le-leb}
use Rattle.layout.specs.Blocks.{header_at, start_at}
use Rattle.layout.proofs.Starts.{start_found}
use Rattle.lists.specs.Lists.{first}
use Rattle.model.specs.declared.Handle.{Handle}
use Rattle.lookup.specs.declared.Met.{Met}
use Rattle.lookup.specs.Walk.{headed, met_start, met_at, met, holds_named, looked_up, find_object}
use Rattle.lookup.proofs.Walk.{search_met}
use Rattle.survey.specs.Survey.{block_at}

-- a block that was met is the one by its header
pub met_block_at : (at : ℕ) (s : List ℕ) (m : Met) → met_at at s ≡ Some m → block_at at s ≡ m
unfolding met_at block_at header_at
met_block_at at s m = go (start_at at s) refl
  where
    go : (x : Option Header) → start_at at s ≡ x → met_start at x ≡ Some m → headed at (header_at at s) ≡ m
    go None e t = let z : ◌≡◌ {A = ℕ} 0 1 = cc in absurd (omega arith)
    go (Some h) e t =
        let q : headed at h ≡ m = cc in
        let f = start_found at s h e in
        let l = le-leb (at + 8) (length s) (omega (arith, f.some_size, f.inside)) in
        let r : header_at at s ≡ h = rw l f.header in
        ap (headed at) r ∙ q

pub found_met : (h : Handle) (s : List ℕ) (m : Met) → find_object h s ≡ Some m → met_at m.at s ≡ Some m
unfolding find_object
found_met h s m = go (first (holds_named h) (met s)) refl
  where
    go : (o : Option Met) → first (holds_named h) (met s) ≡ o → looked_up o ≡ Some m → met_at m.at s ≡ Some m
    go None e f = let z : ◌≡◌ {A = ℕ} 0 1 = cc in absurd (omega arith)
    go (Some b) e f = let q : b ≡ m = cc in search_met (holds_named h) s m (rw q at e)

pub found_block : (h : Handle) (s : List ℕ) (m : Met) → find_object h s ≡ Some m → block_at m.at s ≡ m
found_block h s m e = met_block_at m.at s m (found_met h s m e)

-- it stands at that place
pub block_place : (at : ℕ) (s : List ℕ) → (block_at at s).at ≡ at
unfolding block_at
block_place at s = refl
