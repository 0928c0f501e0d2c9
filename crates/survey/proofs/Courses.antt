-- The walk in two parts: what is known between them and behind them.
use Rattle.std.proofs.Common.{◌≡◌, ℕ, ◌<◌, ◌≤◌, Bool, ◌⊎◌, List, length, drop, refl, ◌∙◌, subst, inl, inr, arith}
use Rattle.layout.specs.Blocks.{cut}
use Rattle.survey.specs.Index.{keys_left}
use Rattle.survey.specs.Clauses.{Stage, judged, WalkedTo}
use Rattle.survey.specs.Route.{Reaches, Last, Seeking, Passed, Halved}
use Rattle.survey.proofs.Routes.{reaches_start, seeking_start}

-- before a part: `whole` is what is judged from the start on, and the part is the first one or the last
pub record Touring (unit : ℕ → ℕ) (kind last : ℕ) (s words : List ℕ) (whole : Bool) (first a n : ℕ) (heads links owed : List ℕ)
    (left edge at back before fit need : ℕ) : Type 0 where
  pub stage : Stage s words heads links owed left at
  pub same : whole ≡ judged unit kind last at (cut back (drop at s)) before (keys_left words heads links) owed
  pub reaches : Reaches s at
  pub seeks : Seeking a n s at fit need
  pub wide : 8 ≤ edge
  pub turn : ((at ≡ 0) × (back ≡ 0) × (edge ≡ first)) ⊎ ((edge ≡ 8) × Halved first s at back before)

pub touring_start : {unit : ℕ → ℕ} {kind last : ℕ} {s words : List ℕ} {first a n : ℕ} {heads links owed : List ℕ} {left : ℕ}
    → Stage s words heads links owed left 0 → 8 ≤ first
    → Touring unit kind last s words (judged unit kind last 0 (cut 0 (drop 0 s)) 1 (keys_left words heads links) owed) first a n heads links owed left first 0 0
    1 (length s) n
touring_start {s = s} {a = a} {n} g l =
    record {
      stage = g;
      same = refl;
      reaches = reaches_start s;
      seeks = seeking_start a n s;
      wide = l;
      turn = inl (refl, refl, refl);
    }

module _ {unit : ℕ → ℕ} {kind last : ℕ} {s words : List ℕ} {whole : Bool} {first a n : ℕ} {heads links owed : List ℕ}
    {left edge at back before fit need : ℕ}
    (g : Touring unit kind last s words whole first a n heads links owed left edge at back before fit need)
    {heads' links' owed' : List ℕ} {left' at' back' before' fit' need' : ℕ}
    (w : WalkedTo unit kind last edge s words (judged unit kind last at (cut back (drop at s)) before (keys_left words heads links) owed) at' back'
    before' heads' links' owed' left')
    (p : Passed s edge a at fit need at' back' before' fit' need') where
  -- the first part ends
  pub touring_on : 8 < edge → Touring unit kind last s words whole first a n heads' links' owed' left' 8 at' back' before' fit' need'
  touring_on l =
      record {
        stage = w.0;
        same = g.same ∙ w.2;
        reaches = p.reaches;
        seeks = p.seeks n g.seeks;
        wide = omega arith;
        turn = inr (refl, half g.turn);
      }
    where
      half : ((at ≡ 0) × (back ≡ 0) × (edge ≡ first)) ⊎ ((edge ≡ 8) × Halved first s at back before) → Halved first s at' back' before'
      half (inl (z, b, f)) = inr (omega (arith, l, f), omega (arith, w.1, f), block p.last)
        where
          block : (at' ≡ at) ⊎ Last s edge at' back' before' → (at' ≡ 0) ⊎ Last s first at' back' before'
          block (inl q) = inl (q ∙ z)
          block (inr q) = inr (subst (λ (x : ℕ). Last s x at' back' before') f q)
      half (inr (e, h)) = absurd (omega arith)

  -- or the last one
  pub touring_end : edge ≤ 8 → WalkedTo unit kind last 8 s words whole at' back' before' heads' links' owed' left'
      × Seeking a n s at' fit' need' × Halved first s at back before
  touring_end l = ((w.0, omega (arith, w.1), g.same ∙ w.2), p.seeks n g.seeks, half g.turn)
    where
      half : ((at ≡ 0) × (back ≡ 0) × (edge ≡ first)) ⊎ ((edge ≡ 8) × Halved first s at back before) → Halved first s at back before
      half (inl (z, b, f)) = inl (omega (arith, g.wide, l, f), z, b)
      half (inr (e, h)) = h
