-- The walk: on the way, the audit of the blocks from its start on is the audit of the blocks in the rest, with the keys
-- and debts that are left, and their objects fit if those in the rest do. A rest that starts no block, among them one
-- whose size is 0, or a back size that is wrong, is no cut; a block that fails or does not fit fails the whole.
use Rattle.std.specs.Prelude.{Option, Some, None}
use Rattle.std.proofs.Common.{◌≡◌, ℕ, ◌+◌, ◌-◌, ◌*◌, ◌%◌, ◌<◌, ◌≤◌, Bool, true, false, ◌&&◌, ◌⊎◌, List, [], ◌∷◌, length, drop, sym, refl, ap, ◌∙◌, ⊎_elim}
use Rattle.std.proofs.Common.{arith, length-drop, drop-drop}
use Rattle.layout.specs.declared.Header.{Header}
use Rattle.layout.specs.Blocks.{Block, size, read_block, header_at, start_at, in_front, cut}
use Rattle.layout.proofs.Starts.{start_found, start_header, start_no}
use Rattle.layout.proofs.Fuel.{cut_nothing, cut_at, cut_other, block_at, size_at}
use Rattle.audit.specs.Audit.{State, behind, visit, audit, audit_parsed}
use Rattle.lists.proofs.Bools.{and_no, by_eq}
use Rattle.audit.specs.Fitting.{fits_block, fitting}
use Rattle.audit.proofs.Fitting.{fitting_front}
use Rattle.survey.specs.Index.{keys_left}
use Rattle.survey.specs.Clauses.{Ready, Visited, Stage, judged, WalkedTo}

-- the block in front, and a walk that has failed
parsed_front : (last : ℕ) (b : Block) (t : State) (rest : Option (List Block))
    → audit_parsed last (in_front b rest) (Some t) ≡ audit_parsed last rest (visit last b.serial (size b) t)
unfolding audit_parsed audit in_front
parsed_front last b t None = refl
parsed_front last b t (Some bs) = refl

parsed_none : (last : ℕ) (rest : Option (List Block)) → audit_parsed last rest None ≡ false
unfolding audit_parsed audit
parsed_none last None = refl
parsed_none last (Some []) = refl
parsed_none last (Some (b ∷ bs)) = refl

-- on the way, from a rest, a back size and a block before on; `whole` is the audit from there, `fits` whether the
-- objects from there fit
pub record Walking (unit : ℕ → ℕ) (kind last : ℕ) (s words : List ℕ) (whole fits : Bool) (heads links owed : List ℕ) (left before back : ℕ) (rest : List ℕ) :
    Type 0 where
  pub inside : length rest ≤ length s
  pub ready : Ready words heads links owed left
  pub same : whole ≡ audit_parsed last (cut back rest) (Some (behind before (keys_left words heads links) owed))
  pub even : (length s - length rest) % 8 ≡ 0
  pub fit : fits ≡ fitting unit kind (length s - length rest) (cut back rest)

module _ {unit : ℕ → ℕ} {kind last : ℕ} {s words : List ℕ} {whole fits : Bool} {heads links owed : List ℕ} {left before back : ℕ} {rest : List ℕ}
    (g : Walking unit kind last s words whole fits heads links owed left before back rest) where
  abbrev keys : List ℕ
  keys = keys_left words heads links

  -- where the walk stops
  pub walking_judged : (whole && fits) ≡ judged unit kind last (length s - length rest) (cut back rest) before keys owed
  unfolding judged
  walking_judged = λ i. g.same i && g.fit i

  stops : cut back rest ≡ None → whole ≡ false
  unfolding audit_parsed
  stops e = g.same ∙ ap (λ (x : Option (List Block)). audit_parsed last x (Some (behind before keys owed))) e

  walking_nothing : 0 < length rest → start_at 0 rest ≡ None → whole ≡ false
  walking_nothing h e = stops (cut_nothing back 0 rest h e)

  -- by the header that is read, and the visit
  module _ {h : Header} (e : header_at 0 rest ≡ h) (some-rest : 8 ≤ length rest) where
    pub walking_long : length rest < 8 * h.size → whole ≡ false
    walking_long l = walking_nothing (omega arith) (start_no 0 rest e (λ p. omega arith))

    module _ (long : 8 * h.size ≤ length rest) where
      starts : 1 ≤ h.size → start_at 0 rest ≡ Some h
      starts p = start_header 0 rest e p (omega arith)

      -- a size of 0 starts no block
      by_size : (1 ≤ h.size → whole ≡ false) → whole ≡ false
      by_size f =
          by_eq h.size 0
          (λ z. walking_nothing (omega arith) (start_no 0 rest e (λ p. absurd (omega arith))))
          (λ n. f (omega (arith, n)))

      pub walking_back : (h.back ≡ back → ⊥) → whole ≡ false
      walking_back n = by_size (λ p. stops (cut_other back 0 rest h (starts p) n))

      step : 1 ≤ h.size → h.back ≡ back → whole
          ≡ audit_parsed last (cut h.size (drop (8 * h.size) rest)) (visit last h.serial (8 * h.size) (behind before keys owed))
      step p q =
          let f = start_found 0 rest h (starts p) in
          let z : 0 + 8 * h.size ≡ 8 * h.size = omega arith in
          g.same ∙ ap (λ (x : Option (List Block)). audit_parsed last x (Some (behind before keys owed))) (cut_at back 0 rest h (starts p) q)
          ∙ ap (λ (x : ℕ). audit_parsed last (in_front (read_block rest) (cut h.size (drop x rest))) (Some (behind before keys owed))) z
          ∙ parsed_front last (read_block rest) (behind before keys owed) (cut h.size (drop (8 * h.size) rest))
          ∙ ap (λ (x : ℕ). audit_parsed last (cut h.size (drop (8 * h.size) rest)) (visit last (read_block rest).serial x (behind before keys owed)))
          (size_at 0 rest h f)
          ∙ ap (λ (b : Block). audit_parsed last (cut h.size (drop (8 * h.size) rest)) (visit last b.serial (8 * h.size) (behind before keys owed)))
          (block_at 0 rest h f)

      -- the rest behind the block begins where the block ends
      module _ {rest' : List ℕ} (p : rest' ≡ drop (8 * h.size) rest) where
        abbrev end : ℕ
        end = length s - length rest'

        left_over : length rest' ≡ length rest - 8 * h.size
        left_over = ap length p ∙ length-drop (8 * h.size) rest

        ends : length s - length rest + 8 * h.size ≡ end
        ends = omega (arith, left_over, g.inside)

        -- the objects' units: the block's own, and those of the blocks behind it
        units_step : 1 ≤ h.size → h.back ≡ back
            → fits ≡ (fits_block unit kind h.serial (8 * h.size) end && fitting unit kind end (cut h.size rest'))
        units_step l q =
            let f = start_found 0 rest h (starts l) in
            let at = length s - length rest in
            let z : 0 + 8 * h.size ≡ 8 * h.size = omega arith in
            g.fit ∙ ap (fitting unit kind at) (cut_at back 0 rest h (starts l) q)
            ∙ ap (λ (x : ℕ). fitting unit kind at (in_front (read_block rest) (cut h.size (drop x rest)))) z
            ∙ fitting_front unit kind at (read_block rest) (cut h.size (drop (8 * h.size) rest))
            ∙ ap (λ (x : ℕ). fits_block unit kind (read_block rest).serial x (at + x) && fitting unit kind (at + x)
            (cut h.size (drop (8 * h.size) rest))) (size_at 0 rest h f)
            ∙ ap (λ (b : Block). fits_block unit kind b.serial (8 * h.size) (at + 8 * h.size) && fitting unit kind (at + 8 * h.size)
            (cut h.size (drop (8 * h.size) rest))) (block_at 0 rest h f)
            ∙ (λ i. fits_block unit kind h.serial (8 * h.size) (ends i) && fitting unit kind (ends i) (cut h.size (sym p i)))

        -- a block that fails, or does not fit
        pub walking_fails : h.back ≡ back
            → (8 ≤ 8 * h.size → (visit last h.serial (8 * h.size) (behind before keys owed) ≡ None)
            ⊎ (fits_block unit kind h.serial (8 * h.size) end ≡ false))
            → (whole && fits) ≡ false
        walking_fails q w =
            by_eq h.size 0
            (λ z. ap (λ (x : Bool). x && fits) (walking_nothing (omega arith) (start_no 0 rest e (λ l. absurd (omega arith)))))
            (λ n. ⊎_elim
            (λ v.
            ap (λ (x : Bool). x && fits)
            (step (omega (arith, n)) q ∙ ap (λ (t : Option State). audit_parsed last (cut h.size (drop (8 * h.size) rest)) t) v
            ∙ parsed_none last (cut h.size (drop (8 * h.size) rest))))
            (λ u.
            and_no (whole) (fits)
            (units_step (omega (arith, n)) q ∙ ap (λ (x : Bool). x && fitting unit kind end (cut h.size rest')) u))
            (w (omega (arith, n))))

        pub walking_on : {heads' links' owed' : List ℕ} {left' : ℕ}
            → Visited unit kind last h.serial (8 * h.size) end before words heads links owed true heads' links' owed' left'
            → h.back ≡ back → Walking unit kind last s words whole fits heads' links' owed' left' h.serial h.size rest'
        walking_on w q =
            record {
              inside = omega (arith, left_over, g.inside);
              ready = w.1;
              same = rw p (step (omega (arith, w.0)) q ∙ ap (λ (t : Option State). audit_parsed last (cut h.size (drop (8 * h.size) rest)) t) w.2);
              even = rw (← ends) (omega (arith, g.even));
              fit = units_step (omega (arith, w.0)) q ∙ ap (λ (x : Bool). x && fitting unit kind end (cut h.size rest')) w.3;
            }

-- an audit that fails
pub one_fails : (a f : Bool) → a ≡ false → (a && f) ≡ false
one_fails a f e = rw e

-- the beginning, from a place on
pub walking_start : (unit : ℕ → ℕ) (kind last : ℕ) (s : List ℕ) {words heads links owed : List ℕ} {left at : ℕ} → Stage s words heads links owed left at
    → (units before : ℕ)
    → {rest : List ℕ} → rest ≡ drop at s
    → Walking unit kind last s words (audit_parsed last (cut units (drop at s)) (Some (behind before (keys_left words heads links) owed)))
    (fitting unit kind at (cut units (drop at s)))
    heads links owed left before units rest
walking_start unit kind last s {words} {heads} {links} {owed} {at = at} g units before {rest} e =
    let i = g.inside in
    let l : length rest ≡ length s - at = ap length e ∙ length-drop at s in
    let z : length s - length rest ≡ at = omega arith in
    record {
      inside = omega arith;
      ready = g.ready;
      same = ap (λ (t : List ℕ). audit_parsed last (cut units t) (Some (behind before (keys_left words heads links) owed))) (sym e);
      even = ap (λ (x : ℕ). x % 8) z ∙ g.even;
      fit = λ j. fitting unit kind (sym z j) (cut units (sym e j));
    }

-- the rest is the heap's own end
pub suffix_start : (s : List ℕ) {at : ℕ} → at ≤ length s → {rest : List ℕ} → rest ≡ drop at s → rest ≡ drop (length s - length rest) s
suffix_start s {at} i {rest} e =
    let l : length rest ≡ length s - at = ap length e ∙ length-drop at s in
    let z : at ≡ length s - length rest = omega arith in
    e ∙ ap (λ (x : ℕ). drop x s) z

pub suffix_on : (s : List ℕ) {rest : List ℕ} → length rest ≤ length s → rest ≡ drop (length s - length rest) s → {n : ℕ} → n ≤ length rest → {rest' : List ℕ}
    → rest' ≡ drop n rest
    → rest' ≡ drop (length s - length rest') s
suffix_on s {rest} i e {n} h {rest'} p =
    let l : length rest' ≡ length rest - n = ap length p ∙ length-drop n rest in
    let z : length s - length rest + n ≡ length s - length rest' = omega arith in
    p ∙ ap (drop n) e ∙ drop-drop n (length s - length rest) s ∙ ap (λ (x : ℕ). drop x s) z

-- where the walk stops, from there on as much is judged
pub walked_far : {unit : ℕ → ℕ} {kind last edge : ℕ} {s words : List ℕ} {whole fits : Bool} {heads links owed : List ℕ} {left before back : ℕ} {rest : List ℕ}
    → Walking unit kind last s words whole fits heads links owed left before back rest → rest ≡ drop (length s - length rest) s → length rest < edge
    → WalkedTo unit kind last edge s words (whole && fits) (length s - length rest) back before heads links owed left
walked_far {unit} {kind} {last} {edge} {s} {words} {heads = heads} {links} {owed} {before = before} {back} {rest} g e l =
    let i = g.inside in (
      record { inside = omega arith; even = g.even; ready = g.ready },
      omega arith,
      walking_judged g ∙ ap (λ (t : List ℕ). judged unit kind last (length s - length rest) (cut back t) before (keys_left words heads links) owed) e,
    )
