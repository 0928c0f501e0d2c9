-- The walk's way over the blocks: one block on, and what is known at the end.
use Rattle.std.specs.Prelude.{Some, None}
use Rattle.std.proofs.Common.{◌≡◌, ℕ, ◌+◌, ◌-◌, ◌*◌, ◌%◌, ◌<◌, ◌≤◌, Bool, true, false, cond, not, ltb, leb, List, length, drop, sym, refl, ap, ◌∙◌, inl, inr}
use Rattle.std.proofs.Common.{arith, length-drop, ltb-false, ltb-true, eq-eqb, ne_eqb, le-leb, leb-false, leb-true}
use borrow.Author.Tests.{lt-leb}
use Rattle.layout.specs.declared.Header.{Header}
use Rattle.layout.specs.Blocks.{read_header, header_at, starts_block, start_at}
use Rattle.layout.proofs.Starts.{start_header}
use Rattle.lists.specs.Lists.{first}
use Rattle.lists.proofs.Bools.{and_no, by_test}
use Rattle.lookup.specs.declared.Met.{Met}
use Rattle.lookup.specs.Walk.{headed, met_at, met, occupied_met, base_in, has_room}
use Rattle.lookup.proofs.Multiple.{multiple_behind, multiple_gap}
use Rattle.lookup.proofs.Walk.{met_block, met_short, Searching, search_start, search_found, search_ended, search_passed}
use Rattle.survey.specs.Survey.{fit_place}
use Rattle.survey.specs.Route.{TAKEN, Searched, Reaches, Seeking, Passed}
use Rattle.survey.proofs.Blocks.{met_block_at}

-- the search as lookup's `Searching` has it
pub searching : {p : Met → Bool} {s : List ℕ} {at : ℕ} → Searched p s at → Searching p s at
searching w = record { fuel = w.fuel; enough = w.enough; same = w.same }

searched : {p : Met → Bool} {s : List ℕ} {at : ℕ} → Searching p s at → Searched p s at
searched w = record { fuel = w.fuel; enough = w.enough; same = w.same }

pub reaches_start : (s : List ℕ) → Reaches s 0
reaches_start s p f = searched (search_start p s)

pub reaches_on : {s : List ℕ} {at : ℕ} → Reaches s at → (h : Header) → met_at at s ≡ Some (headed at h) → Reaches s (at + 8 * h.size)
reaches_on {s} {at} r h e p f =
    searched (search_passed p s at (searching (r p (λ m l. f m (omega arith)))) (headed at h) e (f (headed at h) (omega arith)))

-- a block that is not free, one that is too small for what is sought, and one where the gap in front of the base
-- decides
pub room_occupied : (a n : ℕ) (m : Met) → (m.serial ≡ 0 → ⊥) → has_room a n m ≡ false
unfolding has_room
room_occupied a n m d = rw (ne_eqb m.serial 0 d)

pub room_small : (a n : ℕ) (m : Met) → 0 < a → m.size ≤ n → has_room a n m ≡ false
unfolding has_room
room_small a n m p l = and_no (not (occupied_met m)) _ (lt-leb (base_in a m + n) (m.at + m.size) (let b = multiple_behind a p (m.at + 8) in omega arith))

pub room_gap : (a n : ℕ) (m : Met) → 0 < a → m.serial ≡ 0 → 8 ≤ m.size → {start : ℕ} → start ≡ m.at + 8
    → leb (a - 1 - (start - 1) % a + n) (m.size - 8) ≡ has_room a n m
unfolding has_room
room_gap a n m p z l {start} e =
    let g = multiple_gap a p (m.at + 8) (omega arith) in
    let w : a - 1 - (start - 1) % a ≡ a - 1 - (m.at + 8 - 1) % a = ap (λ (x : ℕ). a - 1 - (x - 1) % a) e in
    rw (eq-eqb m.serial 0 z)
    (by_test (leb (a - 1 - (start - 1) % a + n) (m.size - 8))
    (λ t.
    let k = leb-true (a - 1 - (start - 1) % a + n) (m.size - 8) t in
    t ∙ sym (le-leb (base_in a m + n) (m.at + m.size) (omega (arith, g, w))))
    (λ t.
    let k = leb-false (a - 1 - (start - 1) % a + n) (m.size - 8) t in
    t ∙ sym (lt-leb (base_in a m + n) (m.at + m.size) (omega (arith, g, w)))))

-- whatever stands before the block
pub room_same : (a n : ℕ) (h : Header) {x at : ℕ} → x ≡ at
    → has_room a n (record { at = x; size = 8 * h.size; back = 0; serial = h.serial }) ≡ has_room a n (headed at h)
unfolding has_room
room_same a n h e = ap (λ (y : ℕ). has_room a n (headed y h)) e

-- a block that is not free has none
pub full : (a n at : ℕ) (h : Header) → (h.serial ≡ 0 → ⊥) → has_room a n (headed at h) ≡ false
unfolding has_room
full a n at h e = rw (ne_eqb h.serial 0 e)

pub seeking_start : (a n : ℕ) (s : List ℕ) → Seeking a n s 0 (length s) n
seeking_start a n s = record { on = λ l. (refl, searched (search_start (has_room a n) s)); found = λ l. absurd (omega arith) }

module _ {a n : ℕ} {s : List ℕ} {at fit need : ℕ} (positive : 0 < a) (g : Seeking a n s at fit need) (h : Header) (e : met_at at s ≡ Some (headed at h))
    (short : h.size < 65536) (inside : at < length s) where
  pub seeking_on : {r : Bool} → r ≡ has_room a need (headed at h) → Seeking a n s (at + 8 * h.size) (cond r at fit) (cond r TAKEN need)
  seeking_on {r} q = by_test (ltb fit (length s)) (λ t. had (ltb-true fit (length s) t)) (λ t. go (ltb-false fit (length s) t) r refl)
    where
      had : fit < length s → Seeking a n s (at + 8 * h.size) (cond r at fit) (cond r TAKEN need)
      had l =
          let w = g.found l in
          let z : r ≡ false = q ∙ room_small a need (headed at h) positive (omega (arith, w.0)) in
          rw z (record { on = λ x. absurd (omega arith); found = λ x. w })

      go : length s ≤ fit → (t : Bool) → r ≡ t → Seeking a n s (at + 8 * h.size) (cond r at fit) (cond r TAKEN need)
      go l true t =
          let w = g.on l in
          let room : has_room a n (headed at h) ≡ true = ap (λ (x : ℕ). has_room a x (headed at h)) (sym w.0) ∙ sym q ∙ t in
          rw t (record {
            on = λ x. absurd (omega arith);
            found = λ x.
                (omega arith, search_found (has_room a n) s at (searching w.1) (headed at h) e room ∙ ap Some (sym (met_block_at at s (headed at h) e)));
          })
      go l false t =
          let w = g.on l in
          let room : has_room a n (headed at h) ≡ false = ap (λ (x : ℕ). has_room a x (headed at h)) (sym w.0) ∙ sym q ∙ t in
          rw t (record {
            on = λ x. (w.0, searched (search_passed (has_room a n) s at (searching w.1) (headed at h) e room));
            found = λ x. absurd (omega arith);
          })

-- at the heap's end
pub seeking_end : {a n : ℕ} {s : List ℕ} {at fit need : ℕ} → Seeking a n s at fit need → length s < at + 8 → first (has_room a n) (met s) ≡ fit_place fit s
unfolding fit_place
seeking_end {a} {n} {s} {at} {fit} g l =
    by_test (ltb fit (length s))
    (λ t. rw t (g.found (ltb-true fit (length s) t)).1)
    (λ t. rw t (search_ended (has_room a n) s at (searching (g.on (ltb-false fit (length s) t)).1) (met_short at s l)))

-- the block at the front of the rest is met
module _ (s rest : List ℕ) (inside : length rest ≤ length s) (suffix : rest ≡ drop (length s - length rest) s) where
  abbrev at : ℕ
  at = length s - length rest

  start_same : start_at 0 rest ≡ start_at at s
  unfolding start_at
  start_same = ap (λ (r : List ℕ). cond (starts_block r) (Some (read_header r)) None) suffix

  module _ {h : Header} (e : header_at 0 rest ≡ h) (one : 1 ≤ h.size) (fits : 8 * h.size ≤ length rest) where
    pub met_front : met_at at s ≡ Some (headed at h)
    met_front = met_block at s h (sym start_same ∙ start_header 0 rest e one (omega arith))

    -- one block on
    module _ {edge a from fit₀ need₀ back before fit need : ℕ} (positive : 0 < a) (g : Passed s edge a from fit₀ need₀ at back before fit need)
        (far : edge ≤ length rest) (short : h.size < 65536) {rest' : List ℕ} (p : rest' ≡ drop (8 * h.size) rest) where
      ends : at + 8 * h.size ≡ length s - length rest'
      ends = let l : length rest' ≡ length rest - 8 * h.size = ap length p ∙ length-drop (8 * h.size) rest in omega arith

      pub passed_on : {r : Bool} → r ≡ has_room a need (headed at h) → {f n : ℕ} → f ≡ cond r at fit → n ≡ cond r TAKEN need
          → Passed s edge a from fit₀ need₀ (length s - length rest') h.size h.serial f n
      passed_on {r} q {f} {n} x y =
          rw (← ends, x, y) (record {
            reaches = reaches_on g.reaches h met_front;
            last = inr (record {
              start = at;
              place = refl;
              far = omega arith;
              reached = g.reaches;
              header = h;
              size = refl;
              serial = refl;
              there = met_front;
            });
            seeks = λ k w. seeking_on positive (g.seeks k w) h met_front short (omega arith) q;
          })

pub passed_start : {s : List ℕ} (edge a : ℕ) {from : ℕ} (back before fit need : ℕ) → Reaches s from → Passed s edge a from fit need from back before fit need
passed_start edge a back before fit need r = record { reaches = r; last = inl refl; seeks = λ n w. w }
