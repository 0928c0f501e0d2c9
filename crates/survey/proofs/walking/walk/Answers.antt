use Rattle.std.proofs.Common.{◌≡◌, ℕ, ◌-◌, ◌*◌, ◌≤◌, Bool, true, false, cond, List, length, take, drop, sym, refl, ap, ◌∙◌, subst, arith, length-drop}
use Rattle.std.proofs.Common.{rules}
use borrow.Author.Tests.{not-true, not-false}
use borrow.Author.Rules.{part_to_end}
use Rattle.rounding.specs.Rounding.{table}
use Rattle.layout.specs.Blocks.{header_at, cut}
use Rattle.audit.specs.Fitting.{fitting}
use Rattle.lookup.specs.Walk.{headed, has_room}
use Rattle.survey.specs.Index.{keys_left}
use Rattle.survey.specs.Clauses.{Visited, judged}
use Rattle.survey.proofs.Walks.{Walking, walking_start, walking_long, walking_back, walking_fails, walking_on, suffix_start, suffix_on}
use Rattle.survey.proofs.Walks.{walked_far, one_fails}
use Rattle.survey.specs.Route.{TAKEN, Reaches, Passed}
use Rattle.survey.proofs.Routes.{room_same, full, passed_start, passed_on}
use Rattle.survey.proofs.walking.walk.Goals as goal
use Rattle.survey.proofs.walking.walk.Goals.{After-header_at-header, After-visit, Else-not-visit}
use Rattle.survey.proofs.walking.walk.Invariants.{Whole}

pub loop-rest-init : goal.loop-rest-init
loop-rest-init c =
    let s = c in
    let a = s.args in
    let z = part_to_end a.heap.now a.from.at in
    let i = s.requires.1.inside in
    let same : a.from.at ≡ length a.heap.now - length (drop a.from.at a.heap.now) = omega (arith, i, length-drop a.from.at a.heap.now) in (
      walking_start (table a.numbers.edition) a.numbers.kind a.numbers.last a.heap.now s.requires.1 a.from.back a.from.before z,
      suffix_start a.heap.now i z,
      λ r.
          subst (λ (x : ℕ). Passed a.heap.now a.edge a.unit.bytes a.from.at a.from.fit a.from.need x a.from.back a.from.before a.from.fit
          a.from.need)
          (same ∙ ap (λ (t : List ℕ). length a.heap.now - length t) (sym z))
          (passed_start a.edge a.unit.bytes a.from.back a.from.before a.from.fit a.from.need r),
    )

read : (c : After-header_at-header) → header_at 0 c.loop-rest.rest.now ≡ c.header_at-header.result
read c = sym c.header_at-header.ensures.0

some-rest : (c : After-header_at-header) → 8 ≤ length c.loop-rest.rest.now
some-rest c = omega (arith, c.loop-rest-test.true, c.requires.0)

pub returns-then-rest-size : goal.returns-then-rest-size
unfolding judged
returns-then-rest-size c =
    let h = (goal.at.returns-then-rest-size c).After-header_at-header in
    one_fails _ _ (walking_long c.loop-rest.invariant.0 (read h) (some-rest h) c.if-rest-size.true)

pub returns-then-header-back : goal.returns-then-header-back
unfolding judged
returns-then-header-back c =
    let h = (goal.at.returns-then-header-back c).After-header_at-header in
    one_fails _ _ (walking_back c.loop-rest.invariant.0 (read h) (some-rest h) c.if-rest-size.false (λ e. omega (arith, c.if-header-back.true)))

-- by hand, so that the must-fail edit falls at this fact
pub visit-requires : goal.visit-requires
visit-requires c =
    let f = c in
    let h = f in
    let l = h.loop-rest.invariant.0 in (
      l.ready,
      omega arith,
      omega (arith, l.even, l.inside, f.if-rest-size.false),
      omega (arith, l.inside, f.if-rest-size.false),
      omega (arith, h.header_at-header.ensures.1),
      omega (arith, l.inside),
    )

-- the rest behind the block
abbrev after : After-visit → List ℕ
after c = take (length c.loop-rest.rest.now - 8 * c.header_at-header.result.size) (drop (8 * c.header_at-header.result.size) c.loop-rest.rest.now)

beyond : (c : After-visit) → after c ≡ drop (8 * c.header_at-header.result.size) c.loop-rest.rest.now
beyond c = part_to_end c.loop-rest.rest.now (8 * c.header_at-header.result.size)

same_back : (c : After-visit) → c.header_at-header.result.back ≡ c.loop-rest.back
same_back c = omega (arith, c.if-header-back.false)

abbrev Answers : After-visit → Bool → Type 0
Answers c t =
    let a = c.args in
    let l = c.loop-rest in
    let h = c.header_at-header.result in
    let v = c.visit.new in
    Visited (table a.numbers.edition) a.numbers.kind a.numbers.last h.serial (8 * h.size) (length a.heap.now - length (after c)) l.before
    a.words.now l.unsettled.index.heads l.unsettled.index.links l.unsettled.owed t v.self.index.heads v.self.index.links v.self.owed v.self.index.left

visited : (c : After-visit) (t : Bool) → c.visit.result ≡ t → Answers c t
visited c t e = subst (Answers c) e c.visit.ensures

pub returns-then-not-visit : goal.returns-then-not-visit
unfolding judged
returns-then-not-visit c =
    let p = goal.at.returns-then-not-visit c in
    let h = p.After-header_at-header in
    let v = p.After-visit in
    walking_fails c.loop-rest.invariant.0 (read h) (some-rest h) c.if-rest-size.false (beyond v) (same_back v)
    (visited v false (not-true _ c.if-not-visit.true-raw))

abbrev after_2 : Else-not-visit → List ℕ
after_2 c = take (length c.loop-rest.rest.now - 8 * c.header_at-header.result.size) (drop (8 * c.header_at-header.result.size) c.loop-rest.rest.now)

abbrev Answers_2 : Else-not-visit → Bool → Type 0
Answers_2 c t =
    let a = c.args in
    let l = c.loop-rest in
    let h = c.header_at-header.result in
    let v = c.visit.new in
    Visited (table a.numbers.edition) a.numbers.kind a.numbers.last h.serial (8 * h.size) (length a.heap.now - length (after_2 c)) l.before
    a.words.now l.unsettled.index.heads l.unsettled.index.links l.unsettled.owed t v.self.index.heads v.self.index.links v.self.owed v.self.index.left

visited_2 : (c : Else-not-visit) (t : Bool) → c.visit.result ≡ t → Answers_2 c t
visited_2 c t e = subst (Answers_2 c) e c.visit.ensures

answer : (c : Else-not-visit) → Answers_2 c true
answer c = visited_2 c true (not-false _ c.if-not-visit.false-raw)

beyond_2 : (c : Else-not-visit) → after_2 c ≡ drop (8 * c.header_at-header.result.size) c.loop-rest.rest.now
beyond_2 c = part_to_end c.loop-rest.rest.now (8 * c.header_at-header.result.size)

-- where it ends and starts
ends : (c : Else-not-visit)
    → let v = c in let h = v in
    length h.args.heap.now - length (after_2 c) - 8 * h.header_at-header.result.size ≡ length h.args.heap.now - length h.loop-rest.rest.now
ends c =
    let v = c in
    let h = v in
    omega (
      arith,
      ap length (beyond_2 c) ∙ length-drop (8 * h.header_at-header.result.size) h.loop-rest.rest.now,
      h.loop-rest.invariant.0.inside,
      v.if-rest-size.false,
    )

some-rest_2 : (c : Else-not-visit) → 8 ≤ length c.loop-rest.rest.now
some-rest_2 c = omega (arith, c.loop-rest-test.true, c.requires.0)

-- the loop's invariant behind a block, by whether it has room
abbrev Again : Else-not-visit → ℕ → ℕ → Type 0
Again c fit need =
    let v = c in
    let h = v in
    let a = h.args in
    let l = v.visit.new.self in
    let n = h.header_at-header.result in
    Walking (table a.numbers.edition) a.numbers.kind a.numbers.last a.heap.now a.words.now
    (Whole a.heap.now a.numbers.last a.from.at a.from.back a.from.before
    (keys_left a.words.now a.unsettled.now.index.heads a.unsettled.now.index.links) a.unsettled.now.owed)
    (fitting (table a.numbers.edition) a.numbers.kind a.from.at (cut a.from.back (drop a.from.at a.heap.now)))
    l.index.heads l.index.links l.owed l.index.left
    n.serial n.size (after_2 c)
    × (after_2 c ≡ drop (length a.heap.now - length (after_2 c)) a.heap.now)
    × (Reaches a.heap.now a.from.at
    → Passed a.heap.now a.edge a.unit.bytes a.from.at a.from.fit a.from.need
    (length a.heap.now - length (after_2 c)) n.size n.serial fit need)

read_2 : (c : Else-not-visit) → header_at 0 c.loop-rest.rest.now ≡ c.header_at-header.result
read_2 c = sym c.header_at-header.ensures.0

same_back_2 : (c : Else-not-visit) → c.header_at-header.result.back ≡ c.loop-rest.back
same_back_2 c = omega (arith, c.if-header-back.false)

again : (c : Else-not-visit) (room : Bool) {fit need : ℕ}
    → let h = c in let l = h.loop-rest in let n = h.header_at-header.result in
    room ≡ has_room h.args.unit.bytes l.need
    (headed (length h.args.heap.now - length h.loop-rest.rest.now) n)
    → fit ≡ cond room (length h.args.heap.now - length h.loop-rest.rest.now) l.fit
    → need ≡ cond room TAKEN l.need → Again c fit need
again e room x y z =
    let v = e in
    let h = v in
    let a = h.args in
    let l = h.loop-rest in (
      walking_on l.invariant.0 (read_2 e) (some-rest_2 e) v.if-rest-size.false (beyond_2 e) (answer e) (same_back_2 e),
      suffix_on a.heap.now l.invariant.0.inside l.invariant.1 v.if-rest-size.false (beyond_2 e),
      λ r.
          passed_on a.heap.now h.loop-rest.rest.now l.invariant.0.inside l.invariant.1 (read_2 e) (omega (arith, (answer e).0))
          v.if-rest-size.false
          h.args.unit.some (l.invariant.2 r) h.loop-rest-test.true h.header_at-header.ensures.1 (beyond_2 e)
          x y z,
    )

pub loop-rest-preserved : goal.loop-rest-preserved
loop-rest-preserved c =
    let l = c.loop-rest in
    again (goal.at.loop-rest-preserved c).Else-not-visit false
    (sym (full c.args.unit.bytes l.need (length c.args.heap.now - length l.rest.now) c.header_at-header.result c.if-serial-eq0.false))
    refl refl

pub loop-rest-preserved-then-is_roomy : goal.loop-rest-preserved-then-is_roomy
loop-rest-preserved-then-is_roomy c =
    let e = (goal.at.loop-rest-preserved-then-is_roomy c).Else-not-visit in
    again e true (sym c.if-is_roomy.true ∙ c.is_roomy.ensures ∙ room_same c.args.unit.bytes c.loop-rest.need c.header_at-header.result (ends e)) (ends e) refl

pub loop-rest-preserved-else-is_roomy : goal.loop-rest-preserved-else-is_roomy
loop-rest-preserved-else-is_roomy c =
    let e = (goal.at.loop-rest-preserved-else-is_roomy c).Else-not-visit in
    again e false (sym c.if-is_roomy.false ∙ c.is_roomy.ensures ∙ room_same c.args.unit.bytes c.loop-rest.need c.header_at-header.result (ends e)) refl refl

pub returns : goal.returns
unfolding judged
returns c =
    let l = c.loop-rest in
    (walked_far l.invariant.0 l.invariant.1 (search rules), l.invariant.2)
