use Rattle.std.proofs.Common.{◌≡◌, ℕ, ◌+◌, ◌-◌, ◌*◌, ◌%◌, ◌≤◌, Bool, true, false, List, length, drop, sym, ap, ◌∙◌, subst, arith, length-drop, drop-drop}
use borrow.Author.Tests.{not-true, not-false}
use Rattle.rounding.specs.Rounding.{table}
use Rattle.layout.specs.Blocks.{greatest_heap, header_at}
use Rattle.framing.specs.Frames.{stream_of}
use Rattle.framing.proofs.Padding.{length_padded}
use Rattle.model.specs.Consistent.{allowed}
use Rattle.survey.specs.Clauses.{Visited, judged, heap_in}
use Rattle.survey.proofs.Headers.{header_framed, rest_place}
use Rattle.survey.proofs.Walks.{walking_long, walking_back, walking_fails, walking_on, walked_far, one_fails}
use Rattle.survey.proofs.Judgement.{walked_end}
use Rattle.survey.proofs.Surveys.{allowed_range}
use Rattle.survey.proofs.framed.walk_frames.Goals as goal
use Rattle.survey.proofs.framed.walk_frames.Goals.{After-header_in-header, After-visit, Else-not-visit, Else-size-at, Start}

-- the heap that lies in the frames
abbrev heap : Start → List ℕ
heap c = heap_in c.args.from c.args.size c.args.image.now

long : (c : Start) → length (heap c) ≡ c.args.size
long c = length_padded c.args.size (drop c.args.from (stream_of c.args.image.now))

most : (c : Start) → c.args.size ≤ greatest_heap
most c = (allowed_range c.args.size c.requires.0).1

pub overflow_add-at : goal.overflow_add-at
overflow_add-at c = omega (arith, most (goal.at.overflow_add-at c).Start)

pub overflow_add-start : goal.overflow_add-start
overflow_add-start c = omega (arith, most (goal.at.overflow_add-start c).Start)

pub overflow_cast-start-in-loop-at : goal.overflow_cast-start-in-loop-at
overflow_cast-start-in-loop-at c = omega (arith, most (goal.at.overflow_cast-start-in-loop-at c).Start)

abbrev heap_2 : After-header_in-header → List ℕ
heap_2 c = heap_in c.args.from c.args.size c.args.image.now

abbrev rest : After-header_in-header → List ℕ
rest c = drop c.loop-at.at (heap_2 c)

long_2 : (c : After-header_in-header) → length (heap_2 c) ≡ c.args.size
long_2 c = length_padded c.args.size (drop c.args.from (stream_of c.args.image.now))

rest-long : (c : After-header_in-header) → length (rest c) ≡ c.args.size - c.loop-at.at
rest-long c = length-drop c.loop-at.at (heap_2 c) ∙ ap (λ (n : ℕ). n - c.loop-at.at) (long_2 c)

read : (c : After-header_in-header) → header_at 0 (rest c) ≡ c.header_in-header.result
read c =
    let a = c.args in
    header_framed a.from c.loop-at.at a.size (stream_of a.image.now) c.loop-at-test.true ∙ sym c.header_in-header.ensures.0

some-rest : (c : After-header_in-header) → 8 ≤ length (rest c)
some-rest c = omega (arith, rest-long c, c.loop-at-test.true)

pub returns-then-size-at : goal.returns-then-size-at
unfolding judged
returns-then-size-at c =
    let h = c in
    sym (one_fails _ _ (walking_long h.loop-at.invariant.1 (read (goal.at.returns-then-size-at c).After-header_in-header)
    (some-rest (goal.at.returns-then-size-at c).After-header_in-header) (omega (
      arith,
      rest-long (goal.at.returns-then-size-at c).After-header_in-header,
      c.if-size-at.true,
    ))))

abbrev heap_3 : Else-size-at → List ℕ
heap_3 c = heap_in c.args.from c.args.size c.args.image.now

abbrev rest_2 : Else-size-at → List ℕ
rest_2 c = drop c.loop-at.at (heap_3 c)

-- a block that ends in the heap
abbrev Fits : Else-size-at → Type 0
Fits c = 8 * c.header_in-header.result.size ≤ length (rest_2 c)

long_3 : (c : Else-size-at) → length (heap_3 c) ≡ c.args.size
long_3 c = length_padded c.args.size (drop c.args.from (stream_of c.args.image.now))

rest-long_2 : (c : Else-size-at) → length (rest_2 c) ≡ c.args.size - c.loop-at.at
rest-long_2 c = length-drop c.loop-at.at (heap_3 c) ∙ ap (λ (n : ℕ). n - c.loop-at.at) (long_3 c)

fits : (c : Else-size-at) → Fits c
fits c = omega (arith, rest-long_2 c, c.if-size-at.false)

pub returns-then-header-back : goal.returns-then-header-back
unfolding judged
returns-then-header-back c =
    let f = c in
    let h = f in
    sym (one_fails _ _ (walking_back h.loop-at.invariant.1 (read (goal.at.returns-then-header-back c).After-header_in-header)
    (some-rest (goal.at.returns-then-header-back c).After-header_in-header) (fits (goal.at.returns-then-header-back c).Else-size-at)
    (λ e. omega (arith, c.if-header-back.true))))

-- the place is a multiple of 8
even : (c : After-header_in-header) → c.loop-at.at % 8 ≡ 0
even c =
    let l = c.loop-at in
    ap (λ (x : ℕ). x % 8) (sym (rest_place (heap_2 c) l.at (omega (arith, l.invariant.0, long_2 c)))) ∙ l.invariant.1.even

pub visit-requires : goal.visit-requires
visit-requires c =
    let f = c in
    let h = f in (
      h.loop-at.invariant.1.ready,
      omega arith,
      omega (arith, even (goal.at.visit-requires c).After-header_in-header),
      omega arith,
      omega (arith, h.header_in-header.ensures.1),
      omega arith,
    )

abbrev end : After-visit → ℕ
end c = c.loop-at.at + 8 * c.header_in-header.result.size

within : (c : After-visit) → end c ≤ c.args.size
within c = omega (arith, c.if-size-at.false, c.loop-at.invariant.0)

abbrev heap_4 : After-visit → List ℕ
heap_4 c = heap_in c.args.from c.args.size c.args.image.now

abbrev after : After-visit → List ℕ
after c = drop (end c) (heap_4 c)

abbrev rest_3 : After-visit → List ℕ
rest_3 c = drop c.loop-at.at (heap_4 c)

beyond : (c : After-visit) → after c ≡ drop (8 * c.header_in-header.result.size) (rest_3 c)
beyond c = sym (drop-drop (8 * c.header_in-header.result.size) c.loop-at.at (heap_4 c))

long_4 : (c : After-visit) → length (heap_4 c) ≡ c.args.size
long_4 c = length_padded c.args.size (drop c.args.from (stream_of c.args.image.now))

ended : (c : After-visit) → end c - 0 ≡ length (heap_4 c) - length (after c)
ended c =
    omega arith
    ∙ sym (rest_place (heap_4 c) (end c) (omega (arith, within c, long_4 c)))

same_back : (c : After-visit) → c.header_in-header.result.back ≡ c.loop-at.back
same_back c = omega (arith, c.if-header-back.false)

abbrev Answers : After-visit → ℕ → Bool → Type 0
Answers c n t =
    let a = c.args in
    let l = c.loop-at in
    let h = c.header_in-header.result in
    let v = c.visit.new in
    Visited (table a.numbers.edition) a.numbers.kind a.numbers.last h.serial (8 * h.size) n l.before a.words.now l.unsettled.index.heads
    l.unsettled.index.links l.unsettled.owed t
    v.self.index.heads v.self.index.links v.self.owed v.self.index.left

visited : (c : After-visit) (t : Bool) → c.visit.result ≡ t → Answers c (length (heap_4 c) - length (after c)) t
visited c t e = subst (λ (n : ℕ). Answers c n t) (ended c) (subst (Answers c (end c - 0)) e c.visit.ensures)

pub returns-then-not-visit : goal.returns-then-not-visit
unfolding judged
returns-then-not-visit c =
    let v = c in
    let h = v in
    sym (walking_fails h.loop-at.invariant.1 (read (goal.at.returns-then-not-visit c).After-header_in-header)
    (some-rest (goal.at.returns-then-not-visit c).After-header_in-header) (fits (goal.at.returns-then-not-visit c).Else-size-at)
    (beyond (goal.at.returns-then-not-visit c).After-visit) (same_back (goal.at.returns-then-not-visit c).After-visit)
    (visited (goal.at.returns-then-not-visit c).After-visit false (not-true _ c.if-not-visit.true-raw)))

abbrev Answers_2 : Else-not-visit → ℕ → Bool → Type 0
Answers_2 c n t =
    let a = c.args in
    let l = c.loop-at in
    let h = c.header_in-header.result in
    let v = c.visit.new in
    Visited (table a.numbers.edition) a.numbers.kind a.numbers.last h.serial (8 * h.size) n l.before a.words.now l.unsettled.index.heads
    l.unsettled.index.links l.unsettled.owed t
    v.self.index.heads v.self.index.links v.self.owed v.self.index.left

abbrev heap_5 : Else-not-visit → List ℕ
heap_5 c = heap_in c.args.from c.args.size c.args.image.now

abbrev end_2 : Else-not-visit → ℕ
end_2 c = c.loop-at.at + 8 * c.header_in-header.result.size

abbrev after_2 : Else-not-visit → List ℕ
after_2 c = drop (end_2 c) (heap_5 c)

within_2 : (c : Else-not-visit) → end_2 c ≤ c.args.size
within_2 c = omega (arith, c.if-size-at.false, c.loop-at.invariant.0)

long_5 : (c : Else-not-visit) → length (heap_5 c) ≡ c.args.size
long_5 c = length_padded c.args.size (drop c.args.from (stream_of c.args.image.now))

ended_2 : (c : Else-not-visit) → end_2 c - 0 ≡ length (heap_5 c) - length (after_2 c)
ended_2 c =
    omega arith
    ∙ sym (rest_place (heap_5 c) (end_2 c) (omega (arith, within_2 c, long_5 c)))

visited_2 : (c : Else-not-visit) (t : Bool) → c.visit.result ≡ t → Answers_2 c (length (heap_5 c) - length (after_2 c)) t
visited_2 c t e = subst (λ (n : ℕ). Answers_2 c n t) (ended_2 c) (subst (Answers_2 c (end_2 c - 0)) e c.visit.ensures)

-- a block that was visited has a size
answer : (c : Else-not-visit) → Answers_2 c (length (heap_5 c) - length (after_2 c)) true
answer c = visited_2 c true (not-false _ c.if-not-visit.false-raw)

pub loop-at-preserved : goal.loop-at-preserved
loop-at-preserved c =
    let v = c in
    let h = v in (
      within (goal.at.loop-at-preserved c).After-visit,
      walking_on h.loop-at.invariant.1 (read (goal.at.loop-at-preserved c).After-header_in-header)
          (some-rest (goal.at.loop-at-preserved c).After-header_in-header) (fits (goal.at.loop-at-preserved c).Else-size-at)
          (beyond (goal.at.loop-at-preserved c).After-visit) (answer c) (same_back (goal.at.loop-at-preserved c).After-visit),
    )

pub returns : goal.returns
unfolding judged
returns c =
    let f = c in
    let l = f.loop-at in
    let b = f in
    let a = b.args in
    let s = heap (goal.at.returns c).Start in
    let place = sym (rest_place s l.at (omega (arith, l.invariant.0, long (goal.at.returns c).Start))) in
    c.is_settled.ensures
    ∙ sym (walked_end (table a.numbers.edition) a.numbers.kind a.numbers.last s a.words.now _ (length s - length (drop l.at s)) l.back l.before
    l.unsettled.index.heads l.unsettled.index.links l.unsettled.owed l.unsettled.index.left (ap allowed (long (goal.at.returns c).Start) ∙ b.requires.0)
    (walked_far l.invariant.1 (ap (λ (n : ℕ). drop n s) place) (omega (arith, length-drop l.at s, long (goal.at.returns c).Start, f.loop-at-test.false))))
