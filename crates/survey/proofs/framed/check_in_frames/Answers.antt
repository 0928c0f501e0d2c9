-- `survey::framed::check_in_frames` meets its contract, by the laws that give the survey's verdict: the heap is the
-- bytes that the stream has there.
use Rattle.std.specs.Prelude.{Ok, Err}
use Rattle.std.proofs.Common.{◌≡◌, ℕ, Bool, true, false, cond, List, length, drop, sym, ap, ◌∙◌}
use Rattle.rounding.specs.Rounding.{table}
use Rattle.framing.specs.Frames.{stream_of}
use Rattle.framing.proofs.Padding.{length_padded}
use Rattle.model.specs.declared.Refusal.TheVariants.{Inconsistent}
use Rattle.model.specs.Answers.{verdict_values}
use Rattle.model.specs.Calls.{check as check_of}
use Rattle.model.specs.Consistent.{allowed}
use Rattle.words.specs.Words.{edition_of, accounts_of}
use Rattle.survey.specs.Clauses.{heap_in}
use Rattle.survey.proofs.Judgement.{verdict_length, walk_ready, verdict_walked}
use Rattle.survey.proofs.framed.check_in_frames.Goals as goal
use Rattle.survey.proofs.framed.check_in_frames.Goals.{Else-not-is_allowed, After-walk_frames, Start}

abbrev heap : Start → List ℕ
heap c = heap_in c.args.from c.args.size c.args.image.now

sized : (c : Start) (t : Bool) → t ≡ allowed c.args.size → allowed (length (heap c)) ≡ t
sized c t e = ap allowed (length_padded c.args.size (drop c.args.from (stream_of c.args.image.now))) ∙ sym e

allows : (c : Else-not-is_allowed) → allowed (length (heap_in c.args.from c.args.size c.args.image.now)) ≡ true
allows c = ap allowed (length_padded c.args.size (drop c.args.from (stream_of c.args.image.now))) ∙ sym c.if-not-is_allowed.ensures

pub returns-then-not-is_allowed : goal.returns-then-not-is_allowed
returns-then-not-is_allowed c =
    let s = (goal.at.returns-then-not-is_allowed c).Start in
    let w = c.args.words.now in
    verdict_length (table (edition_of w)) (heap s) (accounts_of w) (sized s false c.if-not-is_allowed.ensures)

pub begin-requires : goal.begin-requires
begin-requires c = c.empty.ensures c.args.words.now

pub returns-in_default : goal.returns-in_default
returns-in_default c =
    let e = (goal.at.returns-in_default c).Else-not-is_allowed in
    c.in_default.ensures (heap_in c.args.from c.args.size c.args.image.now) (allows e)

pub walk_frames-requires : goal.walk_frames-requires
walk_frames-requires c =
    let b = c.in-Some.ensures in
    (sym c.if-not-is_allowed.ensures, walk_ready b.index b.debts)

-- the walk decides
decided : (c : After-walk_frames) (t : Bool) → c.walk_frames.result ≡ t
    → verdict_values (cond t (Ok tt) (Err Inconsistent))
    ≡ (check_of (table (edition_of c.args.words.now)) (heap_in c.args.from c.args.size c.args.image.now) (accounts_of c.args.words.now)).values
decided c t e =
    let b = c.in-Some.ensures in
    let n = c.in-Some.begun.numbers in
    let s = heap_in c.args.from c.args.size c.args.image.now in
    let a = ap allowed (length_padded c.args.size (drop c.args.from (stream_of c.args.image.now))) ∙ sym c.if-not-is_allowed.ensures in
    verdict_walked b.index b.debts s a b.ranged n.edition n.kind n.last b.edition b.kind b.last t (sym e ∙ c.walk_frames.ensures)

pub returns-then-not-walk_frames : goal.returns-then-not-walk_frames
returns-then-not-walk_frames c =
    decided (goal.at.returns-then-not-walk_frames c).After-walk_frames false c.if-not-walk_frames.true

pub returns : goal.returns
returns c = decided (goal.at.returns c).After-walk_frames true c.if-not-walk_frames.false
