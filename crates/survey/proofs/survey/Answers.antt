-- `survey::survey` meets its contract. A length that is not allowed is refused for that; else accounts that are
-- inconsistent alone, a walk that fails, a record that is still open or a debt is refused as inconsistent: together
-- they are the definition's test. Where they pass, the paths give the serial's records, the walk's first part the
-- object, and the walk the room.
use Rattle.std.specs.Prelude.{Ok, Err}
use Rattle.std.proofs.Common.{◌≡◌, Bool, true, false, cond, not, eqb, rules, length, drop, sym, refl, ◌∙◌, arith}
use Rattle.accounts.specs.Accounts.{find_hold, is_for}
use Rattle.model.specs.Consistent.{is_of}
use Rattle.rounding.specs.Rounding.{table}
use Rattle.layout.specs.Blocks.{cut}
use Rattle.model.specs.declared.Refusal.TheVariants.{Inconsistent}
use Rattle.model.specs.Answers.{verdict_values}
use Rattle.model.specs.Calls.{check as check_of}
use Rattle.words.specs.Words.{edition_of, accounts_of}
use Rattle.survey.specs.declared.Known.{Known}
use Rattle.survey.specs.Index.{keys_left}
use Rattle.survey.specs.Clauses.{sought, judged}
use Rattle.survey.proofs.Judgement.{verdict_length, walked_end, walk_ready, verdict_walked}
use Rattle.survey.specs.Survey.{handle_of, known_of, shares}
use Rattle.survey.proofs.Naming.{named_half, half_bounds}
use Rattle.survey.proofs.Surveys.{refuses, allowed_range, fit_known}
use Rattle.survey.proofs.survey.Goals as goal
use Rattle.survey.proofs.survey.Goals.{After-is_settled, After-walk_parts-walked, Else-not-is_settled}

pub returns-then-not-is_allowed : goal.returns-then-not-is_allowed
returns-then-not-is_allowed c =
    let w = c.args.words.now in
    refuses (verdict_length (table (edition_of w)) c.args.heap.now (accounts_of w) (sym c.if-not-is_allowed.ensures))

pub begin-requires : goal.begin-requires
begin-requires c = c.empty.ensures c.args.words.now

-- by hand, so that the must-fail edit falls at this fact
pub returns-in_default : goal.returns-in_default
returns-in_default c = refuses (c.in_default.ensures c.args.heap.now (sym c.if-not-is_allowed.ensures))

pub walk_parts-walked-requires : goal.walk_parts-walked-requires
walk_parts-walked-requires c =
    let b = c.in-Some.ensures in (
      c.edge_of-edge.ensures.1,
      record { inside = omega arith; even = refl; ready = walk_ready b.index b.debts },
    )

-- what is judged of the whole heap, and the verdict by it
abbrev Whole : After-walk_parts-walked → Bool
Whole c =
    let n = c.in-Some.begun.numbers in
    let u = c.begin.new.unsettled in
    judged (table n.edition) n.kind n.last 0 (cut 0 (drop 0 c.args.heap.now)) 1 (keys_left c.args.words.now u.index.heads u.index.links) u.owed

verdict : (c : After-walk_parts-walked) (t : Bool) → t ≡ Whole c
    → verdict_values (cond t (Ok tt) (Err Inconsistent))
    ≡ (check_of (table (edition_of c.args.words.now)) c.args.heap.now (accounts_of c.args.words.now)).values
verdict c t e =
    let b = c.in-Some.ensures in
    let n = c.in-Some.begun.numbers in
    verdict_walked b.index b.debts c.args.heap.now (sym c.if-not-is_allowed.ensures) b.ranged n.edition n.kind n.last b.edition b.kind b.last t e

pub returns-in_default-walked : goal.returns-in_default-walked
returns-in_default-walked c =
    refuses (verdict (goal.at.returns-in_default-walked c).After-walk_parts-walked false (sym c.in_default-walked.ensures))

-- at the end, open records and debts decide
decided : (c : After-is_settled)
    → let n = c.in-Some.begun.numbers in
    let u = c.begin.new.unsettled in
    judged (table n.edition) n.kind n.last 0 (cut 0 (drop 0 c.args.heap.now)) 1 (keys_left c.args.words.now u.index.heads u.index.links) u.owed
    ≡ c.is_settled.result
decided c =
    let l = c.walk_parts-walked.new.unsettled in
    let r = c.in-Some-walked.course.end in
    let n = c.in-Some.begun.numbers in
    walked_end (table n.edition) n.kind n.last c.args.heap.now c.args.words.now _ r.at r.back r.before l.index.heads l.index.links l.owed l.index.left
    (sym c.if-not-is_allowed.ensures) c.in-Some-walked.ensures.0
    ∙ sym c.is_settled.ensures

pub returns-then-not-is_settled : goal.returns-then-not-is_settled
returns-then-not-is_settled c =
    let p = goal.at.returns-then-not-is_settled c in
    refuses (verdict p.After-walk_parts-walked false (sym (decided p.After-is_settled ∙ c.if-not-is_settled.true)))

pub found-requires : goal.found-requires
found-requires c =
    let h = c.in-Some-walked.course.half in
    let e = c.edge_of-edge in
    half_bounds c.args.wanted.base e.result h.at h.back h.before c.args.heap.now e.ensures.0 c.in-Some-walked.ensures.2
    (allowed_range (length c.args.heap.now) (sym c.if-not-is_allowed.ensures))

pub returns : goal.returns
unfolding sought find_hold is_for is_of shares verdict_values
returns c =
    let p = goal.at.returns c in
    let q = c.args.wanted in
    let s = c.args.heap.now in
    let h = c.in-Some-walked.course.half in
    let w = c.in-Some-walked.ensures in
    let e = c.edge_of-edge in
    let n = named_half (handle_of q) s e.result h.at h.back h.before e.ensures.0 refl (allowed_range (length s) (sym c.if-not-is_allowed.ensures)).0 w.2 in
    let h1 = c.on_path-holder.ensures (λ x. eqb x q.quota) (λ x l r p. search rules) in
    let h2 = c.on_path-other.ensures (λ x. not (eqb x q.quota)) (λ x l r p. search rules) in
    let f = fit_known q.unit q.need s c.unit_of-unit.ensures c.need_of-need.ensures w.1 w.0.1 c.fit_of-fit.ensures in
    let it : Known =
    record { low = c.place.result; object = c.found.result; holder = c.on_path-holder.result; other = c.on_path-other.result; fit = c.room.result } in
    let is : it ≡ known_of s (accounts_of c.args.words.now) q = λ i.
    record {
      low = (c.place.ensures ∙ c.in-Some.ensures.index.lowest) i;
      object = (c.found.ensures ∙ n) i;
      holder = h1 i;
      other = h2 i;
      fit = (c.room.ensures ∙ f) i;
    } in
    record {
      told = verdict p.After-walk_parts-walked true (sym (decided p.After-is_settled ∙ c.if-not-is_settled.false));
      known = λ x z. (let same : it ≡ x = cc in sym same ∙ is);
    }
