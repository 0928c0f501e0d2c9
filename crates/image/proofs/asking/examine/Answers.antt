-- An image that its own bytes refuse is refused so; of another the state decides (`Examined`).
use borrow.Author.Tests.{not-true, not-false}
use Rattle.image.proofs.Parses.{Found, image_found, found_allowed, found_fits}
use Rattle.image.proofs.Examined.{examined_refused, examined_unsound, examined_consistent}
use Rattle.image.proofs.asking.examine.Goals as goal
use Rattle.image.proofs.asking.examine.Goals.{In-Ok}

pub returns-in_default : goal.returns-in_default
returns-in_default c =
    let p = c in
    examined_refused p.args.image.now p.parse_image-parsed.result c.in_default.field-0 p.parse_image-parsed.ensures
    c.in_default.is

-- what the image was found to be
found : (c : In-Ok)
    → Found c.args.image.now c.in-Ok.form c.in-Ok.size
    c.parse_image-parsed.result.accounts
found c =
    let p = c in
    image_found p.args.image.now p.parse_image-parsed.result c.in-Ok.form c.in-Ok.size
    p.parse_image-parsed.ensures c.in-Ok.is

pub heap_at-from-requires : goal.heap_at-from-requires
heap_at-from-requires c = found_fits _ _ _ _ (found c)

pub is_consistent-requires : goal.is_consistent-requires
is_consistent-requires c = found_allowed _ _ _ _ (found (goal.at.is_consistent-requires c).In-Ok)

pub returns-then-not-is_consistent : goal.returns-then-not-is_consistent
returns-then-not-is_consistent c =
    let t = c in
    let h = t in
    let s = h in
    examined_unsound s.args.image.now _ _ _ (found (goal.at.returns-then-not-is_consistent c).In-Ok) h.heap_at-from.result h.heap_at-from.ensures.0
    t.is_consistent.result t.is_consistent.ensures
    (not-true _ c.if-not-is_consistent.true-raw) c.refused.result c.refused.ensures

pub returns : goal.returns
returns c =
    let t = c in
    let h = t in
    let s = h in
    let p = s in
    examined_consistent p.args.image.now _ _ _ (found (goal.at.returns c).In-Ok) h.heap_at-from.result h.heap_at-from.ensures.0
    t.is_consistent.result t.is_consistent.ensures
    (not-false _ c.if-not-is_consistent.false-raw) p.parse_image-parsed.result p.parse_image-parsed.ensures
