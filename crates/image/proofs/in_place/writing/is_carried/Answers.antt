-- The tests are the definition's, in its order (`Puts`).
use mathlib.Core.Path.{◌∙◌}
use mathlib.Core.List.{◌++◌}
use mathlib.Core.Bool.{cond}
use lib.ListN.{replicate}
use borrow.Author.Tests.{not-true, not-false}
use Rattle.layout.specs.Bytes.{bytes}
use Rattle.image_model.specs.Stream.{form_2}
use Rattle.words.specs.Words.{accounts_of}
use Rattle.image.proofs.Puts.{carried_full, carried_grants, carried_records, carried_permissions, carried_marks}
use Rattle.image.proofs.in_place.writing.is_carried.Goals as goal

pub returns-then-form : goal.returns-then-form
returns-then-form c = let a = c.args in carried_full a.form (accounts_of a.words.now) c.if-form.true

pub returns-then-not-no_grants : goal.returns-then-not-no_grants
returns-then-not-no_grants c =
    let g = c in
    let a = g.args in
    carried_grants a.form (accounts_of a.words.now) g.if-form.false g.no_grants.result g.no_grants.ensures (not-true _ c.if-not-no_grants.true-raw)

pub returns-then-not-none_used : goal.returns-then-not-none_used
returns-then-not-none_used c =
    let u = c in
    let g = u in
    let a = g.args in
    carried_records a.form (accounts_of a.words.now) g.if-form.false g.no_grants.result g.no_grants.ensures
    (not-false _ u.if-not-no_grants.false-raw)
    u.none_used.result u.none_used.ensures (not-true _ c.if-not-none_used.true-raw)

pub returns-then-not-are_permitted : goal.returns-then-not-are_permitted
returns-then-not-are_permitted c =
    let p = c in
    let u = p in
    let g = u in
    let a = g.args in
    carried_permissions a.form (accounts_of a.words.now) g.if-form.false g.no_grants.result g.no_grants.ensures
    (not-false _ u.if-not-no_grants.false-raw)
    u.none_used.result u.none_used.ensures (not-false _ p.if-not-none_used.false-raw) p.are_permitted.result p.are_permitted.ensures
    (not-true _ c.if-not-are_permitted.true-raw)

pub returns : goal.returns
unfolding form_2
returns c =
    let e = c in
    let d = e in
    let p = d in
    let u = p in
    let g = u in
    let a = g.args in
    carried_marks a.form (accounts_of a.words.now) g.if-form.false g.no_grants.result g.no_grants.ensures
    (not-false _ u.if-not-no_grants.false-raw)
    u.none_used.result u.none_used.ensures (not-false _ p.if-not-none_used.false-raw) p.are_permitted.result p.are_permitted.ensures
    (not-false _ d.if-not-are_permitted.false-raw) c.marks.result
    (c.marks.ensures.0 ∙ (λ i. cond (c.form_2.ensures i).full (bytes 1 (e.edition.ensures i) ++ bytes 1 (d.kind.ensures i)) (replicate 2 0))) c.marks.ensures.1
