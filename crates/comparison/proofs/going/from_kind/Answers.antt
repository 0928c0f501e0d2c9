-- The kinds differ, or the list is that from the edition on (`Found`).
use mathlib.Core.Path.{◌∙◌}
use Rattle.comparison.proofs.Found.{kind_differs, kind_same}
use Rattle.comparison.proofs.going.from_kind.Goals as goal

pub returns-then-one-two : goal.returns-then-one-two
returns-then-one-two c =
    let t = c in
    let o = t in
    let a = o.args in
    kind_differs a.first.now a.second.now o.accounts_in-one.result t.accounts_in-two.result o.accounts_in-one.ensures
    t.accounts_in-two.ensures c.if-one-two.true

pub returns : goal.returns
returns c =
    let t = c in
    let o = t in
    let a = o.args in
    c.from_edition.ensures
    ∙ kind_same a.first.now a.second.now o.accounts_in-one.result t.accounts_in-two.result o.accounts_in-one.ensures
    t.accounts_in-two.ensures c.if-one-two.false
