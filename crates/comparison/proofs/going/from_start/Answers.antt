-- The last serials differ, or the list is that from the kind on (`Found`).
use mathlib.Core.Path.{◌∙◌}
use Rattle.comparison.proofs.Found.{start_differs, start_same}
use Rattle.comparison.proofs.going.from_start.Goals as goal

pub returns-then-one-two : goal.returns-then-one-two
returns-then-one-two c =
    let t = c in
    let o = t in
    let a = o.args in
    start_differs a.first.now a.second.now o.accounts_in-one.result t.accounts_in-two.result o.accounts_in-one.ensures
    t.accounts_in-two.ensures c.if-one-two.true

pub returns : goal.returns
returns c =
    let t = c in
    let o = t in
    let a = o.args in
    c.from_kind.ensures
    ∙ start_same a.first.now a.second.now o.accounts_in-one.result t.accounts_in-two.result o.accounts_in-one.ensures
    t.accounts_in-two.ensures c.if-one-two.false
