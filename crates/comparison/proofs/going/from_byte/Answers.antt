-- Two searches: the first byte that differs, then the first that does not (`Found`).
use mathlib.Core.Path.{◌≡◌, ap, ◌∙◌}
use Prim.Native.Nat.{ℕ, min}
use native.Mathlib.Omega.{arith}
use Rattle.std.proofs.lemmas.Grind.{common_steps}
use Rattle.std.proofs.lemmas.Option.{MatchOption-at_none, MatchOption-at_some}
use Rattle.image.specs.declared.HeapPlace.{HeapPlace}
use Rattle.comparison.proofs.Found.{bytes_none, bytes_found}
use Rattle.comparison.proofs.going.from_byte.Goals as goal
use Rattle.comparison.proofs.going.from_byte.Goals.{After-min-end}

abbrev start_of : HeapPlace → ℕ
start_of p = p.start

-- the shorter heap's length
least : (c : After-min-end) → c.min-end.result ≡ min c.heap_place-one.result.size c.heap_place-two.result.size
least c = grind (arith, common_steps, c.min-end.ensures)

pub returns-in_err-from : goal.returns-in_err-from
returns-in_err-from c =
    let a = c.args in
    let e = least (goal.at.returns-in_err-from c).After-min-end in
    c.from_residual.ensures
    ∙ bytes_none a.first.now a.second.now c.heap_place-one.result.start c.heap_place-two.result.start c.min-end.result
    (ap start_of c.heap_place-one.ensures) (ap start_of c.heap_place-two.ensures)
    (e ∙ (λ i. min (c.heap_place-one.ensures i).size (c.heap_place-two.ensures i).size))
    a.at (MatchOption-at_none _ _ c.in_err-from.was c.find_byte.ensures)

pub returns : goal.returns
returns c =
    let a = c.args in
    let e = least (goal.at.returns c).After-min-end in
    let w = MatchOption-at_some _ _ _ c.in_ok-from.was c.find_byte.ensures in
    rw c.unwrap_or-to.ensures
    (bytes_found a.first.now a.second.now c.heap_place-one.result.start c.heap_place-two.result.start c.min-end.result
    (ap start_of c.heap_place-one.ensures) (ap start_of c.heap_place-two.ensures)
    (e ∙ (λ i. min (c.heap_place-one.ensures i).size (c.heap_place-two.ensures i).size))
    a.at c.in_ok-from.from c.find_byte-2.result w c.find_byte-2.ensures)
