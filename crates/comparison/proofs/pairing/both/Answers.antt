-- The forms are tested, then the heaps' lengths (`Compared`).
use mathlib.Core.Path.{ap, sym, ◌∙◌}
use Prim.Native.Nat.{ℕ}
use Rattle.image_model.specs.declared.Form.{Form}
use Rattle.image.specs.declared.HeapPlace.{HeapPlace}
use Rattle.comparison.proofs.Compared.{other_form, other_length, both_good}
use Rattle.comparison.proofs.pairing.both.Goals as goal

abbrev number_of : Form → ℕ
number_of f = f.number

abbrev size_of : HeapPlace → ℕ
size_of p = p.size

pub returns-then-ours-theirs : goal.returns-then-ours-theirs
returns-then-ours-theirs c =
    let t = c in
    let o = t in
    let a = o.args in
    other_form a.first.now a.second.now
    (λ q. c.if-ours-theirs.true (ap number_of o.form_of-ours.ensures ∙ q ∙ sym (ap number_of t.form_of-theirs.ensures)))

pub returns-then-one-two : goal.returns-then-one-two
returns-then-one-two c =
    let g = c in
    let h = g in
    let t = h in
    let o = t in
    let a = o.args in
    other_length a.first.now a.second.now
    (sym (ap number_of o.form_of-ours.ensures) ∙ h.if-ours-theirs.false ∙ ap number_of t.form_of-theirs.ensures)
    (λ q. c.if-one-two.true (ap size_of h.heap_place-one.ensures ∙ q ∙ sym (ap size_of g.heap_place-two.ensures)))

pub returns : goal.returns
returns c =
    let g = c in
    let h = g in
    let t = h in
    let o = t in
    let a = o.args in
    both_good a.first.now a.second.now
    (sym (ap number_of o.form_of-ours.ensures) ∙ h.if-ours-theirs.false ∙ ap number_of t.form_of-theirs.ensures)
    (sym (ap size_of h.heap_place-one.ensures) ∙ c.if-one-two.false ∙ ap size_of g.heap_place-two.ensures)
