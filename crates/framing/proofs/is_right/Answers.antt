use Rattle.framing.proofs.Right.{wrong_number, wrong_count, right_by_check}
use Rattle.framing.proofs.is_right.Goals as goal

pub returns-then-read_u16-number : goal.returns-then-read_u16-number
returns-then-read_u16-number c =
    let r = c in
    let a = r.args in
    wrong_number a.at a.image.now r.requires a.number a.count r.read_u16.result r.read_u16.ensures c.if-read_u16-number.true

pub returns-then-read_u16-count : goal.returns-then-read_u16-count
returns-then-read_u16-count c =
    let r₂ = c in
    let r = r₂ in
    let a = r.args in
    wrong_count a.at a.image.now r.requires a.number a.count r.read_u16.result r.read_u16.ensures r₂.if-read_u16-number.false
    r₂.read_u16-2.result r₂.read_u16-2.ensures c.if-read_u16-count.true

pub returns : goal.returns
returns c =
    let r₄ = c in
    let e₂ = r₄ in
    let r₂ = e₂ in
    let r = r₂ in
    let a = r.args in
    right_by_check a.at a.image.now r.requires a.number a.count r.read_u16.result r.read_u16.ensures
    r₂.if-read_u16-number.false r₂.read_u16-2.result r₂.read_u16-2.ensures e₂.if-read_u16-count.false
    r₄.read_u32.result c.check_at.result r₄.read_u32.ensures c.check_at.ensures
