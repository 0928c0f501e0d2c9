-- The tests are the definition's, in its order (`Parses`).
use native.Mathlib.Omega.{arith}
use mathlib.Core.Path.{◌≡◌, ap, sym, ◌∙◌}
use Prim.Native.Nat.{ℕ, ◌+◌, ◌/◌}
use borrow.Author.Tests.{not-true, not-false}
use Rattle.image_model.specs.Stream.{tail_width}
use Rattle.image_model.proofs.Written.{allowed_most}
use Rattle.image.proofs.Parses.{not_allowed, other_count, not_padded, wrong_entries, by_spares}
use Rattle.framing.proofs.Room.{frames_ceil}
use Rattle.image.proofs.parsing.contents_right.Goals as goal
use Rattle.image.proofs.parsing.contents_right.Goals.{After-div_ceil}

pub returns-then-not-is_allowed : goal.returns-then-not-is_allowed
returns-then-not-is_allowed c =
    let k = c in
    let start = k in
    let a = start.args in
    not_allowed a.image.now a.form a.size start.requires.1 start.requires.2 (sym k.is_allowed.ensures ∙ not-true _ c.if-not-is_allowed.true-raw)

pub overflow_add-end : goal.overflow_add-end
overflow_add-end c =
    let k = c in
    let l = allowed_most k.args.size (sym k.is_allowed.ensures ∙ not-false _ c.if-not-is_allowed.false-raw) in
    omega (arith, l, c.heap_at.ensures.1)

-- how many frames the image needs
ceiled : (c : After-div_ceil) → c.div_ceil.result ≡ (c.heap_at.result + c.args.size + 503) / 504
ceiled c = c.div_ceil.ensures ∙ frames_ceil _

pub returns-then-image-div_ceil : goal.returns-then-image-div_ceil
returns-then-image-div_ceil c =
    let h = c in
    let k = h in
    let start = k in
    let a = start.args in
    other_count a.image.now a.form a.size start.requires.1 start.requires.2 (sym k.is_allowed.ensures ∙ not-false _ h.if-not-is_allowed.false-raw) _
    (ap (λ (n : ℕ). n + a.size) h.heap_at.ensures.0)
    (λ e. c.if-image-div_ceil.true (e ∙ sym (ceiled (goal.at.returns-then-image-div_ceil c).After-div_ceil)))

pub returns-then-not-zero_from : goal.returns-then-not-zero_from
returns-then-not-zero_from c =
    let z = c in
    let h = z in
    let k = h in
    let start = k in
    let a = start.args in
    not_padded a.image.now a.form a.size start.requires.1 start.requires.2 (sym k.is_allowed.ensures ∙ not-false _ h.if-not-is_allowed.false-raw) _
    (ap (λ (n : ℕ). n + a.size) h.heap_at.ensures.0) (z.if-image-div_ceil.false ∙ ceiled (goal.at.returns-then-not-zero_from c).After-div_ceil)
    z.zero_from.result z.zero_from.ensures (not-true _ c.if-not-zero_from.true-raw)

pub returns-then-not-entries_right : goal.returns-then-not-entries_right
returns-then-not-entries_right c =
    let t = c in
    let z = t in
    let h = z in
    let k = h in
    let start = k in
    let a = start.args in
    wrong_entries a.image.now a.form a.size start.requires.1 start.requires.2 (sym k.is_allowed.ensures ∙ not-false _ h.if-not-is_allowed.false-raw) _
    (ap (λ (n : ℕ). n + a.size) h.heap_at.ensures.0) (z.if-image-div_ceil.false ∙ ceiled (goal.at.returns-then-not-entries_right c).After-div_ceil)
    z.zero_from.result z.zero_from.ensures (not-false _ t.if-not-zero_from.false-raw)
    t.entries_right.result (t.entries_right.ensures) (not-true _ c.if-not-entries_right.true-raw)

pub returns : goal.returns
unfolding tail_width
returns c =
    let t = c in
    let z = t in
    let h = z in
    let k = h in
    let start = k in
    let a = start.args in
    by_spares a.image.now a.form a.size start.requires.1 start.requires.2 (sym k.is_allowed.ensures ∙ not-false _ h.if-not-is_allowed.false-raw) _
    (ap (λ (n : ℕ). n + a.size) h.heap_at.ensures.0) (z.if-image-div_ceil.false ∙ ceiled (goal.at.returns c).After-div_ceil)
    z.zero_from.result z.zero_from.ensures (not-false _ t.if-not-zero_from.false-raw)
    t.entries_right.result (t.entries_right.ensures) (not-false _ c.if-not-entries_right.false-raw)
    c.spares_right.result c.entry_at.result c.entry_at.ensures.0 c.spares_right.ensures
