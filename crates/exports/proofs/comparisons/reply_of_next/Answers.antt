-- The numbers of the answer's case.
use mathlib.Core.Path.{◌≡◌, ap, sym, ◌∙◌}
use borrow.Author.Rules.{rules}
use Rattle.std.specs.Prelude.{Option, Result, Ok, Some, None}
use Rattle.image_model.specs.declared.ImageRefusal.{ImageRefusal}
use Rattle.comparison.specs.declared.Difference.{Difference}
use Rattle.comparison.specs.declared.Position.{Position}
use Rattle.comparison.specs.declared.Which.{Which}
use Rattle.comparison.specs.Compare.{stepped, advanced}
use Rattle.exports.specs.ComparisonReplies.{next_reply}
use Rattle.exports.proofs.comparisons.reply_of_next.Goals as goal

pub returns-in-Ok-Some : goal.returns-in-Ok-Some
unfolding advanced stepped
returns-in-Ok-Some c =
    let e : c.args.answer ≡ Ok (Some (c.in-Ok-Some.difference, c.in-Ok-Some.behind)) = search rules in
    let q = c in
    let n = q in
    let p = n in
    let k = p in
    (λ i.
    record {
      refusal = 0;
      which = 0;
      kind = k.told.ensures i;
      place = p.place_of.ensures i;
      length = n.length_of.ensures i;
      part = q.told-in-Ok-Some.ensures i;
      at = c.place_in.ensures i;
    })
    ∙ ap (λ (x : Result (Option (Difference × Position)) (ImageRefusal × Which)). next_reply (advanced x)) (sym e)

pub returns-in-Ok-None : goal.returns-in-Ok-None
unfolding advanced stepped
returns-in-Ok-None c =
    let e : c.args.answer ≡ Ok None = search rules in
    ap (λ (x : Result (Option (Difference × Position)) (ImageRefusal × Which)). next_reply (advanced x)) (sym e)

pub returns-in-Err : goal.returns-in-Err
unfolding advanced
returns-in-Err c =
    let n = c in
    (λ i.
    record {
      refusal = n.number.ensures i;
      which = c.told-in-Err.ensures i;
      kind = 0;
      place = 0;
      length = 0;
      part = 0;
      at = 0;
    })
    ∙ ap (λ (x : Result (Option (Difference × Position)) (ImageRefusal × Which)). next_reply (advanced x)) (sym n.in-Err.is)
