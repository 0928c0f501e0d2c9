-- The numbers of the answer's case.
use mathlib.Core.Path.{◌≡◌, ap, sym, ◌∙◌}
use borrow.Author.Rules.{rules}
use Rattle.std.specs.Prelude.{Option, Result, Ok, Some, None}
use Rattle.image_model.specs.declared.ImageRefusal.{ImageRefusal}
use Rattle.comparison.specs.declared.Difference.{Difference}
use Rattle.comparison.specs.declared.Which.{Which}
use Rattle.comparison.specs.Compare.{compared}
use Rattle.exports.specs.ComparisonReplies.{compare_reply}
use Rattle.exports.proofs.comparisons.reply_of_compare.Goals as goal

pub returns-in-Ok-Some : goal.returns-in-Ok-Some
unfolding compared
returns-in-Ok-Some c =
    let e : c.args.answer ≡ Ok (Some c.in-Ok-Some.difference) = search rules in
    let p = c in
    let k = p in
    (λ i. record { refusal = 0; which = 0; kind = k.told.ensures i; place = p.place_of.ensures i; length = c.length_of.ensures i })
    ∙ ap (λ (x : Result (Option Difference) (ImageRefusal × Which)). compare_reply (compared x)) (sym e)

pub returns-in-Ok-None : goal.returns-in-Ok-None
unfolding compared
returns-in-Ok-None c =
    let e : c.args.answer ≡ Ok None = search rules in
    ap (λ (x : Result (Option Difference) (ImageRefusal × Which)). compare_reply (compared x)) (sym e)

pub returns-in-Err : goal.returns-in-Err
unfolding compared
returns-in-Err c =
    let n = c in
    (λ i. record { refusal = n.number.ensures i; which = c.told-in-Err.ensures i; kind = 0; place = 0; length = 0 })
    ∙ ap (λ (x : Result (Option Difference) (ImageRefusal × Which)). compare_reply (compared x)) (sym n.in-Err.is)
