-- The number makes, with the heap and the words at exit, what the answer makes.
use Prim.Native.Nat.{ℕ}
use mathlib.Core.Path.{ap, sym, ◌∙◌, subst}
use Rattle.words.specs.Words.{accounts_of}
use Rattle.image_model.specs.Answers.{RestoredTo}
use Rattle.image.specs.Restoring.{Left}
use Rattle.exports.proofs.ImageReplies.{number_says}
use Rattle.exports.proofs.images.lokhazim_raw_image_restore.Goals as goal

pub returns : goal.returns
returns c =
    let w = c in
    let l = w.restore_image.new in
    let a = w.args in
    let e = number_says l.heap (accounts_of l.words) _ _ c.number_of.ensures ∙ w.restore_image.ensures.holds in
    record {
      holds = e;
      leaves = subst (λ (n : ℕ). Left n a.words.now l.words) (sym (ap (λ (r : RestoredTo). r.refusal) e))
          w.restore_image.ensures.leaves;
    }
