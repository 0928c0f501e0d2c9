-- 1 and the block, or zeros beside the number of the refusal, 0 where there is none.
use Rattle.std.specs.Prelude.{None, Ok}
use mathlib.Core.Path.{refl, ap, sym, ◌∙◌}
use Rattle.exports.specs.HeapReplies.{block_numbers, found_block, reply_with}
use Rattle.model.specs.Answers.{refused, block_values}
use Rattle.exports.proofs.HeapReplies.{reply_exact}
use Rattle.exports.proofs.replies.reply_of_block.Goals as goal

pub returns-in-Ok-Some : goal.returns-in-Ok-Some
unfolding block_values found_block reply_with
returns-in-Ok-Some c =
    let f = rw c.in-Ok-Some.is at c.in-Ok-Some.field-0-is in
    record {
      answers = sym (ap block_values (c.in-Ok-Some.is ∙ ap Ok f));
      zeros = refl;
    }

pub returns-in-Ok-None : goal.returns-in-Ok-None
unfolding block_values found_block reply_with
returns-in-Ok-None c =
    let e = c.no_block.ensures in
    let f = rw c.in-Ok-None.is at c.in-Ok-None.field-0-is in
    record {
      answers = ap block_numbers e ∙ sym (ap block_values (c.in-Ok-None.is ∙ ap Ok f));
      zeros = reply_exact 0 None c.no_block.result e;
    }

pub returns-in-Err : goal.returns-in-Err
unfolding block_values found_block reply_with
returns-in-Err c =
    let e = c.no_block-in-Err.ensures in
    let v = ap refused c.number.ensures ∙ sym (ap block_values c.in-Err.is) in
    record {
      answers = ap block_numbers e ∙ v;
      zeros = reply_exact c.number.result None c.no_block-in-Err.result e;
    }
