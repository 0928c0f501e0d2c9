-- `queue::queue_of` meets its contract: each place has the handle that the words say.
use native.Mathlib.Omega.{arith}
use borrow.Author.Rules.{rules}
use mathlib.Core.Path.{sym, ◌∙◌}
use lib.Seq.{ext_get_or}
use Rattle.words.proofs.Tables.{made}
use Rattle.model.specs.Answers.{zero_handle}
use Rattle.queue.specs.Queue.{PLACES}
use Rattle.queue.specs.Places.{handle_in, handles_of}
use Rattle.queue.proofs.InWords.{handles_long, handles_at}
use Rattle.queue.proofs.places.queue_of.Goals as goal

pub returns : goal.returns
returns c =
    let w = c.args.words.now in
    let all = c.from_fn.ensures.items in
    λ i. record {
      sender = c.word_at.ensures i;
      receiver = c.word_at-2.ensures i;
      count = c.word_at-3.ensures i;
      handles = ext_get_or zero_handle c.from_fn.result (handles_of w) (all.long ∙ sym (handles_long w))
          (λ j l. made (handle_in w) _ (λ j y q called. search rules) c.from_fn.result zero_handle PLACES all j (omega (arith, all.long))
          ∙ sym (handles_at w j (omega (arith, all.long)))) i;
    }
