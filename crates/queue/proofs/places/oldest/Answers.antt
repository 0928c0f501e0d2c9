-- `queue::oldest` meets its contract: the first place is that of the table.
use mathlib.Core.Path.{◌∙◌, sym}
use borrow.Author.Rules.{rules}
use Rattle.queue.proofs.InWords.{handles_at}
use Rattle.queue.proofs.places.oldest.Goals as goal

pub returns : goal.returns
returns c = c.handle_in.ensures ∙ sym (handles_at c.args.queue.now 0 (search rules))
