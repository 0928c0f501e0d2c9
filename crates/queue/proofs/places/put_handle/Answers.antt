-- `queue::put_handle` meets its contract: three words of the first place that is free, and the count.
use borrow.Author.Rules.{rules}
use Rattle.queue.proofs.InWords.{put_is}
use Rattle.queue.proofs.places.put_handle.Goals as goal

pub returns : goal.returns
returns c =
    let z = c in
    let a = z.args in
    put_is a.queue.now c.told-queue a.handle c.word_at-count.result c.word_at-count.ensures (search rules)
