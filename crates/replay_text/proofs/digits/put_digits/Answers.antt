use borrow.Author.Rules.{rules}
use Rattle.replay_text.proofs.Spelling.{spell_more, spell_end}
use Rattle.replay_text.proofs.digits.put_digits.Goals as goal

pub loop-left-preserved : goal.loop-left-preserved
loop-left-preserved c =
    let l = c.loop-left in
    spell_more c.args.n c.args.place.now l.left l.rest l.place c.loop-left-test.true l.invariant

pub returns : goal.returns
returns c =
    let l = c.loop-left in
    spell_end c.args.n c.args.place.now l.left l.rest l.place (search rules) l.invariant
