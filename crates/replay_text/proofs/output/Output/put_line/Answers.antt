-- The word, and behind it the rest of the line.
use Rattle.replay_model.specs.Replay.{tail_of}
use Rattle.replay_text.proofs.Puts.{room_next, put_two}
use Rattle.replay_text.proofs.output.Output.put_line.Goals as goal

pub put_tail-requires : goal.put_tail-requires
put_tail-requires c =
    room_next c.args.word.now (tail_of c.args.numbers.now) c.args.self.now c.put_text.new.self c.requires c.put_text.ensures

pub returns : goal.returns
returns c =
    put_two c.args.word.now (tail_of c.args.numbers.now) c.args.self.now c.put_text.new.self c.put_tail.new.self c.requires c.put_text.ensures
    c.put_tail.ensures
