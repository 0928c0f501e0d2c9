-- The offset, and behind it the two other numbers.
use mathlib.Core.List.{[], ◌∷◌}
use Rattle.replay_model.specs.Text.{decimal}
use Rattle.replay_model.specs.Replay.{block_line, tail_of}
use Rattle.replay_text.proofs.Puts.{room_first, room_next, put_two}
use Rattle.replay_text.proofs.answers.put_block.Goals as goal

pub put_number-requires : goal.put_number-requires
unfolding block_line
put_number-requires c =
    let b = c.args.block in
    room_first (decimal b.offset) (tail_of (b.size ∷ (b.serial ∷ []))) c.args.output.now c.requires.1

pub put_tail-requires : goal.put_tail-requires
unfolding block_line
put_tail-requires c =
    let b = c.args.block in
    room_next (decimal b.offset) (tail_of (b.size ∷ (b.serial ∷ []))) c.args.output.now c.put_number.new.self c.requires.1 c.put_number.ensures

pub returns : goal.returns
unfolding block_line
returns c =
    let b = c.args.block in
    put_two (decimal b.offset) (tail_of (b.size ∷ (b.serial ∷ []))) c.args.output.now c.put_number.new.self c.put_tail.new.self c.requires.1
    c.put_number.ensures c.put_tail.ensures
