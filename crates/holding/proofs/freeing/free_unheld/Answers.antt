-- `holding::free_unheld` meets its contract: the flags are those that the walk asks for.
use Rattle.holding.specs.Emptying.{flags_of}
use Rattle.holding.proofs.freeing.free_unheld.Goals as goal

pub free_unkept-requires : goal.free_unkept-requires
unfolding flags_of
free_unkept-requires c = rw (c.kind.ensures, c.held_blocks.ensures) c.requires

pub returns : goal.returns
unfolding flags_of
returns c = rw (← c.kind.ensures, ← c.held_blocks.ensures) c.free_unkept.ensures
