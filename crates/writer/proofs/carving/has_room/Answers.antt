-- `writer::carving::has_room` meets its contract: each test that fails denies one of the three facts, and the last one decides.
use native.Mathlib.Omega.{arith}
use Rattle.writer.proofs.Guards.{no_room, room_left}
use Rattle.writer.proofs.carving.has_room.Goals as goal

pub returns-then-block-gt-GREATEST_HEAP : goal.returns-then-block-gt-GREATEST_HEAP
returns-then-block-gt-GREATEST_HEAP c = no_room _ _ _ (λ r. omega (arith, r.inside))

pub returns-then-block : goal.returns-then-block
returns-then-block c = no_room _ _ _ (λ r. omega (arith, r.inside))

pub returns-then-base-block : goal.returns-then-base-block
returns-then-base-block c = no_room _ _ _ (λ r. omega (arith, r.low))

pub returns-then-end-base : goal.returns-then-end-base
returns-then-end-base c = no_room _ _ _ (λ r. omega (arith, r.high))

pub returns : goal.returns
returns c = room_left _ _ _ (omega arith) (omega arith) (omega arith)
