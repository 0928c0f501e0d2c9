-- `writer::freeing::is_inside` meets its contract: each test that fails denies one of the five facts, and the last one decides.
use mathlib.Core.Path.{ap}
use native.Mathlib.Omega.{arith}
use Rattle.writer.specs.declared.freeing.Room.{Room}
use Rattle.writer.proofs.Guards.{not_inside, inside_left}
use Rattle.writer.proofs.freeing.is_inside.Goals as goal

pub returns-then-len-gt-GREATEST_HEAP : goal.returns-then-len-gt-GREATEST_HEAP
returns-then-len-gt-GREATEST_HEAP c = not_inside _ _ (λ i. omega (arith, i.allowed))

pub returns-then-len-block : goal.returns-then-len-block
returns-then-len-block c = not_inside _ _ (λ i. omega (arith, i.end))

pub returns-then-len-block-2 : goal.returns-then-len-block-2
returns-then-len-block-2 c = not_inside _ _ (λ i. omega (arith, i.end))

pub returns-then-block-lt8 : goal.returns-then-block-lt8
returns-then-block-lt8 c = not_inside _ _ (λ i. omega (arith, i.header))

pub returns-then-block : goal.returns-then-block
returns-then-block c = not_inside _ _ (λ i. omega (arith, i.before))

pub returns : goal.returns
returns c = inside_left _ _ (omega arith) (omega arith) (omega arith) (omega arith) _ (ap (λ (x : Room). x.free) c.room_at-front.ensures)
