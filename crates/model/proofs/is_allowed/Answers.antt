-- `model::is_allowed` meets its contract: its three tests are those of `allowed`, in the same order.
use Prim.Native.Nat.{◌%◌}
use native.Mathlib.Omega.{arith}
use borrow.Author.Tests.{eq-eqb, ne_eqb, le-leb, lt-leb}
use Rattle.model.specs.Consistent.{allowed}
use Rattle.model.proofs.is_allowed.Goals as goal

pub returns-then-len-ne0 : goal.returns-then-len-ne0
unfolding allowed
returns-then-len-ne0 c = simp (ne_eqb (c.args.len % 8) 0 (λ e. omega arith))

pub returns-then-len-lt64 : goal.returns-then-len-lt64
unfolding allowed
returns-then-len-lt64 c = simp (eq-eqb (c.args.len % 8) 0 (omega arith), lt-leb 64 c.args.len (omega arith))

pub returns : goal.returns
unfolding allowed
returns c = simp (eq-eqb (c.args.len % 8) 0 (omega arith), le-leb 64 c.args.len (omega arith))
