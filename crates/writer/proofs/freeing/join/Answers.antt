-- `writer::freeing::join` meets its contract: where one of the blocks has no bytes nothing is written, and else its three writes are the definition's.
use mathlib.Core.Path.{sym}
use mathlib.Core.Logic.{inl, inr}
use borrow.Author.Tests.{lt-ltb}
use Rattle.writer.specs.Writes.{join_bytes}
use Rattle.writer.proofs.FreeBytes.{join_none}
use Rattle.writer.proofs.freeing.join.Goals as goal

pub returns-then-mid-start : goal.returns-then-mid-start
returns-then-mid-start c = sym (join_none _ _ _ _ _ (inl c.if-mid-start.true))

pub returns-then-stop-mid : goal.returns-then-stop-mid
returns-then-stop-mid c = sym (join_none _ _ _ _ _ (inr c.if-stop-mid.true))

pub returns : goal.returns
unfolding join_bytes
returns c = rw (
  lt-ltb _ _ c.if-mid-start.false,
  lt-ltb _ _ c.if-stop-mid.false,
) (cc)
