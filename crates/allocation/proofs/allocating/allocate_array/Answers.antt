-- `allocation::allocate_array` meets its contract: the product of two 32-bit numbers fits 64 bits, so it is the true one.
use Rattle.model.specs.Calls.{allocate_array}
use Rattle.allocation.proofs.allocating.allocate_array.Goals as goal

pub returns-clause-holds : goal.returns-clause-holds
unfolding allocate_array
returns-clause-holds c = c.allocate_wide.ensures.holds
