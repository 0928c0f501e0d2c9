-- Each change that the calls make keeps a state good: the laws of the five changes, each from its own file, under one name.
pub use Rattle.invariant.proofs.Allocated.{Room, allocated_good, allocated_objects, allocated_fresh, allocated_counts}
pub use Rattle.invariant.proofs.Claimed.{claimed_good, claimed_counts}
pub use Rattle.invariant.proofs.Settled.{released_good, released_objects, freed_good, freed_objects, swept_good}
pub use Rattle.invariant.proofs.Copied.{copied_good, copied_objects}
