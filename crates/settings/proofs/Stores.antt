-- The used bytes of a store: each case.
use Rattle.std.specs.Prelude.{None}
use mathlib.Core.Path.{◌≡◌}
use mathlib.Core.List.{List}
use Prim.Native.Nat.{ℕ, ◌≤◌, ◌<◌}
use lib.ListN.{length, take}
use borrow.Author.Tests.{le-leb, lt-leb}
use Rattle.settings.specs.Entries.{entries, stored}

module _ (s : List ℕ) (used : ℕ) where
  -- a used length beyond the bytes, and one that is not
  pub stored_beyond : length s < used → stored s used ≡ None
  unfolding stored
  stored_beyond h = rw (lt-leb used (length s) h)

  pub stored_within : used ≤ length s → stored s used ≡ entries (take used s)
  unfolding stored
  stored_within h = rw (le-leb used (length s) h)
