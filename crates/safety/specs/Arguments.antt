-- What a call takes: the quota that it is made for, and a handle.
use Rattle.std.specs.Prelude.{ℕ, Option, Some, None}
use Rattle.model.specs.declared.Handle.{Handle}
use Rattle.model.specs.declared.Call.{Call}
use Rattle.model.specs.declared.Call.TheVariants.{Allocate, AllocateArray, Claim, Release, FreeAll, Reallocate, Lend, Remaining, CanRelease, ListBlock}
use Rattle.model.specs.declared.Call.TheVariants.{ClearPermissions, Sweep}

-- the quota; none for a call that is made for nobody in particular
abbrev pub quota_of : Call → Option ℕ
quota_of (Allocate q n) = Some q
quota_of (AllocateArray q count size) = Some q
quota_of (Claim q h) = Some q
quota_of (Release q h) = Some q
quota_of (FreeAll q) = Some q
quota_of Sweep = None
quota_of (Reallocate q h n) = Some q
quota_of (Lend h) = None
quota_of (Remaining q) = Some q
quota_of (CanRelease q h) = Some q
quota_of (ListBlock at) = None
quota_of (ClearPermissions q n) = Some q

abbrev pub handle_of : Call → Option Handle
handle_of (Allocate q n) = None
handle_of (AllocateArray q count size) = None
handle_of (Claim q h) = Some h
handle_of (Release q h) = Some h
handle_of (FreeAll q) = None
handle_of Sweep = None
handle_of (Reallocate q h n) = Some h
handle_of (Lend h) = Some h
handle_of (Remaining q) = None
handle_of (CanRelease q h) = Some h
handle_of (ListBlock at) = None
handle_of (ClearPermissions q n) = None
