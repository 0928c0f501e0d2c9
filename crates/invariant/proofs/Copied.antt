-- Copying keeps a state good: one object's bytes change, and no block's serial or size, so objects and accounts fit together as before.
use mathlib.Core.Path.{◌≡◌}
use Rattle.model.specs.Objects.{objects}
use Rattle.model.specs.Space.{body_of}
use Rattle.model.specs.Calls.{State, copied}
use Rattle.model.specs.declared.Handle.{Handle}
use Rattle.invariant.proofs.Good.{Good}
use Rattle.invariant.proofs.Laid.{copy_objects, copy_laid, body_octets}
use Rattle.invariant.proofs.Recorded.{good_laid, good_recorded, good_limits, good_state}

-- one object's bytes copied to another
module _ (old new : Handle) (t : State) (g : Good t) where
  pub copied_objects : objects (copied old new t).blocks ≡ objects t.blocks
  unfolding copied
  copied_objects = copy_objects new.serial (body_of old.serial t.blocks) t.blocks

  pub copied_good : Good (copied old new t)
  unfolding copied
  copied_good =
      let l = good_laid t g in
      good_state (copied old new t)
      (copy_laid new.serial (body_of old.serial t.blocks) (body_octets old.serial t.blocks l.stored) t.blocks l)
      (rw copied_objects (good_recorded t g)) (good_limits t g)
