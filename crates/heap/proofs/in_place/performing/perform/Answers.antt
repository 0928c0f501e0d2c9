-- `heap::in_place::perform` meets its contract: each arm makes the call of its name, whose promise is the definition
-- that `step` gives for it.
use mathlib.Core.Path.{ap}
use Rattle.model.specs.Answers.{answer_of}
use Rattle.model.specs.Step.{step}
use Rattle.model.specs.declared.Answer.TheVariants.{Handle, Amount, Range, Verdict, Block}
use Rattle.model.proofs.Answers.{verdict_back, handle_back, amount_back, range_back, block_back}
use Rattle.heap.proofs.InPlace.{made}
use Rattle.heap.proofs.in_place.performing.perform.Goals as goal

pub returns-in-Allocate-clause-holds : goal.returns-in-Allocate-clause-holds
unfolding step answer_of
returns-in-Allocate-clause-holds c =
    made c.args.words.now c.args.heap.now c.in-Allocate.is (ap Handle (handle_back c.allocate.result)) c.allocate.ensures.holds

pub returns-in-AllocateArray-clause-holds : goal.returns-in-AllocateArray-clause-holds
unfolding step answer_of
returns-in-AllocateArray-clause-holds c =
    made c.args.words.now c.args.heap.now c.in-AllocateArray.is (ap Handle (handle_back c.allocate_array.result)) c.allocate_array.ensures.holds

pub returns-in-Claim-clause-holds : goal.returns-in-Claim-clause-holds
unfolding step answer_of
returns-in-Claim-clause-holds c =
    made c.args.words.now c.args.heap.now c.in-Claim.is (ap Amount (amount_back c.claim.result)) c.claim.ensures.holds

pub returns-in-Release-clause-holds : goal.returns-in-Release-clause-holds
unfolding step answer_of
returns-in-Release-clause-holds c =
    made c.args.words.now c.args.heap.now c.in-Release.is (ap Amount (amount_back c.release.result)) c.release.ensures.holds

pub returns-in-FreeAll-clause-holds : goal.returns-in-FreeAll-clause-holds
unfolding step answer_of
returns-in-FreeAll-clause-holds c =
    made c.args.words.now c.args.heap.now c.in-FreeAll.is (ap Amount (amount_back c.free_all.result)) c.free_all.ensures.holds

pub returns-in-Sweep-clause-holds : goal.returns-in-Sweep-clause-holds
unfolding step answer_of
returns-in-Sweep-clause-holds c =
    made c.args.words.now c.args.heap.now c.in-Sweep.is (ap Amount (amount_back c.sweep.result)) c.sweep.ensures

pub returns-in-Reallocate-clause-holds : goal.returns-in-Reallocate-clause-holds
unfolding step answer_of
returns-in-Reallocate-clause-holds c =
    made c.args.words.now c.args.heap.now c.in-Reallocate.is (ap Handle (handle_back c.reallocate.result)) c.reallocate.ensures.holds

pub returns-in-Lend-clause-holds : goal.returns-in-Lend-clause-holds
unfolding step answer_of
returns-in-Lend-clause-holds c =
    made c.args.words.now c.args.heap.now c.in-Lend.is (ap Range (range_back c.object_range.result)) c.object_range.ensures

pub returns-in-Remaining-clause-holds : goal.returns-in-Remaining-clause-holds
unfolding step answer_of
returns-in-Remaining-clause-holds c =
    made c.args.words.now c.args.heap.now c.in-Remaining.is (ap Amount (amount_back c.remaining.result)) c.remaining.ensures

pub returns-in-CanRelease-clause-holds : goal.returns-in-CanRelease-clause-holds
unfolding step answer_of
returns-in-CanRelease-clause-holds c =
    made c.args.words.now c.args.heap.now c.in-CanRelease.is (ap Verdict (verdict_back c.can_release.result)) c.can_release.ensures

pub returns-in-ListBlock-clause-holds : goal.returns-in-ListBlock-clause-holds
unfolding step answer_of
returns-in-ListBlock-clause-holds c =
    made c.args.words.now c.args.heap.now c.in-ListBlock.is (ap Block (block_back c.list_block.result)) c.list_block.ensures

pub returns-in-ClearPermissions-clause-holds : goal.returns-in-ClearPermissions-clause-holds
unfolding step answer_of
returns-in-ClearPermissions-clause-holds c =
    made c.args.words.now c.args.heap.now c.in-ClearPermissions.is (ap Amount (amount_back c.clear_permissions.result)) c.clear_permissions.ensures.holds
