-- The room is a part of an array, as long as the heap is to be.
use native.Mathlib.Omega.{arith}
use mathlib.Core.Path.{◌≡◌, ap, sym, ◌∙◌}
use Prim.Native.Nat.{ℕ}
use lib.ListN.{length, take, drop}
use lib.Seq.{length-take-le}
use Rattle.model.specs.Consistent.{allowed}
use Rattle.framing.specs.Frames.{padded, stream_of}
use Rattle.image_model.specs.Stream.{head_length}
use Rattle.image_model.specs.Reading.{form_of}
use Rattle.image_model.proofs.Written.{allowed_most}
use Rattle.conversion.specs.Steps.{form_to, rewritten}
use Rattle.conversion.proofs.moving.rewrite.Goals as goal
use Rattle.conversion.proofs.moving.rewrite.Goals.{After-room-1}

pub slice_bounds-room-end : goal.slice_bounds-room-end
slice_bounds-room-end c =
    let n : length c.heap_space-room.result ≡ 32768 = c.heap_space-room.type_inv.1.0.1 in
    let start = c in
    let l = allowed_most start.args.size start.requires in
    omega arith

-- the part is as long as it was asked for
sized : (c : After-room-1)
    → c.args.size
    ≡ length (take c.args.size c.heap_space-room.result)
sized c =
    let h = c in
    let n : length h.heap_space-room.result ≡ 32768 = h.heap_space-room.type_inv.1.0.1 in
    let start = h in
    let l = allowed_most start.args.size start.requires in
    sym (length-take-le start.args.size h.heap_space-room.result (omega arith))

pub slice_bounds-rewrite_in-end : goal.slice_bounds-rewrite_in-end
slice_bounds-rewrite_in-end c = sized c

pub rewrite_in-requires : goal.rewrite_in-requires
rewrite_in-requires c = ap allowed (sym (sized c)) ∙ c.requires

pub returns : goal.returns
returns c =
    let r = c in
    let a = r.args in
    r.rewrite_in.ensures
    ∙ ap
    (λ (n : ℕ). rewritten (form_to a.way) a.out.now (padded n (drop (head_length (form_of a.image.now)) (stream_of a.image.now))) a.accounts)
    (sym (sized (goal.at.returns c).After-room-1))
