-- As many digits as the number has are its decimal.
use native.Mathlib.Omega.{arith}
use mathlib.Core.Path.{refl, ap, ◌≡◌, ◌∙◌}
use Prim.Native.Nat.{ℕ, ◌+◌, ◌-◌}
use lib.ListN.{length, length-drop, drop, take}
use lib.Seq.{length-take-le}
use Rattle.replay_model.proofs.Decimals.{length_decimal}
use Rattle.replay_model.specs.Text.{digits, decimal}
use Rattle.replay_text.proofs.Puts.{part_put}
use Rattle.replay_text.proofs.output.Output.put_number.Goals as goal

pub overflow_add-end : goal.overflow_add-end
overflow_add-end c =
    let f = c.requires.fits in
    omega (arith, length_decimal c.args.n, c.count_digits.ensures)

pub slice_bounds-put_digits-end : goal.slice_bounds-put_digits-end
slice_bounds-put_digits-end c =
    let f = c.requires.fits in
    omega (arith, length_decimal c.args.n, c.count_digits.ensures)

pub returns : goal.returns
unfolding decimal
returns c =
    let o = c.args.self.now in
    let n = c.args.n in
    let f = c.requires.fits in
    let count = c.count_digits.result in
    let size = o.written + count - o.written in
    let e = c.count_digits.ensures in
    let l = length_decimal n in
    let long : length (take size (drop o.written o.bytes.now)) ≡ count =
    omega (arith, length-take-le size (drop o.written o.bytes.now) (omega (arith, length-drop o.written o.bytes.now))) in
    record {
      bytes = part_put o.written (o.written + count) (decimal n) o.bytes.now c.put_digits.new.place f (omega arith)
          (c.put_digits.ensures ∙ ap (λ (k : ℕ). digits k n) (long ∙ e));
      next = omega arith;
      same_reference = refl;
    }
