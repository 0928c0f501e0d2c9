-- `replay::output_space` meets its contract: a list of zeros has its length, which is not counted out.
use Rattle.std.proofs.Common.{◌≡◌, ℕ, length, sym}
use Rattle.std.proofs.Math.ListN.{replicate, length-replicate}
use Rattle.replay.proofs.output_space.Goals as goal

zeros_long : (n : ℕ) → n ≡ length {A = ℕ} (replicate n 0)
zeros_long n = sym (length-replicate n 0)

pub returns : goal.returns
returns c = zeros_long 589824
