-- The length of an array of one number, which is not counted out.
use Rattle.std.proofs.Common.{◌≡◌, ℕ, length, sym}
use Rattle.std.proofs.Math.ListN.{replicate, length-replicate}

pub repeated_long : (n byte : ℕ) → n ≡ length (replicate n byte)
repeated_long n byte = sym (length-replicate n byte)
