-- The bytes of an object.
use Rattle.std.specs.Prelude.{ℕ, List, take, drop}
use Rattle.model.specs.declared.Handle.{Handle}

unfoldable pub contents : Handle → List ℕ → List ℕ
contents o s = take o.length (drop o.base s)
