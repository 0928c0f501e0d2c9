-- A byte as a number of four bytes is the byte and three zeros (`four_of_one`).
use mathlib.Core.Path.{ap, ◌∙◌}
use mathlib.Core.List.{List}
use borrow.Author.Rules.{rules}
use Prim.Native.Nat.{ℕ}
use Rattle.layout.specs.Bytes.{bytes, overwrite, write_number}
use Rattle.image.proofs.Heads.{four_of_one}
use Rattle.image.proofs.entries.write_permissions.Goals as goal

pub returns : goal.returns
unfolding write_number
returns c =
    let w = c in
    let b = w in
    let a = b.args in
    w.write_u32.ensures
    ∙ ap (λ (n : ℕ). overwrite a.at (bytes 4 n) a.head.now) c.from.ensures
    ∙ ap (λ (s : List ℕ). overwrite a.at s a.head.now) (four_of_one a.permissions (search rules))
