-- `survey::numbers::numbers_in` meets its contract: each number is read as the definition reads it, and the test of the
-- three is its test.
use Rattle.std.proofs.Common.{◌≡◌, ◌&&◌, ltb, leb, sym, ◌∙◌}
use Rattle.model.specs.Consistent.{in_range, greatest_serial}
use Rattle.words.specs.Words.{accounts_of}
use Rattle.survey.proofs.numbers.numbers_in.Goals as goal
use Rattle.survey.proofs.numbers.numbers_in.Goals.{After-edition-edition}

-- the three are in range exactly if the accounts' are
same : (c : After-edition-edition)
    → in_range (accounts_of c.args.words.now)
    ≡ (leb c.last_serial-last.result greatest_serial && (ltb c.kind-kind.result 2 && ltb c.edition-edition.result 2))
unfolding in_range
same c =
    let e = c.edition-edition.ensures in
    let k = c.kind-kind.ensures in
    let l = c.last_serial-last.ensures in
    sym (λ i. leb (l i) greatest_serial && (ltb (k i) 2 && ltb (e i) 2))

pub returns-then-not-is_in_range : goal.returns-then-not-is_in_range
returns-then-not-is_in_range c = same (goal.at.returns-then-not-is_in_range c).After-edition-edition ∙ sym c.if-not-is_in_range.ensures

pub returns : goal.returns
returns c = (
  same (goal.at.returns c).After-edition-edition ∙ sym c.if-not-is_in_range.ensures,
  c.last_serial-last.ensures,
  c.kind-kind.ensures,
  c.edition-edition.ensures,
)
