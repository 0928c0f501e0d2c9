-- `queries::lend` meets its contract: a refused one has an empty part, and an accepted one the handle's range, which lies in the heap.
use Rattle.std.specs.Prelude.{Result}
use mathlib.Core.Path.{refl, ap, ◌∙◌}
use Prim.Native.Nat.{ℕ, ◌+◌, ◌-◌}
use native.Mathlib.Nat.{add_comm}
use lib.ListN.{take, drop}
use Rattle.rounding.specs.Rounding.{table}
use Rattle.words.specs.Words.{edition_of, accounts_of}
use Rattle.model.specs.Answers.{verdict_values}
use Rattle.model.specs.declared.Refusal.{Refusal}
use Rattle.queries.proofs.Lent.{spans_refused, spans_lent}
use Rattle.queries.proofs.lending.lend.Goals as goal

pub returns-in-Ok : goal.returns-in-Ok
unfolding verdict_values
returns-in-Ok c =
    let a = c.args in
    let l = c.is_lent.ensures in
    let g = spans_lent (table (edition_of a.words.now)) a.heap.now (accounts_of a.words.now) a.handle
    (l.0 ∙ ap (λ (v : Result (Unit {0}) Refusal). (verdict_values v).refusal) c.in-Ok.is) (l.1 c.in-Ok.is) in
    record {
      holds = λ i. take (g.ends i - g.starts i) (drop (g.starts i) a.heap.now);
      lies = (refl, add_comm _ _ ∙ ap (λ (n : ℕ). a.heap.ref_ptr.1 + n) g.starts);
      refuses = g.refuses;
    }

pub returns-in-Err : goal.returns-in-Err
unfolding verdict_values
returns-in-Err c =
    let a = c.args in
    let g = spans_refused (table (edition_of a.words.now)) a.heap.now (accounts_of a.words.now) a.handle c.number.result _ c.number.ensures
    (c.is_lent.ensures.0 ∙ ap (λ (v : Result (Unit {0}) Refusal). (verdict_values v).refusal) c.in-Err.is) in
    record {
      holds = λ i. take (g.ends i - g.starts i) (drop (g.starts i) a.heap.now);
      lies = (refl, add_comm _ _ ∙ ap (λ (n : ℕ). a.heap.ref_ptr.1 + n) g.starts);
      refuses = g.refuses;
    }
