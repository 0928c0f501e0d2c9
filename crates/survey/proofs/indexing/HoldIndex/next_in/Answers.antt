-- `survey::indexing::HoldIndex::next_in` meets its contract.
use Rattle.std.proofs.Common.{ℕ, ◌+◌, ◌%◌, sym, ap, ◌∙◌}
use Rattle.survey.specs.Index.{CLOSED, fork, inner}
use Rattle.survey.proofs.Plain.{plain_at}
use Rattle.survey.proofs.indexing.HoldIndex.next_in.Goals as goal

pub returns : goal.returns
returns c =
    let a = c.args in
    ap (λ (x : ℕ). inner (x % CLOSED)) c.link_in.ensures.0 ∙ sym (plain_at a.self.now.links (a.at + fork a.bits))
