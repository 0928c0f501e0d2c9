-- `survey::holders::is_held` meets its contract: where all records are well-formed, the path of the serial leads to one
-- exactly if one has it.
use Rattle.std.proofs.Common.{◌≡◌, Bool, true, false, ◌∙◌, subst, rules}
use borrow.Author.Tests.{not-true, not-false}
use Rattle.words.specs.Words.{holds_of}
use Rattle.survey.specs.Holders.{Indexed}
use Rattle.survey.proofs.Flags.{held_ill, held_found}
use Rattle.survey.proofs.holders.is_held.Goals as goal
use Rattle.survey.proofs.holders.is_held.Goals.{Start}

-- the index, by the flag
indexed : (c : Start) (t : Bool) → c.args.fine ≡ t → Indexed c.args.words.now t c.args.index.now.heads c.args.index.now.links
indexed c t e = subst (λ (x : Bool). Indexed c.args.words.now x c.args.index.now.heads c.args.index.now.links) e c.requires

pub returns-then-not-fine : goal.returns-then-not-fine
returns-then-not-fine c =
    let s = c in
    held_ill (holds_of s.args.words.now) s.args.serial (indexed (goal.at.returns-then-not-fine c).Start false (not-true _ c.if-not-fine.true-raw))

pub returns : goal.returns
returns c =
    let e = c in
    let s = e in
    c.is_some.ensures ∙ held_found (holds_of s.args.words.now) s.args.serial c.on_path.result
    (indexed (goal.at.returns c).Start true (not-false _ e.if-not-fine.false-raw)).1
    (c.on_path.ensures (λ q. true) (λ q l r p. search rules))
