-- The line's name, the heap's length, and a grant for each quota.
use mathlib.Core.Path.{ap, sym, ◌∙◌}
use Rattle.replay_model.specs.Text.{read_number}
use Rattle.replay_model.specs.Lines.{words, numbers}
use Rattle.replay_text.specs.Clauses.{opening_line}
use Rattle.replay_text.proofs.Asking.{line_alone_opening, line_opening_is, opens_nothing, opening_one, opening_two}
use Rattle.replay_text.proofs.Asking.{opens_no_heap, opens_no_grants, opens_with}
use Rattle.replay_text.proofs.commands.read_opening.Goals as goal

pub returns-in_err-name : goal.returns-in_err-name
returns-in_err-name c = c.from_residual.ensures ∙ ap opening_line (line_alone_opening c.args.line.now c.in_err-name.ensures)

pub returns-in_default : goal.returns-in_default
returns-in_default c =
    let p = c.in_ok-name in
    ap opening_line (opens_nothing c.read_word.result (numbers (words p.numbers.now)) c.in_default.not-Open
    ∙ line_opening_is c.args.line.now p.name.now p.numbers.now p.ensures c.read_word.result c.read_word.ensures)

pub returns-in_err-heap : goal.returns-in_err-heap
returns-in_err-heap c =
    let p = c.in_ok-name in
    c.from_residual-in_err-heap.ensures
    ∙ ap opening_line (opening_one c.args.line.now p.name.now p.numbers.now p.ensures (sym c.in-Open.is ∙ c.read_word.ensures) c.in_err-heap.ensures)

pub returns-in_err-read_number : goal.returns-in_err-read_number
returns-in_err-read_number c =
    let p = c.in_ok-name in
    let h = c.in_ok-heap in
    c.from_residual-in_err-read_number.ensures
    ∙ ap opening_line (opens_no_heap (read_number h.heap.now) (numbers (words h.grants.now)) c.in_err-read_number.ensures
    ∙ opening_two c.args.line.now p.name.now p.numbers.now p.ensures (sym c.in-Open.is ∙ c.read_word.ensures) h.heap.now h.grants.now h.ensures)

pub returns-in_err-read_numbers : goal.returns-in_err-read_numbers
returns-in_err-read_numbers c =
    let p = c.in_ok-name in
    let h = c.in_ok-heap in
    c.from_residual-in_err-read_numbers.ensures
    ∙ ap opening_line (opens_no_grants (read_number h.heap.now) (numbers (words h.grants.now)) c.in_err-read_numbers.ensures
    ∙ opening_two c.args.line.now p.name.now p.numbers.now p.ensures (sym c.in-Open.is ∙ c.read_word.ensures) h.heap.now h.grants.now h.ensures)

pub returns : goal.returns
returns c =
    let p = c.in_ok-name in
    let h = c.in_ok-heap in
    ap opening_line (opens_with (read_number h.heap.now) (numbers (words h.grants.now)) c.in_ok-read_number.field-0 c.in_ok-read_numbers.field-0
    c.in_ok-read_number.ensures c.in_ok-read_numbers.ensures
    ∙ opening_two c.args.line.now p.name.now p.numbers.now p.ensures (sym c.in-Open.is ∙ c.read_word.ensures) h.heap.now h.grants.now h.ensures)
