-- A name that has no numbers behind it asks for nothing, and another for its call, where there are as many numbers as it takes.
use mathlib.Core.Path.{sym, ◌∙◌}
use Rattle.replay_model.specs.Lines.{words, numbers}
use Rattle.replay_model.specs.declared.Word.TheVariants.{Alloc, Array, Claim, Free, All, Realloc}
use Rattle.replay_text.proofs.Asking.{line_alone_call, line_call_is, asks_none, asks_some, asks_nothing}
use Rattle.replay_text.proofs.Asking.{takes_alloc, takes_array, takes_claim, takes_free, takes_all, takes_realloc}
use Rattle.replay_text.proofs.commands.read_call.Goals as goal

pub returns-in_err-name : goal.returns-in_err-name
returns-in_err-name c = c.from_residual.ensures ∙ line_alone_call c.args.line.now c.in_err-name.ensures

pub returns-in_err-quota-in-Alloc : goal.returns-in_err-quota-in-Alloc
unfolding takes_alloc
returns-in_err-quota-in-Alloc c =
    let p = c.in_ok-name in
    c.from_residual-in_err-quota-in-Alloc.ensures ∙ asks_none Alloc takes_alloc (numbers (words p.numbers.now)) c.in_err-quota-in-Alloc.ensures
    ∙ line_call_is c.args.line.now p.name.now p.numbers.now p.ensures Alloc (sym c.in-Alloc.is ∙ c.read_word.ensures)

pub returns-in_ok-quota-in-Alloc : goal.returns-in_ok-quota-in-Alloc
unfolding takes_alloc
returns-in_ok-quota-in-Alloc c =
    let p = c.in_ok-name in
    asks_some Alloc takes_alloc (numbers (words p.numbers.now)) _ c.in_ok-quota-in-Alloc.ensures
    ∙ line_call_is c.args.line.now p.name.now p.numbers.now p.ensures Alloc (sym c.in-Alloc.is ∙ c.read_word.ensures)

pub returns-in_err-quota-in-Array : goal.returns-in_err-quota-in-Array
unfolding takes_array
returns-in_err-quota-in-Array c =
    let p = c.in_ok-name in
    c.from_residual-in_err-quota-in-Array.ensures ∙ asks_none Array takes_array (numbers (words p.numbers.now)) c.in_err-quota-in-Array.ensures
    ∙ line_call_is c.args.line.now p.name.now p.numbers.now p.ensures Array (sym c.in-Array.is ∙ c.read_word.ensures)

pub returns-in_ok-quota-in-Array : goal.returns-in_ok-quota-in-Array
unfolding takes_array
returns-in_ok-quota-in-Array c =
    let p = c.in_ok-name in
    asks_some Array takes_array (numbers (words p.numbers.now)) _ c.in_ok-quota-in-Array.ensures
    ∙ line_call_is c.args.line.now p.name.now p.numbers.now p.ensures Array (sym c.in-Array.is ∙ c.read_word.ensures)

pub returns-in_err-quota-in-Claim : goal.returns-in_err-quota-in-Claim
unfolding takes_claim
returns-in_err-quota-in-Claim c =
    let p = c.in_ok-name in
    c.from_residual-in_err-quota-in-Claim.ensures ∙ asks_none Claim takes_claim (numbers (words p.numbers.now)) c.in_err-quota-in-Claim.ensures
    ∙ line_call_is c.args.line.now p.name.now p.numbers.now p.ensures Claim (sym c.in-Claim.is ∙ c.read_word.ensures)

pub returns-in_ok-quota-in-Claim : goal.returns-in_ok-quota-in-Claim
unfolding takes_claim
returns-in_ok-quota-in-Claim c =
    let p = c.in_ok-name in
    asks_some Claim takes_claim (numbers (words p.numbers.now)) _ c.in_ok-quota-in-Claim.ensures
    ∙ line_call_is c.args.line.now p.name.now p.numbers.now p.ensures Claim (sym c.in-Claim.is ∙ c.read_word.ensures)

pub returns-in_err-quota-in-Free : goal.returns-in_err-quota-in-Free
unfolding takes_free
returns-in_err-quota-in-Free c =
    let p = c.in_ok-name in
    c.from_residual-in_err-quota-in-Free.ensures ∙ asks_none Free takes_free (numbers (words p.numbers.now)) c.in_err-quota-in-Free.ensures
    ∙ line_call_is c.args.line.now p.name.now p.numbers.now p.ensures Free (sym c.in-Free.is ∙ c.read_word.ensures)

pub returns-in_ok-quota-in-Free : goal.returns-in_ok-quota-in-Free
unfolding takes_free
returns-in_ok-quota-in-Free c =
    let p = c.in_ok-name in
    asks_some Free takes_free (numbers (words p.numbers.now)) _ c.in_ok-quota-in-Free.ensures
    ∙ line_call_is c.args.line.now p.name.now p.numbers.now p.ensures Free (sym c.in-Free.is ∙ c.read_word.ensures)

pub returns-in_err-quota-in-All : goal.returns-in_err-quota-in-All
unfolding takes_all
returns-in_err-quota-in-All c =
    let p = c.in_ok-name in
    c.from_residual-in_err-quota-in-All.ensures ∙ asks_none All takes_all (numbers (words p.numbers.now)) c.in_err-quota-in-All.ensures
    ∙ line_call_is c.args.line.now p.name.now p.numbers.now p.ensures All (sym c.in-All.is ∙ c.read_word.ensures)

pub returns-in_ok-quota-in-All : goal.returns-in_ok-quota-in-All
unfolding takes_all
returns-in_ok-quota-in-All c =
    let p = c.in_ok-name in
    asks_some All takes_all (numbers (words p.numbers.now)) _ c.in_ok-quota-in-All.ensures
    ∙ line_call_is c.args.line.now p.name.now p.numbers.now p.ensures All (sym c.in-All.is ∙ c.read_word.ensures)

pub returns-in_err-quota-in-Realloc : goal.returns-in_err-quota-in-Realloc
unfolding takes_realloc
returns-in_err-quota-in-Realloc c =
    let p = c.in_ok-name in
    c.from_residual-in_err-quota-in-Realloc.ensures ∙ asks_none Realloc takes_realloc (numbers (words p.numbers.now)) c.in_err-quota-in-Realloc.ensures
    ∙ line_call_is c.args.line.now p.name.now p.numbers.now p.ensures Realloc (sym c.in-Realloc.is ∙ c.read_word.ensures)

pub returns-in_ok-quota-in-Realloc : goal.returns-in_ok-quota-in-Realloc
unfolding takes_realloc
returns-in_ok-quota-in-Realloc c =
    let p = c.in_ok-name in
    asks_some Realloc takes_realloc (numbers (words p.numbers.now)) _ c.in_ok-quota-in-Realloc.ensures
    ∙ line_call_is c.args.line.now p.name.now p.numbers.now p.ensures Realloc (sym c.in-Realloc.is ∙ c.read_word.ensures)

pub returns-in-Open : goal.returns-in-Open
returns-in-Open c =
    let p = c.in_ok-name in
    asks_nothing c.read_word.result (numbers (words p.numbers.now)) c.in-Open.is
    ∙ line_call_is c.args.line.now p.name.now p.numbers.now p.ensures c.read_word.result c.read_word.ensures
