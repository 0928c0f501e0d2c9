-- Both stores are asked, and one of their answers is chosen.
use Rattle.std.proofs.Common.{rules, ◌≡◌, ap, sym, ◌∙◌}
use Rattle.std.specs.Prelude.{Ok, Err}
use Rattle.settings.specs.Entries.{stored}
use Rattle.settings.specs.Find.{found_in, find, chosen, located}
use Rattle.settings.proofs.Folds.{unread_in, board_refused, default_refused}
use Rattle.settings.proofs.finding.find.Goals as goal
use Rattle.settings.proofs.finding.find.Goals.{In_ok-own}

pub returns-in_err-used_bytes : goal.returns-in_err-used_bytes
returns-in_err-used_bytes c =
    let a = c.args in
    let k = c.in_err-used_bytes.ensures in
    let e : c.from_residual.result ≡ Err c.in_err-used_bytes.field-0.0 = search rules in
    ap located (e ∙ board_refused a.name a.version a.board.now a.board_used a.defaults.now a.defaults_used _
    (unread_in a.name a.version a.board.now a.board_used a.defaults.now a.defaults_used _ k.1 _ k.0))

pub returns-in_err-own : goal.returns-in_err-own
returns-in_err-own c =
    let a = c.args in
    let e : c.from_residual-in_err-own.result ≡ Err c.in_err-own.field-0.0 = search rules in
    ap located (e ∙ board_refused a.name a.version a.board.now a.board_used a.defaults.now a.defaults_used _
    (c.in_err-own.ensures ∙ ap (found_in a.name a.version) (sym c.in_ok-used_bytes.ensures)))

-- what the board's store has
own : (c : In_ok-own) → Ok c.in_ok-own.own ≡ found_in c.args.name c.args.version (stored c.args.board.now c.args.board_used)
own c = c.in_ok-own.ensures ∙ ap (found_in c.args.name c.args.version) (sym c.in_ok-used_bytes.ensures)

pub returns-in_err-used_bytes-2 : goal.returns-in_err-used_bytes-2
returns-in_err-used_bytes-2 c =
    let a = c.args in
    let k = c.in_err-used_bytes-2.ensures in
    let e : c.from_residual-in_err-used_bytes-2.result ≡ Err c.in_err-used_bytes-2.field-0.0 = search rules in
    ap located (e ∙ default_refused a.name a.version a.board.now a.board_used a.defaults.now a.defaults_used _ _
    (own (goal.at.returns-in_err-used_bytes-2 c).In_ok-own)
    (unread_in a.name a.version a.board.now a.board_used a.defaults.now a.defaults_used _ k.1 _ k.0))

pub returns-in_err-other : goal.returns-in_err-other
returns-in_err-other c =
    let a = c.args in
    let e : c.from_residual-in_err-other.result ≡ Err c.in_err-other.field-0.0 = search rules in
    ap located (e ∙ default_refused a.name a.version a.board.now a.board_used a.defaults.now a.defaults_used _ _
    (own (goal.at.returns-in_err-other c).In_ok-own)
    (c.in_err-other.ensures ∙ ap (found_in a.name a.version) (sym c.in_ok-used_bytes-2.ensures)))

pub returns : goal.returns
unfolding find
returns c =
    let a = c.args in
    let x = own (goal.at.returns c).In_ok-own in
    let y = c.in_ok-other.ensures ∙ ap (found_in a.name a.version) (sym c.in_ok-used_bytes-2.ensures) in
    ap located (c.chosen.ensures ∙ (λ i. chosen (x i) (y i)))
