-- The image in form 1: what the check refuses is refused, what it accepts is put (`Puts`).
use mathlib.Core.Path.{ap, ◌∙◌}
use lib.ListN.{length}
use Rattle.std.proofs.lemmas.Result.{err_from_is_err_and}
use Rattle.rounding.specs.Rounding.{table}
use Rattle.words.specs.Words.{edition_of, accounts_of}
use Rattle.results.proofs.Lines.{check_accounted}
use Rattle.image_model.specs.declared.Form.{Form}
use Rattle.image_model.specs.Stream.{form_1}
use Rattle.image_model.proofs.Written.{allowed_most}
use Rattle.image.specs.Parsing.{put_image}
use Rattle.image.proofs.Parses.{form_1_fits}
use Rattle.image.proofs.Puts.{write_refused, write_accepted}
use Rattle.image.proofs.in_place.writing.write_form_1.Goals as goal

pub put_image-requires : goal.put_image-requires
put_image-requires c =
    let a = c.args in
    let w = check_accounted (table (edition_of a.words.now)) a.heap.now (accounts_of a.words.now) c.verdict_on.result
    c.verdict_on.ensures c.in_ok-verdict_on.was in
    (form_1_fits c.form_1.result c.form_1.ensures, allowed_most (length a.heap.now) w.0)

pub returns-in_err-verdict_on : goal.returns-in_err-verdict_on
returns-in_err-verdict_on c =
    let a = c.args in
    let e = c.in_err-verdict_on in
    let p = err_from_is_err_and c.from_residual.result c.from_residual.ensures.1 in
    rw (p.1, p.2)
    (write_refused form_1 a.image.now a.heap.now (accounts_of a.words.now) c.verdict_on.result c.verdict_on.ensures e.field-0.0 e.was)

pub returns : goal.returns
returns c =
    let a = c.args in
    c.put_image.ensures
    ∙ ap (λ (x : Form). put_image x a.image.now a.heap.now (accounts_of a.words.now)) c.form_1.ensures
    ∙ write_accepted form_1 a.image.now a.heap.now (accounts_of a.words.now) c.verdict_on.result c.verdict_on.ensures c.in_ok-verdict_on.was
