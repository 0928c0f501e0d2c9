-- The shape, and the accounts that an image of its form says (`Parses`).
use mathlib.Core.Path.{ap, ◌∙◌}
use Rattle.framing.specs.Frames.{stream_of}
use Rattle.image_model.specs.Reading.{accounts_of}
use Rattle.std.specs.Prelude.{Ok}
use Rattle.image.specs.Parsing.{shape_parts}
use Rattle.image.proofs.Parses.{Found, shape_found, shape_refused, found_fits, found_parts, refused_parts}
use Rattle.image.proofs.parsing.parse_image.Goals as goal
use Rattle.image.proofs.parsing.parse_image.Goals.{In-Ok}

-- what the image was found to be
found : (c : In-Ok)
    → let i = c.args.image.now in
    Found i c.in-Ok.form c.in-Ok.size (accounts_of c.in-Ok.form (stream_of i))
found c =
    let p = c in
    shape_found p.args.image.now p.shape_of.result c.in-Ok.form c.in-Ok.size p.shape_of.ensures
    c.in-Ok.is

pub read_accounts-requires : goal.read_accounts-requires
read_accounts-requires c = found_fits _ _ _ _ (found c)

pub returns-in-Ok : goal.returns-in-Ok
unfolding shape_parts
returns-in-Ok c =
    let s = c in
    ap (shape_parts (Ok (s.in-Ok.form, s.in-Ok.size))) c.read_accounts.ensures
    ∙ found_parts s.args.image.now _ _ _ (found (goal.at.returns-in-Ok c).In-Ok)

pub returns-in-Err : goal.returns-in-Err
returns-in-Err c =
    let s = c in
    let p = s in
    let i = p.args.image.now in
    refused_parts i c.refused.result s.in-Err.refusal c.refused.ensures
    (shape_refused i p.shape_of.result s.in-Err.refusal p.shape_of.ensures s.in-Err.is)
