-- What was found lies in its buffer (`find_inside`); each case is the definition's.
use mathlib.Core.Path.{ap, sym, ◌∙◌}
use native.Mathlib.Nat.{add_comm, zero-add}
use borrow.Author.Rules.{rules}
use lib.ListN.{length}
use Rattle.std.specs.Prelude.{Result, Ok}
use Rattle.settings.specs.Find.{Inside, refusal_of, part, bytes_of, lies_at}
use Rattle.settings.proofs.Values.{find_inside}
use Rattle.settings.proofs.Told.{located_injective}
use Rattle.settings.specs.declared.Place.{Place}
use Rattle.settings.specs.declared.SettingsRefusal.{SettingsRefusal}
use Rattle.settings.proofs.finding.lookup.Goals as goal
use Rattle.settings.proofs.finding.lookup.Goals.{In-Ok-Board, In-Ok-Default}

-- the span that was found lies in its buffer
board-in : (c : In-Ok-Board) → Inside (length c.args.board.now) c.in-Ok-Board.span
board-in c =
    let f = c in
    let a = f.args in
    rw (sym (located_injective _ _ f.find.ensures) ∙ c.in-Ok-Board.is ∙ ap Ok c.in-Ok-Board.field-0-is) at
    (find_inside a.name a.version a.board.now a.board_used a.defaults.now a.defaults_used)

default-in : (c : In-Ok-Default) → Inside (length c.args.defaults.now) c.in-Ok-Default.span
default-in c =
    let f = c in
    let a = f.args in
    rw (sym (located_injective _ _ f.find.ensures) ∙ c.in-Ok-Default.is ∙ ap Ok c.in-Ok-Default.field-0-is) at
    (find_inside a.name a.version a.board.now a.board_used a.defaults.now a.defaults_used)

pub slice_bounds-result-count : goal.slice_bounds-result-count
slice_bounds-result-count c = (board-in (goal.at.slice_bounds-result-count c).In-Ok-Board).ordered

pub slice_bounds-result-start : goal.slice_bounds-result-start
slice_bounds-result-start c = let h = board-in (goal.at.slice_bounds-result-start c).In-Ok-Board in search rules

pub slice_bounds-result-end : goal.slice_bounds-result-end
slice_bounds-result-end c = let h = board-in (goal.at.slice_bounds-result-end c).In-Ok-Board in search rules

pub slice_bounds-result-count-in-Ok-Default : goal.slice_bounds-result-count-in-Ok-Default
slice_bounds-result-count-in-Ok-Default c = (default-in (goal.at.slice_bounds-result-count-in-Ok-Default c).In-Ok-Default).ordered

pub slice_bounds-result-start-in-Ok-Default : goal.slice_bounds-result-start-in-Ok-Default
slice_bounds-result-start-in-Ok-Default c = let h = default-in (goal.at.slice_bounds-result-start-in-Ok-Default c).In-Ok-Default in search rules

pub slice_bounds-result-end-in-Ok-Default : goal.slice_bounds-result-end-in-Ok-Default
slice_bounds-result-end-in-Ok-Default c = let h = default-in (goal.at.slice_bounds-result-end-in-Ok-Default c).In-Ok-Default in search rules

pub returns-in-Ok-Board : goal.returns-in-Ok-Board
unfolding part bytes_of lies_at refusal_of
returns-in-Ok-Board c =
    let a = c.args in
    let e = sym (c.in-Ok-Board.is ∙ ap Ok c.in-Ok-Board.field-0-is)
    ∙ located_injective _ _ c.find.ensures in record {
      holds = ap (λ (p : Result Place SettingsRefusal). bytes_of p a.board.now a.defaults.now) e;
      lies = (λ i. (a.board.ref_ptr.0, add_comm c.in-Ok-Board.span.start a.board.ref_ptr.1 i))
          ∙ ap (λ (p : Result Place SettingsRefusal). lies_at p a.board.ref_ptr a.defaults.ref_ptr) e;
      refuses = ap refusal_of e;
    }

pub returns-in-Ok-Default : goal.returns-in-Ok-Default
unfolding part bytes_of lies_at refusal_of
returns-in-Ok-Default c =
    let a = c.args in
    let e = sym (c.in-Ok-Default.is ∙ ap Ok c.in-Ok-Default.field-0-is)
    ∙ located_injective _ _ c.find.ensures in record {
      holds = ap (λ (p : Result Place SettingsRefusal). bytes_of p a.board.now a.defaults.now) e;
      lies = (λ i. (a.defaults.ref_ptr.0, add_comm c.in-Ok-Default.span.start a.defaults.ref_ptr.1 i))
          ∙ ap (λ (p : Result Place SettingsRefusal). lies_at p a.board.ref_ptr a.defaults.ref_ptr) e;
      refuses = ap refusal_of e;
    }

pub returns-in-Err : goal.returns-in-Err
unfolding part bytes_of lies_at refusal_of
returns-in-Err c =
    let a = c.args in
    let e = sym c.in-Err.is
    ∙ located_injective _ _ c.find.ensures in record {
      holds = ap (λ (p : Result Place SettingsRefusal). bytes_of p a.board.now a.defaults.now) e;
      lies = (λ i. (a.board.ref_ptr.0, zero-add a.board.ref_ptr.1 i))
          ∙ ap (λ (p : Result Place SettingsRefusal). lies_at p a.board.ref_ptr a.defaults.ref_ptr) e;
      refuses = c.number.ensures ∙ ap refusal_of e;
    }
