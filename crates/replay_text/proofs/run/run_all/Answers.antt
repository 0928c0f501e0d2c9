-- No line ends, the first asks for no opening, or it opens a heap and the others are run on it.
use Prim.Native.Nat.{ℕ}
use mathlib.Core.Path.{sym, subst}
use mathlib.Core.List.{List}
use Rattle.replay_model.specs.Commands.{Opening}
use Rattle.replay_text.specs.Clauses.{Room, Put}
use Rattle.replay_text.proofs.Phrases.{no_opening, some_opening}
use Rattle.replay_model.proofs.Openings.{opening_granted}
use Rattle.replay_text.proofs.InputRuns.{input_unended, input_bad, input_opens}
use Rattle.replay_text.proofs.run.run_all.Goals as goal

pub put_bad-requires : goal.put_bad-requires
put_bad-requires c =
    let a = c.args in
    subst (λ (x : List ℕ). Room x a.output.now) (sym (input_unended a.input.now c.in_default.ensures)) c.requires

pub returns-in_default : goal.returns-in_default
returns-in_default c =
    let a = c.args in
    subst (λ (x : List ℕ). Put x a.output.now c.put_bad.new.output) (input_unended a.input.now c.in_default.ensures) c.put_bad.ensures

pub put_bad-requires-in_default-read_opening : goal.put_bad-requires-in_default-read_opening
put_bad-requires-in_default-read_opening c =
    let a = c.args in
    let is-bad = input_bad a.input.now c.in-Some.line.now c.in-Some.rest.now c.in-Some.ensures
    (no_opening c.read_opening.result _ c.read_opening.ensures c.in_default-read_opening.is) in
    subst (λ (x : List ℕ). Room x a.output.now) (sym is-bad) c.requires

pub returns-in_default-read_opening : goal.returns-in_default-read_opening
returns-in_default-read_opening c =
    let a = c.args in
    let is-bad = input_bad a.input.now c.in-Some.line.now c.in-Some.rest.now c.in-Some.ensures
    (no_opening c.read_opening.result _ c.read_opening.ensures c.in_default-read_opening.is) in
    subst (λ (x : List ℕ). Put x a.output.now c.put_bad-in_default-read_opening.new.output) is-bad c.put_bad-in_default-read_opening.ensures

pub run_opening-requires : goal.run_opening-requires
run_opening-requires c =
    let a = c.args in
    let l = c.in-Some-read_opening.opening in
    let o : Opening = record { heap = l.heap; grants = l.grants } in
    let asked = some_opening c.read_opening.result _ c.read_opening.ensures l c.in-Some-read_opening.is in
    let opens = input_opens a.input.now c.in-Some.line.now c.in-Some.rest.now c.in-Some.ensures o asked in
    (opening_granted c.in-Some.line.now o asked, subst (λ (x : List ℕ). Room x a.output.now) (sym opens) c.requires)

pub returns : goal.returns
returns c =
    let a = c.args in
    let l = c.in-Some-read_opening.opening in
    let o : Opening = record { heap = l.heap; grants = l.grants } in
    let asked = some_opening c.read_opening.result _ c.read_opening.ensures l c.in-Some-read_opening.is in
    let opens = input_opens a.input.now c.in-Some.line.now c.in-Some.rest.now c.in-Some.ensures o asked in
    subst (λ (x : List ℕ). Put x a.output.now c.run_opening.new.output) opens c.run_opening.ensures
