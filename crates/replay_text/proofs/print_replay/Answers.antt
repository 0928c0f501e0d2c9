-- Too long an input is `bad`; another is run.
use native.Mathlib.Omega.{arith}
use Prim.Native.Nat.{ℕ}
use mathlib.Core.Path.{sym, subst}
use mathlib.Core.List.{List}
use Rattle.replay_text.specs.Clauses.{Room, Put}
use Rattle.replay_text.proofs.InputRuns.{replay_too_long, replay_runs}
use Rattle.replay_text.proofs.print_replay.Goals as goal

pub put_bad-requires : goal.put_bad-requires
put_bad-requires c =
    subst (λ (x : List ℕ). Room x c.args.output.now) (sym (replay_too_long c.args.input.now (omega arith))) c.requires

pub returns-then-input-gt-LONGEST : goal.returns-then-input-gt-LONGEST
returns-then-input-gt-LONGEST c =
    subst (λ (x : List ℕ). Put x c.args.output.now c.put_bad.new.output) (replay_too_long c.args.input.now (omega arith)) c.put_bad.ensures

pub run_all-requires : goal.run_all-requires
run_all-requires c =
    subst (λ (x : List ℕ). Room x c.args.output.now) (sym (replay_runs c.args.input.now (omega arith))) c.requires

pub returns-else-input-gt-LONGEST : goal.returns-else-input-gt-LONGEST
returns-else-input-gt-LONGEST c =
    subst (λ (x : List ℕ). Put x c.args.output.now c.run_all.new.output) (replay_runs c.args.input.now (omega arith)) c.run_all.ensures
