-- The walk begins with no entries, takes one more in each turn, and ends with all or at one that does not fit.
use native.Mathlib.Omega.{arith}
use mathlib.Core.Path.{◌≡◌, refl, ap, sym, ◌∙◌}
use mathlib.Core.List.{[], ◌∷◌, ◌++◌}
use Rattle.std.specs.Prelude.{Ok}
use Rattle.std.specs.Option.{option_or}
use Rattle.std.proofs.lemmas.List.{length-append}
use Rattle.settings.specs.Entries.{entries}
use Rattle.settings.specs.Walks.{last_given, given_in}
use Rattle.settings.proofs.Reading.{known, unread}
use Rattle.settings.proofs.Folds.{given_next, given_turns}
use Rattle.settings.proofs.Walks.{walk_begin, walk_end, walk_bad, walk_more}
use Rattle.settings.proofs.entries.walk.Goals as goal
use Rattle.settings.proofs.entries.walk.Goals.{in-Some-take, in_default-take}

pub loop-at-init : goal.loop-at-init
loop-at-init g c = ([], (walk_begin c.args.store.now, (refl, (omega arith, λ h a. refl))))

pub returns-in_default-clause-given : goal.returns-in_default-clause-given
returns-in_default-clause-given g c h a =
    let s = c.args.store.now in
    let l = c.loop-at in
    let bad = unread l.last l.at s (sym c.in_default.is ∙ c.read_entry.ensures) in
    sym (ap (given_in h) (walk_bad s l.invariant.0 l.last l.at l.invariant.1.0 (omega arith) bad))

pub returns-in_default-clause-in_turn : goal.returns-in_default-clause-in_turn
returns-in_default-clause-in_turn g c h a = returns-in_default-clause-given g c h a ∙ given_turns h (entries c.args.store.now)

pub returns-clause-given : goal.returns-clause-given
returns-clause-given g c h a =
    let s = c.args.store.now in
    let l = c.loop-at in
    let i = l.invariant in
    ap Ok (i.1.1.1.1 h a) ∙ sym (ap (given_in h) (walk_end s i.0 l.last l.at i.1.0 (omega arith)))

pub returns-clause-in_turn : goal.returns-clause-in_turn
returns-clause-in_turn g c h a = returns-clause-given g c h a ∙ given_turns h (entries c.args.store.now)

pub loop-at-smaller : goal.loop-at-smaller
loop-at-smaller g c =
    let l = c.loop-at in
    let k = known l.last l.at c.args.store.now c.in-Some.entry (sym c.in-Some.is ∙ c.read_entry.ensures) in
    let m = k.moves in
    let i = k.inside in
    omega arith

pub loop-at-preserved : goal.loop-at-preserved
loop-at-preserved g c =
    let s = c.args.store.now in
    let l = c.loop-at in
    let e = c.in-Some.entry in
    let r = l.invariant.0 in
    let i = l.invariant.1 in
    let k = known l.last l.at s e (sym c.in-Some.is ∙ c.read_entry.ensures) in
    let m = k.moves in
    let n = length-append r (e ∷ []) in
    let told : c.match-take.told ≡ option_or c.take.result l.told = elim c.match-take.branch [
      | in-Some-take w ↦ w.told-is ∙ sym (ap (λ f. option_or f l.told) w.in-Some-take.is)
      | in_default-take w ↦ w.told-is ∙ sym (ap (λ f. option_or f l.told) w.in_default-take.is)
    ] in (
      r ++ (e ∷ []),
      (
        walk_more s r l.last l.at i.0 (omega arith) e k,
        (
          omega (arith, i.1.0, n),
          (
            omega (arith, i.1.1.0, m),
            λ h a. told
                ∙ (λ j. option_or (a _ e _ c.take.ensures j) (i.1.1.1 h a j))
                ∙ ap (λ x. option_or (h x e) (last_given h 0 r)) i.1.0
                ∙ sym (given_next h r e),
          ),
        ),
      ),
    )
