use Rattle.std.proofs.Common.{◌≡◌, ℕ, ◌+◌, ◌/◌, ◌<◌, get_or, sym, refl, ap, ◌∙◌, subst, arith}
use Rattle.accounts.specs.Accounts.{HOLDS}
use Rattle.survey.specs.Index.{bits_of, fork, step}
use Rattle.survey.proofs.Paths.{fork_inside, Way, stay, way_more, End, link_rises, hangs_at}
use Rattle.survey.proofs.indexing.HoldIndex.hang.Goals as goal
use Rattle.survey.proofs.indexing.HoldIndex.hang.Goals.{After-loop-at, After-number_in-at}

pub loop-at-init : goal.loop-at-init
unfolding bits_of
loop-at-init c = ((λ l. (c.requires.0, stay)), (λ l. absurd (omega (arith, c.requires.0, c.requires.1))))

leads : (c : After-number_in-at) → c.number_in-at.result ≡ step c.args.self.now.links c.loop-at.bits
    c.loop-at.at
leads c =
    c.number_in-at.ensures.0
    ∙ ap (λ (x : ℕ). get_or c.args.self.now.links (c.loop-at.at + x) 0) c.fork.ensures.0

pub loop-at-smaller : goal.loop-at-smaller
loop-at-smaller c =
    let l = c.loop-at in
    let u = link_rises l.bits c.requires.2 c.loop-at-test.true in
    omega (arith, u, leads c, c.loop-at-test.true)

pub loop-at-preserved : goal.loop-at-preserved
loop-at-preserved c =
    let t = c in
    let l = t.loop-at in
    let a = c.args in
    let g = c.requires.2 in
    let in_table = t.loop-at-test.true in
    let way = l.invariant.0 in_table in (
      (λ few.
          let s : step a.self.now.links l.bits l.at < HOLDS = omega (arith, leads c, few) in
          let r = g.rising (l.at + fork l.bits) (fork_inside l.at l.bits in_table) s in (
            omega (arith, r.1, leads c),
            subst (λ (y : ℕ). Way a.self.now.links (bits_of a.serial) a.root (l.bits / 2) y) (sym (leads c))
                (way_more way.1 in_table s),
          )),
      (λ many.
          record {
            place = l.at;
            way = l.bits;
            before = way.0;
            there = ap (λ (x : ℕ). l.at + x) c.fork.ensures.0;
            path = way.1;
            ends = omega (arith, leads c, many);
          }),
    )

-- the end of the path
end : (c : After-loop-at) → let a = c.args in End a.self.now.links (bits_of a.serial) a.root a.i
    c.loop-at.link
end c = c.loop-at.invariant.1 (omega (arith, c.loop-at-test.false))

pub returns : goal.returns
returns c = let s = c in (hangs_at s.requires.2 s.requires.1 (end (goal.at.returns c).After-loop-at), refl)
