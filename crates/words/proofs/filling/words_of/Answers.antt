-- `words::words_of` meets its contract: each word is written.
use Prim.Native.Nat.{◌+◌, ◌*◌}
use native.Mathlib.Omega.{arith}
use mathlib.Core.Path.{◌≡◌}
use Rattle.words.specs.Filling.{Packable}
use Rattle.words.proofs.Types.{quotas_narrow, holds_narrow}
use Rattle.words.proofs.Fillings.{words_filled, filled_same, filled_accounts, finished_filled}
use Rattle.words.proofs.filling.words_of.Goals as goal
use Rattle.words.proofs.filling.words_of.Goals.{Start}

packs : (c : Start) → Packable c.args.accounts
packs c =
    let k = c.args.accounts in
    let g = c.well_formed.0.1.1 in
    let qs = g.0 in
    let hs = g.1.1.0 in
    let quotas = quotas_narrow k.quotas qs.0 qs.1.1 in
    let holds = holds_narrow k.holds hs.0 hs.1.1 in
    record {
      quotas = qs.1.0.1;
      holds = hs.1.0.1;
      permissions = λ q. (quotas q).2;
      quota = λ p. (holds p).1;
      count = λ p. (holds p).2;
      kind = omega (arith, g.1.1.1.0.1);
      edition = omega (arith, g.1.1.1.1.0.1);
    }

pub returns : goal.returns
returns c =
    let q = c in
    let e = q in
    let w = e in
    let s = w in
    let k = s.args.accounts in
    let t = packs (goal.at.returns c).Start in
    let rest = 256 * e.from-high.result + w.from-low.result in
    let is : rest ≡ 256 * k.edition + k.kind = (λ i. 256 * e.from-high.ensures i + w.from-low.ensures i) in
    let f = finished_filled k q.put_quotas.new.words c.put_holds.new.words rest is q.put_quotas.ensures c.put_holds.ensures in
    record {
      is = filled_same (words_filled k t.quotas t.holds) f;
      holds = filled_accounts t f;
    }
