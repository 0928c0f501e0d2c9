-- Release by its survey: each line that refuses, and past all of them the quota's record and whether another quota has one.
use Rattle.std.specs.Prelude.{Some, None, Result, Ok, Err, is_some}
use Prim.Native.Nat.{ℕ, ◌≤◌, ◌<◌}
use mathlib.Core.Path.{◌≡◌, ap, sym, subst, ◌∙◌}
use mathlib.Core.List.{List}
use Rattle.rounding.specs.Rounding.{table}
use Rattle.accounts.specs.declared.Accounts.{Accounts}
use Rattle.accounts.specs.Accounts.{QUOTAS, find_hold}
use Rattle.lookup.specs.declared.Met.{Met}
use Rattle.lookup.specs.Walk.{object_met, find_object}
use Rattle.lists.specs.Lists.{any}
use Rattle.model.specs.Calls.{release}
use Rattle.model.specs.declared.Handle.{Handle}
use Rattle.model.specs.declared.Refusal.{Refusal}
use Rattle.model.specs.declared.Refusal.TheVariants.{QuotaNumber, NoSuchObject, NotHeld}
use Rattle.results.specs.Results.{AmountResult}
use Rattle.results.specs.Results.{amount_outcome}
use Rattle.survey.specs.declared.Wanted.{Wanted}
use Rattle.survey.specs.declared.Known.{Known}
use Rattle.survey.specs.Survey.{verdict_in, known_of, block_at, shares, Survey}
use Rattle.survey.proofs.Surveys.{known_any}
use Rattle.survey.proofs.Blocks.{found_block}
use Rattle.survey.proofs.Told.{is_serial}
use Rattle.allocation.specs.Ready.{Checked}
use Rattle.allocation.specs.Releasing.{claim_dropped}
use Rattle.allocation.specs.Asked.{Droppable}
use Rattle.allocation.proofs.Ready.{checked_is}
use Rattle.allocation.proofs.ReleaseAnswers.{refuses, by_check, by_quota, by_object, by_record, dropped}

-- what release asks its survey for
abbrev pub asked_of : ℕ → Handle → Wanted
asked_of q h = record { base = h.base; length = h.length; serial = h.serial; quota = q; unit = 0; need = 0 }

module _ (s : List ℕ) (k : Accounts) (q : ℕ) (h : Handle) (w : Wanted) (r : Result Known Refusal) (we : w ≡ asked_of q h) (g : Survey s k w r) where
  abbrev u : ℕ → ℕ
  u = table k.edition

  survey : Survey s k (asked_of q h) r
  survey = subst (λ (x : Wanted). Survey s k x r) we g

  pub released_checked : (f : Refusal) → r ≡ Err f → (x : AmountResult) → x ≡ record { accounts = k; answer = Err f }
      → amount_outcome s x ≡ release u s k q h
  released_checked f e x xe = refuses u s k q h x f xe (by_check u s k q h (verdict_in r) g.told f (ap verdict_in e))

  module _ (n : Known) (is : r ≡ Ok n) where
    ok : verdict_in r ≡ Ok tt
    ok = ap verdict_in is

    told : n ≡ known_of s k (asked_of q h)
    told = survey.known n is

    pub released_numbered : QUOTAS ≤ q → (x : AmountResult) → x ≡ record { accounts = k; answer = Err QuotaNumber }
        → amount_outcome s x ≡ release u s k q h
    released_numbered l x xe = refuses u s k q h x QuotaNumber xe (by_quota u s k q h (verdict_in r) g.told ok l)

    module _ (exists : q < QUOTAS) where
      checked : Checked u s k q
      checked = checked_is u s k (verdict_in r) g.told ok q exists

      object_is : n.object ≡ find_object h s
      object_is = ap (λ (y : Known). y.object) told

      pub released_missed : n.object ≡ None → (x : AmountResult) → x ≡ record { accounts = k; answer = Err NoSuchObject }
          → amount_outcome s x ≡ release u s k q h
      released_missed e x xe = refuses u s k q h x NoSuchObject xe (by_object u s k q h checked (sym object_is ∙ e))

      module _ (m : Met) (e : n.object ≡ Some m) where
        named : find_object h s ≡ Some m
        named = sym object_is ∙ e

        serial_is : h.serial ≡ m.serial
        serial_is = is_serial s (asked_of q h) m named

        holder_is : n.holder ≡ find_hold m.serial q k
        holder_is = ap (λ (y : Known). y.holder) told ∙ ap (λ (x : ℕ). find_hold x q k) serial_is

        pub released_unheld : n.holder ≡ None → (x : AmountResult) → x ≡ record { accounts = k; answer = Err NotHeld }
            → amount_outcome s x ≡ release u s k q h
        released_unheld p x xe = refuses u s k q h x NotHeld xe (by_record u s k q h checked m named (sym holder_is ∙ p))

        module _ (i : ℕ) (p : n.holder ≡ Some i) where
          place : find_hold m.serial q k ≡ Some i
          place = sym holder_is ∙ p

          -- the block by the header at its place is the one that was found
          same : block_at m.at s ≡ m
          same = found_block h s m named

          pub released_droppable : Droppable s k q (block_at m.at s) i (is_some n.other)
          released_droppable =
              subst (λ (b : Met). Droppable s k q b i (is_some n.other)) (sym same) (record {
                holding = record { checked = checked; handle = h; named = named; place = place };
                others = known_any (shares h.serial q) k.holds n.other (ap (λ (y : Known). y.other) told)
                    ∙ ap (λ (x : ℕ). any (shares x q) k.holds) serial_is;
              })

          pub released_is : claim_dropped s k q (object_met (block_at m.at s)) ≡ release u s k q h
          released_is = ap (λ (b : Met). claim_dropped s k q (object_met b)) same ∙ dropped u s k q h checked m named i place
