-- 25 by the length, 26 by the check, else the copy (`Restores`).
use mathlib.Core.Path.{◌≡◌, ap, ◌∙◌}
use mathlib.Core.List.{List}
use Prim.Native.Nat.{ℕ}
use lib.ListN.{drop}
use borrow.Author.Tests.{not-true, not-false}
use Rattle.accounts.specs.declared.Accounts.{Accounts}
use Rattle.framing.specs.Frames.{padded, stream_of}
use Rattle.std.specs.Prelude.{Ok}
use Rattle.image_model.specs.Answers.{restored_to}
use Rattle.image_model.specs.Images.{own_consistent}
use Rattle.image_model.specs.Reading.{accounts_of as accounts_said}
use Rattle.image.proofs.Restores.{restore_room, restore_unsound, restore_done}
use Rattle.image.proofs.in_place.reading.restore.Goals as goal
use Rattle.image.proofs.in_place.reading.restore.Goals.{After-is_consistent_in, Start}

-- the stream, and the accounts that it says
abbrev stream : Start → List ℕ
stream c = stream_of c.args.image.now

abbrev said : Start → Accounts
said c = accounts_said c.args.form (stream c)

pub returns-then-heap-size : goal.returns-then-heap-size
returns-then-heap-size c =
    let t = c in
    let s = t in
    let e = c.refused.ensures in
    record {
      holds = (λ i. restored_to s.args.heap.now (e.holds i) (e.tells i))
          ∙ restore_room s.args.form s.args.size (stream (goal.at.returns-then-heap-size c).Start) s.args.heap.now
          (said (goal.at.returns-then-heap-size c).Start) t.if-heap-size.true;
      pads = e.pads;
    }

abbrev stream_2 : After-is_consistent_in → List ℕ
stream_2 c = stream_of c.args.image.now

abbrev said_2 : After-is_consistent_in → Accounts
said_2 c = accounts_said c.args.form (stream_2 c)

told : (c : After-is_consistent_in)
    → c.is_consistent_in.result ≡ own_consistent (padded c.args.size (drop c.heap_at-from.result (stream_2 c))) (said_2 c)
told c =
    c.is_consistent_in.ensures
    ∙ ap (λ (k : Accounts). own_consistent (padded c.args.size (drop c.heap_at-from.result (stream_2 c))) k)
    c.put_accounts.ensures.holds

pub returns-then-not-is_consistent_in : goal.returns-then-not-is_consistent_in
returns-then-not-is_consistent_in c =
    let t = c in
    let v = t in
    let s = v in
    let h = v.heap_at-from in
    let e = c.refused-then-not-is_consistent_in.ensures in
    record {
      holds = (λ i. restored_to s.args.heap.now (e.holds i) (e.tells i))
          ∙ restore_unsound s.args.form s.args.size (stream (goal.at.returns-then-not-is_consistent_in c).Start) s.args.heap.now
          (said (goal.at.returns-then-not-is_consistent_in c).Start) v.if-heap-size.false h.result h.ensures.0
          v.is_consistent_in.result (told (goal.at.returns-then-not-is_consistent_in c).After-is_consistent_in) (not-true _ t.if-not-is_consistent_in.true-raw);
      pads = e.pads;
    }

pub returns : goal.returns
returns c =
    let w = c in
    let p = w in
    let v = p in
    let s = v in
    let h = v.heap_at-from in
    let there = w.copy_stream.new.out in
    record {
      holds = ap (λ (k : Accounts). restored_to there k (Ok tt)) v.put_accounts.ensures.holds
          ∙ restore_done s.args.form s.args.size (stream (goal.at.returns c).Start) s.args.heap.now (said (goal.at.returns c).Start) v.if-heap-size.false
          h.result h.ensures.0
          v.is_consistent_in.result there (told (goal.at.returns c).After-is_consistent_in) (not-false _ p.if-not-is_consistent_in.false-raw)
          w.copy_stream.ensures;
      pads = v.put_accounts.ensures.pads;
    }
