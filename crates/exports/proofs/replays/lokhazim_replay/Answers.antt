-- The reply is that of the answer that the replay gives, and the output is the replay's (`replied`).
use Rattle.std.specs.Prelude.{Some, None}
use Rattle.exports.specs.ReplayReplies.{reply_of}
use Rattle.exports.proofs.ReplayReplies.{replied}
use Rattle.exports.proofs.replays.lokhazim_replay.Goals as goal

pub returns-in_default : goal.returns-in_default
unfolding reply_of
returns-in_default c =
    let r = c in
    let a = r.args in
    let both = replied a.input.now a.output.now r.replay.new.output _ None c.in_default.is r.replay.ensures in record {
      replies = both.0;
      prints = both.1;
    }

pub returns : goal.returns
unfolding reply_of
returns c =
    let k = c in
    let r = k in
    let a = r.args in
    let both = replied a.input.now a.output.now r.replay.new.output _ (Some k.in-Some.count) k.in-Some.is r.replay.ensures in record {
      replies = both.0;
      prints = both.1;
    }
