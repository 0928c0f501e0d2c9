-- The numbers of a reply, for each answer of a replay.
use Rattle.std.specs.Prelude.{ℕ, Option, Some, None}
use Rattle.exports.specs.declared.replays.ReplayReply.{ReplayReply}

unfoldable pub reply_of : Option ℕ → ReplayReply
reply_of (Some n) = record { done = 1; length = n }
reply_of None = record { done = 0; length = 0 }
