-- The reply of a replay: it follows from the answer, and tells all answers apart.
use Prim.Native.Nat.{ℕ, zero, suc}
use mathlib.Core.Path.{◌≡◌, refl, sym, ap, ◌∙◌}
use mathlib.Core.List.{List}
use Rattle.std.specs.Prelude.{Option, Some, None}
use Rattle.replay_text.specs.Answer.{Result, replayed}
use Rattle.exports.specs.declared.replays.ReplayReply.{ReplayReply}
use Rattle.exports.specs.ReplayReplies.{reply_of}

-- what the replay answers and leaves, as the reply and the output
pub replied : (s out left : List ℕ) (a b : Option ℕ) → a ≡ b → ◌≡◌ {A = Result} (record { answer = a; output = left }) (replayed s out)
    → (reply_of b ≡ reply_of (replayed s out).answer) × (left ≡ (replayed s out).output)
replied s out left a b same done = (ap reply_of (sym same ∙ ap (λ (x : Result). x.answer) done), ap (λ (x : Result). x.output) done)

-- the answer with a reply, which gives it back; so no two answers have one reply
abbrev pub answer_by : ℕ → ℕ → Option ℕ
answer_by zero n = None
answer_by (suc d) n = Some n

pub reply_back : (a : Option ℕ) → answer_by (reply_of a).done (reply_of a).length ≡ a
unfolding reply_of
reply_back (Some n) = refl
reply_back None = refl

pub reply_of_injective : (a b : Option ℕ) → reply_of a ≡ reply_of b → a ≡ b
reply_of_injective a b same = sym (reply_back a) ∙ (ap (λ (r : ReplayReply). answer_by r.done r.length) same ∙ reply_back b)
