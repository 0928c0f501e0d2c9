-- The room holds the heap of the image, and the writer says what becomes of it (`Steps`).
use mathlib.Core.Path.{◌≡◌, ap, sym, ◌∙◌}
use mathlib.Core.List.{List}
use mathlib.Core.Bool.{true}
use Prim.Native.Nat.{ℕ}
use lib.ListN.{length, drop}
use Rattle.model.specs.Consistent.{allowed}
use Rattle.framing.specs.Frames.{padded, stream_of}
use Rattle.framing.proofs.Padding.{length_padded}
use Rattle.image_model.specs.Stream.{head_length}
use Rattle.image_model.specs.Reading.{form_of}
use Rattle.image.specs.declared.HeapPlace.{HeapPlace}
use Rattle.image_model.specs.declared.ImageRefusal.TheVariants.{Call}
use Rattle.image_model.specs.Answers.{image_refusal_number}
use Rattle.image_model.proofs.Answers.{image_refusal_number_injective}
use Rattle.model.specs.declared.Refusal.{Refusal}
use Rattle.model.specs.declared.Refusal.TheVariants.{Inconsistent}
use Rattle.model.proofs.Answers.{refusal_number_injective}
use Rattle.conversion.specs.Steps.{form_to, rewritten}
use Rattle.conversion.proofs.Steps.{rewrite_written, rewrite_refused, rewrite_unsound}
use Rattle.conversion.proofs.moving.rewrite_in.Goals as goal
use Rattle.conversion.proofs.moving.rewrite_in.Goals.{After-copy_stream}

-- the room holds the heap that the image says, of a length that is allowed
copied : (c : After-copy_stream)
    → c.copy_stream.new.out
    ≡ padded (length c.args.room.now)
    (drop (head_length (form_of c.args.image.now))
    (stream_of c.args.image.now))
copied c =
    let h = c in
    let a = h.args in
    c.copy_stream.ensures
    ∙ ap (λ (n : ℕ). padded (length a.room.now) (drop n (stream_of a.image.now))) (ap (λ (x : HeapPlace). x.start) h.heap_place-place.ensures)

extent : (c : After-copy_stream) → allowed (length c.copy_stream.new.out) ≡ true
extent c =
    ap (λ (s : List ℕ). allowed (length s)) (copied c) ∙ ap allowed (length_padded _ _) ∙ c.requires

-- the call's refusal with the number 2
call_is : (x : Refusal) → image_refusal_number (Call x) ≡ 2 → x ≡ Inconsistent
call_is x n = refusal_number_injective x Inconsistent n

pub returns-in_default : goal.returns-in_default
returns-in_default c =
    let w = c in
    let p = w in
    let a = p.args in
    rewrite_written (form_to a.way) a.out.now w.write_to-answer.new.out p.copy_stream.new.out a.accounts w.write_to-answer.result
    (extent (goal.at.returns-in_default c).After-copy_stream)
    w.write_to-answer.ensures c.in_default.field-0 c.in_default.is
    ∙ ap (λ (s : List ℕ). rewritten (form_to a.way) a.out.now s a.accounts) (copied (goal.at.returns-in_default c).After-copy_stream)

pub returns-in_default-refusal : goal.returns-in_default-refusal
returns-in_default-refusal c =
    let a = c.args in
    let e = c.in-Err in
    rewrite_refused (form_to a.way) a.out.now c.write_to-answer.new.out c.copy_stream.new.out a.accounts c.write_to-answer.result
    (extent (goal.at.returns-in_default-refusal c).After-copy_stream)
    c.write_to-answer.ensures e.refusal e.is (λ n. c.in_default-refusal.not-Call Inconsistent (image_refusal_number_injective e.refusal (Call Inconsistent) n))
    ∙ ap (λ (s : List ℕ). rewritten (form_to a.way) a.out.now s a.accounts) (copied (goal.at.returns-in_default-refusal c).After-copy_stream)

pub returns-in-Inconsistent : goal.returns-in-Inconsistent
returns-in-Inconsistent c =
    let a = c.args in
    let e = c.in-Err in
    rewrite_unsound (form_to a.way) a.out.now c.write_to-answer.new.out c.copy_stream.new.out a.accounts c.write_to-answer.result
    (extent (goal.at.returns-in-Inconsistent c).After-copy_stream)
    c.write_to-answer.ensures e.refusal e.is (ap image_refusal_number (c.in-Call.is ∙ ap Call c.in-Inconsistent.is))
    ∙ ap (λ (s : List ℕ). rewritten (form_to a.way) a.out.now s a.accounts) (copied (goal.at.returns-in-Inconsistent c).After-copy_stream)

pub returns-in_default-call : goal.returns-in_default-call
returns-in_default-call c =
    let a = c.args in
    let e = c.in-Err in
    rewrite_refused (form_to a.way) a.out.now c.write_to-answer.new.out c.copy_stream.new.out a.accounts c.write_to-answer.result
    (extent (goal.at.returns-in_default-call c).After-copy_stream)
    c.write_to-answer.ensures e.refusal e.is (λ n. c.in_default-call.not-Inconsistent (call_is c.in-Call.call (sym (ap image_refusal_number c.in-Call.is) ∙ n)))
    ∙ ap (λ (s : List ℕ). rewritten (form_to a.way) a.out.now s a.accounts) (copied (goal.at.returns-in_default-call c).After-copy_stream)
