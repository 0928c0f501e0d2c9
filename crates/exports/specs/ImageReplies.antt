-- What the numbers of an image's replies mean.
use Rattle.std.specs.Prelude.{ℕ, zero, suc, List}
use Rattle.words.specs.Words.{accounts_of}
use Rattle.image_model.specs.Answers.{Imaged, RestoredTo}
use Rattle.image.specs.Parsing.{Parts, parts_in}
use Rattle.exports.specs.declared.images.ImageReply.{ImageReply}
use Rattle.exports.specs.declared.images.ExamineReply.{ExamineReply}

-- the writer's, with the image at exit; and the reader's refusal, with heap and words at exit
abbrev pub image_reply : List ℕ → ImageReply → Imaged
image_reply o r = record { image = o; refusal = r.refusal; length = r.length }

abbrev pub read_into : List ℕ → List ℕ → ℕ → RestoredTo
read_into s w n = record { heap = s; accounts = accounts_of w; refusal = n }

-- of an image's own bytes: the numbers of its form and its heap's length, zeros where they refuse it
unfoldable pub numbers_unless : ℕ → ℕ → ℕ → ExamineReply
numbers_unless zero form length = record { refusal = 0; form = form; heap_length = length }
numbers_unless (suc n) form length = record { refusal = suc n; form = 0; heap_length = 0 }

abbrev pub examine_reply : Parts → ExamineReply
examine_reply x = numbers_unless x.refusal x.form.number x.size

abbrev pub examine : List ℕ → ExamineReply
examine i = examine_reply (parts_in i)
