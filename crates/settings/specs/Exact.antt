-- What is said of stores and answers without reading from the front: which bytes are a run of entries, and which entry answers.
use Rattle.std.specs.Prelude.{ℕ, ◌+◌, ◌≤◌, ◌<◌, ◌≡◌, List, [], ◌∷◌, ◌++◌, true, false, length, Some}
use Rattle.settings.specs.declared.Span.{Span}
use Rattle.settings.specs.declared.Entry.{Entry}
use Rattle.settings.specs.Entries.{stored}
use Rattle.settings.specs.Find.{answers, value_of}
use Rattle.settings.specs.Add.{entry_bytes}

-- a setting by its parts
pub record Setting : Type 0 where
  pub version : ℕ
  pub name : ℕ
  pub value : List ℕ

-- the bytes of settings, one behind the other, and the entries that these are from a place on
unfoldable pub run : List Setting → List ℕ
run [] = []
run (w ∷ ws) = entry_bytes w.version w.name w.value ++ run ws

abbrev pub entry_of : Setting → ℕ → Entry
entry_of w at = record { version = w.version; name = w.name; start = at + 4; end = at + 4 + length w.value }

unfoldable pub placed : ℕ → List Setting → List Entry
placed at [] = []
placed at (w ∷ ws) = entry_of w at ∷ placed (at + 4 + length w.value) ws

-- rule 20.3, behind a version: versions fit two bytes and don't fall, and values have at most 64 bytes
abbrev pub Rising : ℕ → List Setting → Type 0
Rising last [] = Unit {0}
Rising last (w ∷ ws) = (last ≤ w.version) × ((w.version < 65536) × ((length w.value ≤ 64) × Rising w.version ws))

-- bytes are a run of such settings
pub record IsRun (last : ℕ) (s : List ℕ) : Type 0 where
  pub settings : List Setting
  pub rising : Rising last settings
  pub is : s ≡ run settings

-- rule 20.5: none of these entries answers; the last of them that answers has its value there
abbrev pub NoneAnswers : ℕ → ℕ → List Entry → Type 0
NoneAnswers name version [] = Unit {0}
NoneAnswers name version (e ∷ es) = (answers name version e ≡ false) × NoneAnswers name version es

pub record LastAnswers (name version : ℕ) (es : List Entry) (x : Span) : Type 0 where
  pub front : List Entry
  pub last : Entry
  pub behind : List Entry
  pub split : es ≡ front ++ (last ∷ behind)
  pub answering : answers name version last ≡ true
  pub silent : NoneAnswers name version behind
  pub value : x ≡ value_of last

-- rule 20.6: both stores are well formed, and no entry of either answers
pub record Missed (name version : ℕ) (b : List ℕ) (bu : ℕ) (d : List ℕ) (du : ℕ) : Type 0 where
  pub own : List Entry
  pub others : List Entry
  pub own_stored : stored b bu ≡ Some own
  pub others_stored : stored d du ≡ Some others
  pub own_silent : NoneAnswers name version own
  pub others_silent : NoneAnswers name version others
