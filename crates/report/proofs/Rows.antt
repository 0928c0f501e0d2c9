-- The definitions computed: good and bad lines, texts of 0, 1, 32 and 33 lines, which refusal comes first, and lent texts around 1,728 bytes.
use mathlib.Core.Path.{◌≡◌, refl}
use mathlib.Core.List.{List, [], ◌∷◌, ◌++◌, map}
use Prim.Native.Nat.{ℕ, zero, suc}
use lib.ListN.{length, set, take, replicate}
use Rattle.std.specs.Prelude.{Ok, Err}
use Rattle.report.specs.Words.{digit, value, digits, number, line_text}
use Rattle.report.specs.Import.{report_refusal_number, line_of, import_of, import_told}
use Rattle.report.specs.Export.{lines_text, export_of, text_told}
use Rattle.report.specs.declared.ReportRefusal.{ReportRefusal}
use Rattle.report.specs.declared.ReportRefusal.TheVariants.{Character, Reserved, TooMany, Room}
use Rattle.report.specs.declared.Imported.{Imported}
use Rattle.report.proofs.Computing.{computing}

-- a word of zeros with the space before it, five of them and the line feed; and the line of 4,096
word : List ℕ
word = 32 ∷ replicate 8 48

tail : List ℕ
tail = word ++ (word ++ (word ++ (word ++ (word ++ (10 ∷ [])))))

line : List ℕ
line = 48 ∷ 48 ∷ 48 ∷ 48 ∷ 49 ∷ 48 ∷ 48 ∷ 48 ∷ tail

-- so many lines
many : ℕ → List ℕ → List ℕ
many zero l = []
many (suc n) l = l ++ many n l

-- what is accepted, and what is refused at a line
good : List ℕ → Imported
good gs = record { grants = gs; answer = Ok tt }

bad : ReportRefusal → ℕ → Imported
bad r n = record { grants = replicate 32 0; answer = Err (record { refusal = r; line = n }) }

shown : Unit {0}
unfolding computing word tail line many good bad
shown = tt

-- the numbers of the refusals
number_rows : map report_refusal_number (Character ∷ Reserved ∷ TooMany ∷ Room ∷ []) ≡ 31 ∷ 32 ∷ 33 ∷ 34 ∷ []
number_rows = refl

-- digits: both ends of each kind, and the characters beside them; no upper case
digit_rows : (map digit (0 ∷ 9 ∷ 10 ∷ 15 ∷ []) ≡ 48 ∷ 57 ∷ 97 ∷ 102 ∷ [])
    × (map value (48 ∷ 57 ∷ 97 ∷ 102 ∷ []) ≡ 0 ∷ 9 ∷ 10 ∷ 15 ∷ [])
    × (map value (0 ∷ 10 ∷ 32 ∷ 47 ∷ 58 ∷ 65 ∷ 70 ∷ 96 ∷ 103 ∷ 255 ∷ []) ≡ replicate 10 16)
    × (digits 8 4096 ≡ 48 ∷ 48 ∷ 48 ∷ 48 ∷ 49 ∷ 48 ∷ 48 ∷ 48 ∷ [])
    × (digits 8 2882400018 ≡ 97 ∷ 98 ∷ 99 ∷ 100 ∷ 101 ∷ 102 ∷ 49 ∷ 50 ∷ [])
    × (digits 8 4294967295 ≡ replicate 8 102)
    × (number (97 ∷ 98 ∷ 99 ∷ 100 ∷ 101 ∷ 102 ∷ 49 ∷ 50 ∷ []) ≡ 2882400018)
    × (number (replicate 8 102) ≡ 4294967295)
unfolding shown
digit_rows = (refl, refl, refl, refl, refl, refl, refl, refl)

-- a line: its 53 characters and the line feed; the greatest grant; more text behind it
line_rows : (line_text 4096 ≡ line)
    × (length line ≡ 54)
    × (line_of line ≡ Ok 4096)
    × (line_of (replicate 8 102 ++ tail) ≡ Ok 4294967295)
    × (line_of (replicate 8 48 ++ tail) ≡ Ok 0)
    × (line_of (line ++ (7 ∷ [])) ≡ Ok 4096)
unfolding shown
line_rows = (refl, refl, refl, refl, refl, refl)

-- a wrong character or place: upper case, a tab, two spaces, a carriage return, a line feed too early, none at the end, cut short, moved
wrong_rows : (line_of (set line 7 65) ≡ Err Character)
    × (line_of (set line 0 71) ≡ Err Character)
    × (line_of (set line 8 9) ≡ Err Character)
    × (line_of (set line 9 32) ≡ Err Character)
    × (line_of (set line 52 13) ≡ Err Character)
    × (line_of (set line 53 13) ≡ Err Character)
    × (line_of (take 53 line ++ (13 ∷ 10 ∷ [])) ≡ Err Character)
    × (line_of (take 44 line ++ (10 ∷ [])) ≡ Err Character)
    × (line_of (set line 44 10) ≡ Err Character)
    × (line_of (set line 53 32) ≡ Err Character)
    × (line_of (take 53 line) ≡ Err Character)
    × (line_of (32 ∷ line) ≡ Err Character)
    × (line_of (10 ∷ []) ≡ Err Character)
unfolding shown
wrong_rows = (refl, refl, refl, refl, refl, refl, refl, refl, refl, refl, refl, refl, refl)

-- a word after the first that is not zero, in each of the five and at both ends of one; and 31 before 32 in one line
zero_rows : (line_of (set line 9 49) ≡ Err Reserved)
    × (line_of (set line 16 102) ≡ Err Reserved)
    × (line_of (set line 18 49) ≡ Err Reserved)
    × (line_of (set line 34 49) ≡ Err Reserved)
    × (line_of (set line 43 97) ≡ Err Reserved)
    × (line_of (set line 52 49) ≡ Err Reserved)
    × (line_of (set (set line 9 49) 53 32) ≡ Err Character)
    × (line_of (set (set line 9 49) 30 65) ≡ Err Character)
unfolding shown
zero_rows = (refl, refl, refl, refl, refl, refl, refl, refl)

-- import: no line, one line, two different ones, 32 of them; a 33rd line, a good one or anything else
import_rows : (import_of [] ≡ good (replicate 32 0))
    × (import_of line ≡ good (4096 ∷ replicate 31 0))
    × (import_of (line ++ (replicate 8 102 ++ tail)) ≡ good (4096 ∷ 4294967295 ∷ replicate 30 0))
    × (import_of (many 32 line) ≡ good (replicate 32 4096))
    × (import_of (many 33 line) ≡ bad TooMany 33)
    × (import_of (many 32 line ++ (10 ∷ [])) ≡ bad TooMany 33)
    × (import_of (many 40 line) ≡ bad TooMany 33)
unfolding shown
import_rows = (refl, refl, refl, refl, refl, refl, refl)

-- the first bad line decides, by its number from 1: in the first line, the second, the last; an earlier 32 before a later 31, and 31 before 33
bad_rows : (import_of (10 ∷ []) ≡ bad Character 1)
    × (import_of (take 53 line) ≡ bad Character 1)
    × (import_of (line ++ take 53 line) ≡ bad Character 2)
    × (import_of (line ++ (10 ∷ line)) ≡ bad Character 2)
    × (import_of (take 53 line ++ (13 ∷ 10 ∷ line)) ≡ bad Character 1)
    × (import_of (line ++ (set line 52 49 ++ set line 0 65)) ≡ bad Reserved 2)
    × (import_of (line ++ (set line 0 65 ++ set line 52 49)) ≡ bad Character 2)
    × (import_of (many 31 line ++ (set line 52 49 ++ line)) ≡ bad Reserved 32)
    × (import_of (many 31 line ++ take 53 line) ≡ bad Character 32)
unfolding shown
bad_rows = (refl, refl, refl, refl, refl, refl, refl, refl, refl)

-- export: 1,727 bytes have no room, 1,728 have, and a byte behind them stays
export_rows : (export_of [] (replicate 32 0) ≡ record { text = []; answer = Err Room })
    × (export_of (replicate 1727 1) (replicate 32 4096) ≡ record { text = replicate 1727 1; answer = Err Room })
    × (export_of (replicate 1728 1) (replicate 32 4096) ≡ record { text = many 32 line; answer = Ok 1728 })
    × (export_of (replicate 1730 1) (replicate 32 4096) ≡ record { text = many 32 line ++ (1 ∷ 1 ∷ []); answer = Ok 1728 })
    × (take 108 (lines_text (4294967295 ∷ replicate 31 4096)) ≡ replicate 8 102 ++ (tail ++ line))
unfolding shown
export_rows = (refl, refl, refl, refl, refl)

-- answers in numbers: both cases of each, and every refusal
told_rows : (import_told (good (7 ∷ [])) ≡ record { grants = 7 ∷ []; refusal = 0; line = 0 })
    × (import_told (bad Reserved 2) ≡ record { grants = replicate 32 0; refusal = 32; line = 2 })
    × (map (λ (r : ReportRefusal). (import_told (bad r 1)).refusal) (Character ∷ Reserved ∷ TooMany ∷ Room ∷ [])
    ≡ 31 ∷ 32 ∷ 33 ∷ 34 ∷ [])
    × (text_told (1 ∷ []) (Ok 1728) ≡ record { text = 1 ∷ []; refusal = 0; length = 1728 })
    × (text_told (1 ∷ []) (Err Room) ≡ record { text = 1 ∷ []; refusal = 34; length = 0 })
unfolding shown
told_rows = (refl, refl, refl, refl, refl)
