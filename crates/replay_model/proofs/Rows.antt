-- Replays that are computed: the example of rule 11.16, and the corners of section 11. One table, one theorem, and others for long inputs and for numbers.
use Prim.Native.Nat.{ℕ, zero, suc, ◌-◌}
use Prim.Native.String.{String}
use mathlib.Core.Path.{◌≡◌, refl}
use mathlib.Core.List.{List, [], ◌∷◌, ◌++◌, map}
use lib.ListN.{length, replicate}
use Rattle.replay_model.specs.Text.{text, decimal}
use Rattle.replay_model.specs.Replay.{replay}
use Rattle.replay_model.proofs.Computing.{computing}

-- so many grants of zero, as an opening's line has them
pub grants_of_zero : ℕ → List ℕ
grants_of_zero zero = []
grants_of_zero (suc n) = text " 0" ++ grants_of_zero n

-- an input and what it prints; an input may have so many grants of zero between two texts
pub data Row : Type 0 where
  ◌prints◌ : String → String → Row
  ◌and◌zeros◌prints◌ : String → ℕ → String → String → Row

infix 5 ◌prints◌ ◌and◌zeros◌prints◌
pub got : Row → List ℕ
got (s prints t) = replay (text s)
got (s and n zeros u prints t) = replay (text s ++ (grants_of_zero n ++ text u))

pub wanted : Row → List ℕ
wanted (s prints t) = text t
wanted (s and n zeros u prints t) = text t

pub rows : List Row
rows =
    -- rule 11.16
    ("open 128 100 1000" and 30 zeros "\nalloc 0 10\nalloc 0 68\nfree 1 8 16 1\nall 0\n" prints "ok\nok 8 16 1\nno 8\nno 6\nok 24\n0 128 0\n")
    -- each call's answer, and the list of a heap with live blocks
    ∷ ("open 128 500 500" and 30 zeros "\narray 0 2 8\nclaim 1 8 16 1\nfree 0 8 16 1\nrealloc 1 8 16 1 20\nall 0\nclaim 1 32 24 2\nfree 1 32 24 2\n"
    prints "ok\nok 8 16 1\nok 16\nok 24\nok 32 24 2\nok 0\nok 24\nok 0\n0 24 0\n24 32 2\n56 72 0\n")
    -- an opening alone; the refused lengths; what follows a refused open is not looked at
    ∷ ("open 64" and 32 zeros "\n" prints "ok\n0 64 0\n")
    ∷ ("open 56" and 32 zeros "\nwhat\n\nalloc" prints "no 1\n")
    ∷ ("open 65" and 32 zeros "\n" prints "no 1\n")
    ∷ ("open 32776" and 32 zeros "\n" prints "no 1\n")
    -- shape comes before meaning
    ∷ ("open 56" and 31 zeros "\n" prints "bad\n")
    ∷ ("open 64" and 33 zeros "\n" prints "bad\n")
    -- no line, an empty line, a line without its line feed
    ∷ ("" prints "bad\n")
    ∷ ("\n" prints "bad\n")
    ∷ ("open 64" and 32 zeros "" prints "bad\n")
    ∷ ("open 64" and 32 zeros "\n\n" prints "ok\nbad\n")
    ∷ ("open 64" and 32 zeros "\nall 0" prints "ok\nbad\n")
    ∷ ("open 64" and 32 zeros "\nall 0\nall 0\nall" prints "ok\nok 0\nok 0\nbad\n")
    -- the first line opens, and no other
    ∷ ("all 0\n" prints "bad\n")
    ∷ ("open 64" and 32 zeros "\nopen 56 0 0 0 0 0 0 0 0 0 0 0 0 0 0 0 0 0 0 0 0 0 0 0 0 0 0 0 0 0 0 0 0\nall 0\n" prints "ok\nbad\n")
    -- numbers
    ∷ ("open 64 4294967295" and 31 zeros "\nalloc 4294967295 1\nalloc 32 1\nalloc 0 4294967295\nfree 0 4294967295 0 0\nalloc 0 4294967296\n"
    prints "ok\nno 3\nno 3\nno 4\nno 5\nbad\n")
    ∷ ("open 64" and 32 zeros "\nall 18446744073709551616\n" prints "ok\nbad\n")
    ∷ ("open 64" and 32 zeros "\nall 00\n" prints "ok\nbad\n")
    ∷ ("open 64" and 32 zeros "\nalloc 0 01\n" prints "ok\nbad\n")
    ∷ ("open 64" and 32 zeros "\nalloc 0 +1\n" prints "ok\nbad\n")
    ∷ ("open 64" and 32 zeros "\nalloc 0 1:\n" prints "ok\nbad\n")
    ∷ ("open 64" and 32 zeros "\nalloc 0 1/\n" prints "ok\nbad\n")
    -- spaces, other bytes and other words
    ∷ ("open 64" and 32 zeros "\nall 0 \n" prints "ok\nbad\n")
    ∷ ("open 64" and 32 zeros "\n all 0\n" prints "ok\nbad\n")
    ∷ ("open 64" and 32 zeros "\nall  0\n" prints "ok\nbad\n")
    ∷ ("open 64" and 32 zeros "\nall\t0\n" prints "ok\nbad\n")
    ∷ ("open 64" and 32 zeros "\r\nall 0\r\n" prints "bad\n")
    ∷ ("open 64" and 32 zeros "\nALL 0\n" prints "ok\nbad\n")
    ∷ ("open 64" and 32 zeros "\nal 0\n" prints "ok\nbad\n")
    ∷ ("open 64" and 32 zeros "\nalls 0\n" prints "ok\nbad\n")
    ∷ ("open 64" and 32 zeros "\nremaining 0\n" prints "ok\nbad\n")
    -- too few and too many numbers
    ∷ ("open 64" and 32 zeros "\nall\n" prints "ok\nbad\n")
    ∷ ("open 64" and 32 zeros "\nall 0 0\n" prints "ok\nbad\n")
    ∷ ("open 64" and 32 zeros "\nalloc 0 1 1 1 1 1 1 1 1 1 1 1 1\n" prints "ok\nbad\n")
    ∷ []

pub rows_run : map got rows ≡ map wanted rows
unfolding computing grants_of_zero got wanted rows
rows_run = refl

-- an input of 65,536 bytes is read, and a longer one is not, whatever its first line is
pub filled : String → ℕ → List ℕ
filled s n =
    let line = text s ++ (grants_of_zero 32 ++ text "\n") in
    line ++ replicate (n - length line) 10

pub long_rows : (replay (filled "open 56" 65536) ≡ text "no 1\n")
    × (replay (filled "open 64" 65536) ≡ text "ok\nbad\n")
    × (replay (filled "open 56" 65537) ≡ text "bad\n")
    × (replay (filled "open 64" 65537) ≡ text "bad\n")
unfolding computing grants_of_zero filled
long_rows = (refl, refl, refl, refl)

-- numbers as they are written
pub decimals_run : map decimal (0 ∷ 9 ∷ 10 ∷ 99 ∷ 100 ∷ 32768 ∷ 1000000000 ∷ 4294967295 ∷ [])
    ≡ text "0" ∷ text "9" ∷ text "10" ∷ text "99" ∷ text "100" ∷ text "32768" ∷ text "1000000000" ∷ text "4294967295" ∷ []
unfolding computing
decimals_run = refl
