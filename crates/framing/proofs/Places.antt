-- Where a byte of the stream stands in the image.
use Rattle.std.proofs.Common.{◌≡◌, ℕ, zero, suc, ◌+◌, ◌-◌, ◌*◌, ◌/◌, ◌%◌, ◌<◌, ◌≤◌, Bool, true, false, ltb, List, ◌++◌, length, get_or, take, drop, set, sym}
use Rattle.std.proofs.Common.{refl, ap, ◌∙◌, append-nil, zero-add, arith, length-append, length-drop, get_or-drop, get_or-take, get_or-append-add, ltb-false}
use Rattle.std.proofs.Common.{ltb-true}
use lib.ListN.{get_or-append, get_or-eq_default}
use lib.Seq.{drop-length}
use Rattle.layout.specs.Bytes.{overwrite}
use Rattle.layout.proofs.Numbers.{part_length}
use Rattle.layout.proofs.Overwrite.{overwrite_fits}
use Rattle.framing.specs.Frames.{padded, uncut, stream_of}
use Rattle.framing.proofs.Padding.{length_padded}
use Rattle.framing.proofs.Fills.{fill_more}

uncut_whole : (k : ℕ) (i : List ℕ) → 512 * k ≤ length i → length (uncut k i) ≡ 504 * k
unfolding uncut
uncut_whole zero i h = refl
uncut_whole (suc k) i h =
    let ih = uncut_whole k (drop 512 i) (simp length-drop (omega arith)) in
    let l = part_length 504 4 i (omega arith) in
    simp length-append (omega arith)

-- the stream is as long as its frames make it
pub stream_length : (i : List ℕ) → length (stream_of i) ≡ 504 * (length i / 512)
unfolding stream_of
stream_length i = uncut_whole (length i / 512) i (omega arith)

uncut_at : (k at : ℕ) (i : List ℕ) → 512 * k ≤ length i → at / 504 < k → get_or (uncut k i) at 0 ≡ get_or i (512 * (at / 504) + 4 + at % 504) 0
unfolding uncut
uncut_at zero at i h l = absurd (omega arith)
uncut_at (suc k) at i h l = go (ltb at 504) refl (λ g. uncut_at k (at - 504) (drop 512 i) (simp length-drop (omega arith)) (omega arith))
  where
    p : List ℕ
    p = take 504 (drop 4 i)

    n : length p ≡ 504
    n = part_length 504 4 i (omega arith)

    go : (t : Bool) → ltb at 504 ≡ t
        → (504 ≤ at → get_or (uncut k (drop 512 i)) (at - 504) 0 ≡ get_or (drop 512 i) (512 * ((at - 504) / 504) + 4 + (at - 504) % 504) 0)
        → get_or (take 504 (drop 4 i) ++ uncut k (drop 512 i)) at 0 ≡ get_or i (512 * (at / 504) + 4 + at % 504) 0
    go true t ih =
        let s = ltb-true at 504 t in
        let e : 4 + at ≡ 512 * (at / 504) + 4 + at % 504 = omega arith in
        get_or-append p (uncut k (drop 512 i)) 0 at (omega (arith, n)) ∙ get_or-take 504 (drop 4 i) at 0 s ∙ get_or-drop 4 i at 0
        ∙ ap (λ (x : ℕ). get_or i x 0) e
    go false t ih =
        let s = ltb-false at 504 t in
        let j = at - 504 in
        let e : at ≡ length p + j = omega (arith, n) in
        let f : 512 + (512 * (j / 504) + 4 + j % 504) ≡ 512 * (at / 504) + 4 + at % 504 = omega arith in
        ap (λ (x : ℕ). get_or (p ++ uncut k (drop 512 i)) x 0) e
        ∙ get_or-append-add p (uncut k (drop 512 i)) j 0
        ∙ ih s
        ∙ get_or-drop 512 i (512 * (j / 504) + 4 + j % 504) 0
        ∙ ap (λ (x : ℕ). get_or i x 0) f

pub stream_inside : (i : List ℕ) (at : ℕ) → at / 504 < length i / 512 → get_or i (512 * (at / 504) + 4 + at % 504) 0 ≡ get_or (stream_of i) at 0
unfolding stream_of
stream_inside i at h = sym (uncut_at (length i / 512) at i (omega arith) h)

pub stream_past : (i : List ℕ) (at : ℕ) → length i / 512 ≤ at / 504 → 0 ≡ get_or (stream_of i) at 0
stream_past i at h = let l = stream_length i in sym (get_or-eq_default (stream_of i) 0 (omega arith))

-- a copy: one byte more, and all of them
pub copy_more : (from i x : ℕ) (s out now : List ℕ) → i < length out → now ≡ overwrite 0 (padded i (drop from s)) out → x ≡ get_or s (from + i) 0
    → set now i x ≡ overwrite 0 (padded (i + 1) (drop from s)) out
copy_more from i x s out now h e f =
    let z = zero-add i in
    rw z at (fill_more 0 from i x s out now (omega arith) e f)

pub copy_all : (n : ℕ) (s out : List ℕ) → n ≡ length out → overwrite 0 (padded n s) out ≡ padded n s
copy_all n s out e =
    let l = length_padded n s in
    rw (overwrite_fits 0 (padded n s) out (omega arith), zero-add (length (padded n s)), l, e, drop-length out) (append-nil (padded (length out) s))
