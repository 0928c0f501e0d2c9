-- Where a new object goes, and what becomes of blocks (rules 8.5 to 8.8 and 8.18 to 8.21).
use Rattle.std.specs.Prelude.{ℕ, zero, suc, ◌+◌, ◌-◌, ◌/◌, List, [], ◌∷◌, ◌++◌, Bool, true, not, cond, ◌&&◌, ◌||◌}
use Rattle.std.specs.Prelude.{length, take, drop, replicate, leb, eqb, Option, Some, None}
use Rattle.accounts.specs.declared.Hold.{Hold}
use Rattle.layout.specs.Blocks.{Block, size, occupied, QUARANTINED, quarantined, live}
use Rattle.model.specs.Consistent.{held}

-- the bytes from start up to end lie outside every occupied block, where the first block starts at a place
unfoldable pub outside_occupied : ℕ → ℕ → ℕ → List Block → Bool
outside_occupied start end at [] = true
outside_occupied start end at (b ∷ bs) =
    (not (occupied b) || (leb end at || leb (at + size b) start)) && outside_occupied start end (at + size b) bs

-- rule 8.6: header and object, with the base at b, lie in the heap and meet no occupied block
unfoldable pub suitable : ℕ → List Block → ℕ → ℕ → Bool
suitable H bs n b = leb 8 b && (leb (b + n) H && outside_occupied (b - 8) (b + n) 0 bs)

-- the first of from, from + step, .. that passes a test, of so many candidates
unfoldable pub first_candidate : (ℕ → Bool) → ℕ → ℕ → ℕ → Option ℕ
first_candidate p zero step from = None
first_candidate p (suc count) step from =
    let later = first_candidate p count step (from + step) in
    cond (p from) (Some from) later

-- rule 8.6: the least suitable base, of all multiples of the alignment up to H
unfoldable pub lowest_base : ℕ → List Block → ℕ → ℕ → Option ℕ
lowest_base H bs alignment n = first_candidate (suitable H bs n) (suc (H / alignment)) alignment 0

-- rule 8.7: what is left at one end is a free block of so many bytes with the header; none where nothing is left
unfoldable pub left_over : ℕ → List ℕ → List Block
left_over zero body = []
left_over (suc n) body = record { serial = 0; body = body } ∷ []

-- rules 8.7 and 8.8: a free block at a place, cut so that an object of n zero bytes has its base there
unfoldable pub cut_block : ℕ → ℕ → ℕ → ℕ → Block → List Block
cut_block base n serial at b =
    left_over (base - 8 - at) (take (base - 16 - at) b.body)
    ++ (record { serial = serial; body = replicate n 0 } ∷ left_over (at + size b - (base + n)) (drop (base + n - at) b.body))

-- the blocks with the new object in the free block where its bytes lie
unfoldable pub carve_from : ℕ → ℕ → ℕ → ℕ → List Block → List Block
carve_from base n serial at [] = []
carve_from base n serial at (b ∷ bs) =
    let later = b ∷ carve_from base n serial (at + size b) bs in
    let here = cut_block base n serial at b ++ bs in
    cond (not (occupied b) && (leb (at + 8) base && leb (base + n) (at + size b))) here later

unfoldable pub carve : ℕ → ℕ → ℕ → List Block → List Block
carve base n serial bs = carve_from base n serial 0 bs

-- rules 8.18 and 8.19: a free block joins a free block behind it, whose header becomes zero
unfoldable pub join_front : Block → List Block → List Block
join_front b [] = b ∷ []
join_front b (c ∷ cs) =
    cond (occupied b || occupied c) (b ∷ c ∷ cs) (record { serial = 0; body = b.body ++ (replicate 8 0 ++ c.body) } ∷ cs)

-- rules 8.18 and 22.3: what becomes of a block that nobody holds. In a plain heap it is free, in one of the second kind quarantined; its bytes are zero
abbrev pub vacant : ℕ → ℕ
vacant kind = cond (eqb kind 0) 0 QUARANTINED

unfoldable pub vacate : ℕ → Block → Block
vacate kind b = record { serial = vacant kind; body = replicate (length b.body) 0 }

-- a block that is vacated: it is live, and no record holds it
abbrev pub vacates : List Hold → Block → Bool
vacates hs b = live b && not (held hs b.serial)

-- a block that settling leaves alone: it is free, or a record holds it
abbrev pub stays : List Hold → Block → Bool
stays hs b = not (live b) || held hs b.serial

-- each block that passes a test becomes another
unfoldable pub changed : (Block → Bool) → (Block → Block) → List Block → List Block
changed p f [] = []
changed p f (b ∷ bs) = cond (p b) (f b) b ∷ changed p f bs

-- every free block joins those beside it
unfoldable pub join_free : List Block → List Block
join_free [] = []
join_free (b ∷ bs) = join_front b (join_free bs)

-- and what is free then joins
unfoldable pub reclaim : (Block → Bool) → (Block → Block) → List Block → List Block
reclaim p f bs = join_free (changed p f bs)

-- the blocks once only these records are left
unfoldable pub settle : ℕ → List Hold → List Block → List Block
settle kind hs bs = reclaim (vacates hs) (vacate kind) bs

-- a sweep: every quarantined block is free and joins those beside it; its bytes stay
abbrev pub unquarantine : Block → Block
unquarantine b = record { serial = 0; body = b.body }

unfoldable pub swept : List Block → List Block
swept bs = reclaim quarantined unquarantine bs

-- a block that a sweep leaves
abbrev pub not_quarantined : Block → Bool
not_quarantined b = not (quarantined b)

-- the body of the block with a serial; another body in its place
unfoldable pub body_of : ℕ → List Block → List ℕ
body_of serial [] = []
body_of serial (b ∷ bs) =
    let later = body_of serial bs in
    cond (eqb b.serial serial) b.body later

-- the object with a serial begins with these bytes, as many as it has room for
unfoldable pub copy_into : ℕ → List ℕ → List Block → List Block
copy_into serial new [] = []
copy_into serial new (b ∷ bs) =
    let copied : Block = record { serial = serial; body = take (length b.body) new ++ drop (length new) b.body } in
    cond (eqb b.serial serial) copied b ∷ copy_into serial new bs
