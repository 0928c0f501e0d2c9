-- The writes that carving and freeing make on a heap's bytes, one by one. That they are what the definitions of `model` leave is `proofs/CarveBytes.antt`
-- and `proofs/FreeBytes.antt`.
use Rattle.std.specs.Prelude.{ℕ, ◌+◌, ◌-◌, ◌/◌, List, cond, ◌&&◌, length, ltb}
use Rattle.layout.specs.Bytes.{zero_part, write_number}
use Rattle.layout.specs.Blocks.{write_header}

-- the header of what is left over at a place: m bytes behind a block of `back` units; where nothing is left, s as it is
unfoldable pub write_rest : ℕ → ℕ → ℕ → List ℕ → List ℕ
write_rest at m back s = cond (ltb 0 m) (write_header at (record { size = m / 8; back = back; serial = 0 }) s) s

-- the units of the block in front of the next one: those of what is left over, m bytes, or where nothing is left those of the block before
unfoldable pub units_after : ℕ → ℕ → ℕ
units_after back m = cond (ltb 0 m) (m / 8) back

-- n zero bytes at a base, and in front of them the header of an object
unfoldable pub write_object : ℕ → ℕ → ℕ → ℕ → List ℕ → List ℕ
write_object base n back serial s =
    write_header (base - 8) (record { size = (n + 8) / 8; back = back; serial = serial }) (zero_part base (base + n) s)

-- the back size of the block that starts at a place; where none starts there, s as it is
unfoldable pub write_next : ℕ → ℕ → List ℕ → List ℕ
write_next at back s = cond (ltb at (length s)) (write_number 2 (at + 2) back s) s

-- all writes for an object of n bytes at a base, cut out of the free block from `at` up to `end`, which stands behind a block of `back` units
unfoldable pub carve_bytes : ℕ → ℕ → ℕ → ℕ → ℕ → ℕ → List ℕ → List ℕ
carve_bytes at end base n back serial s =
    let front = base - 8 - at in
    let behind = end - (base + n) in
    let own = (n + 8) / 8 in
    write_next end (units_after own behind)
    (write_rest (base + n) behind own (write_object base n (units_after back front) serial (write_rest at front back s)))

-- the block from start up to mid, behind a block of `back` units, and that from mid up to stop become one free block; where one of them has no
-- bytes, s as it is
unfoldable pub join_bytes : ℕ → ℕ → ℕ → ℕ → List ℕ → List ℕ
join_bytes start mid stop back s =
    let n = (stop - start) / 8 in
    cond (ltb start mid && ltb mid stop)
    (write_next stop n (write_header start (record { size = n; back = back; serial = 0 }) (zero_part mid (mid + 8) s)))
    s

-- all writes that free the object of n bytes at a base, whose block stands behind one of `back` units: the free block that is left goes from start
-- up to stop, and stands behind a block of `before` units if it starts in front of the object's block
unfoldable pub free_bytes : ℕ → ℕ → ℕ → ℕ → ℕ → ℕ → List ℕ → List ℕ
free_bytes base n start stop back before s =
    join_bytes start (base - 8) stop before (join_bytes (base - 8) (base + n) stop back (write_object base n back 0 s))

-- all writes that unquarantine the block of n bytes at a place, in the same way
unfoldable pub unquarantine_bytes : ℕ → ℕ → ℕ → ℕ → ℕ → ℕ → List ℕ → List ℕ
unquarantine_bytes at n start stop back before s =
    join_bytes start at stop before (join_bytes at (at + n) stop back (write_header at (record { size = n / 8; back = back; serial = 0 }) s))
