-- `allocation::grant` meets its contract: each test is a line of the definition behind the first four, in its order; past all of them the object is cut
-- where the survey found room, and the accounts change as the definition says.
use Rattle.std.specs.Prelude.{Ok}
use Prim.Native.Nat.{ℕ, ◌+◌}
use native.Mathlib.Omega.{arith}
use mathlib.Core.Path.{◌≡◌, refl, ap, sym, ◌∙◌}
use Rattle.layout.specs.Bytes.{Octets}
use Rattle.writer.specs.Carving.{carve_in}
use Rattle.words.specs.Words.{accounts_of}
use Rattle.results.specs.Results.{handle_result}
use Rattle.allocation.proofs.Granted.{booked_at, result_of}
use Rattle.allocation.proofs.Grants.{shares_kept, size_small, room_there, exceeds, unrecorded, unnumbered, unplaced, made}
use Rattle.allocation.proofs.allocating.grant.Goals as goal
use Rattle.allocation.proofs.allocating.grant.Goals.{After-slice_known-1}

-- the heap's bytes are bytes
octets : (c : After-slice_known-1) → Octets c.args.heap.now
octets c i = (c.slice_known-1.given i).fits

pub overflow_cast-length : goal.overflow_cast-length
overflow_cast-length c = omega (arith, size_small c.requires.requested)

pub overflow_add-charge : goal.overflow_add-charge
overflow_add-charge c = omega (arith, size_small c.requires.requested)

pub returns-then-remaining-charge-clause-holds : goal.returns-then-remaining-charge-clause-holds
returns-then-remaining-charge-clause-holds c n d = exceeds c.requires d _ (omega (arith, c.if-remaining-charge.true, c.remaining.ensures)) refl

pub returns-in_default-clause-holds : goal.returns-in_default-clause-holds
returns-in_default-clause-holds c n d =
    unrecorded c.requires d _ (omega (arith, c.remaining.ensures)) c.in_default.is refl

pub returns-then-last-ge-GREATEST_SERIAL-clause-holds : goal.returns-then-last-ge-GREATEST_SERIAL-clause-holds
returns-then-last-ge-GREATEST_SERIAL-clause-holds c n d =
    unnumbered c.requires d _ (omega (arith, c.remaining.ensures)) c.in-Some.place c.in-Some.is
    (omega (arith, c.if-last-ge-GREATEST_SERIAL.true, c.last_serial-last.ensures)) refl

pub returns-in_default-fit-clause-holds : goal.returns-in_default-fit-clause-holds
returns-in_default-fit-clause-holds c n d =
    unplaced c.requires d _ (omega (arith, c.remaining.ensures)) c.in-Some.place c.in-Some.is
    (omega (arith, c.if-last-ge-GREATEST_SERIAL.false, c.last_serial-last.ensures)) c.in_default-fit.is refl

pub given-requires : goal.given-requires
given-requires c =
    let r = room_there c.requires c.in-Some-fit.block c.in-Some-fit.base c.in-Some-fit.is in
    omega (arith, r.high, r.inside)

pub returns-clause-holds : goal.returns-clause-holds
returns-clause-holds c n d =
    let a = c.args in
    let k = accounts_of a.words.now in
    let b = c.in-Some-fit in
    let at = c.in-Some.place in
    let serial = ap (λ (t : ℕ). t + 1) c.last_serial-last.ensures in
    let booked = c.book.ensures.holds ∙ (λ j. booked_at a.wanted.quota a.wanted.need at (serial j) k) in
    let answer = c.given.ensures ∙ (λ j. Ok (record { base = b.base; length = a.wanted.need; serial = serial j })) in
    let done : handle_result c.book.new.words c.given.result ≡ result_of a.wanted.quota a.wanted.need at b.base k =
    (λ j. record { accounts = booked j; answer = answer j }) in
    made c.requires d _ (omega (arith, c.remaining.ensures)) at c.in-Some.is
    (omega (arith, c.if-last-ge-GREATEST_SERIAL.false, c.last_serial-last.ensures)) (octets (goal.at.returns-clause-holds c).After-slice_known-1)
    b.block b.base b.is c.carve.new.heap
    (c.carve.ensures ∙ ap (λ (t : ℕ). carve_in b.block b.base a.wanted.need t a.heap.now) serial) done

pub returns-clause-keeps : goal.returns-clause-keeps
returns-clause-keeps c t l =
    let a = c.args in
    let x = c.last_serial-last in
    shares_kept t a.wanted.quota a.wanted.need c.in-Some.place (x.result + 1) (accounts_of a.words.now) (accounts_of c.book.new.words)
    (sym c.requires.lowest ∙ c.in-Some.is) (λ e. omega (arith, e, l, x.ensures)) c.book.ensures.holds
