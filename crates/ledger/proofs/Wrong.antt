-- Demand 3 does not hold of the wrong heaps: each is refuted by a short list of calls that is computed, at the field
-- that the line above it names. Every field of `AsRecorded` and `Holds` has such a heap but three: `kind_begun`, `edition_begun` and
-- `grants_begun` speak of the ledger alone and hold of any events (`ledger_kept` in Theorem.antt), whatever heap
-- answered.
use Prim.Native.Nat.{ℕ, ◌+◌, ◌-◌, ◌%◌, ◌≤◌}
use native.Mathlib.Omega.{arith}
use mathlib.Core.Path.{◌≡◌, refl, ap, subst}
use mathlib.Core.List.{List, [], ◌∷◌, ◌++◌, Memᴰ}
use mathlib.Core.Bool.{true, false, false≢true}
use mathlib.Core.Logic.{◌⊎◌, inl, inr}
use lib.ListN.{length, replicate, get_or, length-append}
use lib.Dec.{leb}
use Rattle.accounts.specs.declared.Hold.{Hold}
use Rattle.accounts.specs.Accounts.{QUOTAS, plain}
use Rattle.rounding.specs.Rounding.{unit, table}
use Rattle.model.specs.Answers.{Values}
use Rattle.model.specs.Calls.{Outcome, open_heap}
use Rattle.model.specs.declared.Handle.{Handle}
use Rattle.model.specs.declared.Call.{Call}
use Rattle.model.specs.declared.Call.TheVariants.{Allocate, Claim, Release, Sweep}
use Rattle.lists.proofs.Lists.{all_member}
use Rattle.model.proofs.Computing.{computing}
use Rattle.ledger.specs.Ledger.{Event, Called, in_span, empty, ledger_of}
use Rattle.ledger.specs.History.{Begins, Opening}
use Rattle.ledger.specs.Demand3.{SuitableRun, taken, spans_differ, HeldIn, request_of}
use Rattle.ledger.specs.Demand3.{passes_others, Demand3}
use Rattle.ledger.proofs.Recording.{recording}
use Rattle.ledger.proofs.Short.{grants, below, after, events, history, said, listing, first, second, waiting}
use Rattle.ledger.proofs.Short.{block, coarse}
use Rattle.ledger.specs.Wrong.{at_allocate, at_claim, at_release, at_remaining, at_sweep, refuses_all}
use Rattle.ledger.specs.Wrong.{fixed_handle}
use Rattle.ledger.specs.Wrong.{idle_release, pretends, invented_remainder, invented_refund, frees_early}
use Rattle.ledger.specs.Wrong.{frees_at_once}
use Rattle.ledger.specs.Wrong.{never_sweeps, rounds_by_first, forgets_edition, wrapped, wraps, loses_a_claim}
use Rattle.ledger.specs.Wrong.{takes_two_records, leaks}
use Rattle.ledger.specs.Wrong.{keeps_the_record, never_joins, raise_grant, raises_the_grant, with_serial_1}
use Rattle.ledger.specs.Wrong.{repeats_the_serial, answers_the_block}
use Rattle.ledger.specs.Wrong.{runs_over, loses_the_heap, forgets_kind, misnumbers}

unfoldable choosing : Unit {0}
unfolding at_allocate at_claim at_release at_remaining at_sweep
choosing = tt

-- `space`: every call is refused for space, and there is a run of bytes at 8
pub refuted_refuses_all : Demand3 table refuses_all → ⊥
unfolding computing recording listing refuses_all request_of passes_others in_span taken
refuted_refuses_all d =
    let h = said plain refuses_all d [] in
    let r : SuitableRun unit (after plain refuses_all []).heap 8 8 =
    record { low = omega arith; multiple = refl; high = omega arith; outside = λ i p q. refl } in
    let e : ◌≡◌ {A = ℕ} 11 0 = h.space (Allocate 0 8) _ refl refl 8 r in
    omega arith

-- `apart`: two objects of the ledger have the same bytes
pub refuted_fixed_handle : Demand3 table fixed_handle → ⊥
unfolding computing recording listing fixed_handle choosing
refuted_fixed_handle d = (said plain fixed_handle d (Allocate 0 8 ∷ Allocate 0 8 ∷ [])).apart 0 1 (omega arith) (omega arith) 8 (omega arith) (omega arith)

-- `balanced`: nothing is held any more, and the charge has not come back
pub refuted_idle_release : Demand3 table idle_release → ⊥
unfolding computing recording listing idle_release choosing
refuted_idle_release d =
    let e : ◌≡◌ {A = ℕ} 984 1000 = (said plain idle_release d (Release 0 first ∷ Allocate 0 8 ∷ [])).balanced 0 (omega arith) in
    omega arith

-- `recorded_live`: the second object is in the ledger and not in the heap
pub refuted_pretends : Demand3 table pretends → ⊥
unfolding computing recording listing pretends
refuted_pretends d =
    let m : Memᴰ second (first ∷ []) = (said plain pretends d (Allocate 0 8 ∷ Allocate 0 8 ∷ [])).recorded_live second (mathlib.Core.List.Memᴰ.head refl) in
    other (mathlib.Core.List.Memᴰ.cases_cons m)
  where
    other : (second ≡ first) ⊎ Memᴰ second [] → ⊥
    other (inl e) = let z : ◌≡◌ {A = ℕ} 2 1 = ap (λ (o : Handle). o.serial) e in omega arith
    other (inr x) = mathlib.Core.List.Memᴰ.not-nil x

-- `answered`: remaining answers more than what remains
pub refuted_invented_remainder : Demand3 table invented_remainder → ⊥
unfolding computing listing invented_remainder choosing
refuted_invented_remainder d =
    let e : ◌≡◌ {A = ℕ} 1001 1000 = ap (λ (v : Values). v.amount) ((said plain invented_remainder d []).answered 0 (omega arith)) in
    omega arith

-- `balanced`: a release gives back more than was paid
pub refuted_invented_refund : Demand3 table invented_refund → ⊥
unfolding computing recording listing invented_refund choosing
refuted_invented_refund d =
    let e : ◌≡◌ {A = ℕ} 1001 1000 = (said plain invented_refund d (Release 0 first ∷ Allocate 0 8 ∷ [])).balanced 0 (omega arith) in
    omega arith

-- the only splits of one event are before it and behind it
one_split : (P : List Event → Type 0) (x : Event) (late early : List Event) → x ∷ [] ≡ late ++ early → P [] → P (x ∷ []) → P early
one_split P x [] early e p q = subst P e q
one_split P x (y ∷ late) [] e p q = p
one_split P x (y ∷ late) (z ∷ early) e p q = absurd (omega (arith, simp length-append at (ap length e)))

-- `stays`: an object goes with its first release, though a hold of the claim is left
pub refuted_frees_early : Demand3 table frees_early → ⊥
unfolding computing recording listing frees_early choosing
refuted_frees_early d =
    let cs : List Call = Claim 0 first ∷ Allocate 0 8 ∷ [] in
    let t = after plain frees_early (Release 0 first ∷ cs) in
    let last : Event = Called (Release 0 first) t.values in
    let past = history plain frees_early (Release 0 first ∷ cs) in
    let h = d.always (empty plain grants) (events plain frees_early cs) (last ∷ []) t.heap t.accounts past in
    let held : (late early : List Event) → last ∷ [] ≡ late ++ early → HeldIn 1 (ledger_of (empty plain grants) (early ++ events plain frees_early cs)) =
    λ late early e.
    one_split (λ es. HeldIn 1 (ledger_of (empty plain grants) (es ++ events plain frees_early cs))) last late early e
    (_, 0, mathlib.Core.List.Memᴰ.head refl, refl, omega arith) (_, 0, mathlib.Core.List.Memᴰ.head refl, refl, omega arith) in
    let m : Memᴰ first [] = h.stays refl first (mathlib.Core.List.Memᴰ.head refl) held in
    mathlib.Core.List.Memᴰ.not-nil m

-- `recorded_quarantined`: the ledger has the block as quarantined, and the heap has it not
pub refuted_frees_at_once : Demand3 table frees_at_once → ⊥
unfolding computing recording listing frees_at_once
refuted_frees_at_once d =
    let m : Memᴰ block [] = (said waiting frees_at_once d (Release 0 first ∷ Allocate 0 8 ∷ [])).recorded_quarantined block
    (mathlib.Core.List.Memᴰ.head refl) in
    mathlib.Core.List.Memᴰ.not-nil m

-- `quarantined_recorded`: and the other way round
pub refuted_never_sweeps : Demand3 table never_sweeps → ⊥
unfolding computing recording listing never_sweeps choosing
refuted_never_sweeps d =
    let m : Memᴰ block [] = (said waiting never_sweeps d (Sweep ∷ Release 0 first ∷ Allocate 0 8 ∷ [])).quarantined_recorded block
    (mathlib.Core.List.Memᴰ.head refl) in
    mathlib.Core.List.Memᴰ.not-nil m

-- `no_space`: 4,089 bytes get 4,096 at a multiple of 16, and a heap of 4,104 bytes has no such place; edition 1 gives
-- base 8
ample : List ℕ
ample = 4104 ∷ replicate (QUOTAS - 1) 0

tight : Outcome
tight = open_heap coarse (replicate 4104 0) ample

pub refuted_rounds_by_first : Demand3 table rounds_by_first → ⊥
unfolding computing ample tight rounds_by_first request_of passes_others
refuted_rounds_by_first d =
    let begins : Begins table (empty coarse ample) tight.heap tight.accounts =
    Opening coarse ample refl (record { before = replicate 4104 0; quotas = refl; narrow = below ample refl; opens = refl }) in
    let h = d.always (empty coarse ample) [] [] tight.heap tight.accounts begins in
    let none : (b : ℕ) → SuitableRun (table 1) tight.heap 4089 b → ⊥ =
    λ b r. (let m : b % 16 ≡ 0 = r.multiple in let l = r.low in let x : b + 4096 ≤ 4104 = r.high in omega arith) in
    let e : ◌≡◌ {A = ℕ} 0 11 = (h.agrees.no_space (Allocate 0 4089) _ refl refl).1 none in
    omega arith

-- `edition_kept`: the accounts say another edition than the ledger
pub refuted_forgets_edition : Demand3 table forgets_edition → ⊥
unfolding computing recording listing forgets_edition
refuted_forgets_edition d =
    let e : ◌≡◌ {A = ℕ} 0 1 = (said coarse forgets_edition d (Allocate 0 8 ∷ [])).edition_kept in
    omega arith

-- `balanced`: quota 1 was granted nothing, got 16 bytes, and has billions left
pub refuted_wraps : Demand3 table wraps → ⊥
unfolding computing recording listing wraps wrapped choosing
refuted_wraps d =
    let e : ◌≡◌ {A = ℕ} 4294967296 0 = (said plain wraps d (Allocate 1 8 ∷ [])).balanced 1 (omega arith) in
    omega arith

-- `recorded_live`: the first release frees an object on which a hold is left
pub refuted_loses_a_claim : Demand3 table loses_a_claim → ⊥
unfolding computing recording listing loses_a_claim choosing
refuted_loses_a_claim d =
    let cs = Release 0 first ∷ Claim 0 first ∷ Allocate 0 8 ∷ [] in
    let m : Memᴰ first [] = (said plain loses_a_claim d cs).recorded_live first (mathlib.Core.List.Memᴰ.head refl) in
    mathlib.Core.List.Memᴰ.not-nil m

-- `hold_recorded`: of two holds there is a record of one
pub refuted_loses_a_hold : Demand3 table loses_a_claim → ⊥
unfolding computing recording listing loses_a_claim choosing
refuted_loses_a_hold d =
    let m =
    (said plain loses_a_claim d (Claim 0 first ∷ Allocate 0 8 ∷ [])).hold_recorded _ 0 (mathlib.Core.List.Memᴰ.head refl)
    (omega arith) in
    let e : false ≡ true = all_member (λ (h : Hold). leb h.count 1) _ refl _ m in
    false≢true e

-- `record_held`: there is a record and no object
pub refuted_keeps_the_record : Demand3 table keeps_the_record → ⊥
unfolding computing recording listing keeps_the_record choosing
refuted_keeps_the_record d =
    let r =
    (said plain keeps_the_record d (Release 0 first ∷ Allocate 0 8 ∷ [])).record_held _ (mathlib.Core.List.Memᴰ.head refl) refl in
    mathlib.Core.List.Memᴰ.not-nil r.1

-- `records_once`: two records of one quota for one object
pub refuted_takes_two_records : Demand3 table takes_two_records → ⊥
unfolding computing listing takes_two_records choosing
refuted_takes_two_records d =
    let e : false ≡ true = (said plain takes_two_records d (Claim 0 first ∷ Allocate 0 8 ∷ [])).records_once in
    false≢true e

-- `live_recorded`: an object that nobody holds any more is still there
pub refuted_leaks : Demand3 table leaks → ⊥
unfolding computing recording listing leaks choosing
refuted_leaks d =
    let m : Memᴰ first [] =
    (said plain leaks d (Release 0 first ∷ Allocate 0 8 ∷ [])).live_recorded first (mathlib.Core.List.Memᴰ.head refl) in
    mathlib.Core.List.Memᴰ.not-nil m

-- `kept_consistent`: two free blocks side by side
pub refuted_never_joins : Demand3 table never_joins → ⊥
unfolding computing listing never_joins choosing
refuted_never_joins d =
    let e : false ≡ true = (said plain never_joins d (Release 0 first ∷ Allocate 0 8 ∷ [])).kept_consistent in
    false≢true e

-- `grants_kept`: quota 0 was granted 1,000 and has a grant of 1,016
pub refuted_raises_the_grant : Demand3 table raises_the_grant → ⊥
unfolding computing recording listing raise_grant raises_the_grant choosing
refuted_raises_the_grant d =
    let h = said plain raises_the_grant d (Release 0 first ∷ Allocate 0 8 ∷ []) in
    let e : ◌≡◌ {A = ℕ} 1016 1000 = ap (λ (gs : List ℕ). get_or gs 0 0) h.grants_kept in
    omega arith

-- `live_once`: two live objects have serial 1
pub refuted_repeats_the_serial : Demand3 table repeats_the_serial → ⊥
unfolding computing listing with_serial_1 repeats_the_serial choosing
refuted_repeats_the_serial d =
    let e : false ≡ true = (said plain repeats_the_serial d (Allocate 0 8 ∷ Allocate 0 8 ∷ [])).live_once in
    false≢true e

-- `recorded_once`: and so have two handles that were answered
pub refuted_repeats_the_handle : Demand3 table repeats_the_serial → ⊥
unfolding computing recording listing with_serial_1 repeats_the_serial choosing
refuted_repeats_the_handle d =
    let e : false ≡ true = (said plain repeats_the_serial d (Allocate 0 8 ∷ Allocate 0 8 ∷ [])).recorded_once in
    false≢true e

-- `off_headers`: the object's first byte is that of its own header
pub refuted_answers_the_block : Demand3 table answers_the_block → ⊥
unfolding computing recording listing answers_the_block choosing
refuted_answers_the_block d =
    (said plain answers_the_block d (Allocate 0 8 ∷ [])).off_headers _ _ (mathlib.Core.List.Memᴰ.head refl) (mathlib.Core.List.Memᴰ.head refl)
    0 (omega arith) (omega arith) (omega arith)

-- `inside`: 64 bytes from base 8 on in a heap of 64
pub refuted_runs_over : Demand3 table runs_over → ⊥
unfolding computing recording listing runs_over choosing
refuted_runs_over d =
    let l : 72 ≤ 64 = (said plain runs_over d (Allocate 0 64 ∷ [])).inside _ (mathlib.Core.List.Memᴰ.head refl) in
    omega arith

-- `length_allowed`: there is no heap of no bytes
pub refuted_loses_the_heap : Demand3 table loses_the_heap → ⊥
unfolding computing listing loses_the_heap
refuted_loses_the_heap d =
    let e : false ≡ true = (said plain loses_the_heap d (Allocate 0 8 ∷ [])).length_allowed in
    false≢true e

-- `kind_kept`: opened with quarantine, it is a plain heap
pub refuted_forgets_kind : Demand3 table forgets_kind → ⊥
unfolding computing recording listing forgets_kind
refuted_forgets_kind d =
    let e : ◌≡◌ {A = ℕ} 0 1 = (said waiting forgets_kind d (Allocate 0 8 ∷ [])).kind_kept in
    omega arith

-- `quarantined_once`: a block that waits is given out again, and waits twice
pub refuted_gives_out_again : Demand3 table frees_at_once → ⊥
unfolding computing recording listing frees_at_once spans_differ
refuted_gives_out_again d =
    let next : Handle = record { base = 8; length = 8; serial = 2 } in
    let cs = Release 0 next ∷ Allocate 0 8 ∷ Release 0 first ∷ Allocate 0 8 ∷ [] in
    let e : false ≡ true = (said waiting frees_at_once d cs).quarantined_once in
    false≢true e

-- `as_defined` alone: a handle that names nothing is refused by 6
pub refuted_misnumbers : Demand3 table misnumbers → ⊥
unfolding computing listing misnumbers
refuted_misnumbers d =
    let h = said plain misnumbers d [] in
    let e : ◌≡◌ {A = ℕ} 6 5 = ap (λ (t : Outcome). t.values.refusal) (h.as_defined (Release 0 first)) in
    omega arith
