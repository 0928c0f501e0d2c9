-- The audit of a heap's blocks against the hold records, block by block: each live block strikes the keys of its serial, and the quotas of
-- these keys pay for it. At the end every key is struck, and no quota owes anything.
use Rattle.std.specs.Prelude.{ℕ, ◌-◌, List, [], ◌∷◌, map, Bool, true, false, not, cond, ◌&&◌, leb, eqb, Option, Some, None}
use Rattle.accounts.specs.declared.Quota.{Quota}
use Rattle.accounts.specs.declared.Accounts.{Accounts}
use Rattle.accounts.specs.Accounts.{permissible}
use Rattle.layout.specs.Blocks.{Block, size, QUARANTINED}
use Rattle.lists.specs.Lists.{all}
use Rattle.audit.specs.Keys.{well_formed, keys_of, strike, struck, Payment, pay, unpaid}

-- what a quota owes is grant less remainder; a remainder is at most its grant
abbrev pub owes : Quota → ℕ
owes x = x.grant - x.remainder

abbrev pub solvent : Quota → Bool
solvent x = leb x.remainder x.grant

-- and its permissions are such
abbrev pub entry_valid : Quota → Bool
entry_valid x = solvent x && permissible x.permissions

-- no number is left
abbrev pub all_zero : List ℕ → Bool
all_zero ns = all (λ n. eqb n 0) ns

-- on the way: whether the block before is free, the keys not yet struck, and what each quota still owes
pub record State : Type 0 where
  pub free : Bool
  pub keys : List ℕ
  pub owed : List ℕ

abbrev pub begin : List ℕ → List ℕ → State
begin keys owed = record { free = false; keys = keys; owed = owed }

-- behind a block with this serial
abbrev pub behind : ℕ → List ℕ → List ℕ → State
behind serial keys owed = record { free = eqb serial 0; keys = keys; owed = owed }

-- a free block does not stand behind a free block
unfoldable pub visit_free : State → Option State
visit_free t = cond t.free None (Some (record { free = true; keys = t.keys; owed = t.owed }))

-- what is left once a live block is paid for
unfoldable pub settled : List ℕ → Option Payment → Option State
settled keys None = None
settled keys (Some p) = Some (record { free = false; keys = keys; owed = p.owed })

-- a live block is at least 16 bytes long, its serial is at most the last serial, it has a record, and the quotas pay for it
unfoldable pub visit_live : ℕ → ℕ → ℕ → State → Option State
visit_live last serial size t =
    cond (leb 16 size && (leb serial last && not (eqb (struck serial t.keys) 0)))
    (settled (strike serial t.keys) (pay serial size t.keys (Some (unpaid t.owed)))) None

-- a quarantined block is at least 16 bytes long; it strikes nothing, and nobody pays for it
unfoldable pub visit_quarantined : ℕ → State → Option State
visit_quarantined size t = cond (leb 16 size) (Some (record { free = false; keys = t.keys; owed = t.owed })) None

-- a block with this serial and size; none where it is not as it must be
unfoldable pub visit : ℕ → ℕ → ℕ → State → Option State
visit last serial size t = cond (eqb serial 0) (visit_free t) (cond (eqb serial QUARANTINED) (visit_quarantined size t) (visit_live last serial size t))

-- the blocks one after the other, from a state on
unfoldable pub audit : ℕ → List Block → Option State → Bool
audit last [] None = false
audit last [] (Some t) = all_zero t.keys && all_zero t.owed
audit last (b ∷ bs) None = false
audit last (b ∷ bs) (Some t) = audit last bs (visit last b.serial (size b) t)

-- a heap that is not cut into blocks fails
unfoldable pub audit_parsed : ℕ → Option (List Block) → Option State → Bool
audit_parsed last None t = false
audit_parsed last (Some bs) t = audit last bs t

-- the records are well-formed, no remainder is above its grant, and the blocks pass
unfoldable pub audited : Option (List Block) → Accounts → Bool
audited bs k =
    all well_formed k.holds
    && (all solvent k.quotas
    && audit_parsed k.last_serial bs (Some (begin (keys_of k.holds) (map owes k.quotas))))
