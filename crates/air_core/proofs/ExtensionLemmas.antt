-- What the laws of an extension say of one table, and of the table that owns an opcode.
use Rattle.std.proofs.Common.{◌≡◌, ◌≢◌, ℕ, zero, suc, ◌+◌, ◌<◌, ◌≤◌, Bool, true, false, ◌||◌, List, [], ◌∷◌, length, Option, Some, None, slice_index_or, refl, ap, arith, lit≤}
use Rattle.std.specs.Prelude.{if◌then◌else◌}
use Rattle.std.specs.List.{AllByRecursion}
use Rattle.vm_isa.specs.declared.record.StepRecord.{StepRecord}
use Rattle.air_core.specs.Sheet.{row_events}
use Rattle.air_core.specs.System.{System, Part, no_part, sheet_at, rows_at, is_owned, owner_in, behind}
use Rattle.air_core.specs.PartLemmas.{owner_below}
use Rattle.air_core.specs.ExtensionLaws.{ExtensionFits, ExtensionBuses, ExtensionRows, PartBuses, PartRows, OneOwner}

abbrev at : List Part → ℕ → Part
at ps table = slice_index_or ps table no_part

-- what holds of each table holds of one
pub part_has : (P : Part → Type 0) (ps : List Part) (table : ℕ) → AllByRecursion P ps → table < length ps → P (at ps table)
part_has P [] table a low = absurd (omega (arith, low))
part_has P (p ∷ ps) zero a low = a.0
part_has P (p ∷ ps) (suc table) a low = part_has P ps table a.1 (omega (arith, low))

few_in : (private : ℕ → Bool) (ps : List Part) → AllByRecursion (PartBuses private) ps → (table : ℕ) (row : List ℕ) → length (row_events (at ps table).sheet row) ≤ 256
few_in private [] a table row = lit≤ tt
few_in private (p ∷ ps) a zero row = a.0.few row
few_in private (p ∷ ps) a (suc table) row = few_in private ps a.1 table row

-- a row of any table number has at most 256 events
pub few_events : (x : System) → ExtensionBuses x → (table : ℕ) (row : List ℕ) → length (row_events (sheet_at x table) row) ≤ 256
few_events x buses table row = few_in x.private x.parts buses table row

pub no_first : (a b : Bool) → (a || b) ≡ false → a ≡ false
no_first true b h = absurd (cc)
no_first false b h = refl

pub no_second : (a b : Bool) → (a || b) ≡ false → b ≡ false
no_second true b h = absurd (cc)
no_second false b h = h

not_owned : (ps : List Part) (op : ℕ) → is_owned ps op ≡ false → (table : ℕ) → (at ps table).sheet.owns op ≡ false
not_owned [] op none table = refl
not_owned (p ∷ ps) op none zero = no_first (p.sheet.owns op) (is_owned ps op) none
not_owned (p ∷ ps) op none (suc table) = not_owned ps op (no_second (p.sheet.owns op) (is_owned ps op) none) table

owner_here : (owns : Bool) (o : Option ℕ) → (if owns then Some 0 else behind 1 o) ≡ Some 0 → owns ≡ true
owner_here true o h = refl
owner_here false None h = absurd (cc)
owner_here false (Some t) h = let e : 1 + t ≡ 0 = cc in absurd (omega (arith, e))

owner_later : (owns : Bool) (o : Option ℕ) (table : ℕ) → (if owns then Some 0 else behind 1 o) ≡ Some (suc table) → (owns ≡ false) × (o ≡ Some table)
owner_later true o table h = let e : 0 ≡ suc table = cc in absurd (omega (arith, e))
owner_later false None table h = absurd (cc)
owner_later false (Some t) table h = let e : 1 + t ≡ suc table = cc in (refl, ap (λ (n : ℕ). Some n) (omega (arith, e)))

-- the owner owns the opcode
pub owner_owns : (ps : List Part) (op table : ℕ) → owner_in ps op ≡ Some table → (at ps table).sheet.owns op ≡ true
owner_owns [] op table h = absurd (cc)
owner_owns (p ∷ ps) op zero h = owner_here (p.sheet.owns op) (owner_in ps op) h
owner_owns (p ∷ ps) op (suc table) h = owner_owns ps op table (owner_later (p.sheet.owns op) (owner_in ps op) table h).1

-- and no other table does
pub others_own_not : (ps : List Part) → OneOwner ps → (op table other : ℕ) → owner_in ps op ≡ Some table → other ≢ table → (at ps other).sheet.owns op ≡ false
others_own_not [] one op table other h differs = refl
others_own_not (p ∷ ps) one op zero zero h differs = absurd (differs refl)
others_own_not (p ∷ ps) one op zero (suc other) h differs =
    not_owned ps op (one.0 op (owner_here (p.sheet.owns op) (owner_in ps op) h)) other
others_own_not (p ∷ ps) one op (suc table) zero h differs = (owner_later (p.sheet.owns op) (owner_in ps op) table h).0
others_own_not (p ∷ ps) one op (suc table) (suc other) h differs =
    others_own_not ps one.1 op table other (owner_later (p.sheet.owns op) (owner_in ps op) table h).1 (λ same. differs (ap suc same))

unowned_by : (owns : Bool) (o : Option ℕ) (more : Bool) → (o ≡ None → more ≡ false) → (if owns then Some 0 else behind 1 o) ≡ None → (owns || more) ≡ false
unowned_by true o more later h = absurd (cc)
unowned_by false None more later h = later refl
unowned_by false (Some t) more later h = absurd (cc)

-- without an owner no table owns it
pub unowned_of_none : (ps : List Part) (op : ℕ) → owner_in ps op ≡ None → is_owned ps op ≡ false
unowned_of_none [] op h = refl
unowned_of_none (p ∷ ps) op h = unowned_by (p.sheet.owns op) (owner_in ps op) (is_owned ps op) (unowned_of_none ps op) h

-- ---- how many rows a record fills

pub owner_rows : (x : System) → ExtensionRows x → (done : StepRecord) (table : ℕ) → owner_in x.parts done.instr.op ≡ Some table → rows_at x table done ≡ 1
owner_rows x rows done table h =
    (part_has PartRows x.parts table rows.parts (owner_below x.parts done.instr.op table h)).owned done (owner_owns x.parts done.instr.op table h)

pub other_rows : (x : System) → ExtensionFits x → ExtensionRows x → (done : StepRecord) (table other : ℕ) → owner_in x.parts done.instr.op ≡ Some table → other ≢ table
    → other < length x.parts → 1 ≤ (sheet_at x other).slots → rows_at x other done ≡ 0
other_rows x fits rows done table other h differs low slots =
    (part_has PartRows x.parts other rows.parts low).others done (others_own_not x.parts fits.owners done.instr.op table other h differs) slots

pub few_rows : (x : System) → ExtensionRows x → (done : StepRecord) (table : ℕ) → table < length x.parts → rows_at x table done ≤ 64
few_rows x rows done table low = (part_has PartRows x.parts table rows.parts low).few done

pub no_rows : (x : System) → ExtensionRows x → (done : StepRecord) (table : ℕ) → owner_in x.parts done.instr.op ≡ None → table < length x.parts → rows_at x table done ≡ 0
no_rows x rows done table h low =
    part_has (λ p. p.rows_for done ≡ 0) x.parts table (rows.unowned done (unowned_of_none x.parts done.instr.op h)) low
