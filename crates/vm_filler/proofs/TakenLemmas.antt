-- Which opcodes' records fill rows of a table.
use Rattle.std.proofs.Common.{◌≡◌, ℕ, zero, suc, ◌<◌, ◌≤◌, Bool, true, false, nat_eq, List, [], ◌∷◌, ◌++◌, length, slice_index_or, Option, Some, None, refl, sym, ap, ◌∙◌, arith, ⊎_elim}
use Rattle.std.specs.Option.{option_eq}
use Rattle.std.proofs.lemmas.Bool.{cases_lt, eq-eqb}
use Rattle.vm_isa.specs.declared.record.StepRecord.{StepRecord}
use Rattle.air_core.specs.ExtensionLaws.{ExtensionFits, ExtensionRows}
use Rattle.air_core.specs.System.{System, owner_in, rows_at, sheet_at}
use Rattle.air_core.proofs.ExtensionLemmas.{other_rows, no_rows}
use Rattle.vm_filler.specs.Filling.{KeepsOut}

-- a record of an opcode that another table owns, or none, fills no row of one with slots
out_by : (x : System) → ExtensionFits x → ExtensionRows x → (table : ℕ) → table < length x.parts → 1 ≤ (sheet_at x table).slots → (d : StepRecord) (owner : Option ℕ) → owner_in x.parts d.instr.op ≡ owner
    → (owner ≡ Some table → ⊥) → rows_at x table d ≡ 0
out_by x fits rows table low some d None is other = no_rows x rows d table is low
out_by x fits rows table low some d (Some t) is other = other_rows x fits rows d t table is (λ same. other (ap (λ (n : ℕ). Some n) (sym same))) low some

pub out_of : (x : System) → ExtensionFits x → ExtensionRows x → (table : ℕ) → table < length x.parts → ((sheet_at x table).slots ≡ 0 → ⊥) → (d : StepRecord) → (owner_in x.parts d.instr.op ≡ Some table → ⊥) → rows_at x table d ≡ 0
out_of x fits rows table low some d other = out_by x fits rows table low (omega (arith, some)) d (owner_in x.parts d.instr.op) refl other

-- one opcode more
pub keeps_more : (x : System) (table : ℕ) (takes : List Bool) (b : Bool) → KeepsOut x table takes → ((d : StepRecord) → d.instr.op ≡ length takes → b ≡ false → rows_at x table d ≡ 0) → KeepsOut x table (takes ++ b ∷ [])
keeps_more x table takes b keeps here d h =
    ⊎_elim
    (λ (low : d.instr.op < length takes). keeps d (sym (before takes d.instr.op low) ∙ h))
    (λ (high : length takes ≤ d.instr.op). at_end (d.instr.op) refl high h)
    (cases_lt d.instr.op (length takes))
  where
    before : (xs : List Bool) (k : ℕ) → k < length xs → slice_index_or (xs ++ b ∷ []) k true ≡ slice_index_or xs k true
    before [] k low = absurd (omega (arith, low))
    before (x ∷ xs) zero low = refl
    before (x ∷ xs) (suc k) low = before xs k (omega (arith, low))

    last : (xs : List Bool) (k : ℕ) → length xs ≤ k → slice_index_or (xs ++ b ∷ []) k true ≡ false → (k ≡ length xs) × (b ≡ false)
    last [] zero high h = (refl, h)
    last [] (suc k) high h = absurd (cc)
    last (x ∷ xs) zero high h = absurd (omega (arith, high))
    last (x ∷ xs) (suc k) high h = let r = last xs k (omega (arith, high)) h in (ap suc r.0, r.1)

    at_end : (op : ℕ) → op ≡ d.instr.op → length takes ≤ op → slice_index_or (takes ++ b ∷ []) op true ≡ false → rows_at x table d ≡ 0
    at_end op is high h = let r = last takes op high h in here d (sym is ∙ r.0) r.1

pub same_owner : (owner : Option ℕ) (table : ℕ) → owner ≡ Some table → option_eq nat_eq owner (Some table) ≡ true
same_owner owner table is = rw is (eq-eqb table table refl)
