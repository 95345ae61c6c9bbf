-- Of the rows that a record fills one says something on the machine's buses: its owner's.
use Rattle.std.proofs.Common.{◌≡◌, ℕ, ◌<◌, ◌≤◌, Bool, true, false, ◌||◌, List, [], ◌∷◌, map, refl, ap, arith, ⊎_elim}
use Rattle.std.specs.List.{AllByRecursion, range_with_len}
use Rattle.std.proofs.lemmas.Bool.{cases_Bool, cases_lt}
use Rattle.vm_isa.specs.declared.record.StepRecord.{StepRecord}
use Rattle.air_core.specs.Counts.{weight}
use Rattle.air_core.specs.Laws.{Recorded}
use Rattle.air_core.specs.ListLemmas.{all_weaker}
use Rattle.air_core.specs.Sheet.{Sheet, OwnsSome, row_events}
use Rattle.air_core.specs.System.{Part, is_owned, EachRow, rows_of, tables_for}
use Rattle.air_core.specs.ExtensionLaws.{PartFits, PartBuses, PartRows, OnOwnBus, OneOwner, SaysRecord}
use Rattle.air_core.proofs.ExtensionLemmas.{no_first, no_second}
use Rattle.acceptance.proofs.Row.{IsSilent}
use Rattle.vm_filler.proofs.Exchange.{row_sum}

-- what a record's rows of a table are, where the table owns its opcode and where it doesn't
pub record OneRow (d : StepRecord) (p : Part) : Type 0 where
  pub row : List ℕ
  pub rows : rows_of d p ≡ row ∷ []
  pub says : Recorded d (row_events p.sheet row)

abbrev pub Silent : StepRecord → Part → Type 0
Silent d p = AllByRecursion (λ row. IsSilent (row_events p.sheet row)) (rows_of d p)

-- a table that owns no opcode says nothing there
silent_row : (private : ℕ → Bool) (p : Part) → PartBuses private p → (OwnsSome p.sheet → ⊥) → (row : List ℕ) → IsSilent (row_events p.sheet row)
silent_row private p buses none row =
    all_weaker (OnOwnBus private p.sheet) (λ e. 3 ≤ e.bus) (λ e h. ⊎_elim (λ (low : e.bus < 3). absurd (none (h.machine low))) (λ (high : 3 ≤ e.bus). high) (cases_lt e.bus 3)) (row_events p.sheet row) (buses.uses row)

silent_rows : (private : ℕ → Bool) (p : Part) → PartBuses private p → (OwnsSome p.sheet → ⊥) → (rows : List (List ℕ)) → AllByRecursion (λ row. IsSilent (row_events p.sheet row)) rows
silent_rows private p buses none [] = tt
silent_rows private p buses none (row ∷ rows) = (silent_row private p buses none row, silent_rows private p buses none rows)

no_rows : (d : StepRecord) (p : Part) → p.rows_for d ≡ 0 → Silent d p
no_rows d p none = rw none tt

-- nor does a table that owns other opcodes, of this record
pub others_silent : (bits : ℕ) (private : ℕ → Bool) (d : StepRecord) (p : Part) → PartFits bits p → PartBuses private p → PartRows p → p.sheet.owns d.instr.op ≡ false → Silent d p
others_silent bits private d p fits buses rows other =
    ⊎_elim
    (λ (some : 0 < p.sheet.slots). no_rows d p (rows.others d other (omega (arith, some))))
    (λ (none : p.sheet.slots ≤ 0). silent_rows private p buses (λ owns. let s = fits.slots owns.0 owns.1 in absurd (omega (arith, s.some, none))) (rows_of d p))
    (cases_lt 0 p.sheet.slots)

one_by : (d : StepRecord) (sheet : Sheet) (n : ℕ) → n ≡ 1 → map (λ place. sheet.filled d place) (range_with_len 0 n) ≡ sheet.filled d 0 ∷ []
one_by d sheet n one = rw one refl

says_by : (d : StepRecord) (sheet : Sheet) (n : ℕ) → n ≡ 1 → sheet.owns d.instr.op ≡ true → AllByRecursion (SaysRecord d sheet) (map (λ place. sheet.filled d place) (range_with_len 0 n))
    → Recorded d (row_events sheet (sheet.filled d 0))
says_by d sheet n one owns says =
    let here : AllByRecursion (SaysRecord d sheet) (sheet.filled d 0 ∷ []) = rw one at says in
    here.0 owns

-- the owner has one row of it, which says the record
pub owner_says : (d : StepRecord) (p : Part) → PartRows p → p.sheet.owns d.instr.op ≡ true → AllByRecursion (SaysRecord d p.sheet) (rows_of d p) → OneRow d p
owner_says d p rows owns says = record {
  row = p.sheet.filled d 0;
  rows = one_by d p.sheet (p.rows_for d) (rows.owned d owns);
  says = says_by d p.sheet (p.rows_for d) (rows.owned d owns) owns says;
}

pub second_owns : (a b : Bool) → (a || b) ≡ true → a ≡ false → b ≡ true
second_owns true b h e = absurd (cc)
second_owns false b h e = h

-- ---- a weight of rows that say nothing there is 0, and that of a row that says the record is known

module _ (w : Sheet → List ℕ → ℕ) (d : StepRecord) (v : ℕ) (silent : (sheet : Sheet) (row : List ℕ) → IsSilent (row_events sheet row) → w sheet row ≡ 0)
    (says : (sheet : Sheet) (row : List ℕ) → Recorded d (row_events sheet row) → w sheet row ≡ v) (bits : ℕ) (private : ℕ → Bool) where
  none_of : (sheet : Sheet) (rows : List (List ℕ)) → AllByRecursion (λ row. IsSilent (row_events sheet row)) rows → weight (w sheet) rows ≡ 0
  none_of sheet [] h = refl
  none_of sheet (row ∷ rows) h = omega (arith, silent sheet row h.0, none_of sheet rows h.1)

  none_in : (ps : List Part) → AllByRecursion (PartFits bits) ps → AllByRecursion (PartBuses private) ps → AllByRecursion PartRows ps → is_owned ps d.instr.op ≡ false → row_sum w ps (tables_for d ps) ≡ 0
  none_in [] fits buses rows none = refl
  none_in (p ∷ ps) fits buses rows none =
      omega (
        arith,
        none_of p.sheet (rows_of d p) (others_silent bits private d p fits.0 buses.0 rows.0 (no_first (p.sheet.owns d.instr.op) (is_owned ps d.instr.op) none)),
        none_in ps fits.1 buses.1 rows.1 (no_second (p.sheet.owns d.instr.op) (is_owned ps d.instr.op) none),
      )

  pub once_in : (ps : List Part) → AllByRecursion (PartFits bits) ps → AllByRecursion (PartBuses private) ps → AllByRecursion PartRows ps → OneOwner ps → is_owned ps d.instr.op ≡ true
      → EachRow (SaysRecord d) ps (tables_for d ps) → row_sum w ps (tables_for d ps) ≡ v
  once_in [] fits buses rows one owned said = absurd (cc)
  once_in (p ∷ ps) fits buses rows one owned said =
      ⊎_elim
      (λ (mine : p.sheet.owns d.instr.op ≡ true).
      let here = owner_says d p rows.0 mine said.0 in
      omega (arith, ap (weight (w p.sheet)) here.rows, says p.sheet here.row here.says, none_in ps fits.1 buses.1 rows.1 (one.0 d.instr.op mine)))
      (λ (other : p.sheet.owns d.instr.op ≡ false).
      omega (
        arith,
        none_of p.sheet (rows_of d p) (others_silent bits private d p fits.0 buses.0 rows.0 other),
        once_in ps fits.1 buses.1 rows.1 one.1 (second_owns (p.sheet.owns d.instr.op) (is_owned ps d.instr.op) owned other) said.1,
      ))
      (cases_Bool (p.sheet.owns d.instr.op))
