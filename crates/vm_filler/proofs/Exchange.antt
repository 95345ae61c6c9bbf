-- The sums of a weight over the rows of all tables are those of the records, one after the other.
use Rattle.std.proofs.Common.{◌≡◌, ℕ, zero, suc, ◌+◌, List, [], ◌∷◌, refl, sym, ap, ◌∙◌, subst, arith}
use Rattle.std.specs.Prelude.{flat_map, replicate}
use Rattle.std.specs.List.{AllByRecursion}
use Rattle.vm_isa.specs.declared.record.StepRecord.{StepRecord}
use Rattle.air_core.specs.declared.event.Side.{Side}
use Rattle.air_core.specs.Balance.{total}
use Rattle.air_core.specs.Counts.{weight}
use Rattle.air_core.specs.ListLemmas.{all_append, all_weaker}
use Rattle.air_core.specs.Sheet.{Sheet, row_events}
use Rattle.air_core.specs.System.{Part, all_events, EachRow, rows_of, tables_for}
use Rattle.air_core.specs.ExtensionLaws.{QuietZeros}
use Rattle.air_core.proofs.BalanceLemmas.{total-append}
use Rattle.air_core.proofs.Counting.{weight-append, weight-flat_map}
use Rattle.air_core.proofs.ElementLemmas.{all_flat_map}
use Rattle.air_core.proofs.Totals.{total_each}
use Rattle.vm_filler.specs.Tables.{filled_rows, zero_row, IsFilledTable, AreFilledTables}

-- the sum of a weight over the rows of all tables
abbrev pub row_sum : (Sheet → List ℕ → ℕ) → List Part → List (List (List ℕ)) → ℕ
row_sum w [] tables = 0
row_sum w (p ∷ parts) [] = 0
row_sum w (p ∷ parts) (rows ∷ tables) = weight (w p.sheet) rows + row_sum w parts tables

pub weight_both : {X : Type 0} (v w : X → ℕ) (xs : List X) → weight (λ x. v x + w x) xs ≡ weight v xs + weight w xs
weight_both v w [] = omega arith
weight_both v w (x ∷ xs) = omega (arith, weight_both v w xs)

weight_zero : {X : Type 0} (xs : List X) → weight (λ (x : X). 0) xs ≡ 0
weight_zero [] = refl
weight_zero (x ∷ xs) = omega (arith, weight_zero xs)

repeated : (w : List ℕ → ℕ) (row : List ℕ) → w row ≡ 0 → (n : ℕ) → weight w (replicate n row) ≡ 0
repeated w row none zero = refl
repeated w row none (suc n) = omega (arith, none, repeated w row none n)

of_table : (w : Sheet → List ℕ → ℕ) (p : Part) (done : List StepRecord) (rows : List (List ℕ)) → w p.sheet (zero_row p.sheet) ≡ 0 → IsFilledTable done p rows
    → weight (w p.sheet) rows ≡ weight (λ d. weight (w p.sheet) (rows_of d p)) done
of_table w p done rows none filled =
    ap (weight (w p.sheet)) filled.are
    ∙ weight-append (w p.sheet) (filled_rows done p) (replicate filled.more (zero_row p.sheet))
    ∙ omega (arith, repeated (w p.sheet) (zero_row p.sheet) none filled.more, weight-flat_map (w p.sheet) (λ d. rows_of d p) done)

-- of all tables, where rows of zeros weigh nothing
pub exchange_rows : (w : Sheet → List ℕ → ℕ) (done : List StepRecord) (parts : List Part) (tables : List (List (List ℕ))) → AreFilledTables done parts tables
    → AllByRecursion (λ p. w p.sheet (zero_row p.sheet) ≡ 0) parts → row_sum w parts tables ≡ weight (λ d. row_sum w parts (tables_for d parts)) done
exchange_rows w done [] [] filled none = sym (weight_zero done)
exchange_rows w done [] (rows ∷ tables) filled none = elim filled [ ]
exchange_rows w done (p ∷ parts) [] filled none = elim filled [ ]
exchange_rows w done (p ∷ parts) (rows ∷ tables) filled none =
    omega (
      arith,
      of_table w p done rows none.0 filled.0,
      exchange_rows w done parts tables filled.1 none.1,
      weight_both (λ d. weight (w p.sheet) (rows_of d p)) (λ d. row_sum w parts (tables_for d parts)) done,
    )

-- ---- of what rows say

module _ (side : Side) (bus : ℕ) (tuple : List ℕ) where
  abbrev total_of_row : Sheet → List ℕ → ℕ
  total_of_row sheet row = total side bus tuple (row_events sheet row)

  totals : (parts : List Part) (tables : List (List (List ℕ))) → total side bus tuple (all_events parts tables) ≡ row_sum total_of_row parts tables
  totals [] tables = refl
  totals (p ∷ parts) [] = refl
  totals (p ∷ parts) (rows ∷ tables) =
      omega (
        arith,
        total-append side bus tuple (flat_map (row_events p.sheet) rows) (all_events parts tables),
        total_each side bus tuple (row_events p.sheet) (total_of_row p.sheet) (λ row. refl) rows,
        totals parts tables,
      )

  quiet_rows : (parts : List Part) → AllByRecursion (λ p. QuietZeros p.sheet) parts → AllByRecursion (λ p. total_of_row p.sheet (zero_row p.sheet) ≡ 0) parts
  quiet_rows parts quiet = all_weaker (λ p. QuietZeros p.sheet) (λ p. total_of_row p.sheet (zero_row p.sheet) ≡ 0) (λ p h. ap (total side bus tuple) h.silent) parts quiet

  same_totals : (parts : List Part) (done : List StepRecord)
      → weight (λ d. row_sum total_of_row parts (tables_for d parts)) done ≡ weight (λ d. total side bus tuple (all_events parts (tables_for d parts))) done
  same_totals parts [] = refl
  same_totals parts (d ∷ done) = omega (arith, totals parts (tables_for d parts), same_totals parts done)

  pub exchange : (done : List StepRecord) (parts : List Part) (tables : List (List (List ℕ))) → AreFilledTables done parts tables → AllByRecursion (λ p. QuietZeros p.sheet) parts
      → total side bus tuple (all_events parts tables) ≡ weight (λ d. total side bus tuple (all_events parts (tables_for d parts))) done
  exchange done parts tables filled quiet = totals parts tables ∙ exchange_rows total_of_row done parts tables filled (quiet_rows parts quiet) ∙ same_totals parts done

-- ---- what holds of each row

all_zeros : (P : List ℕ → Type 0) (row : List ℕ) → P row → (n : ℕ) → AllByRecursion P (replicate n row)
all_zeros P row h zero = tt
all_zeros P row h (suc n) = (h, all_zeros P row h n)

-- What holds of each row that a record fills, record by record, and of rows of zeros holds of all rows.
pub each_filled : (P : Sheet → List ℕ → Type 0) (done : List StepRecord) (parts : List Part) (tables : List (List (List ℕ))) → AreFilledTables done parts tables → AllByRecursion (λ p. P p.sheet (zero_row p.sheet)) parts
    → AllByRecursion (λ d. EachRow P parts (tables_for d parts)) done → EachRow P parts tables
each_filled P done [] tables filled quiet each = tt
each_filled P done (p ∷ parts) [] filled quiet each = tt
each_filled P done (p ∷ parts) (rows ∷ tables) filled quiet each = (
  subst (AllByRecursion (P p.sheet)) (sym filled.0.are)
      (all_append (P p.sheet) (filled_rows done p) (replicate filled.0.more (zero_row p.sheet))
      (all_flat_map (P p.sheet) (λ d. rows_of d p) done (all_weaker (λ d. EachRow P (p ∷ parts) (tables_for d (p ∷ parts))) (λ d. AllByRecursion (P p.sheet) (rows_of d p)) (λ d h. h.0) done each))
      (all_zeros (P p.sheet) (zero_row p.sheet) quiet.0 filled.0.more)),
  each_filled P done parts tables filled.1 quiet.1 (all_weaker (λ d. EachRow P (p ∷ parts) (tables_for d (p ∷ parts))) (λ d. EachRow P parts (tables_for d parts)) (λ d h. h.1) done each),
)
