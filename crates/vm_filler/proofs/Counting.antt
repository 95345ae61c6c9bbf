-- Each record fills one valid row.
use Rattle.std.proofs.Common.{◌≡◌, ℕ, ◌+◌, Bool, true, false, cond, List, [], ◌∷◌, length, map, refl, sym, ap, ◌∙◌, subst, arith}
use Rattle.std.specs.Prelude.{count_by}
use Rattle.std.specs.List.{AllByRecursion}
use Rattle.std.proofs.lemmas.List.Recursion.{is_count_by}
use Rattle.vm_isa.specs.declared.record.StepRecord.{StepRecord}
use Rattle.vm_isa.specs.Means.{Fillable}
use Rattle.vm_trace.specs.File.{Segment}
use Rattle.air_core.specs.declared.event.Event.{Event}
use Rattle.air_core.specs.Counts.{weight, once}
use Rattle.air_core.specs.ListLemmas.{all_weaker}
use Rattle.air_core.specs.Sheet.{Sheet, row_events}
use Rattle.air_core.specs.System.{System, Part, is_owned, tables_for}
use Rattle.air_core.specs.ExtensionLaws.{QuietZeros}
use Rattle.air_core.proofs.Counting.{weight-append, weight-map}
use Rattle.acceptance.specs.Events.{is_valid, said_by_rows}
use Rattle.acceptance.proofs.Row.{silent_invalid}
use Rattle.vm_filler.specs.Laws.{FilledSegmentsCountRecords}
use Rattle.vm_filler.specs.Tables.{zero_row, AreFilledTables}
use Rattle.vm_filler.proofs.Exchange.{row_sum, exchange_rows}
use Rattle.vm_filler.proofs.Lawful.{Lawful}
use Rattle.vm_filler.proofs.Owners.{once_in}
use Rattle.vm_filler.proofs.RecordHints.{record_valid}

abbrev valid_row : Sheet → List ℕ → ℕ
valid_row sheet row = once (is_valid (row_events sheet row))

one_more : (b : Bool) (n : ℕ) → once b + n ≡ cond b (1 + n) n
one_more true n = refl
one_more false n = omega arith

valid_sum : (parts : List Part) (tables : List (List (List ℕ))) → weight (λ e. once (is_valid e)) (said_by_rows parts tables) ≡ row_sum valid_row parts tables
valid_sum [] tables = refl
valid_sum (p ∷ parts) [] = refl
valid_sum (p ∷ parts) (rows ∷ tables) =
    omega (
      arith,
      weight-append (λ (e : List Event). once (is_valid e)) (map (row_events p.sheet) rows) (said_by_rows parts tables),
      weight-map (λ (e : List Event). once (is_valid e)) (row_events p.sheet) rows,
      valid_sum parts tables,
    )

counted : (says : List (List Event)) → count_by is_valid says ≡ weight (λ e. once (is_valid e)) says
counted says = sym (is_count_by (weight (λ (e : List Event). once (is_valid e))) is_valid refl (λ e es. one_more (is_valid e) (weight (λ (e : List Event). once (is_valid e)) es)) says)

module _ (x : System) (lawful : Lawful x) where
  each : (done : List StepRecord) → AllByRecursion (λ d. is_owned x.parts d.instr.op ≡ true) done → AllByRecursion (λ d. Fillable x.time_bits d) done → weight (λ d. row_sum valid_row x.parts (tables_for d x.parts)) done ≡ length done
  each [] owned fillable = refl
  each (d ∷ done) owned fillable =
      omega (
        arith,
        once_in valid_row d 1 (λ sheet row silent. ap once (silent_invalid (row_events sheet row) silent)) (λ sheet row said. ap once (record_valid d (row_events sheet row) said)) x.time_bits x.private x.parts
            lawful.fits.parts lawful.buses lawful.rows.parts lawful.fits.owners owned.0 (lawful.complete d owned.0 fillable.0).says,
        each done owned.1 fillable.1,
      )

  pub records_counted : FilledSegmentsCountRecords x
  records_counted program done s is =
      let tables = s.tables in
      let filled : AreFilledTables done x.parts tables = subst (λ (t : Segment). AreFilledTables done x.parts t.tables) (sym is.is) is.filled.filled in
      counted (said_by_rows x.parts tables) ∙ valid_sum x.parts tables
      ∙ exchange_rows valid_row done x.parts tables filled
      (all_weaker (λ p. QuietZeros p.sheet) (λ p. valid_row p.sheet (zero_row p.sheet) ≡ 0) (λ p h. ap (λ (e : List Event). once (is_valid e)) h.silent) x.parts lawful.quiet)
      ∙ each done is.records.owned is.records.fillable
