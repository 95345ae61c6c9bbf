-- Rows and entries that are put into tables one after another.
use Rattle.std.specs.Prelude.{◌≡◌, ℕ, ◌*◌, ◌^◌, ◌≤◌, nat_eq, Bool, true, false}
use Rattle.std.specs.Prelude.{List, [], ◌∷◌, ◌++◌, map, flat_map, set, slice_index, slice_index_or, take, drop, length, Some}
use Rattle.std.specs.Cmp.Lexicographic.{pointwise}
use Rattle.vm_isa.specs.declared.instr.VmInstr.{VmInstr}
use Rattle.vm_isa.specs.declared.record.StepRecord.{StepRecord}
use Rattle.vm_isa.specs.Instr.{numbers_of}
use Rattle.vm_trace.specs.declared.count.CountEntry.{CountEntry}
use Rattle.vm_trace.specs.declared.count.CountList.{CountList}
use Rattle.vm_trace.specs.declared.count.CountList.TheVariants.{Program, Xor, Range, ShaConst}
use Rattle.vm_trace.specs.Contents.{Contents, TableRows, table_at, rows_by_table}
use Rattle.air_core.specs.declared.bus.TheConstants.{PROGRAM}
use Rattle.air_core.specs.Counts.{weight, once}
use Rattle.air_core.specs.Sheet.{row_events}
use Rattle.air_core.specs.Sink.{Handed}
use Rattle.air_core.specs.System.{System, Part, part_at, sheet_at, rows_at, all_events}
use Rattle.acceptance.specs.Events.{fixed_row}
use Rattle.vm_filler.specs.Lookups.{LookupCounts, CountLookups, events_left}
use Rattle.vm_filler.specs.Tables.{IsFilledTable, AreFilledTables, filled_rows}

-- ---- rows

-- records of an opcode that is marked false here fill no row of a table
abbrev pub KeepsOut : System → ℕ → List Bool → Type 0
KeepsOut x table takes = (d : StepRecord) → slice_index_or takes d.instr.op true ≡ false → rows_at x table d ≡ 0

-- with these rows behind the last of a table
abbrev pub with_rows : Contents → ℕ → List (List ℕ) → Contents
with_rows c table rows = record {
  tables = set c.tables table (record { width = (table_at c table).width; rows = (table_at c table).rows ++ rows });
  program = c.program;
  xor = c.xor;
  range = c.range;
  constants = c.constants;
}

-- A table was filled: its rows stand there, their events were counted, and nothing else changed.
pub record TableFilled (x : System) (done : List StepRecord) (table : ℕ) (old new : Contents) (before after : LookupCounts) : Type 0 where
  pub rows : List (List ℕ)
  pub filled : IsFilledTable done (part_at x table) rows
  pub are : new ≡ with_rows old table rows
  pub handed : Handed CountLookups events_left before after (flat_map (row_events (sheet_at x table)) (filled_rows done (part_at x table)))
  pub few : length (flat_map (row_events (sheet_at x table)) (filled_rows done (part_at x table))) ≤ 2 ^ 30

-- the tables of these parts, filled
abbrev pub FilledTables : List StepRecord → List Part → List TableRows → Type 0
FilledTables done [] [] = Unit {0}
FilledTables done [] (t ∷ tables) = ⊥
FilledTables done (p ∷ parts) [] = ⊥
FilledTables done (p ∷ parts) (t ∷ tables) = (t.width ≡ p.sheet.width) × IsFilledTable done p t.rows × FilledTables done parts tables

abbrev pub without_rows : Part → TableRows
without_rows p = record { width = p.sheet.width; rows = [] }

-- the rows of each
abbrev pub rows_in : List TableRows → List (List (List ℕ))
rows_in tables = map (λ (t : TableRows). t.rows) tables

-- The first tables of an extension are filled, and the others are without rows. The events of the rows were counted.
pub record FilledTo (x : System) (done : List StepRecord) (table : ℕ) (c : Contents) (before after : LookupCounts) : Type 0 where
  pub first : List TableRows
  pub are : c.tables ≡ first ++ map without_rows (drop table x.parts)
  pub filled : FilledTables done (take table x.parts) first
  pub handed : Handed CountLookups events_left before after (all_events (take table x.parts) (rows_in first))
  pub few : length (all_events (take table x.parts) (rows_in first)) ≤ 2 ^ 30 * table
  pub entries : c ≡ record { tables = c.tables; program = []; xor = []; range = []; constants = [] }

-- All tables are filled, and their events counted. There are no entries yet.
pub record AllFilled (x : System) (done : List StepRecord) (c : Contents) (before after : LookupCounts) : Type 0 where
  pub widths : map (λ (t : TableRows). t.width) c.tables ≡ map (λ (p : Part). p.sheet.width) x.parts
  pub filled : AreFilledTables done x.parts (rows_by_table c)
  pub handed : Handed CountLookups events_left before after (all_events x.parts (rows_by_table c))
  pub entries : c ≡ record { tables = c.tables; program = []; xor = []; range = []; constants = [] }

-- ---- entries

-- with these entries behind the last of a list
abbrev pub with_entries : Contents → CountList → List CountEntry → Contents
with_entries c Program es = record { tables = c.tables; program = c.program ++ es; xor = c.xor; range = c.range; constants = c.constants }
with_entries c Xor es = record { tables = c.tables; program = c.program; xor = c.xor ++ es; range = c.range; constants = c.constants }
with_entries c Range es = record { tables = c.tables; program = c.program; xor = c.xor; range = c.range ++ es; constants = c.constants }
with_entries c ShaConst es = record { tables = c.tables; program = c.program; xor = c.xor; range = c.range; constants = c.constants ++ es }

-- At the place of each row of the program stands how many records are of it.
pub record CountsRows (program : List VmInstr) (done : List StepRecord) (counts : List ℕ) : Type 0 where
  pub at : (place : ℕ) (tuple : List ℕ) → fixed_row program PROGRAM place ≡ Some tuple → slice_index counts place ≡ weight (λ d. once (pointwise nat_eq (numbers_of d.instr) tuple)) done
