-- What a segment is made of: the rows of each table, and the entries of each list of counts.
use Rattle.std.specs.Prelude.{ℕ, List, [], ◌∷◌, ◌++◌, map, set, slice_index_or}
use Rattle.vm_trace.specs.declared.count.CountEntry.{CountEntry}
use Rattle.vm_trace.specs.declared.count.CountList.{CountList}
use Rattle.vm_trace.specs.declared.count.CountList.TheVariants.{Program, Xor, Range, ShaConst}

-- a table: its columns, and its rows in order
pub record TableRows : Type 0 where
  pub width : ℕ
  pub rows : List (List ℕ)

pub record Contents : Type 0 where
  pub tables : List TableRows
  pub program : List CountEntry
  pub xor : List CountEntry
  pub range : List CountEntry
  pub constants : List CountEntry

-- the rows, table by table
abbrev pub rows_by_table : Contents → List (List (List ℕ))
rows_by_table c = map (λ t. t.rows) c.tables

-- a table, and none without columns and rows behind the last
abbrev pub table_at : Contents → ℕ → TableRows
table_at c table = slice_index_or c.tables table (record { width = 0; rows = [] })

abbrev pub counts_of : Contents → CountList → List CountEntry
counts_of c Program = c.program
counts_of c Xor = c.xor
counts_of c Range = c.range
counts_of c ShaConst = c.constants

-- tables of these widths without rows, and lists without entries
abbrev pub empty : List ℕ → Contents
empty widths = record { tables = map (λ w. record { width = w; rows = [] }) widths; program = []; xor = []; range = []; constants = [] }

abbrev pub with_last : TableRows → List ℕ → TableRows
with_last t row = record { width = t.width; rows = t.rows ++ (row ∷ []) }

-- with a row more, the last of its table
abbrev pub with_row : Contents → ℕ → List ℕ → Contents
with_row c table row = record {
  tables = set c.tables table (with_last (table_at c table) row);
  program = c.program;
  xor = c.xor;
  range = c.range;
  constants = c.constants;
}

-- with an entry more, the last of its list
abbrev pub with_count : Contents → CountList → CountEntry → Contents
with_count c Program e = record { tables = c.tables; program = c.program ++ (e ∷ []); xor = c.xor; range = c.range; constants = c.constants }
with_count c Xor e = record { tables = c.tables; program = c.program; xor = c.xor ++ (e ∷ []); range = c.range; constants = c.constants }
with_count c Range e = record { tables = c.tables; program = c.program; xor = c.xor; range = c.range ++ (e ∷ []); constants = c.constants }
with_count c ShaConst e = record { tables = c.tables; program = c.program; xor = c.xor; range = c.range; constants = c.constants ++ (e ∷ []) }
