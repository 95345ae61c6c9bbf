-- What a reader gives: the items of a file in the order of its bytes, each by a reading of what stands there.
use Rattle.std.specs.Prelude.{◌≡◌, ℕ, ◌+◌, ◌-◌, ◌≤◌, Bool, nat_lt, List, [], ◌∷◌, ◌++◌, length, drop, slice_index, Ok, Err, if◌then◌else◌}
use Rattle.readings.specs.Readings.{Reading, gives, seen, both, number}
use Rattle.vm_trace.specs.declared.count.CountList.{CountList}
use Rattle.vm_trace.specs.declared.count.CountList.TheVariants.{Program, Xor, Range, ShaConst}
use Rattle.vm_trace.specs.declared.count.TheConstants.{XOR_ROWS, RANGE_ROWS, SHA_ROWS}
use Rattle.vm_trace.specs.Canonical.{Shape, height_of}
use Rattle.vm_trace.specs.Limits.{limits_of}
use Rattle.table_format.specs.declared.item.Item.{Item}
use Rattle.table_format.specs.declared.item.Item.TheVariants as item
use Rattle.table_format.specs.declared.stage.Stage.{Stage}
use Rattle.table_format.specs.declared.stage.Stage.TheVariants as stage
use Rattle.table_format.specs.declared.reason.Reason.{Reason}
use Rattle.table_format.specs.declared.reason.Reason.TheVariants as reason
use Rattle.table_format.specs.Order
use Rattle.table_format.specs.Items.{segment_item, claim_item}

-- what a reader reads by: the version, and the tables and the program that the file is about
pub record Form : Type 0 where
  pub version : ℕ
  pub shape : Shape

-- What the items given so far say of the next one: its stage, the number of segments, the heights read in the open
-- segment, and the last row.
pub record Spot : Type 0 where
  pub stage : Stage
  pub segments : ℕ
  pub heights : List ℕ
  pub row : List ℕ

-- an item, and where it leads
abbrev pub Step : Type 0
Step = Item × Spot

abbrev pub at_stage : Spot → Stage → Spot
at_stage x s = record x { stage = s }

-- ---- where an item leads

-- the first row of these tables, the first of which has this number, or what stands behind the rows
abbrev pub first_row : ℕ → List ℕ → Stage
first_row table [] = stage.Counts
first_row table (h ∷ hs) = if nat_lt 0 h then stage.Row table h else first_row (table + 1) hs

-- the first row from this table on
abbrev pub rows_from : List ℕ → ℕ → Stage
rows_from heights table = first_row table (drop table heights)

-- behind a row of a table that has so many left
abbrev pub behind_row : List ℕ → ℕ → ℕ → Stage
behind_row heights table left = if nat_lt 1 left then stage.Row table (left - 1) else rows_from heights (table + 1)

-- the height that comes next, or what stands behind the heights
abbrev pub behind_heights : ℕ → List ℕ → Stage
behind_heights tables heights = if nat_lt (length heights) tables then stage.Height (length heights) else rows_from heights 0

abbrev pub behind_mark : Bool → Stage
behind_mark more = if more then stage.Segment else stage.Claim

abbrev pub siblings_left : ℕ → Stage
siblings_left left = if nat_lt 0 left then stage.Sibling left else stage.Marker

-- A row is one of a table whose height was read, and a height that of the table behind these.
abbrev pub row_end : Stage → ℕ
row_end (stage.Row table left) = table + 1
row_end _ = 0

abbrev pub height_end : Stage → ℕ → ℕ
height_end (stage.Height table) heights = heights + 1
height_end _ heights = heights

abbrev pub height_at : Stage → ℕ → ℕ
height_at (stage.Height table) heights = table
height_at _ heights = heights

-- which stages there are where so many heights were read, of so many tables
abbrev pub Fits : Stage → ℕ → ℕ → Type 0
Fits s heights tables = (row_end s ≤ heights) × (height_end s heights ≤ tables) × (height_at s heights ≡ heights)

abbrev pub list_rows : ℕ → CountList → ℕ
list_rows program_len Program = program_len
list_rows program_len Xor = XOR_ROWS
list_rows program_len Range = RANGE_ROWS
list_rows program_len ShaConst = SHA_ROWS

-- ---- items

abbrev pub mark_step : Spot → Reading Reason Step
mark_step x = seen (λ more. (item.Marker more, at_stage x (behind_mark more))) Order.flag

-- the head tells nothing
abbrev pub first_step : Form → Spot → Reading Reason Step
first_step form x = seen (λ p. p.1) (both (Order.head form.version) (λ version. mark_step x))

abbrev pub segment_step : Form → Spot → Reading Reason Step
segment_step form x = seen (λ b. (segment_item b, record { stage = behind_heights (length form.shape.widths) []; segments = x.segments + 1; heights = []; row = x.row })) Order.bounds

abbrev pub with_height : Form → Spot → ℕ → Spot
with_height form x h = record { stage = behind_heights (length form.shape.widths) (x.heights ++ h ∷ []); segments = x.segments; heights = x.heights ++ h ∷ []; row = x.row }

abbrev pub height_step : Form → Spot → ℕ → Reading Reason Step
height_step form x table = seen (λ c. (item.Height table (height_of c), with_height form x (height_of c))) (Order.height_code (limits_of form.version).greatest_code (x.segments - 1) table)

-- a row of a table that has so many left
abbrev pub row_step : Form → Spot → ℕ → ℕ → Reading Reason Step
row_step form x table left = seen (λ r. (item.Row table (slice_index x.heights table - left), record { stage = behind_row x.heights table left; segments = x.segments; heights = x.heights; row = r }))
    (Order.elements (slice_index form.shape.widths table))

abbrev pub sibling_step : Spot → ℕ → Reading Reason Step
sibling_step x left = seen (λ d. (item.Sibling d, at_stage x (siblings_left (left - 1)))) Order.digest

abbrev pub siblings_step : Spot → Reading Reason Step
siblings_step x = seen (λ n. (item.SiblingCount n, at_stage x (siblings_left n))) (number reason.Cut)

-- so many pages, and what stands behind them
abbrev pub page_step : Spot → ℕ → Reading Reason Step
page_step x left = if nat_lt 0 left then seen (λ p. (item.Page p, at_stage x (stage.Page (left - 1)))) Order.touched else siblings_step x

-- a number that is told by what follows it
abbrev pub behind_number : (ℕ → Reading Reason Step) → Reading Reason Step
behind_number next = seen (λ p. p.1) (both (number reason.Cut) next)

-- an entry of a list that has so many left, with places from least on
abbrev pub entry_step : Form → Spot → CountList → ℕ → ℕ → Reading Reason Step
entry_step form x list left least = seen (λ e. (item.Count list e, at_stage x (stage.Entry list (left - 1) (e.place + 1)))) (Order.entry (list_rows form.shape.program_len list) least)

-- so many entries of a list, and what stands behind them
abbrev pub constants_step : Form → Spot → ℕ → ℕ → Reading Reason Step
constants_step form x left least = if nat_lt 0 left then entry_step form x ShaConst left least else behind_number (page_step x)

abbrev pub range_step : Form → Spot → ℕ → ℕ → Reading Reason Step
range_step form x left least = if nat_lt 0 left then entry_step form x Range left least else behind_number (λ n. constants_step form x n 0)

abbrev pub xor_step : Form → Spot → ℕ → ℕ → Reading Reason Step
xor_step form x left least = if nat_lt 0 left then entry_step form x Xor left least else behind_number (λ n. range_step form x n 0)

abbrev pub program_step : Form → Spot → ℕ → ℕ → Reading Reason Step
program_step form x left least = if nat_lt 0 left then entry_step form x Program left least else behind_number (λ n. xor_step form x n 0)

abbrev pub entries_step : Form → Spot → CountList → ℕ → ℕ → Reading Reason Step
entries_step form x Program left least = program_step form x left least
entries_step form x Xor left least = xor_step form x left least
entries_step form x Range left least = range_step form x left least
entries_step form x ShaConst left least = constants_step form x left least

abbrev pub claim_step : Spot → Reading Reason Step
claim_step x = seen (λ c. (claim_item c, at_stage x stage.End)) Order.claim

-- nothing, where nothing follows
abbrev pub ending_step : Spot → Reading Reason Step
ending_step x s = if nat_lt 0 (length s.bytes) then Err (reason.Trailing s.at) else Ok ((item.End, at_stage x stage.Done), s)

-- the item that comes next
abbrev pub item_by : Form → Spot → Stage → Reading Reason Step
item_by form x stage.Head = first_step form x
item_by form x stage.Marker = mark_step x
item_by form x stage.Segment = segment_step form x
item_by form x (stage.Height table) = height_step form x table
item_by form x (stage.Row table left) = row_step form x table left
item_by form x stage.Counts = behind_number (λ n. program_step form x n 0)
item_by form x (stage.Entry list left least) = entries_step form x list left least
item_by form x (stage.Page left) = page_step x left
item_by form x (stage.Sibling left) = sibling_step x left
item_by form x stage.Claim = claim_step x
item_by form x stage.End = ending_step x
item_by form x stage.Done = gives (item.End, x)

abbrev pub item_at : Form → Spot → Reading Reason Step
item_at form x = item_by form x x.stage
