-- The items that a reader gives for a file, one after another.
use Rattle.std.specs.Prelude.{◌≡◌, ℕ, ◌+◌, true, false, List, [], ◌∷◌, ◌++◌, map, length, Option, Some, None, Result, Ok, Err}
use Rattle.std.specs.List.{flat_map}
use Rattle.readings.specs.Readings.{Rest, rest_at, Reading, leftover}
use Rattle.readings.specs.Exact.{IsBytes}
use Rattle.vm_trace.specs.declared.count.CountEntry.{CountEntry}
use Rattle.vm_trace.specs.declared.count.CountList.{CountList}
use Rattle.vm_trace.specs.declared.count.CountList.TheVariants.{Program, Xor, Range, ShaConst}
use Rattle.vm_trace.specs.declared.page.Touched.{Touched}
use Rattle.vm_trace.specs.Canonical.{Shape, height_of, IsCanonical}
use Rattle.vm_trace.specs.File.{Segment, File}
use Rattle.table_format.specs.declared.item.Claim.{Claim}
use Rattle.table_format.specs.declared.item.Item.{Item}
use Rattle.table_format.specs.declared.item.Item.TheVariants as item
use Rattle.table_format.specs.declared.stage.Stage.{Stage}
use Rattle.table_format.specs.declared.stage.Stage.TheVariants as stage
use Rattle.table_format.specs.declared.reason.Reason.{Reason}
use Rattle.table_format.specs.declared.reason.Reason.TheVariants.{Trailing}
use Rattle.table_format.specs.Order.{Bounds, no_tests, file, body}
use Rattle.table_format.specs.Items.{segment_item, claim_item}
use Rattle.table_format.specs.Reader.{Form, Spot, Step, item_at}
use Rattle.table_format.specs.Texts.{body_text, file_text, head_text, piece_text}
use Rattle.table_format.specs.Writing.{end_text}

-- ---- the items of a file

-- an item, and the values of a row, which the reader has
abbrev pub Given : Type 0
Given = Item × List ℕ

-- an item that is no row
abbrev pub alone : Item → Given
alone it = (it, [])

-- each by its number, the first of which is this
abbrev pub numbered : {V : Type 0} → (ℕ → V → Given) → ℕ → List V → List Given
numbered give n [] = []
numbered give n (v ∷ vs) = give n v ∷ numbered give (n + 1) vs

abbrev pub height_given : ℕ → ℕ → Given
height_given table code = alone (item.Height table (height_of code))

abbrev pub row_given : ℕ → ℕ → List ℕ → Given
row_given table place row = (item.Row table place, row)

-- table by table, the first of which has this number
abbrev pub tables_given : ℕ → List (List (List ℕ)) → List Given
tables_given table [] = []
tables_given table (rows ∷ ts) = numbered (row_given table) 0 rows ++ tables_given (table + 1) ts

abbrev pub entries_given : CountList → List CountEntry → List Given
entries_given list es = map (λ e. alone (item.Count list e)) es

abbrev pub pages_given : List Touched → List Given
pages_given ps = map (λ p. alone (item.Page p)) ps

abbrev pub siblings_given : List (List ℕ) → List Given
siblings_given ds = alone (item.SiblingCount (length ds)) ∷ map (λ d. alone (item.Sibling d)) ds

abbrev pub bounds_of : Segment → Bounds
bounds_of s = (s.pc_start, (s.pc_end, (s.end_time, (s.ends, (s.start_root, s.end_root)))))

abbrev pub counts_given : Segment → List Given
counts_given s = entries_given Program s.program ++ (entries_given Xor s.xor ++ (entries_given Range s.range ++ entries_given ShaConst s.constants))

abbrev pub segment_given : Segment → List Given
segment_given s =
    alone (segment_item (bounds_of s)) ∷ []
    ++ (numbered height_given 0 s.height_codes ++ (tables_given 0 s.tables ++ (counts_given s ++ (pages_given s.pages ++ siblings_given s.siblings))))

-- each segment behind its mark, and the mark that no more follow
abbrev pub segments_given : List Segment → List Given
segments_given [] = alone (item.Marker false) ∷ []
segments_given (s ∷ ss) = alone (item.Marker true) ∷ (segment_given s ++ segments_given ss)

abbrev pub file_given : File → List Given
file_given f = segments_given f.segments ++ alone (claim_item (f.code, (f.public_bytes, f.path))) ∷ []

-- ---- what a reader gives

-- the last row's values belong to an item that is a row
abbrev pub values_of : Item → List ℕ → List ℕ
values_of (item.Row table place) row = row
values_of _ row = []

abbrev pub given_by : Step → Given
given_by step = (step.0, values_of step.0 step.1.row)

-- From this answer on a reader gives these items, each read from what the one before left, and then the End or this reason.
abbrev pub GivesFrom : Form → Result (Step × Rest) Reason → List Given → Option Reason → Type 0
GivesFrom form (Ok read) [] None = read.0.0 ≡ item.End
GivesFrom form (Ok read) [] (Some reason) = ⊥
GivesFrom form (Err reason) [] None = ⊥
GivesFrom form (Err reason) [] (Some last) = reason ≡ last
GivesFrom form (Ok read) (g ∷ gs) end = (given_by read.0 ≡ g) × GivesFrom form (item_at form read.0.1 read.1) gs end
GivesFrom form (Err reason) (g ∷ gs) end = ⊥

abbrev pub GivesUpTo : Form → Spot → Rest → List Given → Option Reason → Type 0
GivesUpTo form x s gs end = GivesFrom form (item_at form x s) gs end

-- a reader that has given nothing, at this stage
abbrev pub new_spot : Stage → Spot
new_spot s = record { stage = s; segments = 0; heights = []; row = [] }

-- Where a file is read, the reader gives its items, and then the End, or Trailing where a byte follows. And where a
-- test fails, it gives some items, and then that reason.
pub record AreItems (form : Form) (x : Spot) (s : Rest) (read : Reading Reason File) : Type 0 where
  pub file : (f : File) (t : Rest) → read s ≡ Ok (f, t) → GivesUpTo form x s (file_given f) (leftover (Trailing t.at) t.bytes)
  pub reason : (reason : Reason) → read s ≡ Err reason → (gs : List Given) × GivesUpTo form x s gs (Some reason)

-- What a reader gives is the file that the bytes spell.
pub record GivesTheFile (shape : Shape) : Type 0 where
  -- a whole file, of version 1
  pub whole : (bytes : List ℕ) → IsBytes bytes
      → AreItems (record { version = 1; shape = shape }) (new_spot stage.Head) (rest_at 0 bytes) (file (λ v. shape) (λ v. no_tests (length bytes)) 1)
  -- what stands behind the head of a version
  pub body : (version at : ℕ) (bytes : List ℕ) → IsBytes bytes
      → AreItems (record { version = version; shape = shape }) (new_spot stage.Marker) (rest_at at bytes) (body version shape (no_tests (length bytes)))
  -- and each file of the form is given
  pub spelled : (f : File) (at : ℕ) → IsCanonical shape f → IsBytes (body_text f)
      → GivesUpTo (record { version = f.version; shape = shape }) (new_spot stage.Marker) (rest_at at (body_text f)) (file_given f) None

abbrev pub ItemsAreTheFile : Type 0
ItemsAreTheFile = (shape : Shape) → GivesTheFile shape

-- ---- what a writer writes

abbrev pub claim_of : File → Claim
claim_of f = record { code = f.code; public = f.public_bytes; path = f.path }

-- The head, the segments behind their marks, and the end with the claim, one after another, are the file.
abbrev pub PartsAreTheFile : Type 0
PartsAreTheFile = (f : File) → head_text f.version ++ (flat_map piece_text f.segments ++ end_text (claim_of f)) ≡ file_text f
