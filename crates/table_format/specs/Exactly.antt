-- Which files pass every test: those of the form that pass a checker's own.
use Rattle.std.specs.Prelude.{◌≡◌, ℕ, ◌+◌, ◌≤◌, ◌↔◌, List, [], ◌∷◌, length, None}
use Rattle.readings.specs.Readings.{first_reason}
use Rattle.readings.specs.Exact.{Each, IsBytes}
use Rattle.vm_trace.specs.declared.page.Touched.{Touched}
use Rattle.vm_trace.specs.Canonical.{Shape, IsCanonicalSegment, IsCanonical}
use Rattle.vm_trace.specs.File.{Segment, File}
use Rattle.vm_trace.specs.Limits.{limits_of}
use Rattle.table_format.specs.Order.{Tests, Stand, PageAt, first_page, next_page, next_place, first_stand, next_stand, stand_after, file, piece}
use Rattle.table_format.specs.Texts.{file_text, piece_text}
use Rattle.table_format.specs.declared.reason.Reason.TheVariants.{Trailing}

-- no row of these tables fails its test
abbrev pub RowsPass : Tests → Stand → ℕ → List (List (List ℕ)) → Type 0
RowsPass t at table [] = Unit {0}
RowsPass t at table (rows ∷ ts) = Each (λ place row. t.row at table place row ≡ None) next_place 0 rows × RowsPass t at (table + 1) ts

-- no test of a segment fails that stands there
pub record Passes (t : Tests) (at : Stand) (s : Segment) : Type 0 where
  pub heights : t.heights at s.height_codes ≡ None
  pub rows : RowsPass t at 0 s.tables
  pub pages : Each (λ (place : PageAt) (page : Touched). t.page at place page ≡ None) next_page first_page s.pages
  pub siblings : t.siblings at (record s { siblings = [] }) (length s.siblings) ≡ None
  pub whole : t.segment at s ≡ None

-- nor does one between segments
abbrev pub AllPass : Tests → Stand → List Segment → Type 0
AllPass t at [] = t.closed at ≡ None
AllPass t at (s ∷ ss) = (t.follows at ≡ None) × Passes t at s × AllPass t (next_stand at s) ss

-- nor one of the claim
pub record PassesFile (t : Tests) (f : File) : Type 0 where
  pub few : length f.segments ≤ t.most
  pub segments : AllPass t first_stand f.segments
  pub claim : t.claim (stand_after first_stand f.segments) f ≡ None

-- a file of the form, of a version up to the greatest, that passes the tests of its version
pub record IsPassed (shape : ℕ → Shape) (t : ℕ → Tests) (greatest : ℕ) (f : File) : Type 0 where
  pub canonical : IsCanonical (shape f.version) f
  pub version : f.version ≤ greatest
  pub passes : PassesFile (t f.version) f

-- No test fails exactly where the bytes spell such a file.
abbrev pub NoReasonExactly : Type 0
NoReasonExactly = (shape : ℕ → Shape) (t : ℕ → Tests) (greatest : ℕ) (bytes : List ℕ) → IsBytes bytes
    → (first_reason Trailing (file shape t greatest) bytes ≡ None) ↔ ((f : File) × IsPassed shape t greatest f × (bytes ≡ file_text f))

-- And of a segment alone, wherever it stands.
abbrev pub NoReasonInAPiece : Type 0
NoReasonInAPiece = (version : ℕ) (shape : Shape) (t : Tests) (at : Stand) (bytes : List ℕ) → IsBytes bytes
    → (first_reason Trailing (piece (limits_of version) shape t at) bytes ≡ None)
    ↔ ((s : Segment) × (IsCanonicalSegment (limits_of version) shape s × Passes t at s) × (bytes ≡ piece_text s))

-- Two files of the form with one spelling are one.
abbrev pub OneSpelling : Type 0
OneSpelling = (shape : ℕ → Shape) (f g : File) → IsCanonical (shape f.version) f → IsCanonical (shape g.version) g → file_text f ≡ file_text g → f ≡ g
