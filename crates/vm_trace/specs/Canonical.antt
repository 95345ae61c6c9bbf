-- Which values are files of the form: each number in the one way in which it is spelled. What the rows, the counts and
-- the pages say is not asked.
use Rattle.std.specs.Prelude.{◌≡◌, ℕ, zero, suc, ◌+◌, ◌^◌, ◌<◌, ◌≤◌, List, [], ◌∷◌, length}
use Rattle.std.specs.List.{AllByRecursion}
use Rattle.vm_field.specs.Field.{modulus}
use Rattle.vm_isa.specs.Words.{IsBytes}
use Rattle.vm_trace.specs.declared.count.CountEntry.{CountEntry}
use Rattle.vm_trace.specs.declared.count.TheConstants.{XOR_ROWS, RANGE_ROWS, SHA_ROWS}
use Rattle.vm_trace.specs.declared.page.Touched.{Touched}
use Rattle.vm_trace.specs.File.{Segment, File}
use Rattle.vm_trace.specs.Limits.{Limits, limits_of}
use Rattle.vm_trace.specs.Pages.{IsLeaf, IsWhole}

-- what a file is read against: how many columns each table has, and how many rows the program
pub record Shape : Type 0 where
  pub widths : List ℕ
  pub program_len : ℕ

-- a number is spelled in four bytes
abbrev pub IsNumber : ℕ → Type 0
IsNumber n = n < 2 ^ 32

-- an element of the field, in the one form that it has
abbrev pub IsElement : ℕ → Type 0
IsElement n = n < modulus

pub record IsDigest (digest : List ℕ) : Type 0 where
  pub size : length digest ≡ 32
  pub bytes : IsBytes digest

-- the height that a code stands for
abbrev pub height_of : ℕ → ℕ
height_of zero = 0
height_of (suc k) = 2 ^ k

-- a row of elements, one for each column
pub record HasWidth (width : ℕ) (row : List ℕ) : Type 0 where
  pub wide : length row ≡ width
  pub elements : AllByRecursion IsElement row

-- a table of this width and code
pub record IsTable (greatest width code : ℕ) (rows : List (List ℕ)) : Type 0 where
  pub low : code ≤ greatest
  pub height : length rows ≡ height_of code
  pub each : AllByRecursion (HasWidth width) rows

-- table by table: there are as many widths, codes and tables
abbrev pub AreTables : ℕ → List ℕ → List ℕ → List (List (List ℕ)) → Type 0
AreTables greatest [] [] [] = Unit {0}
AreTables greatest (w ∷ ws) (c ∷ cs) (t ∷ ts) = IsTable greatest w c t × AreTables greatest ws cs ts
AreTables greatest _ _ _ = ⊥

-- a place from least to below the table's end, and a count that isn't 0
pub record IsEntry (end least : ℕ) (e : CountEntry) : Type 0 where
  pub low : least ≤ e.place
  pub high : e.place < end
  pub used : 0 < e.count
  pub place : IsNumber e.place
  pub count : IsNumber e.count

-- entries with rising places, the first at least, all below the table's end
abbrev pub AreEntries : ℕ → ℕ → List CountEntry → Type 0
AreEntries end least [] = Unit {0}
AreEntries end least (e ∷ es) = IsEntry end least e × AreEntries end (e.place + 1) es

pub record IsCountList (end : ℕ) (es : List CountEntry) : Type 0 where
  pub number : IsNumber (length es)
  pub each : AreEntries end 0 es

pub record IsCanonicalPage (page : Touched) : Type 0 where
  pub label : IsNumber page.label
  pub whole : IsWhole page
  pub times : AllByRecursion IsElement page.times

pub record IsCanonicalSegment (limits : Limits) (shape : Shape) (s : Segment) : Type 0 where
  pub pc_start : IsElement s.pc_start
  pub pc_end : IsElement s.pc_end
  pub end_time : IsElement s.end_time
  pub start_root : IsDigest s.start_root
  pub end_root : IsDigest s.end_root
  pub tables : AreTables limits.greatest_code shape.widths s.height_codes s.tables
  pub program : IsCountList shape.program_len s.program
  pub xor : IsCountList XOR_ROWS s.xor
  pub range : IsCountList RANGE_ROWS s.range
  pub constants : IsCountList SHA_ROWS s.constants
  pub page_number : IsNumber (length s.pages)
  pub pages : AllByRecursion IsCanonicalPage s.pages
  pub sibling_number : IsNumber (length s.siblings)
  pub siblings : AllByRecursion IsDigest s.siblings

-- the claim: an exit code, the page of public bytes, and a digest for each level
pub record IsCanonicalClaim (file : File) : Type 0 where
  pub code : file.code < 256
  pub public_bytes : IsLeaf file.public_bytes
  pub levels : length file.path ≡ 25
  pub path : AllByRecursion IsDigest file.path

pub record IsCanonical (shape : Shape) (file : File) : Type 0 where
  pub first : 1 ≤ file.version
  pub version : IsNumber file.version
  pub segments : AllByRecursion (IsCanonicalSegment (limits_of file.version) shape) file.segments
  pub claim : IsCanonicalClaim file
