-- The bytes that spell a file.
use Rattle.std.specs.Prelude.{ℕ, Bool, true, false, List, [], ◌∷◌, ◌++◌, length}
use Rattle.std.specs.Int.{w32, to_le_bytes}
use Rattle.std.specs.List.{flat_map}
use Rattle.readings.specs.Exact.{listed_text}
use Rattle.vm_trace.specs.declared.count.CountEntry.{CountEntry}
use Rattle.vm_trace.specs.declared.page.Touched.{Touched}
use Rattle.vm_trace.specs.File.{Segment, File}

-- a number is four bytes, the lowest first
abbrev pub number_text : ℕ → List ℕ
number_text n = to_le_bytes w32 n

abbrev pub byte_text : ℕ → List ℕ
byte_text b = b ∷ []

abbrev pub flag_text : Bool → List ℕ
flag_text true = 1 ∷ []
flag_text false = 0 ∷ []

-- bytes stand as they are
abbrev pub raw_text : List ℕ → List ℕ
raw_text bytes = bytes

-- a list behind its length
abbrev pub counted_text : {V : Type 0} → (V → List ℕ) → List V → List ℕ
counted_text text vs = number_text (length vs) ++ flat_map text vs

abbrev pub entry_text : CountEntry → List ℕ
entry_text e = number_text e.place ++ number_text e.count

abbrev pub rows_text : List (List ℕ) → List ℕ
rows_text rows = flat_map (flat_map number_text) rows

abbrev pub page_text : Touched → List ℕ
page_text p = number_text p.label ++ (p.old ++ (p.new ++ flat_map number_text p.times))

-- where a segment begins and ends
abbrev pub connector_text : Segment → List ℕ
connector_text s = number_text s.pc_start ++ (number_text s.pc_end ++ (number_text s.end_time ++ (flag_text s.ends ++ (s.start_root ++ s.end_root))))

abbrev pub counts_text : Segment → List ℕ
counts_text s = counted_text entry_text s.program ++ (counted_text entry_text s.xor ++ (counted_text entry_text s.range ++ counted_text entry_text s.constants))

abbrev pub segment_text : Segment → List ℕ
segment_text s =
    connector_text s
    ++ (flat_map byte_text s.height_codes ++ (flat_map rows_text s.tables ++ (counts_text s ++ (counted_text page_text s.pages ++ counted_text raw_text s.siblings))))

abbrev pub claim_text : File → List ℕ
claim_text f = byte_text f.code ++ (f.public_bytes ++ flat_map raw_text f.path)

-- segments with a 1 before each, a 0, and the claim
abbrev pub body_text : File → List ℕ
body_text f = listed_text flag_text segment_text f.segments ++ claim_text f

-- the name of the form: RVTABLES
abbrev pub magic : List ℕ
magic = 82 ∷ 86 ∷ 84 ∷ 65 ∷ 66 ∷ 76 ∷ 69 ∷ 83 ∷ []

abbrev pub head_text : ℕ → List ℕ
head_text version = magic ++ number_text version

abbrev pub file_text : File → List ℕ
file_text f = head_text f.version ++ body_text f

-- a segment alone, behind its mark
abbrev pub piece_text : Segment → List ℕ
piece_text s = flag_text true ++ segment_text s
