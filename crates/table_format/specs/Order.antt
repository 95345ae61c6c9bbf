-- A file's bytes in the order in which they are read: which item stands where, and the tests that are made at each.
-- The form's own tests are written in the items. Those of a checker, which asks more, are a parameter.
use Rattle.std.specs.Prelude.{ℕ, ◌+◌, Bool, true, false, ◌&&◌, nat_eq, nat_lt, nat_le, List, [], ◌∷◌, length, Option, Some, None}
use Rattle.std.proofs.Common.{get_or}
use Rattle.std.specs.Cmp.Lexicographic.{pointwise}
use Rattle.readings.specs.Readings.{Reading, gives, raw, seen, both, unless, only, chain, listed, number}
use Rattle.vm_field.specs.Field.{modulus}
use Rattle.vm_trace.specs.declared.count.CountEntry.{CountEntry}
use Rattle.vm_trace.specs.declared.count.TheConstants.{XOR_ROWS, RANGE_ROWS, SHA_ROWS}
use Rattle.vm_trace.specs.declared.page.Touched.{Touched}
use Rattle.vm_trace.specs.Canonical.{Shape, height_of}
use Rattle.vm_trace.specs.File.{Segment, File}
use Rattle.vm_trace.specs.Limits.{Limits, limits_of}
use Rattle.table_format.specs.Texts.{magic}
use Rattle.table_format.specs.declared.reason.Reason.{Reason}
use Rattle.table_format.specs.declared.reason.Reason.TheVariants as reason

-- ---- tests

-- the reason, unless it is so
abbrev pub want : Bool → Reason → Option Reason
want true e = None
want false e = Some e

abbrev pub same_bytes : List ℕ → List ℕ → Bool
same_bytes a b = pointwise nat_eq a b

-- where a page stands in its segment: how many are before it, and the least label that it may have
pub record PageAt : Type 0 where
  pub number : ℕ
  pub least : ℕ

abbrev pub first_page : PageAt
first_page = record { number = 0; least = 0 }

abbrev pub next_page : PageAt → Touched → PageAt
next_page at page = record { number = at.number + 1; least = page.label + 1 }

-- where a segment stands: its number, and the segments that were read before it, the last one first
pub record Stand : Type 0 where
  pub number : ℕ
  pub before : List Segment

abbrev pub first_stand : Stand
first_stand = record { number = 0; before = [] }

abbrev pub next_stand : Stand → Segment → Stand
next_stand at s = record { number = at.number + 1; before = s ∷ at.before }

abbrev pub stand_after : Stand → List Segment → Stand
stand_after at [] = at
stand_after at (s ∷ ss) = stand_after (next_stand at s) ss

-- What a checker asks more, item by item.
pub record Tests : Type 0 where
  -- how many segments there may be
  pub most : ℕ
  -- a segment follows
  pub follows : Stand → Option Reason
  -- no segment follows
  pub closed : Stand → Option Reason
  -- the codes of all heights
  pub heights : Stand → List ℕ → Option Reason
  -- a row, by table and place
  pub row : Stand → ℕ → ℕ → List ℕ → Option Reason
  pub page : Stand → PageAt → Touched → Option Reason
  -- the number of siblings, behind a segment without them
  pub siblings : Stand → Segment → ℕ → Option Reason
  -- the whole segment
  pub segment : Stand → Segment → Option Reason
  pub claim : Stand → File → Option Reason

-- nothing more, of up to so many segments
abbrev pub no_tests : ℕ → Tests
no_tests most = record {
  most = most;
  follows = λ at. None;
  closed = λ at. None;
  heights = λ at codes. None;
  row = λ at table place row. None;
  page = λ at place page. None;
  siblings = λ at s number. None;
  segment = λ at s. None;
  claim = λ at f. None;
}

-- ---- items

abbrev pub byte : Reading Reason ℕ
byte = seen (λ bytes. get_or bytes 0 0) (raw reason.Cut 1)

-- 0 or 1
abbrev pub flag : Reading Reason Bool
flag = seen (λ n. nat_eq n 1) (only (λ n. nat_lt n 2) reason.Marker byte)

abbrev pub element : Reading Reason ℕ
element = only (λ n. nat_lt n modulus) reason.NotCanonical (number reason.Cut)

abbrev pub digest : Reading Reason (List ℕ)
digest = raw reason.Cut 32

-- the bytes of a page
abbrev pub leaf : Reading Reason (List ℕ)
leaf = raw reason.Cut 64

-- a number, and so many values
abbrev pub list : {S V : Type 0} → Reading Reason ℕ → (S → Reading Reason V) → (S → V → S) → S → Reading Reason (List V)
list told r next x = seen (λ p. p.1) (both told (λ n. chain r next n x))

-- how many values were read
abbrev pub next_place : {V : Type 0} → ℕ → V → ℕ
next_place n v = n + 1

-- so many elements
abbrev pub elements : ℕ → Reading Reason (List ℕ)
elements count = chain (λ i. element) next_place count 0

abbrev pub digests : ℕ → Reading Reason (List (List ℕ))
digests count = chain (λ i. digest) next_place count 0

-- ---- a segment

-- the code of a table's height, up to the greatest
abbrev pub height_code : ℕ → ℕ → ℕ → Reading Reason ℕ
height_code greatest segment table = unless (λ c. want (nat_le c greatest) (reason.Height segment table)) byte

abbrev pub code : Limits → Stand → ℕ → Reading Reason ℕ
code limits at table = height_code limits.greatest_code at.number table

abbrev pub codes : Limits → Tests → Stand → ℕ → Reading Reason (List ℕ)
codes limits t at tables = unless (t.heights at) (chain (code limits at) next_place tables 0)

abbrev pub row : Tests → Stand → ℕ → ℕ → ℕ → Reading Reason (List ℕ)
row t at table width place = unless (t.row at table place) (elements width)

abbrev pub rows : Tests → Stand → ℕ → ℕ → ℕ → Reading Reason (List (List ℕ))
rows t at table width height = chain (row t at table width) next_place height 0

-- table after table, each with as many rows as its code stands for
unfoldable pub tables : Tests → Stand → ℕ → List ℕ → List ℕ → Reading Reason (List (List (List ℕ)))
tables t at table [] cs = gives []
tables t at table (w ∷ ws) [] = gives []
tables t at table (w ∷ ws) (c ∷ cs) = seen (λ p. p.0 ∷ p.1) (both (rows t at table w (height_of c)) (λ rs. tables t at (table + 1) ws cs))

abbrev pub entry_of : ℕ × ℕ → CountEntry
entry_of p = record { place = p.0; count = p.1 }

abbrev pub is_entry : ℕ → ℕ → CountEntry → Bool
is_entry end least e = nat_le least e.place && (nat_lt e.place end && nat_lt 0 e.count)

abbrev pub entry : ℕ → ℕ → Reading Reason CountEntry
entry end least = only (is_entry end least) reason.CountEntry (seen entry_of (both (number reason.Cut) (λ p. number reason.Cut)))

abbrev pub next_least : ℕ → CountEntry → ℕ
next_least least e = e.place + 1

abbrev pub entries : ℕ → Reading Reason (List CountEntry)
entries end = list (number reason.Cut) (entry end) next_least 0

abbrev pub touched_of : ℕ × (List ℕ × (List ℕ × List ℕ)) → Touched
touched_of p = record { label = p.0; old = p.1.0; new = p.1.1.0; times = p.1.1.1 }

abbrev pub touched : Reading Reason Touched
touched = seen touched_of (both (number reason.Cut) (λ a. both leaf (λ b. both leaf (λ c. elements 16))))

abbrev pub page : Tests → Stand → PageAt → Reading Reason Touched
page t at place = unless (t.page at place) touched

abbrev pub pages : Tests → Stand → Reading Reason (List Touched)
pages t at = list (number reason.Cut) (page t at) next_page first_page

-- where it begins and ends
abbrev pub Bounds : Type 0
Bounds = ℕ × (ℕ × (ℕ × (Bool × (List ℕ × List ℕ))))

-- the four count lists
abbrev pub Counts : Type 0
Counts = List CountEntry × (List CountEntry × (List CountEntry × List CountEntry))

-- what stands behind these
abbrev pub Inner : Type 0
Inner = List ℕ × (List (List (List ℕ)) × (Counts × (List Touched × List (List ℕ))))

abbrev pub segment_of : Bounds × Inner → Segment
segment_of p = record {
  pc_start = p.0.0;
  pc_end = p.0.1.0;
  end_time = p.0.1.1.0;
  ends = p.0.1.1.1.0;
  start_root = p.0.1.1.1.1.0;
  end_root = p.0.1.1.1.1.1;
  height_codes = p.1.0;
  tables = p.1.1.0;
  program = p.1.1.1.0.0;
  xor = p.1.1.1.0.1.0;
  range = p.1.1.1.0.1.1.0;
  constants = p.1.1.1.0.1.1.1;
  pages = p.1.1.1.1.0;
  siblings = p.1.1.1.1.1;
}

-- what is known before the siblings
abbrev pub without_siblings : Bounds → List ℕ → List (List (List ℕ)) → Counts → List Touched → Segment
without_siblings h cs ts counts ps = segment_of (h, (cs, (ts, (counts, (ps, [])))))

abbrev pub bounds : Reading Reason Bounds
bounds = both element (λ a. both element (λ b. both element (λ c. both flag (λ d. both digest (λ e. digest)))))

abbrev pub counts : ℕ → Reading Reason Counts
counts program_len = both (entries program_len) (λ a. both (entries XOR_ROWS) (λ b. both (entries RANGE_ROWS) (λ c. entries SHA_ROWS)))

abbrev pub siblings : Tests → Stand → Segment → Reading Reason (List (List ℕ))
siblings t at s = list (unless (t.siblings at s) (number reason.Cut)) (λ i. digest) next_place 0

-- all but the test of the whole
abbrev pub parts : Limits → Shape → Tests → Stand → Reading Reason Segment
parts limits shape t at = seen segment_of
    (both bounds (λ h. both (codes limits t at (length shape.widths)) (λ cs. both (tables t at 0 shape.widths cs) (λ ts. both (counts shape.program_len) (λ ls. both (pages t at) (λ ps.
    siblings t at (without_siblings h cs ts ls ps)))))))

abbrev pub segment : Limits → Shape → Tests → Stand → Reading Reason Segment
segment limits shape t at = unless (t.segment at) (parts limits shape t at)

-- ---- a file

-- the exit code, the public bytes, and their path
abbrev pub Claimed : Type 0
Claimed = ℕ × (List ℕ × List (List ℕ))

abbrev pub file_of : ℕ → List Segment × Claimed → File
file_of version p = record { version = version; segments = p.0; code = p.1.0; public_bytes = p.1.1.0; path = p.1.1.1 }

abbrev pub claim : Reading Reason Claimed
claim = both byte (λ c. both leaf (λ p. digests 25))

-- what stands behind the head of this version
abbrev pub body : ℕ → Shape → Tests → Reading Reason File
body version shape t = unless (λ f. t.claim (stand_after first_stand f.segments) f) (seen (file_of version)
    (both (listed reason.TooManySegments t.follows t.closed flag (segment (limits_of version) shape t) next_stand t.most first_stand) (λ ss. claim)))

abbrev pub is_version : ℕ → ℕ → Bool
is_version greatest version = nat_lt 0 version && nat_le version greatest

-- the form's name, and a version up to the greatest
abbrev pub head : ℕ → Reading Reason ℕ
head greatest = seen (λ p. p.1) (both (unless (λ m. want (same_bytes m magic) reason.Magic) (raw reason.Cut 8))
    (λ m. unless (λ v. want (is_version greatest v) (reason.Version v)) (number reason.Cut)))

-- what a file of a version is read against, and tested by, is a function of the version that its head tells
abbrev pub file : (ℕ → Shape) → (ℕ → Tests) → ℕ → Reading Reason File
file shape t greatest = seen (λ p. p.1) (both (head greatest) (λ version. body version (shape version) (t version)))

-- a segment alone, behind its mark
abbrev pub piece : Limits → Shape → Tests → Stand → Reading Reason Segment
piece limits shape t at = seen (λ p. p.1) (both (only (λ n. nat_eq n 1) reason.Marker byte) (λ n. segment limits shape t at))
