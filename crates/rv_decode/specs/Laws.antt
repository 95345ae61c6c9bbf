-- What the listing says as a whole. Each law is the contract of a function in src/laws.rt.
use Rattle.std.specs.Prelude.{ℕ, ◌≡◌, Some, IsTrue, IfSome, slice_get}
use Rattle.rv_decode.specs.Formats.{Line, fits}
use Rattle.rv_decode.specs.Listing.{listing, decode_of}
use Rattle.rv_decode.specs.Ranges.{HasFieldsInRange}

-- this line stands at this place of the listing, and fits the word
pub record IsListedAt (place : ℕ) (line : Line) (word : ℕ) : Type 0 where
  pub listed : slice_get listing place ≡ Some line
  pub fitting : IsTrue (fits line.fixed word)

-- lines at two different places don't both fit a word
abbrev pub NoWordIsListedTwice : Type 0
NoWordIsListedTwice = (word first second : ℕ) (line other : Line)
    → IsListedAt first line word → IsListedAt second other word → first ≡ second

-- a word has the instruction of any line that fits it
abbrev pub ListedLineDecodes : Type 0
ListedLineDecodes = (word place : ℕ) (line : Line) → IsListedAt place line word → decode_of word ≡ Some (line.instr word)

-- what a word decodes to has its fields in their ranges
abbrev pub DecodedFieldsAreInRange : Type 0
DecodedFieldsAreInRange = (word : ℕ) → IfSome (decode_of word) HasFieldsInRange
