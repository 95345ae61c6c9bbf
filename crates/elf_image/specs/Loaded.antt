-- What a program's file puts into memory, and which of its words are the program's text.
use Rattle.std.specs.Prelude.{◌≡◌, ℕ, zero, suc, ◌+◌, ◌-◌, ◌%◌, ◌^◌, List, [], ◌∷◌, ◌++◌, length, drop, slice_get, slice_index, Bool, ◌&&◌, ◌==◌, nat_le, nat_lt, Option, None, Some, if◌then◌else◌, ⊤}
use Rattle.byteorder.specs.Endian.{little_number}
use Rattle.elf_image.specs.declared.TextWord.{TextWord}
use Rattle.elf_image.specs.declared.LoadPart.{LoadPart}

-- a loadable part of the file
pub record Load : Type 0 where
  pub address : ℕ
  -- the bytes that the file gives from this address on
  pub bytes : List ℕ
  -- how many bytes it takes in memory; those that the file doesn't give are 0
  pub size : ℕ
  -- whether words of it may be executed
  pub executable : Bool

pub record Loaded : Type 0 where
  pub entry : ℕ
  pub loads : List Load

-- the file gives a byte at this address
abbrev pub gives : Load → ℕ → Bool
gives load address = nat_le load.address address && nat_lt address (load.address + length load.bytes)

abbrev pub byte_in : List Load → ℕ → ℕ
byte_in [] address = 0
byte_in (load ∷ rest) address =
    if gives load address then slice_index load.bytes (address - load.address) else byte_in rest address

-- the byte at an address, 0 where no load gives one
abbrev pub byte_of : Loaded → ℕ → ℕ
byte_of loaded address = byte_in loaded.loads address

abbrev pub word_in : List Load → ℕ → Option ℕ
word_in [] pc = None
word_in (load ∷ rest) pc =
    if load.executable && (gives load pc && gives load (pc + 3))
    then Some (little_number 4 (drop (pc - load.address) load.bytes))
    else word_in rest pc

-- the text word at an address: the address is a multiple of 4, and the word's four bytes all lie in one executable load
abbrev pub word_of : Loaded → ℕ → Option ℕ
word_of loaded pc = if pc % 4 == 0 then word_in loaded.loads pc else None

abbrev pub text_at : ℕ → Option ℕ → List TextWord
text_at pc None = []
text_at pc (Some word) = record { pc = pc; word = word } ∷ []

-- the text words at the addresses below one, in rising order
unfoldable pub text_below : (ℕ → Option ℕ) → ℕ → List TextWord
text_below words zero = []
text_below words (suc pc) = text_below words pc ++ text_at pc (words pc)

-- all text words in rising order of address
abbrev pub text_of : Loaded → List TextWord
text_of loaded = text_below (word_of loaded) (2 ^ 32)

-- the place of the text word at an address, if one stands there
abbrev pub IsPlace : List TextWord → ℕ → Option ℕ → Option ℕ → Type 0
IsPlace text pc None None = ⊤
IsPlace text pc None (Some place) = ⊥
IsPlace text pc (Some word) None = ⊥
IsPlace text pc (Some word) (Some place) = slice_get text place ≡ Some (record { pc = pc; word = word })

-- a part as a load describes it: none where there is no load
abbrev pub IsPart : Option Load → Option LoadPart → Type 0
IsPart None None = ⊤
IsPart None (Some part) = ⊥
IsPart (Some load) None = ⊥
IsPart (Some load) (Some part) =
    (part.address ≡ load.address) × (part.bytes.now ≡ load.bytes) × (part.size ≡ load.size)
