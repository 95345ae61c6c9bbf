-- The image of a file, and where a file has none.
use Rattle.std.specs.Prelude.{◌≡◌, ◌≢◌, ℕ, ◌+◌, ◌*◌, ◌^◌, ◌<◌, ◌⊎◌, Bool, ◌&&◌, nat_le, nat_lt, List, [], ◌∷◌, length, take, slice_index, slice_range, map, filter, count_by, Any, AllPairs, None, IsBitSet, bit_and, not, ◌==◌, IsPermutation}
use Rattle.vm_word.specs.Bytes.{IsBytes}
use Rattle.elf_image.specs.declared.ImageError.{ImageError}
use Rattle.elf_image.specs.declared.ImageError.TheVariants.{Short, Magic, Class, Order, FileType, Machine, Compressed, HeaderSize, HeaderTable, SegmentSize, Truncated, Range, Overlap, TextSize, Entry, OutOfMemory}
use Rattle.elf_image.specs.declared.headers.ProgramHeader.{ProgramHeader}
use Rattle.elf_image.specs.Elf.{e_type, e_machine, e_entry, e_phoff, e_flags, e_phentsize, e_phnum, load_headers}
use Rattle.elf_image.specs.Loaded.{Load, Loaded, word_of, text_of}

-- the load that a header describes; PF_X is bit 0 of p_flags
abbrev pub load_of : List ℕ → ProgramHeader → Load
load_of bytes header = record {
  address = header.p_vaddr;
  bytes = slice_range bytes header.p_offset (header.p_offset + header.p_filesz);
  size = header.p_memsz;
  executable = not (bit_and header.p_flags 1 == 0);
}

-- what these headers load from a file
abbrev pub loaded_by : ℕ → List ℕ → List ProgramHeader → Loaded
loaded_by entry bytes headers = record { entry = entry; loads = map (load_of bytes) headers }

-- the entry and the loads as they stand in the file
abbrev pub in_file : List ℕ → Loaded
in_file bytes = loaded_by (e_entry bytes) bytes (load_headers bytes)

-- the address lies in the load
abbrev pub covers : ℕ → ProgramHeader → Bool
covers address load = nat_le load.p_vaddr address && nat_lt address (load.p_vaddr + load.p_memsz)

-- Where each refusal comes, by the order of the tests. The sums are whole numbers.
abbrev pub Cause : ImageError → List ℕ → Type 0
-- the file ends before its header does
Cause Short bytes = length bytes < 52
-- e_ident: the magic number, ELFCLASS32 and ELFDATA2LSB
Cause Magic bytes = take 4 bytes ≢ 0x7f ∷ 0x45 ∷ 0x4c ∷ 0x46 ∷ []
Cause Class bytes = slice_index bytes 4 ≢ 1
Cause Order bytes = slice_index bytes 5 ≢ 1
-- ET_EXEC, and EM_RISCV of the RISC-V ELF psABI
Cause FileType bytes = e_type bytes ≢ 2
Cause Machine bytes = e_machine bytes ≢ 243
-- EF_RISCV_RVC of the psABI
Cause Compressed bytes = IsBitSet (e_flags bytes) 0
Cause HeaderSize bytes = e_phentsize bytes ≢ 32
Cause HeaderTable bytes = (256 < e_phnum bytes) ⊎ (length bytes < e_phoff bytes + 32 * e_phnum bytes)
Cause SegmentSize bytes = Any (λ load. load.p_memsz < load.p_filesz) (load_headers bytes)
Cause Truncated bytes = Any (λ load. length bytes < load.p_offset + load.p_filesz) (load_headers bytes)
Cause Range bytes = Any (λ load. 2 ^ 29 < load.p_vaddr + load.p_memsz) (load_headers bytes)
-- some address lies in two loads
Cause Overlap bytes = (address : ℕ) × (1 < count_by (covers address) (load_headers bytes))
-- a text word stands at more than 2 ^ 20 addresses
Cause TextSize bytes = 2 ^ 20 < length (text_of (in_file bytes))
Cause Entry bytes = word_of (in_file bytes) (e_entry bytes) ≡ None
-- no file is the cause of this
Cause OutOfMemory bytes = ⊥

-- the place of a refusal in that table
abbrev pub place : ImageError → ℕ
place Short = 0
place Magic = 1
place Class = 2
place Order = 3
place FileType = 4
place Machine = 5
place Compressed = 6
place HeaderSize = 7
place HeaderTable = 8
place SegmentSize = 9
place Truncated = 10
place Range = 11
place Overlap = 12
place TextSize = 13
place Entry = 14
place OutOfMemory = 15

-- the file has no cause that stands before this place
abbrev pub NoneBefore : ℕ → List ℕ → Type 0
NoneBefore n bytes = (refusal : ImageError) → place refusal < n → ¬ Cause refusal bytes

-- the file has no image, and this is the first cause
pub record IsRefused (bytes : List ℕ) (refusal : ImageError) : Type 0 where
  pub cause : Cause refusal bytes
  pub first : NoneBefore (place refusal) bytes

-- the file's image: its loads without those of size 0, in rising order of address
pub record HasImage (bytes : List ℕ) (loaded : Loaded) : Type 0 where
  pub accepted : (refusal : ImageError) → ¬ Cause refusal bytes
  pub entry : loaded.entry ≡ e_entry bytes
  pub loads : IsPermutation (filter (λ load. nat_lt 0 load.size) (in_file bytes).loads) loaded.loads
  pub rising : AllPairs (λ a b. a.address < b.address) loaded.loads

-- a file of bytes has this image
pub record IsOfAFile (loaded : Loaded) : Type 0 where
  pub bytes : List ℕ
  pub are_bytes : IsBytes bytes
  pub has_image : HasImage bytes loaded
