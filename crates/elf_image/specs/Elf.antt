-- The layout of an ELF32 file: System V ABI, chapter 4, "ELF Header", and chapter 5, "Program Header". Numbers are
-- little-endian. Of the fields, those stand here that decide what is loaded.
use Rattle.std.specs.Prelude.{ℕ, ◌+◌, ◌*◌, Bool, ◌==◌, List, map, filter, drop}
use Rattle.std.specs.List.{range_with_len}
use Rattle.byteorder.specs.Endian.{little_number}
use Rattle.elf_image.specs.declared.headers.ProgramHeader.{ProgramHeader}

-- Elf32_Half and Elf32_Word (as Elf32_Addr and Elf32_Off) at an offset
unfoldable pub half : ℕ → List ℕ → ℕ
half offset bytes = little_number 2 (drop offset bytes)

unfoldable pub word : ℕ → List ℕ → ℕ
word offset bytes = little_number 4 (drop offset bytes)

-- ELF Header, Elf32_Ehdr: 52 bytes, of which the first 16 are e_ident
abbrev pub e_type : List ℕ → ℕ
e_type bytes = half 16 bytes

abbrev pub e_machine : List ℕ → ℕ
e_machine bytes = half 18 bytes

abbrev pub e_entry : List ℕ → ℕ
e_entry bytes = word 24 bytes

abbrev pub e_phoff : List ℕ → ℕ
e_phoff bytes = word 28 bytes

abbrev pub e_flags : List ℕ → ℕ
e_flags bytes = word 36 bytes

abbrev pub e_phentsize : List ℕ → ℕ
e_phentsize bytes = half 42 bytes

abbrev pub e_phnum : List ℕ → ℕ
e_phnum bytes = half 44 bytes

-- Program Header, Elf32_Phdr: 32 bytes
abbrev pub program_header : ℕ → List ℕ → ProgramHeader
program_header offset bytes = record {
  p_type = word offset bytes;
  p_offset = word (offset + 4) bytes;
  p_vaddr = word (offset + 8) bytes;
  p_filesz = word (offset + 16) bytes;
  p_memsz = word (offset + 20) bytes;
  p_flags = word (offset + 24) bytes;
}

-- the header at a place of the program header table
abbrev pub header_at : List ℕ → ℕ → ProgramHeader
header_at bytes place = program_header (e_phoff bytes + 32 * place) bytes

abbrev pub program_headers : List ℕ → List ProgramHeader
program_headers bytes = map (header_at bytes) (range_with_len 0 (e_phnum bytes))

-- PT_LOAD
abbrev pub is_load : ProgramHeader → Bool
is_load header = header.p_type == 1

-- the loads, in the order of the table
abbrev pub load_headers : List ℕ → List ProgramHeader
load_headers bytes = filter is_load (program_headers bytes)
