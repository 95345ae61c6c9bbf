-- The ELF file of a program that is one text, and what it loads. The layout is that of ELF32: System V ABI, chapter 4,
-- "ELF Header", and chapter 5, "Program Header". Numbers are little-endian.
use Rattle.std.specs.Prelude.{◌≡◌, ℕ, ◌+◌, ◌*◌, ◌%◌, ◌^◌, ◌<◌, ◌≤◌, List, [], ◌∷◌, ◌++◌, length, replicate, All, true}
use Rattle.byteorder.specs.Endian.{little_bytes}
use Rattle.elf_image.specs.declared.TextWord.{TextWord}
use Rattle.elf_image.specs.Loaded.{Loaded, text_of}

-- e_ident: the magic number, ELFCLASS32, ELFDATA2LSB, EV_CURRENT, and nine zeros
abbrev pub identification : List ℕ
identification = 0x7f ∷ 0x45 ∷ 0x4c ∷ 0x46 ∷ 1 ∷ 1 ∷ 1 ∷ replicate 9 0

abbrev pub file_header : ℕ → List ℕ
file_header entry =
    identification
    ++ little_bytes 2 2  -- e_type: ET_EXEC
    ++ little_bytes 2 243  -- e_machine: EM_RISCV
    ++ little_bytes 4 1  -- e_version
    ++ little_bytes 4 entry  -- e_entry
    ++ little_bytes 4 52  -- e_phoff: the program header follows
    ++ little_bytes 4 0  -- e_shoff
    ++ little_bytes 4 0  -- e_flags
    ++ little_bytes 2 52  -- e_ehsize
    ++ little_bytes 2 32  -- e_phentsize
    ++ little_bytes 2 1  -- e_phnum
    ++ replicate 6 0  -- e_shentsize, e_shnum and e_shstrndx

abbrev pub program_header : ℕ → ℕ → List ℕ
program_header address size =
    little_bytes 4 1  -- p_type: PT_LOAD
    ++ little_bytes 4 84  -- p_offset: behind both headers
    ++ little_bytes 4 address  -- p_vaddr
    ++ little_bytes 4 address  -- p_paddr
    ++ little_bytes 4 size  -- p_filesz
    ++ little_bytes 4 size  -- p_memsz
    ++ little_bytes 4 5  -- p_flags: PF_R and PF_X
    ++ little_bytes 4 4  -- p_align

abbrev pub text_bytes : List ℕ → List ℕ
text_bytes [] = []
text_bytes (word ∷ rest) = little_bytes 4 word ++ text_bytes rest

-- the file of these words at this address, which is the entry
abbrev pub elf_file : ℕ → List ℕ → List ℕ
elf_file base words = (file_header base ++ program_header base (4 * length words)) ++ text_bytes words

-- its image
abbrev pub text_image : ℕ → List ℕ → Loaded
text_image base words = record {
  entry = base;
  loads = record { address = base; bytes = text_bytes words; size = 4 * length words; executable = true } ∷ [];
}

-- its text: the words one after another
abbrev pub text_from : ℕ → List ℕ → List TextWord
text_from pc [] = []
text_from pc (word ∷ rest) = record { pc = pc; word = word } ∷ text_from (pc + 4) rest

abbrev pub TextIsWords : Type 0
TextIsWords =
    (base : ℕ) (words : List ℕ) → 0 < length words → length words ≤ 2 ^ 20 → base % 4 ≡ 0 → base + 4 * length words ≤ 2 ^ 29
    → All (λ word. word < 2 ^ 32) words → text_of (text_image base words) ≡ text_from base words
