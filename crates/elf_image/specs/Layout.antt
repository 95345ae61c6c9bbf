-- What an image keeps of its loads.
use Rattle.std.specs.Prelude.{◌≡◌, ◌≢◌, ℕ, ◌+◌, ◌^◌, ◌<◌, ◌≤◌, Bool, true, ◌&&◌, nat_le, List, [], ◌∷◌, length, slice_index_or, All}
use Rattle.elf_image.specs.declared.ImageError.{ImageError}
use Rattle.elf_image.specs.declared.ImageError.TheVariants.{OutOfMemory, TextSize}
use Rattle.elf_image.specs.declared.headers.ProgramHeader.{ProgramHeader}
use Rattle.elf_image.specs.declared.TextWord.{TextWord}
use Rattle.elf_image.specs.Loaded.{text_of}
use Rattle.elf_image.specs.Image.{loaded_by}

-- each load begins where the one before it ends, or after that; the first at this address, or after it
abbrev pub follow : ℕ → List ProgramHeader → Bool
follow from [] = true
follow from (load ∷ rest) = nat_le from load.p_vaddr && follow (load.p_vaddr + load.p_memsz) rest

-- the file gives what the loads take from it, and they fit into memory
pub record Fit (bytes : List ℕ) (loads : List ProgramHeader) : Type 0 where
  pub held : All (λ load. load.p_filesz ≤ load.p_memsz) loads
  pub given : All (λ load. load.p_offset + load.p_filesz ≤ length bytes) loads
  pub low : All (λ load. load.p_vaddr + load.p_memsz ≤ 2 ^ 29) loads

pub record IsLaidOut (entry : ℕ) (bytes : List ℕ) (loads : List ProgramHeader) (text : List TextWord) : Type 0 where
  pub fit : Fit bytes loads
  pub apart : follow 0 loads ≡ true
  pub words : text ≡ text_of (loaded_by entry bytes loads)

-- the first so many loads begin at the address or before it, and the others after it
pub record Begun (loads : List ProgramHeader) (address count : ℕ) : Type 0 where
  pub before : (place : ℕ) (d : ProgramHeader) → place < count → (slice_index_or loads place d).p_vaddr ≤ address
  pub after : (place : ℕ) (d : ProgramHeader) → count ≤ place → place < length loads → address < (slice_index_or loads place d).p_vaddr

-- the text words of one load of a file
abbrev pub words_of : List ℕ → ProgramHeader → List TextWord
words_of bytes load = text_of (loaded_by 0 bytes (load ∷ []))

-- why a text is not kept: memory is out, or it has too many words
abbrev pub IsNotKept : List TextWord → ImageError → Type 0
IsNotKept text error = error ≢ OutOfMemory → (error ≡ TextSize) × (2 ^ 20 < length text)
