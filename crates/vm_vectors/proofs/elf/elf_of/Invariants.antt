use Rattle.std.proofs.Common.{◌≡◌, ◌++◌, take}
use Rattle.vm_vectors.specs.ElfFile.{file_header, program_header, text_bytes}
use Rattle.vm_vectors.proofs.elf.elf_of.Given as goal

-- the headers and the words so far
abbrev pub invariant-loop-word : goal.invariant-loop-word
invariant-loop-word l = l.file.items ≡ (file_header l.base ++ program_header l.base l.size) ++ text_bytes (take l.word-index l.words)
