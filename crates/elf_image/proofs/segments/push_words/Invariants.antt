use Rattle.std.proofs.Common.{◌≡◌, ◌+◌, ◌-◌, ◌%◌, ◌≤◌, ◌^◌, [], ◌∷◌, ◌++◌, vec_len}
use Rattle.elf_image.specs.Image.{load_of}
use Rattle.elf_image.specs.Loaded.{text_below}
use Rattle.elf_image.proofs.Loads.{words_in}
use Rattle.elf_image.proofs.segments.push_words.Given as goal

-- the load's words below pc stand at the end of the text
abbrev pub invariant-loop-pc : goal.invariant-loop-pc
invariant-loop-pc l = record {
  aligned : l.pc % 4 ≡ 0;
  low : l.load.p_vaddr ≤ l.pc;
  near : l.pc ≤ 2 ^ 29 + 4;
  most : vec_len l.text ≤ 2 ^ 20;
  text : l.text.items ≡ l.fn.text.items ++ text_below (words_in (load_of l.file l.load ∷ [])) l.pc;
}

abbrev pub decreases-loop-pc : goal.decreases-loop-pc
decreases-loop-pc l = l.end + 1 - l.pc
