use Rattle.std.proofs.Common.{◌≡◌, ◌≤◌, ◌^◌, ◌++◌, drop, map, vec_len}
use Rattle.elf_image.specs.Image.{load_of}
use Rattle.elf_image.proofs.Loads.{text_in}
use Rattle.elf_image.proofs.segments.read_text.Given as goal

-- the text so far, and that of the loads which are left
abbrev pub invariant-loop-load : goal.invariant-loop-load
invariant-loop-load l = record {
  most : vec_len l.text ≤ 2 ^ 20;
  text : l.text.items ++ text_in (2 ^ 32) (map (load_of l.file) (drop l.load-index l.loads)) ≡ text_in (2 ^ 32) (map (load_of l.file) l.loads);
}
