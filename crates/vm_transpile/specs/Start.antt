-- The virtual machine before its first step.
use Rattle.std.specs.Prelude.{ℕ, ◌+◌, nat_eq, if◌then◌else◌, List, map, replicate}
use Rattle.std.specs.List.{range_with_len}
use Rattle.elf_image.specs.Loaded.{Loaded, byte_of}
use Rattle.vm_isa.specs.Spaces.{MEMORY}
use Rattle.vm_isa.specs.Blocks.{Blocks, VmState}

-- the image's bytes are in memory; registers and public bytes are 0
abbrev pub start_blocks : Loaded → Blocks
start_blocks loaded space pointer =
    if nat_eq space MEMORY then map (λ i. byte_of loaded (pointer + i)) (range_with_len 0 4) else replicate 4 0

abbrev pub vm_start : Loaded → List ℕ → VmState
vm_start loaded hints = record { pc = loaded.entry; blocks = start_blocks loaded; hints = hints }
