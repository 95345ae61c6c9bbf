-- The leaves at the start of a run: the image's bytes in space 2, that of memory, and zeros elsewhere.
use Rattle.std.specs.Prelude.{ℕ, ◌+◌, ◌*◌, ◌%◌, List, map, replicate, nat_eq, if◌then◌else◌}
use Rattle.std.specs.List.{range_with_len}
use Rattle.elf_image.specs.Loaded.{Loaded, byte_of}
use Rattle.vm_trace.specs.declared.page.TheConstants.{SPACE_PAGES}
use Rattle.vm_trace.specs.Pages.{page_space}
use Rattle.page_tree.specs.Tree.{Leaves}

-- the 64 bytes of memory from 64 * leaf on
unfoldable pub memory_leaf : Loaded → ℕ → List ℕ
memory_leaf image leaf = map (λ k. byte_of image (64 * leaf + k)) (range_with_len 0 64)

-- what stands at each label at the start: a label is space * 2^23 + leaf
unfoldable pub start_map : Loaded → Leaves
start_map image label = if nat_eq (page_space label) 2 then memory_leaf image (label % SPACE_PAGES) else replicate 64 0
