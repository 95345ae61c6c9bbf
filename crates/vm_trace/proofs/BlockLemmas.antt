-- The blocks of a page are the machine's.
use Rattle.std.proofs.Common.{◌≡◌, ℕ, ◌%◌, ◌<◌, true, nat_eq, arith}
use Rattle.std.specs.Prelude.{nat_lt}
use Rattle.std.proofs.lemmas.Bool.{eq-eqb, and_from}
use Rattle.std.proofs.lemmas.Bool.Decides.{nat_tests}
use Rattle.vm_isa.specs.Blocks.{is_block, space_size}
use Rattle.vm_trace.specs.Pages.{page_space, block_pointer}
use Rattle.vm_trace.specs.PageBlocks.{IsPage}

pub block_inside : (label block : ℕ) → IsPage label → block < 16 → is_block (page_space label) (block_pointer label block) ≡ true
block_inside label block is small =
    and_from (nat_eq (block_pointer label block % 4) 0) (nat_lt (block_pointer label block) (space_size (page_space label)))
    (eq-eqb (block_pointer label block % 4) 0 (omega arith))
    (below (block_pointer label block) (space_size (page_space label)) (omega (arith, is, small)))
  where
    below : (a b : ℕ) → a < b → nat_lt a b ≡ true
    below a b h = grind (arith, nat_tests)
