-- Pages and their blocks by number.
use Rattle.std.specs.Prelude.{◌≡◌, ℕ, ◌+◌, ◌*◌, ◌/◌, ◌%◌, ◌<◌, ◌≤◌, ◌⊎◌, List, [], ◌∷◌, length, slice_index}
use Rattle.vm_isa.specs.Words.{IsBytes}
use Rattle.vm_trace.specs.declared.page.TheConstants.{SPACE_PAGES, REGISTER_LABEL, MEMORY_LABEL, PUBLIC_LABEL}
use Rattle.vm_trace.specs.declared.page.Touched.{Touched}

-- a label is the space times 2^23, plus the page's number in that space
abbrev pub page_space : ℕ → ℕ
page_space label = label / SPACE_PAGES

-- the pointer of a block of four bytes: each page has 16
abbrev pub block_pointer : ℕ → ℕ → ℕ
block_pointer label block = 64 * (label % SPACE_PAGES) + 4 * block

-- the four bytes of a block
abbrev pub block_word : List ℕ → ℕ → List ℕ
block_word bytes block = slice_index bytes (4 * block) ∷ slice_index bytes (4 * block + 1) ∷ slice_index bytes (4 * block + 2) ∷ slice_index bytes (4 * block + 3) ∷ []

-- the pages of the machine: two of registers, those of memory, and the one of public bytes
abbrev pub IsMachineLabel : ℕ → Type 0
IsMachineLabel label =
    (label ≡ REGISTER_LABEL) ⊎ ((label ≡ REGISTER_LABEL + 1) ⊎ (((MEMORY_LABEL ≤ label) × (label < PUBLIC_LABEL)) ⊎ (label ≡ PUBLIC_LABEL)))

-- 64 bytes
pub record IsLeaf (leaf : List ℕ) : Type 0 where
  pub size : length leaf ≡ 64
  pub bytes : IsBytes leaf

-- 64 bytes before and after, and a time for each of 16 blocks
pub record IsWhole (page : Touched) : Type 0 where
  pub old : IsLeaf page.old
  pub new : IsLeaf page.new
  pub times : length page.times ≡ 16
