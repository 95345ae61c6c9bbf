-- The memory that is kept: the image, and over it a page wherever something was stored.
use Rattle.std.specs.Prelude.{◌≡◌, ℕ, ◌/◌, ◌%◌, List, slice_index, slice_index_or, is_some, true, Option, None, Some}
use Rattle.elf_image.specs.Loaded.{byte_of}
use Rattle.rv_run.specs.declared.memory.Page.{Page}
use Rattle.rv_run.specs.declared.memory.Memory.{Memory}

-- a byte of a page, or of what lies under it
abbrev pub byte_over : Option Page → (ℕ → ℕ) → ℕ → ℕ
byte_over None under address = under address
byte_over (Some page) under address = slice_index page.bytes.value (address % 4096)

abbrev pub page_of : List (Option Page) → ℕ → Option Page
page_of pages address = slice_index_or pages (address / 4096) None

abbrev pub memory_of : Memory → ℕ → ℕ
memory_of memory address = byte_over (page_of memory.pages.items address) (byte_of memory.code.image.now) address

-- the page of an address is kept
abbrev pub IsOwned : Memory → ℕ → Type 0
IsOwned memory address = is_some (page_of memory.pages.items address) ≡ true

-- pages that were kept still are
abbrev pub KeepsOwned : Memory → Memory → Type 0
KeepsOwned old new = (address : ℕ) → IsOwned old address → IsOwned new address
