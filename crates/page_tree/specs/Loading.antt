-- How the tree at the start is put together: load by load, the last one first.
use Rattle.std.specs.Prelude.{◌≡◌, ℕ, ◌+◌, List, ◌∷◌, map, slice_index}
use Rattle.std.specs.List.{range_with_len}
use Rattle.elf_image.specs.Copies.{given_or}
use Rattle.elf_image.specs.Loaded.{Load}
use Rattle.page_tree.specs.Tree.{Leaves, IsBelow}
use Rattle.page_tree.specs.Start.{start_map}

-- the 64 bytes from an address on, where these bytes stand over the old ones
unfoldable pub laid_over : ℕ → List ℕ → ℕ → List ℕ → List ℕ
laid_over address bytes start old = map (λ k. given_or address bytes (start + k) (slice_index old k)) (range_with_len 0 64)

-- the leaves below node i of level l are those at the start of these loads
abbrev pub AreLoaded : List Load → ℕ → ℕ → Leaves → Type 0
AreLoaded loads l i m = (j : ℕ) → IsBelow l i j → m j ≡ start_map (record { entry = 0; loads = loads }) j

-- leaves that were those of some loads are those of one load more, which stands before them
pub record LaysOver (address : ℕ) (bytes : List ℕ) (l i : ℕ) (old new : Leaves) : Type 0 where
  pub lays : (load : Load) (loads : List Load) → load.address ≡ address → load.bytes ≡ bytes → AreLoaded loads l i old → AreLoaded (load ∷ loads) l i new
