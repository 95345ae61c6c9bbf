-- Accesses that follow one another, and the pages that go with them.
use Rattle.std.specs.Prelude.{◌≡◌, ℕ, List, [], ◌∷◌, cond, Option, Some, None}
use Rattle.std.specs.List.{AllByRecursion}
use Rattle.vm_trace.specs.declared.page.Touched.{Touched}
use Rattle.offline_memory.specs.Memory.{Access, Block, is_cell_at, after_access, after_all}
use Rattle.vm_trace.specs.PageBlocks.{InPages}
use Rattle.offline_memory.specs.Pages.{DistinctLabels, blocks_of}

-- the word and the time that the last access of a place left, where there was one
abbrev pub Lasts : Type 0
Lasts = ℕ → ℕ → Option (List ℕ × ℕ)

-- before the first access
abbrev pub unmet : Lasts
unmet space pointer = None

-- An access meets what the last one left. The first one's old word is free, and its old time is 0.
abbrev pub Follows : Option (List ℕ × ℕ) → Access → Type 0
Follows None a = a.before ≡ 0
Follows (Some last) a = (a.old ≡ last.0) × (a.before ≡ last.1)

-- each access meets what the last one of its place left
unfoldable pub Linked : Lasts → List Access → Type 0
Linked lasts [] = Unit {0}
Linked lasts (a ∷ more) = Follows (lasts a.space a.pointer) a × Linked (after_access a lasts) more

-- the old word of the first access of a place
abbrev pub first_word : List Access → ℕ → ℕ → Option (List ℕ)
first_word [] s p = None
first_word (a ∷ more) s p = cond (is_cell_at a.space a.pointer s p) (Some a.old) (first_word more s p)

-- A block has the first old word of its accesses, the last new word and the last time. One without
-- accesses keeps its word, and its final time is 0.
abbrev pub BlockFits : Option (List ℕ) → Option (List ℕ × ℕ) → Block → Type 0
BlockFits None last b = (b.last ≡ b.first) × (b.final ≡ 0)
BlockFits (Some word) last b = (b.first ≡ word) × (last ≡ Some (b.last, b.final))

-- Pages of different labels that have every accessed block, each block as its accesses leave it.
pub record PagesFit (pages : List Touched) (accesses : List Access) : Type 0 where
  pub distinct : DistinctLabels pages
  pub inside : AllByRecursion (λ a. InPages pages a.space a.pointer) accesses
  pub blocks : AllByRecursion (λ b. BlockFits (first_word accesses b.space b.pointer) (after_all accesses unmet b.space b.pointer) b) (blocks_of pages)
