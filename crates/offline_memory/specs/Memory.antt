-- A memory of words with the times of their last accesses, and accesses that meet it one after the other.
use Rattle.std.specs.Prelude.{◌≡◌, ℕ, ◌+◌, ◌<◌, Bool, ◌&&◌, cond, nat_eq, List, [], ◌∷◌, ◌++◌, map, Option, Some, None}
use Rattle.std.specs.List.{AllByRecursion}
use Rattle.std.specs.Cmp.Lexicographic.{pointwise}
use Rattle.air_core.specs.Counts.{count_of}
use Rattle.air_core.specs.Orders.{Rises}

-- what stands at a pointer of a space: a word, and the time of its last access
pub record Cell : Type 0 where
  pub space : ℕ
  pub pointer : ℕ
  pub word : List ℕ
  pub time : ℕ

-- a cell as the tuple of the memory bus
abbrev pub cell_tuple : Cell → List ℕ
cell_tuple c = c.space ∷ c.pointer ∷ (c.word ++ c.time ∷ [])

-- the test for equal cells
abbrev pub same_cell : Cell → Cell → Bool
same_cell a b = pointwise nat_eq (cell_tuple a) (cell_tuple b)

-- an access: it meets the old word with the time before, and leaves the new word with its own time
pub record Access : Type 0 where
  pub space : ℕ
  pub pointer : ℕ
  pub old : List ℕ
  pub before : ℕ
  pub new : List ℕ
  pub time : ℕ

-- the cell that an access meets
abbrev pub met_cell : Access → Cell
met_cell a = record { space = a.space; pointer = a.pointer; word = a.old; time = a.before }

-- the cell that it leaves
abbrev pub left_cell : Access → Cell
left_cell a = record { space = a.space; pointer = a.pointer; word = a.new; time = a.time }

-- a block of a page: its first word, its last word, and its final time
pub record Block : Type 0 where
  pub space : ℕ
  pub pointer : ℕ
  pub first : List ℕ
  pub last : List ℕ
  pub final : ℕ

-- the cell of a block at the start, at time 0
abbrev pub first_cell : Block → Cell
first_cell b = record { space = b.space; pointer = b.pointer; word = b.first; time = 0 }

-- the cell of a block at the end
abbrev pub last_cell : Block → Cell
last_cell b = record { space = b.space; pointer = b.pointer; word = b.last; time = b.final }

-- for each cell: the first cells of blocks and the cells that accesses leave are as many as the last cells and the cells that accesses meet
pub record MemoryBalanced (blocks : List Block) (accesses : List Access) : Type 0 where
  pub counts : (c : Cell) → count_of same_cell c (map first_cell blocks) + count_of same_cell c (map left_cell accesses)
      ≡ count_of same_cell c (map last_cell blocks) + count_of same_cell c (map met_cell accesses)

-- the accesses stand in the order of their times, and each old time is before its own
pub record InTime (accesses : List Access) : Type 0 where
  pub rises : Rises (λ a. a.time) accesses
  pub before : AllByRecursion (λ a. a.before < a.time) accesses

-- where a cell stands
abbrev pub cell_place : Cell → ℕ × ℕ
cell_place c = (c.space, c.pointer)

-- the test for one place
abbrev pub is_cell_at : ℕ → ℕ → ℕ → ℕ → Bool
is_cell_at space pointer s p = nat_eq space s && nat_eq pointer p

-- the word and the time at a place, by a list of cells
abbrev pub cell_at : List Cell → ℕ → ℕ → Option (List ℕ × ℕ)
cell_at [] s p = None
cell_at (c ∷ cs) s p = cond (is_cell_at c.space c.pointer s p) (Some (c.word, c.time)) (cell_at cs s p)

-- the memory after an access
abbrev pub after_access : Access → (ℕ → ℕ → Option (List ℕ × ℕ)) → ℕ → ℕ → Option (List ℕ × ℕ)
after_access a memory s p = cond (is_cell_at a.space a.pointer s p) (Some (a.new, a.time)) (memory s p)

-- from a memory the accesses lead to the final one: each meets its old word and the time before it at its place, and leaves its new word and its time
abbrev pub Replays : (ℕ → ℕ → Option (List ℕ × ℕ)) → List Access → (ℕ → ℕ → Option (List ℕ × ℕ)) → Type 0
Replays memory [] final = (s p : ℕ) → memory s p ≡ final s p
Replays memory (a ∷ more) final = (memory a.space a.pointer ≡ Some (a.old, a.before)) × Replays (after_access a memory) more final

-- the memory after several accesses
abbrev pub after_all : List Access → (ℕ → ℕ → Option (List ℕ × ℕ)) → ℕ → ℕ → Option (List ℕ × ℕ)
after_all [] memory = memory
after_all (a ∷ more) memory = after_all more (after_access a memory)
