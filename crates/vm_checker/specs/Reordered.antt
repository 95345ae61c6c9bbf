-- Files whose tables have the same rows in another order.
use Rattle.std.specs.Prelude.{◌≡◌, ◌↔◌, ℕ, List, [], ◌∷◌, IsPermutation}
use Rattle.elf_image.specs.Loaded.{Loaded}
use Rattle.vm_trace.specs.File.{Segment, File}
use Rattle.air_core.specs.System.{System}
use Rattle.acceptance.specs.Accepts.{Accepts}

-- table by table the same rows, in any order
abbrev pub HaveSameRows : List (List (List ℕ)) → List (List (List ℕ)) → Type 0
HaveSameRows [] [] = Unit {0}
HaveSameRows (rows ∷ ts) (others ∷ us) = IsPermutation rows others × HaveSameRows ts us
HaveSameRows _ _ = ⊥

-- nothing else differs
pub record IsReordered (s t : Segment) : Type 0 where
  pub rows : HaveSameRows s.tables t.tables
  pub rest : t ≡ record s { tables = t.tables }

abbrev pub AreReordered : List Segment → List Segment → Type 0
AreReordered [] [] = Unit {0}
AreReordered (s ∷ ss) (t ∷ ts) = IsReordered s t × AreReordered ss ts
AreReordered _ _ = ⊥

pub record IsReorderedFile (f g : File) : Type 0 where
  pub segments : AreReordered f.segments g.segments
  pub rest : g ≡ record f { segments = g.segments }

-- A file is accepted exactly where one of the same rows in another order is.
abbrev pub ReorderedFilesAreAccepted : Type 0
ReorderedFilesAreAccepted = (x : System) (image : Loaded) (f g : File) → IsReorderedFile f g → Accepts x image f ↔ Accepts x image g
