-- What is kept of the segments of a file, one after another.
use Rattle.std.specs.Prelude.{◌≡◌, ℕ, ◌+◌, false, List, [], ◌++◌, length}
use Rattle.std.specs.List.{AllByRecursion}
use Rattle.elf_image.specs.Loaded.{Loaded}
use Rattle.vm_trace.specs.File.{Segment}
use Rattle.air_core.specs.Sheet.{IsRow}
use Rattle.air_core.specs.System.{System, EachRow}
use Rattle.acceptance.specs.Spelled.{HintEvent, SegmentSpells, Spell, hints_before}
use Rattle.table_format.specs.Order.{first_stand, stand_after}
use Rattle.vm_checker.specs.declared.Before.{Before}
use Rattle.vm_checker.specs.declared.chain.Chain.{Chain}
use Rattle.vm_checker.specs.FirstReason.{says_end, start_behind}

-- the rows of each table are rows of field elements
abbrev pub HasRows : System → Segment → Type 0
HasRows x s = EachRow IsRow x.parts s.tables

-- where the segments lead, whether the last says that it ends, their number, and the bytes of the hints that they spell
pub record KeepsSegments (x : System) (image : Loaded) (ss : List Segment) (k : Chain) : Type 0 where
  pub next : k.next ≡ start_behind image (stand_after first_stand ss).before
  pub ended : k.ended ≡ says_end (stand_after first_stand ss).before
  pub number : k.segments ≡ length ss
  pub hints : AllByRecursion (HasRows x) ss → (events : List HintEvent) × Spell x ss events × (k.hints.items ≡ hints_before events [])

-- no segment was read
pub record IsEmptyChain (image : Loaded) (k : Chain) : Type 0 where
  pub next : k.next ≡ start_behind image []
  pub ended : k.ended ≡ false
  pub number : k.segments ≡ 0
  pub hints : k.hints.items ≡ []

-- one more was read
pub record GoesOn (x : System) (s : Segment) (old new : Chain) : Type 0 where
  pub next : new.next ≡ record { root = s.end_root; pc = s.pc_end }
  pub ended : new.ended ≡ s.ends
  pub number : new.segments ≡ old.segments + 1
  pub hints : HasRows x s → (events : List HintEvent) × SegmentSpells x s events × (new.hints.items ≡ old.hints.items ++ hints_before events [])
