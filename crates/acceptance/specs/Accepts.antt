-- When a file is accepted over an image, and which nodes of trees it holds.
use Rattle.std.specs.Prelude.{◌≡◌, ℕ, ◌+◌, ◌≤◌, true, false, List, [], ◌∷◌, length, map}
use Rattle.std.specs.List.{AllByRecursion}
use Rattle.elf_image.specs.Loaded.{Loaded}
use Rattle.vm_isa.specs.Blocks.{Terminates}
use Rattle.vm_trace.specs.declared.page.TheConstants.{PUBLIC_LABEL}
use Rattle.vm_trace.specs.Canonical.{Shape, IsCanonical}
use Rattle.vm_trace.specs.File.{Segment, File}
use Rattle.vm_trace.specs.Limits.{limits_of}
use Rattle.vm_trace.specs.Pages.{IsLeaf}
use Rattle.vm_transpile.specs.Program.{program_of}
use Rattle.air_core.specs.System.{System, Part}
use Rattle.page_tree.specs.Tree.{root, Collision}
use Rattle.page_tree.specs.Opening.{AreDigests}
use Rattle.page_tree.specs.Parts.{opening_of_pages}
use Rattle.page_tree.specs.Path.{climb}
use Rattle.page_tree.specs.Chain.{Opening, IsHeldWithPath}
use Rattle.page_tree.specs.Start.{start_map}
use Rattle.acceptance.specs.Events.{valid_rows}
use Rattle.acceptance.specs.Holds.{SegmentHolds}

-- the first segment begins at this pc and this root, each later one where the one before it ended
abbrev pub AreLinked : ℕ → List ℕ → List Segment → Type 0
AreLinked pc start [] = Unit {0}
AreLinked pc start (s ∷ ss) = (s.pc_start ≡ pc) × (s.start_root ≡ start) × AreLinked s.pc_end s.end_root ss

-- where the last one ends, and where there is none, the start
abbrev pub last_pc : ℕ → List Segment → ℕ
last_pc pc [] = pc
last_pc pc (s ∷ ss) = last_pc s.pc_end ss

abbrev pub last_root : List ℕ → List Segment → List ℕ
last_root start [] = start
last_root start (s ∷ ss) = last_root s.end_root ss

-- the last one says that it ends, and no other does
abbrev pub OnlyLastEnds : List Segment → Type 0
OnlyLastEnds [] = Unit {0}
OnlyLastEnds (s ∷ []) = s.ends ≡ true
OnlyLastEnds (s ∷ t ∷ ss) = (s.ends ≡ false) × OnlyLastEnds (t ∷ ss)

-- a path of 25 digests leads from these 64 bytes, which are public, to a root
pub record IsPublic (public_bytes : List ℕ) (path : List (List ℕ)) (end : List ℕ) : Type 0 where
  pub whole : IsLeaf public_bytes
  pub levels : length path ≡ 25
  pub digests : AreDigests path
  pub leads : climb PUBLIC_LABEL public_bytes path ≡ end

-- what a file claims holds: all that its theorem asks
pub record ClaimHolds (x : System) (image : Loaded) (file : File) : Type 0 where
  pub some : 1 ≤ length file.segments
  pub few : length file.segments ≤ 4096
  pub hold : AllByRecursion (SegmentHolds x (program_of image)) file.segments
  pub linked : AreLinked image.entry (root (start_map image)) file.segments
  pub ends : OnlyLastEnds file.segments
  pub terminates : Terminates (program_of image) (last_pc image.entry file.segments) file.code
  pub public : IsPublic file.public_bytes file.path (last_root (root (start_map image)) file.segments)

-- what a file for this extension and this image is read against
abbrev pub shape_of : System → Loaded → Shape
shape_of x image = record { widths = map (λ (p : Part). p.sheet.width) x.parts; program_len = length (program_of image) }

-- A file is accepted: it is of the form of its version, for an extension that keeps the times of that version, and its
-- claim holds.
pub record Accepts (x : System) (image : Loaded) (file : File) : Type 0 where
  pub bits : x.time_bits ≡ (limits_of file.version).time_bits
  pub canonical : IsCanonical (shape_of x image) file
  pub claim : ClaimHolds x image file

-- the valid rows of all segments
abbrev pub steps_in : System → List Segment → ℕ
steps_in x [] = 0
steps_in x (s ∷ ss) = valid_rows x s + steps_in x ss

-- ---- held nodes

-- the openings of a file, segment by segment
abbrev pub opening_of : Segment → Opening
opening_of s = opening_of_pages s.pages s.siblings

abbrev pub openings_of : File → List Opening
openings_of file = map opening_of file.segments

-- a node is held: it is one of the image's tree, or was hashed in an opening or on the public path
abbrev pub IsHeld : Loaded → File → List ℕ → Type 0
IsHeld image file node = IsHeldWithPath (start_map image) (openings_of file) PUBLIC_LABEL file.public_bytes file.path node

-- two different nodes that are held have one digest
abbrev pub Collides : Loaded → File → Type 0
Collides image file = Collision (IsHeld image file) (IsHeld image file)
