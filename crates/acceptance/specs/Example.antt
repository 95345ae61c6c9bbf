-- Files that are accepted: of no steps, where a program ends at its entry, and of one no-operation before the end.
use Rattle.std.specs.Prelude.{◌≡◌, ℕ, ◌+◌, ◌≤◌, true, Some, List, [], ◌∷◌, map, replicate, slice_get}
use Rattle.elf_image.specs.Loaded.{Loaded}
use Rattle.vm_isa.specs.declared.instr.VmInstr.{VmInstr}
use Rattle.vm_transpile.specs.Program.{program_of}
use Rattle.vm_trace.specs.declared.count.CountEntry.{CountEntry}
use Rattle.vm_trace.specs.declared.page.TheConstants.{PUBLIC_LABEL}
use Rattle.vm_trace.specs.Canonical.{IsNumber}
use Rattle.vm_trace.specs.Limits.{limits_of}
use Rattle.air_core.specs.System.{System, Part}
use Rattle.page_tree.specs.Tree.{root}
use Rattle.page_tree.specs.Opening.{siblings_of}
use Rattle.page_tree.specs.Path.{path_of}
use Rattle.page_tree.specs.Start.{start_map}
use Rattle.vm_trace.specs.File.{Segment, File}

-- one segment, from the entry to a pc and a time, with rows of tables and counts of program rows, which touches no page
abbrev pub still_segment : Loaded → ℕ → ℕ → List ℕ → List (List (List ℕ)) → List CountEntry → Segment
still_segment image end time codes tables program = record {
  pc_start = image.entry;
  pc_end = end;
  end_time = time;
  ends = true;
  start_root = root (start_map image);
  end_root = root (start_map image);
  height_codes = codes;
  tables = tables;
  program = program;
  xor = [];
  range = [];
  constants = [];
  pages = [];
  siblings = siblings_of (start_map image) [];
}

abbrev pub still_file : ℕ → Loaded → Segment → ℕ → File
still_file version image segment code = record {
  version = version;
  segments = segment ∷ [];
  code = code;
  public_bytes = replicate 64 0;
  path = path_of (start_map image) PUBLIC_LABEL;
}

-- tables without rows
abbrev pub resting_file : System → ℕ → Loaded → ℕ → File
resting_file x version image code =
    still_file version image (still_segment image image.entry 1 (map (λ (p : Part). 0) x.parts) (map (λ (p : Part). []) x.parts) []) code

-- one row of the table of no-operations, at the entry and the time 1, whose program row stands at this place
abbrev pub stepping_file : ℕ → Loaded → ℕ → ℕ → File
stepping_file version image place code =
    still_file version image (still_segment image (image.entry + 4) 2 (1 ∷ []) (((image.entry ∷ 1 ∷ 1 ∷ []) ∷ []) ∷ []) (record { place = place; count = 1 } ∷ [])) code

-- a version of the form, whose times these are
pub record IsVersion (version time_bits : ℕ) : Type 0 where
  pub first : 1 ≤ version
  pub spelled : IsNumber version
  pub bits : time_bits ≡ (limits_of version).time_bits

-- the program row at this place is a no-operation at the entry
pub record BeginsStill (image : Loaded) (place : ℕ) : Type 0 where
  pub row : VmInstr
  pub stands : slice_get (program_of image) place ≡ Some row
  pub here : row.pc ≡ image.entry
  pub is_nop : row.op ≡ 39
