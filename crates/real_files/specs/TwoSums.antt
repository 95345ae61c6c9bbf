-- A file of two segments with a sum each, over the page of registers: x5 = x0 + 7, and then x6 = x5 + x5.
use Rattle.std.specs.Prelude.{◌≡◌, ℕ, true, false, Some, List, [], ◌∷◌, ◌++◌, replicate, slice_get}
use Rattle.elf_image.specs.Loaded.{Loaded}
use Rattle.vm_isa.specs.declared.instr.VmInstr.{VmInstr}
use Rattle.vm_trace.specs.declared.count.CountEntry.{CountEntry}
use Rattle.vm_trace.specs.declared.page.TheConstants.{REGISTER_LABEL, PUBLIC_LABEL}
use Rattle.vm_trace.specs.declared.page.Touched.{Touched}
use Rattle.vm_trace.specs.File.{Segment, File}
use Rattle.vm_transpile.specs.Program.{program_of}
use Rattle.air_core.specs.Join.{join, single}
use Rattle.gadget_time.specs.Nop.{nop_sheet}
use Rattle.air_core.specs.System.{System}
use Rattle.chip_alu.specs.Alu.{alu_sheet}
use Rattle.page_tree.specs.Tree.{Leaves, root}
use Rattle.page_tree.specs.Opening.{siblings_of}
use Rattle.page_tree.specs.Parts.{labels_of, with_pages}
use Rattle.page_tree.specs.Path.{path_of}
use Rattle.page_tree.specs.Start.{start_map}

-- the table of sums and that of no-operations
abbrev pub two_tables : System
two_tables = join (single (alu_sheet 8)) (single (nop_sheet 8))

-- ---- the program

abbrev pub first_sum : VmInstr
first_sum = record { pc = 4096; op = 1; rd = 5; rs1 = 0; rs2 = 0; write = true; use_imm = true; imm = 7 ∷ 0 ∷ 0 ∷ 0 ∷ []; target = 0 }

abbrev pub second_sum : VmInstr
second_sum = record { pc = 4100; op = 1; rd = 6; rs1 = 5; rs2 = 5; write = true; use_imm = false; imm = 0 ∷ 0 ∷ 0 ∷ 0 ∷ []; target = 0 }

-- the image begins with them, and their program rows stand at these places
pub record BeginsWithSums (image : Loaded) (first second : ℕ) : Type 0 where
  pub entry : image.entry ≡ 4096
  pub first_stands : slice_get (program_of image) first ≡ Some first_sum
  pub second_stands : slice_get (program_of image) second ≡ Some second_sum

-- ---- rows: pc, time, flags; rd, rs1, rs2, use_imm; immediate, both operands, old word, result; and the times of three accesses

abbrev pub first_row : List ℕ
first_row =
    4096 ∷ 1 ∷ 1 ∷ 0 ∷ 0 ∷ 0 ∷ 0 ∷ 5 ∷ 0 ∷ 0 ∷ 1
    ∷ 7 ∷ 0 ∷ 0 ∷ 0 ∷ 0 ∷ 0 ∷ 0 ∷ 0 ∷ 7 ∷ 0 ∷ 0 ∷ 0 ∷ 0 ∷ 0 ∷ 0 ∷ 0 ∷ 7 ∷ 0 ∷ 0 ∷ 0
    ∷ 0 ∷ 0 ∷ 0 ∷ 0 ∷ 0 ∷ 0 ∷ 0 ∷ 2 ∷ 0 ∷ []

abbrev pub second_row : List ℕ
second_row =
    4100 ∷ 1 ∷ 1 ∷ 0 ∷ 0 ∷ 0 ∷ 0 ∷ 6 ∷ 5 ∷ 5 ∷ 0
    ∷ 0 ∷ 0 ∷ 0 ∷ 0 ∷ 7 ∷ 0 ∷ 0 ∷ 0 ∷ 7 ∷ 0 ∷ 0 ∷ 0 ∷ 0 ∷ 0 ∷ 0 ∷ 0 ∷ 14 ∷ 0 ∷ 0 ∷ 0
    ∷ 0 ∷ 0 ∷ 0 ∷ 1 ∷ 0 ∷ 0 ∷ 0 ∷ 2 ∷ 0 ∷ []

-- ---- the page of registers, before and after each segment

abbrev pub nothing_written : List ℕ
nothing_written = replicate 64 0

abbrev pub five_written : List ℕ
five_written = replicate 20 0 ++ (7 ∷ replicate 43 0)

abbrev pub six_written : List ℕ
six_written = replicate 20 0 ++ (7 ∷ 0 ∷ 0 ∷ 0 ∷ 14 ∷ replicate 39 0)

-- x0 was read at time 1, and x5 written at time 3
abbrev pub first_touched : Touched
first_touched = record { label = REGISTER_LABEL; old = nothing_written; new = five_written; times = 1 ∷ 0 ∷ 0 ∷ 0 ∷ 0 ∷ 3 ∷ replicate 10 0 }

-- x5 was last read at time 2, and x6 written at time 3
abbrev pub second_touched : Touched
second_touched = record { label = REGISTER_LABEL; old = five_written; new = six_written; times = replicate 5 0 ++ (2 ∷ 3 ∷ replicate 9 0) }

abbrev pub leaves_between : Loaded → Leaves
leaves_between image = with_pages (start_map image) (first_touched ∷ [])

abbrev pub leaves_behind : Loaded → Leaves
leaves_behind image = with_pages (leaves_between image) (second_touched ∷ [])

-- ---- the file

abbrev pub entry : ℕ → ℕ → CountEntry
entry place count = record { place = place; count = count }

abbrev pub first_segment : Loaded → ℕ → Segment
first_segment image place = record {
  pc_start = 4096;
  pc_end = 4100;
  end_time = 4;
  ends = false;
  start_root = root (start_map image);
  end_root = root (leaves_between image);
  height_codes = 1 ∷ 0 ∷ [];
  tables = (first_row ∷ []) ∷ [] ∷ [];
  program = entry place 1 ∷ [];
  xor = entry 0 3 ∷ entry 1799 1 ∷ [];
  range = entry 255 2 ∷ entry 65535 1 ∷ entry 65537 1 ∷ [];
  constants = [];
  pages = first_touched ∷ [];
  siblings = siblings_of (start_map image) (labels_of (first_touched ∷ []));
}

abbrev pub second_segment : Loaded → ℕ → Segment
second_segment image place = record {
  pc_start = 4100;
  pc_end = 4104;
  end_time = 4;
  ends = true;
  start_root = root (leaves_between image);
  end_root = root (leaves_behind image);
  height_codes = 1 ∷ 0 ∷ [];
  tables = (second_row ∷ []) ∷ [] ∷ [];
  program = entry place 1 ∷ [];
  xor = entry 0 3 ∷ entry 3598 1 ∷ [];
  range = entry 255 3 ∷ entry 65535 2 ∷ entry 65537 1 ∷ [];
  constants = [];
  pages = second_touched ∷ [];
  siblings = siblings_of (leaves_between image) (labels_of (second_touched ∷ []));
}

abbrev pub two_sums_file : Loaded → ℕ → ℕ → ℕ → File
two_sums_file image first second code = record {
  version = 1;
  segments = first_segment image first ∷ second_segment image second ∷ [];
  code = code;
  public_bytes = replicate 64 0;
  path = path_of (leaves_behind image) PUBLIC_LABEL;
}
