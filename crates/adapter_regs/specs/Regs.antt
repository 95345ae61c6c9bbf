-- The register form: its columns, constraints, accesses and program row over any ring, and its columns of a step.
use Rattle.std.specs.Prelude.{ℕ, ◌+◌, Bool, cond, List, [], ◌∷◌, ◌++◌}
use Rattle.vm_isa.specs.declared.access.TimedAccess.{TimedAccess}
use Rattle.vm_isa.specs.declared.record.StepRecord.{StepRecord}
use Rattle.vm_isa.specs.Instr.{bit_of}
use Rattle.vm_field.specs.declared.limbs.Limbs.{Limbs}
use Rattle.vm_field.specs.Limbs.{limbs_by, limbs_from, list_of}
use Rattle.air_core.specs.First.{gated_difference}
use Rattle.air_core.specs.Ring.{Ring, cell}
use Rattle.gadget_time.specs.declared.touch.Touch.{Touch}
use Rattle.gadget_time.specs.declared.touch.Gap.{Gap}
pub use Rattle.gadget_time.specs.Access.{gap_by, register_touch, no_access, access_at, gap_of, gap_cells}
use Rattle.adapter_regs.specs.declared.regs.Regs.{Regs}

abbrev pub limbs_of_zero : {A E : Type 0} → Ring A E → Limbs A
limbs_of_zero o = record { x0 = o.number 0; x1 = o.number 0; x2 = o.number 0; x3 = o.number 0 }

-- where the words begin among the columns behind the flags: behind three registers and, in the form with
-- immediates, use_imm and the immediate
abbrev pub words_from : Bool → ℕ
words_from immediates = cond immediates 8 3

-- the columns of a row, of which so many are the table's own; without immediates these are 0
unfoldable pub regs_of : {A E : Type 0} → Ring A E → Bool → ℕ → A → A → List A → Regs A
regs_of o immediates own pc time rest =
    let column = cell o rest in
    let words = words_from immediates in
    record {
      pc = pc;
      time = time;
      rd = column 0;
      rs1 = column 1;
      rs2 = column 2;
      use_imm = cond immediates (column 3) (o.number 0);
      imm = cond immediates (limbs_by column 4) (limbs_of_zero o);
      left = limbs_by column words;
      right = limbs_by column (words + 4);
      old = limbs_by column (words + 8);
      first = gap_by column (words + 12 + own);
      second = gap_by column (words + 12 + own + 3);
      third = gap_by column (words + 12 + own + 6);
    }

unfoldable pub first_touch : {A E : Type 0} → Ring A E → Regs A → A → Touch A
first_touch o r valid = register_touch o valid 0 r.rs1 r.left r.left r.first

-- with an immediate there is no second access
unfoldable pub second_touch : {A E : Type 0} → Ring A E → Regs A → A → Touch A
second_touch o r valid = register_touch o (o.times valid (o.minus (o.number 1) r.use_imm)) 1 r.rs2 r.right r.right r.second

unfoldable pub third_touch : {A E : Type 0} → Ring A E → Regs A → A → Limbs A → Touch A
third_touch o r valid new = register_touch o valid 2 r.rd r.old new r.third

abbrev pub regs_touches : {A E : Type 0} → Ring A E → Regs A → A → Limbs A → List (Touch A)
regs_touches o r valid new = first_touch o r valid ∷ second_touch o r valid ∷ third_touch o r valid new ∷ []

unfoldable pub immediate_constraints : {A E : Type 0} → Ring A E → Regs A → List A
immediate_constraints o r =
    gated_difference o r.use_imm r.right.x0 r.imm.x0
    ∷ gated_difference o r.use_imm r.right.x1 r.imm.x1
    ∷ gated_difference o r.use_imm r.right.x2 r.imm.x2
    ∷ gated_difference o r.use_imm r.right.x3 r.imm.x3
    ∷ []

-- the program row behind pc and opcode: write is 1, and there is no target
unfoldable pub regs_numbers : {A E : Type 0} → Ring A E → Regs A → List A
regs_numbers o r = r.rd ∷ r.rs1 ∷ r.rs2 ∷ o.number 1 ∷ r.use_imm ∷ r.imm.x0 ∷ r.imm.x1 ∷ r.imm.x2 ∷ r.imm.x3 ∷ o.number 0 ∷ []

-- The columns of a step.

unfoldable pub last_access : StepRecord → TimedAccess
last_access done = cond done.instr.use_imm (access_at done.accesses 1) (access_at done.accesses 2)

unfoldable pub right_filled : StepRecord → Limbs ℕ
right_filled done = cond done.instr.use_imm (limbs_from done.instr.imm) (limbs_from (access_at done.accesses 1).access.old)

abbrev pub no_gap : Gap ℕ
no_gap = record { before = 0; lo = 0; hi = 0 }

unfoldable pub second_filled : StepRecord → Gap ℕ
second_filled done = cond done.instr.use_imm no_gap (gap_of (access_at done.accesses 1))

unfoldable pub new_filled : StepRecord → Limbs ℕ
new_filled done = limbs_from (last_access done).access.new

unfoldable pub regs_filled : StepRecord → Regs ℕ
regs_filled done = record {
  pc = done.instr.pc;
  time = done.time;
  rd = done.instr.rd;
  rs1 = done.instr.rs1;
  rs2 = done.instr.rs2;
  use_imm = bit_of done.instr.use_imm;
  imm = limbs_from done.instr.imm;
  left = limbs_from (access_at done.accesses 0).access.old;
  right = right_filled done;
  old = limbs_from (last_access done).access.old;
  first = gap_of (access_at done.accesses 0);
  second = second_filled done;
  third = gap_of (last_access done);
}

-- the register columns of a row in their order, and those of the times
unfoldable pub regs_cells : Bool → Regs ℕ → List ℕ
regs_cells immediates r = r.rd ∷ r.rs1 ∷ r.rs2 ∷ (cond immediates (r.use_imm ∷ list_of r.imm) [] ++ (list_of r.left ++ (list_of r.right ++ list_of r.old)))

unfoldable pub time_cells : Regs ℕ → List ℕ
time_cells r = gap_cells r.first ++ (gap_cells r.second ++ gap_cells r.third)
