-- HINT: the word that the host gives is stored at the sum of a register's word and an immediate.
use Rattle.std.specs.Prelude.{ℕ, false, List, [], ◌∷◌, ◌++◌}
use Rattle.vm_field.specs.Limbs.{list_of, limbs_by, limbs_from}
use Rattle.vm_isa.specs.declared.record.StepRecord.{StepRecord}
use Rattle.vm_isa.specs.Opcodes.{HINT}
use Rattle.vm_isa.specs.Spaces.{MEMORY}
use Rattle.air_core.specs.Formal.{formal}
use Rattle.air_core.specs.Ring.{Ring, field, cell}
use Rattle.gadget_limbs.specs.Ranges.{range_lines}
use Rattle.gadget_time.specs.Access.{gap_by, gap_cells, access_at, block_touch, register_touch}
use Rattle.gadget_time.specs.Form.{IsFormal}
use Rattle.adapter_mem.specs.declared.forms.AccessForm.{AccessForm}
use Rattle.adapter_mem.specs.declared.memory.MemoryColumns.{MemoryColumns}
use Rattle.adapter_mem.specs.Forms.{access_form}
use Rattle.adapter_mem.specs.Memory.{MemoryParts, MemoryTable, memory_form, memory_parts, memory_filled, memory_cells, no_gap}

abbrev pub hint_forms : List AccessForm
hint_forms = access_form HINT 0 4 false ∷ []

-- behind the flag: rd, the immediate, the base, the old block, the word that is given, the halves of the address,
-- and the times of both accesses
abbrev pub hint_read : {A E : Type 0} → Ring A E → List A → MemoryColumns A
hint_read o rest = record {
  rd = cell o rest 0;
  rs1 = o.number 0;
  rs2 = o.number 0;
  write = o.number 0;
  imm = limbs_by (cell o rest) 1;
  base = limbs_by (cell o rest) 5;
  middle = limbs_by (cell o rest) 9;
  last = limbs_by (cell o rest) 13;
  low = cell o rest 17;
  high = cell o rest 18;
  sign = o.number 0;
  first = gap_by (cell o rest) 19;
  second = gap_by (cell o rest) 22;
  third = record { before = o.number 0; lo = o.number 0; hi = o.number 0 };
}

abbrev pub hint_parts : {A E : Type 0} → Ring A E → MemoryParts A E
hint_parts o = record {
  read = hint_read o;
  touches = λ valid block flags m. register_touch o valid 0 m.rd m.base m.base m.first ∷ block_touch o valid 1 MEMORY block m.middle m.last m.second ∷ [];
  constraints = λ flags m. [];
  lookups = λ valid flags m. range_lines o valid (o.number 8) (list_of m.last);
}

abbrev pub hint_filled : StepRecord → MemoryColumns ℕ
hint_filled done = record (memory_filled done) { rs1 = 0; rs2 = 0; write = 0; last = limbs_from (access_at done.accesses 1).access.new; third = no_gap }

abbrev pub hint_table : MemoryTable
hint_table = record {
  slots = 2;
  forms = hint_forms;
  width = 25;
  parts = hint_parts field;
  filled = hint_filled;
  cells = λ m. m.rd ∷ (memory_cells m ++ (gap_cells m.first ++ gap_cells m.second));
}

abbrev pub HintIsFormal : Type 0
HintIsFormal = IsFormal (memory_form hint_table) (memory_parts formal hint_forms (hint_parts formal))
