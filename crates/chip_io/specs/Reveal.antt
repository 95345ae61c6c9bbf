-- REVEAL: the word of a register is put among the public bytes, at the sum of another register's word and an
-- immediate.
use Rattle.std.specs.Prelude.{ℕ, false, List, [], ◌∷◌, ◌++◌}
use Rattle.vm_field.specs.Limbs.{limbs_by}
use Rattle.vm_isa.specs.declared.record.StepRecord.{StepRecord}
use Rattle.vm_isa.specs.Opcodes.{REVEAL}
use Rattle.vm_isa.specs.Spaces.{PUBLIC}
use Rattle.air_core.specs.Formal.{formal}
use Rattle.air_core.specs.Ring.{Ring, field, cell}
use Rattle.gadget_time.specs.Access.{gap_by, gap_cells}
use Rattle.gadget_time.specs.Form.{IsFormal}
use Rattle.adapter_mem.specs.declared.forms.AccessForm.{AccessForm}
use Rattle.adapter_mem.specs.declared.memory.MemoryColumns.{MemoryColumns}
use Rattle.adapter_mem.specs.Forms.{access_form}
use Rattle.adapter_mem.specs.Memory.{MemoryParts, MemoryTable, memory_form, memory_parts, memory_filled, memory_cells, write_touches}

abbrev pub reveal_forms : List AccessForm
reveal_forms = access_form REVEAL 0 4 false ∷ []

-- behind the flag: rd, rs1, the immediate, the base, the word, the old block, the halves of the address, and the
-- times of the accesses
abbrev pub reveal_read : {A E : Type 0} → Ring A E → List A → MemoryColumns A
reveal_read o rest = record {
  rd = cell o rest 0;
  rs1 = cell o rest 1;
  rs2 = o.number 0;
  write = o.number 0;
  imm = limbs_by (cell o rest) 2;
  base = limbs_by (cell o rest) 6;
  middle = limbs_by (cell o rest) 10;
  last = limbs_by (cell o rest) 14;
  low = cell o rest 18;
  high = cell o rest 19;
  sign = o.number 0;
  first = gap_by (cell o rest) 20;
  second = gap_by (cell o rest) 23;
  third = gap_by (cell o rest) 26;
}

abbrev pub reveal_parts : {A E : Type 0} → Ring A E → MemoryParts A E
reveal_parts o = record {
  read = reveal_read o;
  touches = λ valid block flags m. write_touches o PUBLIC valid block m.rd m.rs1 m m.middle;
  constraints = λ flags m. [];
  lookups = λ valid flags m. [];
}

abbrev pub reveal_filled : StepRecord → MemoryColumns ℕ
reveal_filled done = record (memory_filled done) { rs2 = 0; write = 0 }

abbrev pub reveal_table : MemoryTable
reveal_table = record {
  slots = 3;
  forms = reveal_forms;
  width = 29;
  parts = reveal_parts field;
  filled = reveal_filled;
  cells = λ m. m.rd ∷ m.rs1 ∷ (memory_cells m ++ (gap_cells m.first ++ (gap_cells m.second ++ gap_cells m.third)));
}

abbrev pub RevealIsFormal : Type 0
RevealIsFormal = IsFormal (memory_form reveal_table) (memory_parts formal reveal_forms (reveal_parts formal))
