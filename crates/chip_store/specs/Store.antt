-- SB, SH and SW: the low bytes of a register's word are put into the block at the sum of another register's word and
-- an immediate.
use Rattle.std.specs.Prelude.{ℕ, false, List, [], ◌∷◌, ◌++◌}
use Rattle.vm_field.specs.declared.limbs.Limbs.{Limbs}
use Rattle.vm_field.specs.Limbs.{limbs_by}
use Rattle.vm_isa.specs.declared.record.StepRecord.{StepRecord}
use Rattle.vm_isa.specs.Opcodes.{SB, SH, SW}
use Rattle.vm_isa.specs.Spaces.{MEMORY}
use Rattle.air_core.specs.Formal.{formal}
use Rattle.air_core.specs.Ring.{Ring, field, cell}
use Rattle.gadget_time.specs.Access.{gap_by, gap_cells}
use Rattle.gadget_time.specs.Form.{IsFormal}
use Rattle.adapter_mem.specs.declared.forms.AccessForm.{AccessForm}
use Rattle.adapter_mem.specs.declared.memory.MemoryColumns.{MemoryColumns}
use Rattle.adapter_mem.specs.Forms.{access_form}
use Rattle.adapter_mem.specs.Memory.{MemoryParts, MemoryTable, memory_form, memory_parts, memory_filled, memory_cells, write_touches}
use Rattle.adapter_mem.specs.Select.{stored_word}

-- SB at each place of a block, SH at two, SW
abbrev pub store_forms : List AccessForm
store_forms =
    access_form SB 0 1 false ∷ access_form SB 1 1 false ∷ access_form SB 2 1 false ∷ access_form SB 3 1 false
    ∷ access_form SH 0 2 false ∷ access_form SH 2 2 false ∷ access_form SW 0 4 false ∷ []

-- the block that is left
abbrev pub store_new : {A E : Type 0} → Ring A E → List A → MemoryColumns A → Limbs A
store_new o flags m = stored_word o store_forms flags m.middle m.last

-- behind the flags: rs1, rs2, the immediate, the base, the word, the old block, the halves of the address, and the
-- times of the accesses
abbrev pub store_read : {A E : Type 0} → Ring A E → List A → MemoryColumns A
store_read o rest = record {
  rd = o.number 0;
  rs1 = cell o rest 0;
  rs2 = cell o rest 1;
  write = o.number 0;
  imm = limbs_by (cell o rest) 2;
  base = limbs_by (cell o rest) 6;
  middle = limbs_by (cell o rest) 10;
  last = limbs_by (cell o rest) 14;
  low = cell o rest 18;
  high = cell o rest 19;
  sign = o.number 0;
  first = gap_by (cell o rest) 20;
  second = gap_by (cell o rest) 23;
  third = gap_by (cell o rest) 26;
}

abbrev pub store_parts : {A E : Type 0} → Ring A E → MemoryParts A E
store_parts o = record {
  read = store_read o;
  touches = λ valid block flags m. write_touches o MEMORY valid block m.rs1 m.rs2 m (store_new o flags m);
  constraints = λ flags m. [];
  lookups = λ valid flags m. [];
}

abbrev pub store_filled : StepRecord → MemoryColumns ℕ
store_filled done = record (memory_filled done) { rd = 0; write = 0 }

abbrev pub store_table : MemoryTable
store_table = record {
  slots = 3;
  forms = store_forms;
  width = 29;
  parts = store_parts field;
  filled = store_filled;
  cells = λ m. m.rs1 ∷ m.rs2 ∷ (memory_cells m ++ (gap_cells m.first ++ (gap_cells m.second ++ gap_cells m.third)));
}

abbrev pub StoreIsFormal : Type 0
StoreIsFormal = IsFormal (memory_form store_table) (memory_parts formal store_forms (store_parts formal))
